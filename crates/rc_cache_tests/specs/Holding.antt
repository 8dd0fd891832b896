-- What a test knows between its calls.
use Rattle.std.specs.Prelude.{◌≡◌, ℕ, List, Some}
use Rattle.rc_schema.specs.SchemaValue.{SchemaValue}
use Rattle.rc_mutation.specs.declared.mutations.Write.{Write}
use Rattle.rc_memory.specs.Memory.{KeptChain, Memory, chain_at}
use Rattle.rc_unstored.specs.declared.unstored.Unstored.{Unstored}
use Rattle.rc_unstored.specs.Memtables.{HaveWrites}

-- there are writes for which both memtables stand
abbrev pub HaveSome : {S : ℕ} → SchemaValue → Unstored S → Type 0
HaveSome schema u = (writes : List Write) × (later : List Write) × HaveWrites schema u writes later

-- each chain that was there is as it was; others may have come to be
abbrev pub ChainsStay : Memory → Memory → Type 0
ChainsStay old new = (id : ℕ) (k : KeptChain) → chain_at old id ≡ Some k → chain_at new id ≡ Some k
