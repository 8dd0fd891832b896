-- The writes that stand in no table: those that are sealed for the next one, and the later ones.
--     HaveWrites      which writes both stand for: which lists is not kept, only what they say
--     IsFullFor       there is no room for a write, nor can it be made
use Rattle.std.specs.Prelude.{◌≡◌, ℕ, List, [], Some}
use Rattle.lsa_move.specs.Room.{Tight}
use Rattle.lsa_pool.specs.Room.{spare_of}
use Rattle.rc_schema.specs.SchemaValue.{SchemaValue}
use Rattle.rc_mutation.specs.declared.mutations.Write.{Write}
use Rattle.rc_memory.specs.Memory.{Memory}
use Rattle.rc_memtable.specs.Writes.{HasWrites, IsRoomFor, chain_of}
use Rattle.rc_unstored.specs.declared.unstored.Unstored.{Unstored}

-- the same, in other chains
abbrev pub in_chains : {S : ℕ} → Memory → Unstored S → Unstored S
in_chains m u = record { chains = m; sealed = u.sealed; active = u.active }

-- no chain is of one of these keys and of one of those
abbrev pub NoneShared : List (List ℕ × ℕ) → List (List ℕ × ℕ) → Type 0
NoneShared these those = (key other : List ℕ) (id : ℕ) → chain_of these key ≡ Some id → chain_of those other ≡ Some id → ⊥

-- under a schema they stand for these writes that are sealed and these later ones, and no chain is of both
pub record HaveWrites {S : ℕ} (schema : SchemaValue) (u : Unstored S) (writes later : List Write) : Type 0 where
  pub sealed : HasWrites schema u.sealed u.chains writes
  pub active : HasWrites schema u.active u.chains later
  pub apart : NoneShared u.sealed u.active

-- there is no room for a write, nor can it be made: fewer bytes are spare than it needs, no closed segment is sparse, and nothing is left that may be evicted
pub record IsFullFor (S : ℕ) (schema : SchemaValue) (w : Write) (u : Unstored S) : Type 0 where
  pub few : IsRoomFor schema u.active u.chains w (spare_of S u.chains.region.usages) → ⊥
  pub tight : Tight S u.chains.region.usages
  pub none : u.chains.recency ≡ []
