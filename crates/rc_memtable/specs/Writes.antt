-- The writes that a memtable stands for.
--     chain_of       the number of the chain of a key
--     HasWrites      a memtable, with the chains, stands for a list of writes: which list is not kept, only what it says
--     IsRoomFor      so many bytes are enough for a write
use Rattle.std.specs.Prelude.{◌≡◌, ◌≤◌, ◌+◌, ◌-◌, ◌*◌, ◌/◌, ℕ, Bool, List, Option, Some, None, IsSomeAnd, cond, is_some, length, map, ⊤}
use Rattle.std.specs.List.{list_any}
use Rattle.std.specs.List.Sorted.{IsStrictlySortedBy}
use Rattle.std.specs.Map.{lookup}
use Rattle.std.specs.BTreeMap.{is_at}
use Rattle.std.specs.Ordering.{eq_by_cmp}
use Rattle.rc_position.specs.Position.{bytes_cmp}
use Rattle.rc_schema.specs.SchemaValue.{SchemaValue}
use Rattle.rc_schema.specs.Largest.{largest_entry, largest_static}
use Rattle.rc_mutation.specs.declared.mutations.Mutation.{Mutation}
use Rattle.rc_mutation.specs.declared.mutations.Write.{Write}
use Rattle.rc_mutation.specs.Fragments.{has_any, is_written}
use Rattle.rc_mutation.specs.Source.{changes_to}
use Rattle.rc_core.specs.Chains.{IsPinned}
use Rattle.rc_memory.specs.Memory.{KeptChain, Memory, chain_at}
use Rattle.rc_memtable.specs.Changes.{KeepsChanges}

-- the number of the chain of a partition's key; None where it has none
abbrev pub chain_of : List (List ℕ × ℕ) → List ℕ → Option ℕ
chain_of chains key = lookup (is_at (bytes_cmp key)) chains

-- the keys ascend
abbrev pub DoAscend : List (List ℕ × ℕ) → Type 0
DoAscend keys = IsStrictlySortedBy bytes_cmp (map (λ e. e.0) keys)

-- whether a write is to the partition of a key
abbrev pub names : List ℕ → List Write → Bool
names key writes = list_any (λ w. eq_by_cmp bytes_cmp w.key key) writes

-- each key that the writes name has a chain, and no other key has one; each chain is its key's alone, and stands for what is written of its partition
pub record HasWrites (schema : SchemaValue) (chains : List (List ℕ × ℕ)) (m : Memory) (writes : List Write) : Type 0 where
  pub keys : (key : List ℕ) → is_some (chain_of chains key) ≡ names key writes
  pub kept : (key : List ℕ) (id : ℕ) → chain_of chains key ≡ Some id → (k : KeptChain) × (chain_at m id ≡ Some k) × KeepsChanges schema k.chain (changes_to key writes)
  pub apart : (key other : List ℕ) (id : ℕ) → chain_of chains key ≡ Some id → chain_of chains other ≡ Some id → key ≡ other

-- ---- how many bytes a write takes

-- what is made in the newest version: an entry, a dummy at each end of a range, or a static row
abbrev pub joined_need : SchemaValue → Mutation → ℕ
joined_need schema m = cond (has_any m.rows) (largest_entry schema) (cond (has_any m.ranges) (2 * largest_entry schema) (cond (is_written m.statics) (largest_static schema) 0))

-- a snapshot pins the newest version of a chain
abbrev pub IsNewestPinned : Memory → ℕ → Type 0
IsNewestPinned m id = IsSomeAnd (chain_at m id) (λ k. IsPinned k.chain.pins (length k.chain.versions - 1))

-- a version is made first: where there is no chain, or where a snapshot pins the newest version of it
abbrev pub TakesVersion : Memory → Option ℕ → Type 0
TakesVersion m None = ⊤
TakesVersion m (Some id) = IsNewestPinned m id

-- so many bytes are enough for a write: for what is made in the newest version, and 152 for a version that is made first
pub record IsRoomFor (schema : SchemaValue) (chains : List (List ℕ × ℕ)) (m : Memory) (w : Write) (bytes : ℕ) : Type 0 where
  pub joined : joined_need schema w.change ≤ bytes
  pub version : TakesVersion m (chain_of chains w.key) → 152 + joined_need schema w.change ≤ bytes

-- no object of the schema is larger than an eighth of a segment
pub record AreSmall (S : ℕ) (schema : SchemaValue) : Type 0 where
  pub entry : largest_entry schema ≤ S / 8
  pub statics : largest_static schema ≤ S / 8
