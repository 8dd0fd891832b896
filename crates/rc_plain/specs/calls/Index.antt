-- Which of the writes of a memtable are a partition's.
use Rattle.std.specs.Prelude.{◌≡◌, ◌<◌, ℕ, List, [], length, Option, unwrap_or, is_some}
use Rattle.std.specs.Option.{option_map}
use Rattle.std.specs.List.{All, filter_map, list_any, slice_get}
use Rattle.std.specs.Ordering.{eq_by_cmp}
use Rattle.std.specs.Global.{Vec}
use Rattle.std.specs.BTreeMap.{BTreeMap, get}
use Rattle.rc_position.specs.Position.{bytes_cmp}
use Rattle.rc_mutation.specs.declared.mutations.Mutation.{Mutation}
use Rattle.rc_mutation.specs.declared.mutations.Write.{Write}
use Rattle.rc_mutation.specs.declared.mutations.Partition.{Partition}
use Rattle.rc_mutation.specs.Source.{IsJoinOf, IsMutation, changes_to}

-- what the writes with these numbers say, in the numbers' order
abbrev pub changes_numbered : List Write → List ℕ → List Mutation
changes_numbered writes numbers = filter_map (λ n. option_map (λ w. w.change) (slice_get writes n)) numbers

-- the numbers that stand at a key, if any do
abbrev pub numbers_at_key : BTreeMap (List ℕ) (Vec ℕ) → List ℕ → Option (List ℕ)
numbers_at_key index key = option_map (λ v. v.items) (get bytes_cmp index key)

-- the numbers that stand at a key, none where none do
abbrev pub numbers_of : BTreeMap (List ℕ) (Vec ℕ) → List ℕ → List ℕ
numbers_of index key = unwrap_or (numbers_at_key index key) []

-- at each key of a write stand the numbers of the partition's writes, in order, and at no other key
pub record IsIndexOf (writes : List Write) (index : BTreeMap (List ℕ) (Vec ℕ)) : Type 0 where
  pub numbered : (key : List ℕ) → All (λ n. n < length writes) (numbers_of index key)
  pub changes : (key : List ℕ) → changes_numbered writes (numbers_of index key) ≡ changes_to key writes
  pub listed : (key : List ℕ) → is_some (numbers_at_key index key) ≡ list_any (λ w. eq_by_cmp bytes_cmp w.key key) writes

-- a partition says what its writes join to
abbrev pub IsPartitionOf : Partition → List Write → Type 0
IsPartitionOf part writes = IsMutation part.change × IsJoinOf part.change (changes_to part.key writes)
