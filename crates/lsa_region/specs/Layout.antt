-- Where objects lie, how many bytes they take, and which numbers of a list are vacant.
use Rattle.std.specs.Prelude.{◌≡◌, ◌≢◌, ℕ, ◌+◌, ◌<◌, ◌≤◌, List, length, count_by, slice_index, slice_index_or, Option, Some, None, is_some}
use Rattle.lsa_kinds.specs.declared.kind.Kind.{Kind}
use Rattle.lsa_store.specs.Objects.{rounded_size}

-- how many bytes the object with this body takes
abbrev pub object_extent : Option (Kind × List ℕ) → ℕ
object_extent None = 0
object_extent (Some b) = rounded_size b.0 (length b.1)

-- where an object lies: its segment, and its offset there
pub record Location : Type 0 where
  pub segment : ℕ
  pub offset : ℕ

-- the first vacant_len numbers of the list are those at which nothing is, each once
pub record IsVacancy {X : Type 0} (xs : List (Option X)) (vacant : List ℕ) (vacant_len : ℕ) : Type 0 where
  pub long : length xs ≤ length vacant
  pub counted : vacant_len + count_by (λ p. is_some p) xs ≡ length xs
  pub within : (k : ℕ) → k < vacant_len → slice_index vacant k < length xs
  pub empty : (k : ℕ) → k < vacant_len → slice_index_or xs (slice_index vacant k) None ≡ None
  pub once : (j k : ℕ) → j < k → k < vacant_len → slice_index vacant j ≢ slice_index vacant k
