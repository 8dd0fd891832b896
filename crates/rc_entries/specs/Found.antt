-- Entries by their keys.
--     entry_number   the number of the chain of a key
--     DoKeysAscend   the keys ascend
--     IsForgotten    the entries of these numbers are no more
use Rattle.std.specs.Prelude.{◌≡◌, ℕ, List, Option, Some, map}
use Rattle.std.specs.List.Sorted.{IsStrictlySortedBy}
use Rattle.std.specs.Map.{lookup}
use Rattle.std.specs.BTreeMap.{is_at}
use Rattle.rc_position.specs.Position.{bytes_cmp}
use Rattle.rc_registry.specs.Registry.{IsNumberIn}

-- the number of the chain of a partition's key; None where the key is no entry
abbrev pub entry_number : List (List ℕ × ℕ) → List ℕ → Option ℕ
entry_number entries key = lookup (is_at (bytes_cmp key)) entries

-- the keys ascend
abbrev pub DoKeysAscend : List (List ℕ × ℕ) → Type 0
DoKeysAscend entries = IsStrictlySortedBy bytes_cmp (map (λ e. e.0) entries)

-- the entries whose numbers are among these are no more; all others have the numbers that they had
pub record IsForgotten (numbers : List ℕ) (old new : List (List ℕ × ℕ)) : Type 0 where
  pub stays : (key : List ℕ) (id : ℕ) → entry_number old key ≡ Some id → (IsNumberIn numbers id → ⊥) → entry_number new key ≡ Some id
  pub left : (key : List ℕ) (id : ℕ) → entry_number new key ≡ Some id → (entry_number old key ≡ Some id) × (IsNumberIn numbers id → ⊥)
