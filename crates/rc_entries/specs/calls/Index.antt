-- The index in both directions.
--     entry_key   the key of a number
--     IsIndex     each key has a number exactly where the number has the key
use Rattle.std.specs.Prelude.{◌≡◌, ℕ, List, Option, Some, nat_eq}
use Rattle.std.specs.Map.{lookup}
use Rattle.rc_entries.specs.Found.{entry_number}

-- the key that has a number; None where none has it
abbrev pub entry_key : List (ℕ × List ℕ) → ℕ → Option (List ℕ)
entry_key keys id = lookup (nat_eq id) keys

-- a key has a number exactly where that number has the key
pub record IsIndex (numbers : List (List ℕ × ℕ)) (keys : List (ℕ × List ℕ)) : Type 0 where
  pub there : (key : List ℕ) (id : ℕ) → entry_number numbers key ≡ Some id → entry_key keys id ≡ Some key
  pub back : (key : List ℕ) (id : ℕ) → entry_key keys id ≡ Some key → entry_number numbers key ≡ Some id
