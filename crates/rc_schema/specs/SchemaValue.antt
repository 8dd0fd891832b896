-- A schema as three lists, and the limits that every schema keeps.
use Rattle.std.specs.Prelude.{ℕ, Bool, true, false, not, ◌&&◌, ◌||◌, ◌==◌, nat_le, List, [], ◌∷◌, ◌++◌, length}
use Rattle.std.specs.Char.{is_ascii_digit, is_ascii_lowercase}
use Rattle.std.specs.List.{list_all, list_any}
use Rattle.rc_schema.specs.declared.kinds.CkKind.{CkKind}
use Rattle.rc_spelling.specs.Words.{is_word}

-- the kinds of the clustering components, and the names of the static and of the regular columns
pub record SchemaValue : Type 0 where
  pub ck : List CkKind
  pub statics : List (List ℕ)
  pub cols : List (List ℕ)

-- the byte may stand in a name: a lower-case letter, a digit or `_`
abbrev pub is_name_byte : ℕ → Bool
is_name_byte byte = is_ascii_lowercase byte || (is_ascii_digit byte || byte == 95)

-- the name of a column: a lower-case letter, then at most 31 bytes of names
abbrev pub is_name : List ℕ → Bool
is_name [] = false
is_name (first ∷ rest) = is_ascii_lowercase first && (nat_le (length rest) 31 && list_all is_name_byte rest)

-- whether no two are the same
abbrev pub are_distinct_by : {X : Type 0} → (X → X → Bool) → List X → Bool
are_distinct_by same [] = true
are_distinct_by same (x ∷ xs) = not (list_any (same x) xs) && are_distinct_by same xs

-- 1 to 4 components, at most 8 static and 32 regular columns
abbrev pub are_few : ℕ → ℕ → ℕ → Bool
are_few ck statics cols = (nat_le 1 ck && nat_le ck 4) && (nat_le statics 8 && nat_le cols 32)

-- the names are names, all distinct
abbrev pub are_names : List (List ℕ) → Bool
are_names names = list_all is_name names && are_distinct_by is_word names

-- the limits of a schema: its components and columns are few, and all names are names, no two the same
abbrev pub is_schema : SchemaValue → Bool
is_schema s = are_few (length s.ck) (length s.statics) (length s.cols) && are_names (s.statics ++ s.cols)
