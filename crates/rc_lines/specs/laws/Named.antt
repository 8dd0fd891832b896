-- A name that is a column's has a cell there.
use Rattle.std.proofs.Common.{◌≡◌, ◌<◌, ℕ, ℤ, suc, ◌+◌, Bool, true, false, cond, not, ◌||◌, nat_lt, List, [], ◌∷◌, ◌++◌, length, refl, sym, subst, arith}
use Rattle.std.specs.Prelude.{if◌then◌else◌}
use Rattle.std.specs.declared.option.Option.{Option}
use Rattle.std.specs.declared.option.Option.TheVariants.{Some, None}
use Rattle.std.specs.List.{list_any, position, prefix_len}
use Rattle.std.specs.Option.{option_map, option_to_list, is_some}
use Rattle.std.specs.Cmp.Lexicographic.{same_text}
use Rattle.std.proofs.lemmas.Bool.Decides.{nat_tests}
use Rattle.rc_cell.specs.declared.writes.Cell.{Cell}
use Rattle.rc_cell.specs.declared.writes.Tomb.{Tomb}
use Rattle.rc_mutation.specs.Fragments.{has_any}
use Rattle.rc_schema.specs.Checks.{column_of}
use Rattle.rc_spelling.specs.Words.{is_word}
use Rattle.rc_lines.specs.calls.ShapeMeaning.{are_columns, cell_named, columns_from, by_column}
use Rattle.rc_lines.specs.laws.Halves.{both}

short_step : (b : Bool) (n m : ℕ) (rest : Bool) → cond (not b) (1 + n) 0 < suc m → (n < m → rest ≡ true) → b || rest ≡ true
short_step true n m rest h f = refl
short_step false n m rest h f = f (omega arith)

some_short : (p : List ℕ → Bool) (xs : List (List ℕ)) → prefix_len (λ x. not (p x)) xs < length xs → list_any p xs ≡ true
some_short p [] h = absurd (omega arith)
some_short p (x ∷ xs) h = short_step (p x) (prefix_len (λ y. not (p y)) xs) (length xs) (list_any p xs) h (some_short p xs)

tested : (b : Bool) (n : ℕ) → is_some (if b then Some n else None) ≡ true → b ≡ true
tested true n h = refl
tested false n h = cc

below : (n m : ℕ) → nat_lt n m ≡ true → n < m
below n m h = grind (arith, nat_tests)

found : (p : List ℕ → Bool) (xs : List (List ℕ)) → is_some (position p xs) ≡ true → list_any p xs ≡ true
found p xs h =
    let n = prefix_len (λ x. not (p x)) xs in
    some_short p xs (below n (length xs) (tested (nat_lt n (length xs)) n h))

flipped : (name key : List ℕ) → is_word name key ≡ true → is_word key name ≡ true
flipped name key h =
    let e : name ≡ key = same_text name key (sym h) in
    subst (λ (k : List ℕ). is_word k name ≡ true) e (subst (λ (k : List ℕ). is_word name k ≡ true) (sym e) h)

first_column : (column : ℕ) (o : Option Cell) (rest : List (ℕ × Cell)) → is_some o ≡ true → has_any (option_to_list (option_map (λ cell. (column, cell)) o) ++ rest) ≡ true
first_column column None rest h = cc
first_column column (Some cell) rest h = refl

later_column : (column : ℕ) (o : Option Cell) (rest : List (ℕ × Cell)) → has_any rest ≡ true → has_any (option_to_list (option_map (λ cell. (column, cell)) o) ++ rest) ≡ true
later_column column None rest h = h
later_column column (Some cell) rest h = refl

named_first : (b : Bool) (cell : Cell) (o : Option Cell) → b ≡ true → is_some (if b then Some cell else o) ≡ true
named_first true cell o h = refl
named_first false cell o h = cc

some_column : (column : ℕ) (names : List (List ℕ)) (e : List ℕ × Cell) (cells : List (List ℕ × Cell)) → list_any (λ other. is_word other e.0) names ≡ true
    → has_any (columns_from column names (e ∷ cells)) ≡ true
some_column column [] e cells h = cc
some_column column (name ∷ names) e cells h =
    elim (is_word name e.0) as (λ b. is_word name e.0 ≡ b → b || list_any (λ other. is_word other e.0) names ≡ true → has_any (columns_from column (name ∷ names) (e ∷ cells)) ≡ true) [
      | true ↦ λ t _. first_column column (cell_named name (e ∷ cells)) (columns_from (column + 1) names (e ∷ cells)) (named_first (is_word e.0 name) e.1 (cell_named name cells) (flipped name e.0 t))
      | false ↦ λ _ rest. later_column column (cell_named name (e ∷ cells)) (columns_from (column + 1) names (e ∷ cells)) (some_column (column + 1) names e cells rest)
    ] refl h

-- where each name is a column's, some cell is left
pub columns_stay : (names : List (List ℕ)) (cells : List (List ℕ × Cell)) → are_columns names cells ≡ true → has_any cells ≡ true → has_any (by_column names cells) ≡ true
unfolding by_column
columns_stay names [] h some = cc
columns_stay names (e ∷ cells) h some =
    some_column 0 names e cells (found (λ other. is_word other e.0) names (both (is_some (column_of e.0 names)) (are_columns names cells) h).0)

-- and so something is written of the row
pub row_stays : (marker : Option ℤ) (tomb : Option Tomb) (one other : Bool) → (is_some marker || (is_some tomb || one)) ≡ true → (one ≡ true → other ≡ true)
    → (is_some marker || (is_some tomb || other)) ≡ true
row_stays (Some ts) tomb one other h f = refl
row_stays None (Some t) one other h f = refl
row_stays None None one other h f = f h
