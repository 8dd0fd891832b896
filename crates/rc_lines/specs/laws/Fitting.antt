-- What is read under a schema fits it.
use Rattle.std.proofs.Common.{◌≡◌, ◌≤◌, ◌<◌, ℕ, ℤ, suc, ◌+◌, Bool, true, false, nat_lt, List, [], ◌∷◌, ◌++◌, length, refl, ap, arith, subst, IsTrue}
use Rattle.std.specs.declared.option.Option.{Option}
use Rattle.std.specs.declared.option.Option.TheVariants.{Some, None}
use Rattle.std.specs.List.{list_all}
use Rattle.std.specs.Option.{option_map, option_to_list}
use Rattle.std.specs.Ordering.{nat_cmp, is_lt}
use Rattle.std.specs.FinMap.{is_sorted}
use Rattle.std.specs.FinMap.Entries.{below_all}
use Rattle.std.specs.Prelude.{option_and_then}
use Rattle.std.proofs.lemmas.Bool.Decides.{nat_tests}
use Rattle.rc_cell.specs.declared.writes.Cell.{Cell}
use Rattle.rc_cell.specs.Columns.{ascending}
use Rattle.rc_position.specs.declared.comps.Comp.{Comp}
use Rattle.rc_position.specs.declared.comps.Comp.TheVariants as comps
use Rattle.rc_schema.specs.declared.kinds.CkKind.{CkKind}
use Rattle.rc_schema.specs.declared.kinds.CkKind.TheVariants.{Int, Text}
use Rattle.rc_position.specs.declared.positions.Pos.{Pos}
use Rattle.rc_position.specs.Position.{start_bound, end_bound}
use Rattle.rc_schema.specs.Checks.{is_of_kind, are_of_kinds, fits_kinds, column_count}
use Rattle.rc_schema.specs.SchemaValue.{SchemaValue}
use Rattle.rc_spelling.specs.Numbers.{signed_of}
use Rattle.rc_lines.specs.UnderSchema.{component_of, prefix_of}
use Rattle.rc_lines.specs.calls.ShapeMeaning.{cell_named, columns_said, columns_from, by_column}
use Rattle.rc_lines.specs.laws.Halves.{join}

-- a key that came of an option
abbrev Fits : Option (List Comp) → List (List ℕ) → List CkKind → Type 0
Fits None pieces kinds = Unit {0}
Fits (Some key) pieces kinds = (are_of_kinds key kinds ≡ true) × (length key ≡ length pieces)

-- a component of a kind, where there is one
abbrev OfKind : Option Comp → CkKind → Type 0
OfKind None kind = Unit {0}
OfKind (Some component) kind = is_of_kind component kind ≡ true

number_of_kind : (o : Option ℤ) → OfKind (option_map (λ number. comps.Int number) o) Int
number_of_kind None = tt
number_of_kind (Some number) = refl

of_kind : (kind : CkKind) (piece : List ℕ) → OfKind (component_of kind piece) kind
of_kind Int piece = number_of_kind (signed_of piece)
of_kind Text piece = refl

fits_more : (first : Option Comp) (rest : Option (List Comp)) (piece : List ℕ) (pieces : List (List ℕ)) (kind : CkKind) (kinds : List CkKind) →
    OfKind first kind → Fits rest pieces kinds → Fits (option_and_then (λ component. option_map (λ key. component ∷ key) rest) first) (piece ∷ pieces) (kind ∷ kinds)
fits_more None rest piece pieces kind kinds p q = tt
fits_more (Some component) None piece pieces kind kinds p q = tt
fits_more (Some component) (Some key) piece pieces kind kinds p q = (join (is_of_kind component kind) (are_of_kinds key kinds) p q.0, ap (λ (n : ℕ). suc n) q.1)

fits : (pieces : List (List ℕ)) (kinds : List CkKind) → Fits (prefix_of pieces kinds) pieces kinds
fits [] kinds = (refl, refl)
fits (piece ∷ pieces) [] = tt
fits (piece ∷ pieces) (kind ∷ kinds) = fits_more (component_of kind piece) (prefix_of pieces kinds) piece pieces kind kinds (of_kind kind piece) (fits pieces kinds)

pub prefix_fits : (pieces : List (List ℕ)) (kinds : List CkKind) (key : List Comp) → prefix_of pieces kinds ≡ Some key → are_of_kinds key kinds ≡ true
prefix_fits pieces kinds key e = (subst (λ (o : Option (List Comp)). Fits o pieces kinds) e (fits pieces kinds)).0

pub prefix_is_as_long : (pieces : List (List ℕ)) (kinds : List CkKind) (key : List Comp) → prefix_of pieces kinds ≡ Some key → length key ≡ length pieces
prefix_is_as_long pieces kinds key e = (subst (λ (o : Option (List Comp)). Fits o pieces kinds) e (fits pieces kinds)).1

-- the columns of a line ascend, from the first on, and there are no others than the schema's

less : (x y : ℕ) → x < y → is_lt (nat_cmp x y) ≡ true
less x y h = (let e : nat_lt x y ≡ true = grind (arith, nat_tests) in rw e refl)

below_step : (x column : ℕ) (o : Option Cell) (rest : List (ℕ × Cell)) → x < column → below_all nat_cmp x rest ≡ true
    → below_all nat_cmp x (option_to_list (option_map (λ cell. (column, cell)) o) ++ rest) ≡ true
below_step x column None rest h p = p
below_step x column (Some cell) rest h p = join (is_lt (nat_cmp x column)) (below_all nat_cmp x rest) (less x column h) p

below : (x column : ℕ) (names : List (List ℕ)) (cells : List (List ℕ × Cell)) → x < column → below_all nat_cmp x (columns_from column names cells) ≡ true
below x column [] cells h = refl
below x column (name ∷ names) cells h =
    below_step x column (cell_named name cells) (columns_from (column + 1) names cells) h (below x (column + 1) names cells (omega arith))

sorted_step : (column : ℕ) (o : Option Cell) (rest : List (ℕ × Cell)) → below_all nat_cmp column rest ≡ true → is_sorted nat_cmp rest ≡ true
    → is_sorted nat_cmp (option_to_list (option_map (λ cell. (column, cell)) o) ++ rest) ≡ true
sorted_step column None rest p q = q
sorted_step column (Some cell) rest p q = join (below_all nat_cmp column rest) (is_sorted nat_cmp rest) p q

sorted : (column : ℕ) (names : List (List ℕ)) (cells : List (List ℕ × Cell)) → is_sorted nat_cmp (columns_from column names cells) ≡ true
sorted column [] cells = refl
sorted column (name ∷ names) cells =
    sorted_step column (cell_named name cells) (columns_from (column + 1) names cells) (below column (column + 1) names cells (omega arith)) (sorted (column + 1) names cells)

known_step : (n column : ℕ) (o : Option Cell) (rest : List (ℕ × Cell)) → column < n → list_all (λ e. nat_lt e.0 n) rest ≡ true
    → list_all (λ e. nat_lt e.0 n) (option_to_list (option_map (λ cell. (column, cell)) o) ++ rest) ≡ true
known_step n column None rest h p = p
known_step n column (Some cell) rest h p = join (nat_lt column n) (list_all (λ e. nat_lt e.0 n) rest) (grind (arith, nat_tests)) p

known : (n column : ℕ) (names : List (List ℕ)) (cells : List (List ℕ × Cell)) → column + length names ≤ n → list_all (λ e. nat_lt e.0 n) (columns_from column names cells) ≡ true
known n column [] cells h = refl
known n column (name ∷ names) cells h =
    known_step n column (cell_named name cells) (columns_from (column + 1) names cells) (omega arith) (known n (column + 1) names cells (omega arith))

pub columns_ascend : (names : List (List ℕ)) (cells : List (List ℕ × Cell)) → IsTrue (ascending (by_column names cells))
unfolding by_column
columns_ascend names cells = sorted 0 names cells

pub columns_are_known : (is_static : Bool) (schema : SchemaValue) (cells : List (List ℕ × Cell))
    → IsTrue (list_all (λ e. nat_lt e.0 (column_count is_static schema)) (by_column (columns_said is_static schema) cells))
unfolding by_column
columns_are_known true schema cells = known (length schema.statics) 0 schema.statics cells (omega arith)
columns_are_known false schema cells = known (length schema.cols) 0 schema.cols cells (omega arith)

-- a bound at a prefix of the schema's kinds

pub start_fits : (kinds : List CkKind) (prefix : List Comp) (inclusive : Bool) (x : Pos) → x ≡ start_bound prefix inclusive → are_of_kinds prefix kinds ≡ true
    → fits_kinds false kinds x.prefix ≡ true
start_fits kinds prefix true x e h = rw e (join (are_of_kinds prefix kinds) true h refl)
start_fits kinds prefix false x e h = rw e (join (are_of_kinds prefix kinds) true h refl)

pub end_fits : (kinds : List CkKind) (prefix : List Comp) (inclusive : Bool) (x : Pos) → x ≡ end_bound prefix inclusive → are_of_kinds prefix kinds ≡ true
    → fits_kinds false kinds x.prefix ≡ true
end_fits kinds prefix true x e h = rw e (join (are_of_kinds prefix kinds) true h refl)
end_fits kinds prefix false x e h = rw e (join (are_of_kinds prefix kinds) true h refl)
