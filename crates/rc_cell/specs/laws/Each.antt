-- What holds of each cell of some rows holds of each cell of the rows as one; and rows without a marker, or without a tombstone, are one without it.
use Rattle.std.specs.Prelude.{◌≡◌, ℕ, ℤ, Bool, true, false, ◌==◌, ◌&&◌, cond, List, [], ◌∷◌, ◌++◌, Option, Some, None, IfSome, map as list_map}
use Rattle.std.proofs.Common.{sym, ap, ◌∙◌, subst, refl}
use Rattle.std.proofs.lemmas.Bool.Decides.{Decides-eqb}
use Rattle.std.specs.Ordering.{int_cmp}
use Rattle.std.specs.Option.{option_map}
use Rattle.std.specs.List.{filter, filter_map, flat_map, cons_option, list_all, AllByRecursion}
use Rattle.rc_cell.specs.declared.rows.Row.{Row}
use Rattle.rc_cell.specs.declared.writes.Cell.{Cell}
use Rattle.rc_cell.specs.declared.writes.Tomb.{Tomb}
use Rattle.rc_cell.specs.laws.Greatest.{greatest-none}
use Rattle.rc_cell.specs.Orders.{tomb_cmp}
use Rattle.rc_cell.specs.Winner.{all_cells, at_column, columns, first_of, greatest, joined_row, markers, tombs, winner, winners}

module _ {X : Type 0} (P : X → Type 0) where
  each_append : (xs ys : List X) → AllByRecursion P xs → AllByRecursion P ys → AllByRecursion P (xs ++ ys)
  each_append [] ys h k = k
  each_append (x ∷ xs) ys h k = (h.0, each_append xs ys h.1 k)

  each_kept : (b : Bool) (x : X) (xs : List X) → P x → AllByRecursion P xs → AllByRecursion P (cond b (x ∷ xs) xs)
  each_kept true x xs h k = (h, k)
  each_kept false x xs h k = k

  each_filter : (test : X → Bool) (xs : List X) → AllByRecursion P xs → AllByRecursion P (filter test xs)
  each_filter test [] h = tt
  each_filter test (x ∷ xs) h = each_kept (test x) x (filter test xs) h.0 (each_filter test xs h.1)

  each_cons : (o : Option X) (xs : List X) → IfSome o P → AllByRecursion P xs → AllByRecursion P (cons_option o xs)
  each_cons None xs h k = k
  each_cons (Some x) xs h k = (h, k)

  each_filter_map : {Y : Type 0} (f : Y → Option X) (ys : List Y) → ((y : Y) → IfSome (f y) P) → AllByRecursion P (filter_map f ys)
  each_filter_map f [] h = tt
  each_filter_map f (y ∷ ys) h = each_cons (f y) (filter_map f ys) (h y) (each_filter_map f ys h)

  each_flat_map : {Y : Type 0} (f : Y → List X) (ys : List Y) → AllByRecursion (λ y. AllByRecursion P (f y)) ys → AllByRecursion P (flat_map f ys)
  each_flat_map f [] h = tt
  each_flat_map f (y ∷ ys) h = each_append (f y) (flat_map f ys) h.0 (each_flat_map f ys h.1)

  if_map : {Y : Type 0} (f : Y → X) (o : Option Y) → IfSome o (λ y. P (f y)) → IfSome (option_map f o) P
  if_map f None h = tt
  if_map f (Some y) h = h

  if_first : (xs : List X) → AllByRecursion P xs → IfSome (first_of xs) P
  if_first [] h = tt
  if_first (x ∷ xs) h = h.0

if_winner : (P : Cell → Type 0) (cells : List Cell) → AllByRecursion P cells → IfSome (winner cells) P
unfolding winner
if_winner P cells h = if_first P _ (each_filter P _ cells h)

module _ (P : (ℕ × Cell) → Type 0) where
  of_column : (column : ℕ) (b : Bool) (e : ℕ × Cell) (es : List (ℕ × Cell)) → (b ≡ true → column ≡ e.0) → P e → AllByRecursion (λ c. P (column, c)) (list_map (λ (e : ℕ × Cell). e.1) es)
      → AllByRecursion (λ c. P (column, c)) (list_map (λ (e : ℕ × Cell). e.1) (cond b (e ∷ es) es))
  of_column column true e es same h k = (subst (λ (n : ℕ). P (n, e.1)) (sym (same refl)) h, k)
  of_column column false e es same h k = k

  each_at_column : (column : ℕ) (cells : List (ℕ × Cell)) → AllByRecursion P cells → AllByRecursion (λ c. P (column, c)) (at_column column cells)
  each_at_column column [] h = tt
  each_at_column column (e ∷ es) h = of_column column (column == e.0) e (filter (λ e. column == e.0) es) (λ t. (Decides-eqb column e.0).0 t) h.0 (each_at_column column es h.1)

  pub each_winner : (cells : List (ℕ × Cell)) → AllByRecursion P cells → AllByRecursion P (winners cells)
  unfolding winners
  each_winner cells h =
      each_filter_map P _ (columns cells) (λ column. if_map P (λ cell. (column, cell)) (winner (at_column column cells)) (if_winner (λ c. P (column, c)) (at_column column cells) (each_at_column column cells h)))

  -- each cell of the rows as one is a cell of one of them
  pub each_joined : (rows : List Row) → AllByRecursion (λ r. AllByRecursion P r.cells) rows → AllByRecursion P (joined_row rows).cells
  unfolding joined_row
  each_joined rows h = each_winner (all_cells rows) (each_flat_map P (λ r. r.cells) rows h)

no_markers : (rows : List Row) → AllByRecursion (λ r. r.marker ≡ None) rows → markers rows ≡ []
no_markers [] h = refl
no_markers (r ∷ rows) h = ap (λ (o : Option ℤ). cons_option o (markers rows)) h.0 ∙ no_markers rows h.1

no_tombs : (rows : List Row) → AllByRecursion (λ r. r.tomb ≡ None) rows → tombs rows ≡ []
no_tombs [] h = refl
no_tombs (r ∷ rows) h = ap (λ (o : Option Tomb). cons_option o (tombs rows)) h.0 ∙ no_tombs rows h.1

-- rows without a marker are one without a marker
pub joined_marker : (rows : List Row) → AllByRecursion (λ r. r.marker ≡ None) rows → (joined_row rows).marker ≡ None
unfolding joined_row
joined_marker rows h = ap (greatest int_cmp) (no_markers rows h) ∙ greatest-none int_cmp

-- and rows without a tombstone are one without a tombstone
pub joined_tomb : (rows : List Row) → AllByRecursion (λ r. r.tomb ≡ None) rows → (joined_row rows).tomb ≡ None
unfolding joined_row
joined_tomb rows h = ap (greatest tomb_cmp) (no_tombs rows h) ∙ greatest-none tomb_cmp

-- ---- the same by tests

both : (b c : Bool) → b && c ≡ true → (b ≡ true) × (c ≡ true)
both true c h = (refl, h)
both false c h = absurd (cc)

module _ {X : Type 0} (test : X → Bool) where
  pub each_of_test : (xs : List X) → list_all test xs ≡ true → AllByRecursion (λ x. test x ≡ true) xs
  each_of_test [] h = tt
  each_of_test (x ∷ xs) h =
      let p = both (test x) (list_all test xs) h in
      (p.0, each_of_test xs p.1)

  pub test_of_each : (xs : List X) → AllByRecursion (λ x. test x ≡ true) xs → list_all test xs ≡ true
  test_of_each [] h = refl
  test_of_each (x ∷ xs) h = rw (h.0, test_of_each xs h.1) refl

rows_pass : (test : (ℕ × Cell) → Bool) (rows : List Row) → AllByRecursion (λ r. list_all test r.cells ≡ true) rows → AllByRecursion (λ r. AllByRecursion (λ e. test e ≡ true) r.cells) rows
rows_pass test [] h = tt
rows_pass test (r ∷ rows) h = (each_of_test test r.cells h.0, rows_pass test rows h.1)

-- a test that each cell of some rows passes is passed by each cell of the rows as one
pub test_joined : (test : (ℕ × Cell) → Bool) (rows : List Row) → list_all (λ r. list_all test r.cells) rows ≡ true → list_all test (joined_row rows).cells ≡ true
test_joined test rows h = test_of_each test (joined_row rows).cells (each_joined (λ e. test e ≡ true) rows (rows_pass test rows (each_of_test (λ (r : Row). list_all test r.cells) rows h)))
