-- What holds of each cell of rows holds of the cells of the rows as one; and a row that is read has its key and its cells from the writes.
use Rattle.std.specs.Prelude.{◌≡◌, ◌≢◌, ℕ, ℤ, Bool, true, false, ◌||◌, ◌==◌, cond, List, [], ◌∷◌, Option, Some, None, map as list_map}
use Rattle.std.proofs.Common.{refl, sym, ap, ◌∙◌, subst, T, append-nil}
use Rattle.std.proofs.lemmas.Bool.Decides.{Decides-eqb}
use Rattle.std.specs.declared.cmp.Ordering.{Ordering}
use Rattle.std.specs.declared.cmp.Ordering.TheVariants.{Less, Equal, Greater}
use Rattle.std.specs.Ordering.{int_cmp, is_lt, is_eq, ordering_reverse, eq_by_cmp}
use Rattle.std.specs.Option.{option_to_list}
use Rattle.std.specs.List.{filter, cons_option}
use Rattle.std.specs.FinMap.{find, is_sorted}
use Rattle.std.specs.FinMap.Entries.{below_all}
use Rattle.rc_cell.specs.declared.rows.Row.{Row}
use Rattle.rc_cell.specs.declared.writes.Cell.{Cell}
use Rattle.rc_cell.specs.declared.writes.Tomb.{Tomb}
use Rattle.rc_cell.specs.laws.ByColumn.{first, second, test_of}
use Rattle.rc_cell.specs.laws.Greatest.{greatest-none}
use Rattle.rc_cell.specs.laws.{joined_row-none, joined_row-one}
use Rattle.rc_cell.specs.Orders.{tomb_cmp}
use Rattle.rc_cell.specs.Winner.{all_cells, at_column, columns, empty_row, first_of, greatest, IsRow, joined_row, markers, tombs, winner, winners}
use Rattle.rc_position.specs.declared.comps.Comp.{Comp}
use Rattle.rc_position.specs.laws.Orders.{key_cmp_total}
use Rattle.rc_position.specs.Position.{key_cmp, row_pos}
use Rattle.rc_mutation.specs.declared.mutations.Mutation.{Mutation}
use Rattle.rc_mutation.specs.laws.ByKey.{KeyedRows, itself, keys_of, occurs, rows_at-absent, rows_at-ascending, same_key}
use Rattle.rc_mutation.specs.Source.{all_rows, IsMutation, rows_at, SameSource}
use Rattle.rc_writes.specs.laws.FittingValues.{Each, If, each_filter, each_filter_map, each_flat_map, each_map, if_map}

-- ---- rows as one

module _ {X : Type 0} (P : X → Type 0) where
  if_first : (xs : List X) → Each P xs → If P (first_of xs)
  if_first [] h = tt
  if_first (x ∷ xs) h = h.0

if_winner : (P : Cell → Type 0) (cells : List Cell) → Each P cells → If P (winner cells)
unfolding winner
if_winner P cells h = if_first P _ (each_filter P _ cells h)

module _ (P : (ℕ × Cell) → Type 0) where
  of_column : (column : ℕ) (b : Bool) (e : ℕ × Cell) (es : List (ℕ × Cell)) → (b ≡ true → column ≡ e.0) → P e → Each (λ c. P (column, c)) (list_map (λ (e : ℕ × Cell). e.1) es) → Each (λ c. P (column, c)) (list_map (λ (e : ℕ × Cell). e.1) (cond b (e ∷ es) es))
  of_column column true e es same h k = (subst (λ (n : ℕ). P (n, e.1)) (sym (same refl)) h, k)
  of_column column false e es same h k = k

  each_at_column : (column : ℕ) (cells : List (ℕ × Cell)) → Each P cells → Each (λ c. P (column, c)) (at_column column cells)
  each_at_column column [] h = tt
  each_at_column column (e ∷ es) h = of_column column (column == e.0) e (filter (λ e. column == e.0) es) (λ t. (Decides-eqb column e.0).0 t) h.0 (each_at_column column es h.1)

  each_winner : (cells : List (ℕ × Cell)) → Each P cells → Each P (winners cells)
  unfolding winners
  each_winner cells h =
      each_filter_map P _ (columns cells) (λ column. if_map P (λ cell. (column, cell)) (winner (at_column column cells)) (if_winner (λ c. P (column, c)) (at_column column cells) (each_at_column column cells h)))

  -- each cell of the rows as one is a cell of one of them
  pub each_joined : (rows : List Row) → Each (λ r. Each P r.cells) rows → Each P (joined_row rows).cells
  unfolding joined_row
  each_joined rows h = each_winner (all_cells rows) (each_flat_map P (λ r. r.cells) rows h)

no_markers : (rows : List Row) → Each (λ r. r.marker ≡ None) rows → markers rows ≡ []
no_markers [] h = refl
no_markers (r ∷ rows) h = ap (λ (o : Option ℤ). cons_option o (markers rows)) h.0 ∙ no_markers rows h.1

no_tombs : (rows : List Row) → Each (λ r. r.tomb ≡ None) rows → tombs rows ≡ []
no_tombs [] h = refl
no_tombs (r ∷ rows) h = ap (λ (o : Option Tomb). cons_option o (tombs rows)) h.0 ∙ no_tombs rows h.1

-- rows without a marker are one without a marker
pub joined_marker : (rows : List Row) → Each (λ r. r.marker ≡ None) rows → (joined_row rows).marker ≡ None
unfolding joined_row
joined_marker rows h = ap (greatest int_cmp) (no_markers rows h) ∙ greatest-none int_cmp

-- and rows without a tombstone are one without a tombstone
pub joined_tomb : (rows : List Row) → Each (λ r. r.tomb ≡ None) rows → (joined_row rows).tomb ≡ None
unfolding joined_row
joined_tomb rows h = ap (greatest tomb_cmp) (no_tombs rows h) ∙ greatest-none tomb_cmp

-- ---- rows by key

not_tied : (r : Ordering) → T (is_lt r) → is_eq (ordering_reverse r) ≡ false
not_tied Less h = refl
not_tied Equal h = absurd h
not_tied Greater h = absurd h

passed : (k q : List Comp) → T (is_lt (key_cmp k q)) → eq_by_cmp key_cmp q k ≡ false
passed k q h = ap is_eq (key_cmp_total.antisymm q k) ∙ not_tied (key_cmp k q) h

each_above : (k : List Comp) (es : KeyedRows) → T (below_all key_cmp k es) → Each (λ e. T (is_lt (key_cmp k e.0))) es
each_above k [] h = tt
each_above k (e ∷ es) h =
    (first (is_lt (key_cmp k e.0)) (below_all key_cmp k es) h, each_above k es (second (is_lt (key_cmp k e.0)) (below_all key_cmp k es) h))

found_later : (r : List Comp × Row) (rows es : KeyedRows) → Each (λ e. T (is_lt (key_cmp r.0 e.0))) es → Each (λ e. find key_cmp e.0 rows ≡ Some e.1) es → Each (λ e. find key_cmp e.0 (r ∷ rows) ≡ Some e.1) es
found_later r rows [] g h = tt
found_later r rows (e ∷ es) g h =
    (ap (λ b. cond b (Some r.1) (find key_cmp e.0 rows)) (passed r.0 e.0 g.0) ∙ h.0, found_later r rows es g.1 h.1)

-- among rows that ascend each is found at its key
each_found : (rows : KeyedRows) → T (is_sorted key_cmp rows) → Each (λ e. find key_cmp e.0 rows ≡ Some e.1) rows
each_found [] h = tt
each_found (r ∷ rows) h =
    let above = each_above r.0 rows (first (below_all key_cmp r.0 rows) (is_sorted key_cmp rows) h) in
    let rest = each_found rows (second (below_all key_cmp r.0 rows) (is_sorted key_cmp rows) h) in
    (ap (λ b. cond b (Some r.1) (find key_cmp r.0 rows)) (itself r.0), found_later r rows rows above rest)

-- what holds of the key of each row holds of a key that occurs
of_key : (K : List Comp → Type 0) (q : List Comp) (es : KeyedRows) → Each (λ e. K e.0) es → occurs q (keys_of es) ≡ true → K q
of_key K q [] h o = absurd (cc)
of_key K q (e ∷ es) h o =
    elim (eq_by_cmp key_cmp q e.0) as (λ b. eq_by_cmp key_cmp q e.0 ≡ b → (b || occurs q (keys_of es)) ≡ true → K q) [
      | true ↦ λ t _. subst K (sym (same_key q e.0 t)) h.0
      | false ↦ λ _ p. of_key K q es h.1 p
    ] refl o

module _ (m : Mutation) (changes : List Mutation) (is : IsMutation m) (same : SameSource (m ∷ []) changes) where
  -- a row that is read is what the writes say at its key
  row_said : (q : List Comp) (row : Row) → find key_cmp q m.rows ≡ Some row → IsRow row → row ≡ joined_row (rows_at q (all_rows changes))
  row_said q row e h =
      sym (joined_row-one row h)
      ∙ ap (λ (o : Option Row). joined_row (option_to_list o)) (sym e)
      ∙ ap joined_row (sym (rows_at-ascending q m.rows (test_of _ is.rows.ascend)))
      ∙ ap (λ rs. joined_row (rows_at q rs)) (sym (append-nil m.rows))
      ∙ ap (λ (s : Row × Option Tomb). s.0) (same.clustered (row_pos q))

  module _ (K : List Comp → Type 0) (P : (ℕ × Cell) → Type 0) (keys : Each (λ e. K e.0) (all_rows changes)) (cells : Each (λ e. Each P e.1.cells) (all_rows changes)) where
    key_said : (q : List Comp) (row : Row) → row ≢ empty_row → row ≡ joined_row (rows_at q (all_rows changes)) → K q
    key_said q row some e =
        elim (occurs q (keys_of (all_rows changes))) as (λ b. occurs q (keys_of (all_rows changes)) ≡ b → K q) [
          | true ↦ λ o. of_key K q (all_rows changes) keys o
          | false ↦ λ o. absurd (some (e ∙ ap joined_row (rows_at-absent q (all_rows changes) o) ∙ joined_row-none))
        ] refl

    cells_said : (q : List Comp) → Each P (joined_row (rows_at q (all_rows changes))).cells
    cells_said q = each_joined P (rows_at q (all_rows changes)) (each_map (λ r. Each P r.cells) (λ e. e.1) _ (each_filter (λ e. Each P e.1.cells) _ (all_rows changes) cells))

    one_said : (q : List Comp) (row : Row) → find key_cmp q m.rows ≡ Some row → row ≢ empty_row → IsRow row → K q × Each P row.cells
    one_said q row e some h =
        let is_said = row_said q row e h in
        (key_said q row some is_said, subst (λ (r : Row). Each P r.cells) (sym is_said) (cells_said q))

    some_said : (rows : KeyedRows) → Each (λ e. find key_cmp e.0 m.rows ≡ Some e.1) rows → Each (λ e. e.1 ≢ empty_row) rows → Each (λ e. IsRow e.1) rows → Each (λ e. K e.0 × Each P e.1.cells) rows
    some_said [] g h k = tt
    some_said (e ∷ es) g h k = (one_said e.0 e.1 g.0 h.0 k.0, some_said es g.1 h.1 k.1)

    -- each row that is read has its key and its cells from rows of the writes
    pub rows_said : Each (λ e. e.1 ≢ empty_row) m.rows → Each (λ e. IsRow e.1) m.rows → Each (λ e. K e.0 × Each P e.1.cells) m.rows
    rows_said h k = some_said m.rows (each_found m.rows (test_of _ is.rows.ascend)) h k
