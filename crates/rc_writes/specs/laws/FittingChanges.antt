-- What says the same as changes that fit a schema fits it: its static row, its rows with their keys, and the bounds of its ranges.
use Rattle.std.specs.Prelude.{◌≡◌, ◌≢◌, ℕ, All, Bool, true, false, ◌&&◌, List, [], ◌∷◌, Option, None, nat_lt}
use Rattle.std.proofs.Common.{refl, sym, ap, ◌∙◌, subst, append-nil}
use Rattle.std.specs.List.{list_all}
use Rattle.rc_cell.specs.declared.rows.Row.{Row}
use Rattle.rc_cell.specs.declared.writes.Cell.{Cell}
use Rattle.rc_cell.specs.declared.writes.Tomb.{Tomb}
use Rattle.rc_cell.specs.Winner.{empty_row, joined_row}
use Rattle.rc_position.specs.declared.comps.Comp.{Comp}
use Rattle.rc_ranges.specs.Cover.{cover}
use Rattle.rc_schema.specs.SchemaValue.{SchemaValue}
use Rattle.rc_schema.specs.Checks.{is_key_of, are_cells_of, column_count, has_short_value}
use Rattle.rc_mutation.specs.declared.mutations.Mutation.{Mutation}
use Rattle.rc_mutation.specs.Source.{all_pieces, all_rows, IsMutation, SameSource, static_rows}
use Rattle.rc_mutation.specs.laws.Sources.{statics-one}
use Rattle.rc_writes.specs.Allowed.{ChangeFits, IsRangeBound, IsRowOf, IsStaticOf}
use Rattle.rc_writes.specs.laws.FittingBounds.{bounds_kept, start}
use Rattle.rc_writes.specs.laws.FittingJoins.{joined_marker, joined_tomb, each_joined, rows_said}
use Rattle.rc_writes.specs.laws.FittingValues.{Each, all_of_each, each_flat_map, each_map, each_of_all, each_of_test, each_so, test_of_each}

-- ---- cells that fit, one by one

-- a cell of a column of the schema, with a value within the limits
abbrev CellFits : Bool → SchemaValue → (ℕ × Cell) → Type 0
CellFits is_static schema e = (nat_lt e.0 (column_count is_static schema) ≡ true) × (has_short_value e.1 ≡ true)

both : (a b : Bool) → a && b ≡ true → (a ≡ true) × (b ≡ true)
both true b h = (refl, h)
both false b h = absurd (cc)

paired : (is_static : Bool) (schema : SchemaValue) (cells : List (ℕ × Cell)) → Each (λ e. nat_lt e.0 (column_count is_static schema) ≡ true) cells → Each (λ e. has_short_value e.1 ≡ true) cells → Each (CellFits is_static schema) cells
paired is_static schema [] g h = tt
paired is_static schema (e ∷ es) g h = ((g.0, h.0), paired is_static schema es g.1 h.1)

each_cell : (is_static : Bool) (schema : SchemaValue) (cells : List (ℕ × Cell)) → are_cells_of (column_count is_static schema) cells ≡ true → Each (CellFits is_static schema) cells
each_cell is_static schema cells h =
    let known = λ (e : ℕ × Cell). nat_lt e.0 (column_count is_static schema) in
    let short = λ (e : ℕ × Cell). has_short_value e.1 in
    let tests = both (list_all known cells) (list_all short cells) h in
    paired is_static schema cells (each_of_test known cells tests.0) (each_of_test short cells tests.1)

all_cells_fit : (is_static : Bool) (schema : SchemaValue) (cells : List (ℕ × Cell)) → Each (CellFits is_static schema) cells → are_cells_of (column_count is_static schema) cells ≡ true
all_cells_fit is_static schema cells h =
    let known = λ (e : ℕ × Cell). nat_lt e.0 (column_count is_static schema) in
    let short = λ (e : ℕ × Cell). has_short_value e.1 in
    let all_known : list_all known cells ≡ true = test_of_each known cells (each_so (CellFits is_static schema) (λ e. known e ≡ true) cells h (λ e f. f.0)) in
    let all_short : list_all short cells ≡ true = test_of_each short cells (each_so (CellFits is_static schema) (λ e. short e ≡ true) cells h (λ e f. f.1)) in
    λ i. all_known i && all_short i

-- ---- a mutation that says what changes say

-- all positions begin between rows, at no components
start_fits : (schema : SchemaValue) → IsRangeBound schema start
start_fits schema = (λ e. absurd (cc), refl)

module _ (schema : SchemaValue) (m : Mutation) (changes : List Mutation) (is : IsMutation m) (same : SameSource (m ∷ []) changes) (fit : Each (ChangeFits schema) changes) where
  statics_fit : IsStaticOf schema m.statics
  statics_fit =
      let rows = static_rows changes in
      let e : m.statics ≡ joined_row rows = sym (statics-one m is) ∙ same.statics in
      let marker : (joined_row rows).marker ≡ None = joined_marker rows (each_map (λ r. r.marker ≡ None) (λ c. c.statics) changes (each_so (ChangeFits schema) (λ c. c.statics.marker ≡ None) changes fit (λ c f. f.statics.0))) in
      let tomb : (joined_row rows).tomb ≡ None = joined_tomb rows (each_map (λ r. r.tomb ≡ None) (λ c. c.statics) changes (each_so (ChangeFits schema) (λ c. c.statics.tomb ≡ None) changes fit (λ c f. f.statics.1))) in
      let cells : are_cells_of (column_count true schema) (joined_row rows).cells ≡ true =
      all_cells_fit true schema (joined_row rows).cells (each_joined (CellFits true schema) rows
      (each_map (λ r. Each (CellFits true schema) r.cells) (λ c. c.statics) changes
      (each_so (ChangeFits schema) (λ c. Each (CellFits true schema) c.statics.cells) changes fit (λ c f. each_cell true schema c.statics.cells f.statics.2)))) in
      subst (IsStaticOf schema) (sym e) (marker, tomb, cells)

  rows_fit : Each (λ e. IsRowOf schema e.0 e.1) m.rows
  rows_fit =
      let HasKey : List Comp → Type 0 = λ key. is_key_of true schema key ≡ true in
      let keys : Each (λ (e : List Comp × Row). HasKey e.0) (all_rows changes) =
      each_flat_map (λ (e : List Comp × Row). HasKey e.0) (λ c. c.rows) changes
      (each_so (ChangeFits schema) (λ c. Each (λ (e : List Comp × Row). HasKey e.0) c.rows) changes fit
      (λ c f. each_so (λ e. IsRowOf schema e.0 e.1) (λ e. HasKey e.0) c.rows (each_of_all (λ e. IsRowOf schema e.0 e.1) c.rows f.rows) (λ e g. g.0))) in
      let cells : Each (λ (e : List Comp × Row). Each (CellFits false schema) e.1.cells) (all_rows changes) =
      each_flat_map (λ (e : List Comp × Row). Each (CellFits false schema) e.1.cells) (λ c. c.rows) changes
      (each_so (ChangeFits schema) (λ c. Each (λ (e : List Comp × Row). Each (CellFits false schema) e.1.cells) c.rows) changes fit
      (λ c f. each_so (λ e. IsRowOf schema e.0 e.1) (λ e. Each (CellFits false schema) e.1.cells) c.rows (each_of_all (λ e. IsRowOf schema e.0 e.1) c.rows f.rows) (λ e g. each_cell false schema e.1.cells g.1))) in
      each_so (λ e. HasKey e.0 × Each (CellFits false schema) e.1.cells) (λ e. IsRowOf schema e.0 e.1) m.rows
      (rows_said m changes is same HasKey (CellFits false schema) keys cells (each_of_all (λ e. e.1 ≢ empty_row) m.rows is.rows.written) (each_of_all _ m.rows is.rows.by_column))
      (λ e g. (g.0, all_cells_fit false schema e.1.cells g.1))

  bounds_fit : Each (λ p. IsRangeBound schema p.from × IsRangeBound schema p.to) m.ranges
  bounds_fit =
      bounds_kept (IsRangeBound schema) (all_pieces changes)
      (each_flat_map (λ p. IsRangeBound schema p.from × IsRangeBound schema p.to) (λ c. c.ranges) changes
      (each_so (ChangeFits schema) (λ c. Each (λ p. IsRangeBound schema p.from × IsRangeBound schema p.to) c.ranges) changes fit (λ c f. each_of_all (λ p. IsRangeBound schema p.from × IsRangeBound schema p.to) c.ranges f.ranges)))
      m.ranges is.ranges
      (λ x. ap (λ ps. cover ps x) (sym (append-nil m.ranges)) ∙ ap (λ (s : Row × Option Tomb). s.1) (same.clustered x))
      (start_fits schema)

  -- a mutation that says what changes that fit say fits
  pub same_fits : ChangeFits schema m
  same_fits = record {
    statics = statics_fit;
    rows = all_of_each (λ e. IsRowOf schema e.0 e.1) m.rows rows_fit;
    ranges = all_of_each (λ q. IsRangeBound schema q.from × IsRangeBound schema q.to) m.ranges bounds_fit;
  }
