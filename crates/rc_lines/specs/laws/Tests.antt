-- What fits a schema, as tests, and that what passes them fits.
use Rattle.std.specs.Prelude.{◌≡◌, ◌≢◌, ℕ, Bool, true, false, ◌&&◌, List, Option, Some, None}
use Rattle.std.proofs.Common.{refl}
use Rattle.std.specs.List.{list_all}
use Rattle.std.specs.Option.{is_none}
use Rattle.rc_cell.specs.declared.rows.Row.{Row}
use Rattle.rc_cell.specs.declared.writes.Cell.{Cell}
use Rattle.rc_mutation.specs.declared.mutations.Mutation.{Mutation}
use Rattle.rc_position.specs.declared.comps.Comp.{Comp}
use Rattle.rc_position.specs.declared.positions.Pos.{Pos}
use Rattle.rc_position.specs.declared.positions.Weight.{Weight}
use Rattle.rc_position.specs.declared.positions.Weight.TheVariants.{Before, At, After}
use Rattle.rc_position.specs.declared.slices.Slice.{Slice}
use Rattle.rc_ranges.specs.declared.pieces.Piece.{Piece}
use Rattle.rc_schema.specs.SchemaValue.{SchemaValue}
use Rattle.rc_schema.specs.Checks.{is_key_of, are_cells_of, column_count}
use Rattle.rc_writes.specs.Allowed.{ChangeFits, IsRangeBound, IsRowOf, IsStaticOf}
use Rattle.rc_writes.specs.laws.Within.{all_within}
use Rattle.rc_lines.specs.laws.Halves.{both}

-- whether a key, or where it need not be full a prefix of one, fits a schema
abbrev pub fits_key : Bool → SchemaValue → List Comp → Bool
fits_key full schema key = is_key_of full schema key

-- whether the cells of a row, or of the static row, fit a schema
abbrev pub fits_cells : Bool → SchemaValue → List (ℕ × Cell) → Bool
fits_cells is_static schema cells = are_cells_of (column_count is_static schema) cells

-- whether a static row fits: it has cells alone, no marker and no row tombstone, and they fit
abbrev pub fits_static : SchemaValue → Row → Bool
fits_static schema row = is_none row.marker && (is_none row.tomb && fits_cells true schema row.cells)

-- whether a row and its key fit
abbrev pub fits_row : SchemaValue → List Comp × Row → Bool
fits_row schema e = fits_key true schema e.0 && fits_cells false schema e.1.cells

-- whether a weight is that of a bound: before or after the keys with a prefix
abbrev pub is_bound : Weight → Bool
is_bound Before = true
is_bound At = false
is_bound After = true

-- whether a position fits as a bound: before or after the keys with a prefix that fits
abbrev pub fits_bound : SchemaValue → Pos → Bool
fits_bound schema x = is_bound x.weight && fits_key false schema x.prefix

-- whether both bounds of a slice fit
abbrev pub fits_slice : SchemaValue → Slice → Bool
fits_slice schema slice = fits_bound schema slice.from && fits_bound schema slice.to

-- whether each part of a write fits
abbrev pub fits_write : SchemaValue → Mutation → Bool
fits_write schema m = fits_static schema m.statics && (list_all (fits_row schema) m.rows && list_all (λ p. fits_slice schema (record { from = p.from; to = p.to })) m.ranges)

none : {X : Type 0} (o : Option X) → is_none o ≡ true → o ≡ None
none None h = refl
none (Some x) h = absurd (cc)

static_fits : (schema : SchemaValue) (row : Row) → fits_static schema row ≡ true → IsStaticOf schema row
static_fits schema row h =
    let one = both (is_none row.marker) (is_none row.tomb && fits_cells true schema row.cells) h in
    let two = both (is_none row.tomb) (fits_cells true schema row.cells) one.1 in
    (none row.marker one.0, none row.tomb two.0, two.1)

row_fits : (schema : SchemaValue) (e : List Comp × Row) → fits_row schema e ≡ true → IsRowOf schema e.0 e.1
row_fits schema e h =
    let tests = both (fits_key true schema e.0) (fits_cells false schema e.1.cells) h in
    tests

no_row : (w : Weight) → is_bound w ≡ true → w ≢ At
no_row Before h = λ e. absurd (cc)
no_row At h = absurd (cc)
no_row After h = λ e. absurd (cc)

bound_fits : (schema : SchemaValue) (x : Pos) → fits_bound schema x ≡ true → IsRangeBound schema x
bound_fits schema x h =
    let tests = both (is_bound x.weight) (fits_key false schema x.prefix) h in
    (no_row x.weight tests.0, tests.1)

-- bounds that pass the tests fit
pub slice_passes : (schema : SchemaValue) (slice : Slice) → fits_slice schema slice ≡ true → IsRangeBound schema slice.from × IsRangeBound schema slice.to
slice_passes schema slice h =
    let tests = both (fits_bound schema slice.from) (fits_bound schema slice.to) h in
    (bound_fits schema slice.from tests.0, bound_fits schema slice.to tests.1)

-- a write that passes the tests fits
pub write_passes : (schema : SchemaValue) (m : Mutation) → fits_write schema m ≡ true → ChangeFits schema m
write_passes schema m h =
    let range_test = λ (p : Piece). fits_slice schema (record { from = p.from; to = p.to }) in
    let one = both (fits_static schema m.statics) (list_all (fits_row schema) m.rows && list_all range_test m.ranges) h in
    let two = both (list_all (fits_row schema) m.rows) (list_all range_test m.ranges) one.1 in
    record {
      statics = static_fits schema m.statics one.0;
      rows = all_within (λ e. IsRowOf schema e.0 e.1) (fits_row schema) m.rows (row_fits schema) two.0;
      ranges = all_within (λ p. IsRangeBound schema p.from × IsRangeBound schema p.to) range_test m.ranges (λ p t. slice_passes schema (record { from = p.from; to = p.to }) t) two.1;
    }
