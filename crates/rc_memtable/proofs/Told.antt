-- A mutation whose head, static row, rows and range tombstones are what is seen says what the changes say.
use Rattle.std.proofs.Common.{◌≡◌, List, [], ◌∷◌, ◌++◌, Option, sym, ap, ◌∙◌, append-nil}
use Rattle.rc_cell.specs.declared.rows.Row.{Row}
use Rattle.rc_cell.specs.declared.writes.Tomb.{Tomb}
use Rattle.rc_cell.specs.Orders.{tomb_cmp}
use Rattle.rc_cell.specs.Greatest.{greater}
use Rattle.rc_cell.specs.Winner.{greatest, joined_row}
use Rattle.rc_position.specs.declared.comps.Comp.{Comp}
use Rattle.rc_position.specs.declared.positions.Pos.{Pos}
use Rattle.rc_position.specs.declared.positions.Weight.TheVariants.{After}
use Rattle.rc_schema.specs.SchemaValue.{SchemaValue}
use Rattle.rc_ranges.specs.declared.pieces.Piece.{Piece}
use Rattle.rc_ranges.specs.Cover.{cover as range_tomb}
use Rattle.rc_ranges.specs.laws.Covering.{cover-none}
use Rattle.rc_ranges.specs.laws.Greater.{greater-none}
use Rattle.rc_mutation.specs.declared.mutations.Mutation.{Mutation}
use Rattle.rc_mutation.specs.Source.{SameSource, rows_in, source_at}
use Rattle.rc_mutation.specs.Rows.{joined_rows}
use Rattle.rc_mutation.specs.laws.Sources.{head-one, rows_in-joined_rows}
use Rattle.rc_core.specs.declared.parts.Part.TheVariants as part
use Rattle.rc_core.specs.Chain.{content, rows_from}
use Rattle.rc_core.specs.Continuity.{static_states, version_tombs}
use Rattle.rc_core.specs.StandsFor.{piece_over}
use Rattle.rc_core.specs.Version.{Version}
use Rattle.rc_core.specs.laws.Losing.{joined-again}
use Rattle.rc_memtable.specs.calls.Reading.{IsPartTaken, SayChanges, said_so_far}

pub says-the-same : (schema : SchemaValue) (versions : List Version) (changes : List Mutation) → SayChanges schema versions changes → (m : Mutation) → m.pt ≡ greatest tomb_cmp (version_tombs versions) → m.statics ≡ (content (static_states versions)).0 →
    ((y : Pos) → said_so_far m.rows m.ranges y ≡ source_at changes y) → SameSource (m ∷ []) changes
says-the-same schema versions changes say m pt statics clustered = record {
  head = head-one m ∙ pt ∙ say.stands.head;
  statics =
      ap (λ r. joined_row (r ∷ [])) statics
      ∙ joined-again (rows_from (static_states versions))
      ∙ ap (λ (a : Row × Option Tomb). a.0) say.stands.statics;
  clustered = λ y. (λ i. (joined_row (rows_in y (append-nil m.rows i)), range_tomb (append-nil m.ranges i) y)) ∙ clustered y;
}

-- ---- a part that was put behind what was read

pub row-taken : (key : List Comp) (row : Row) (tomb : Option Tomb) (x : Pos) (rows more_rows : List (List Comp × Row)) (ranges more_ranges : List Piece) → more_rows ≡ joined_rows (rows ++ (key, row) ∷ []) →
    ((y : Pos) → range_tomb more_ranges y ≡ greater tomb_cmp (range_tomb ranges y) (range_tomb (piece_over x (record { prefix = key; weight = After }) tomb) y)) → IsPartTaken (part.Row key row tomb) x rows ranges more_rows more_ranges
row-taken key row tomb x rows more_rows ranges more_ranges e h = record {
  row = λ y. ap (λ rs. joined_row (rows_in y rs)) e ∙ rows_in-joined_rows y (rows ++ (key, row) ∷ []);
  tomb = h;
}

pub gap-taken : (to : Pos) (tomb : Option Tomb) (x : Pos) (rows : List (List Comp × Row)) (ranges more_ranges : List Piece) →
    ((y : Pos) → range_tomb more_ranges y ≡ greater tomb_cmp (range_tomb ranges y) (range_tomb (piece_over x to tomb) y)) → IsPartTaken (part.Gap to tomb) x rows ranges rows more_ranges
gap-taken to tomb x rows ranges more_ranges h = record {
  row = λ y. ap (λ rs. joined_row (rows_in y rs)) (sym (append-nil rows));
  tomb = h;
}

-- no tombstone changes nothing
pub none-added : (ranges : List Piece) (y : Pos) → range_tomb ranges y ≡ greater tomb_cmp (range_tomb ranges y) (range_tomb [] y)
none-added ranges y = sym (ap (greater tomb_cmp (range_tomb ranges y)) (cover-none y) ∙ greater-none (range_tomb ranges y))
