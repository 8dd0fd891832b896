-- What a schema allows: static rows, rows, bounds of ranges, and what is written of a partition.
use Rattle.std.specs.Prelude.{◌≡◌, ◌≢◌, true, false, List, length, None, All, IsTrue}
use Rattle.rc_cell.specs.declared.rows.Row.{Row}
use Rattle.rc_position.specs.declared.comps.Comp.{Comp}
use Rattle.rc_position.specs.declared.positions.Pos.{Pos}
use Rattle.rc_position.specs.declared.positions.Weight.TheVariants.{At}
use Rattle.rc_schema.specs.SchemaValue.{SchemaValue}
use Rattle.rc_schema.specs.Checks.{is_key_of, are_cells_of}
use Rattle.rc_mutation.specs.declared.mutations.Mutation.{Mutation}

-- a static row of the schema: no marker, no tombstone, static columns, values within the limits
abbrev pub IsStaticOf : SchemaValue → Row → Type 0
IsStaticOf schema row = (row.marker ≡ None) × (row.tomb ≡ None) × IsTrue (are_cells_of (length schema.statics) row.cells)

-- a row of the schema: a full key of its kinds, regular columns, values within the limits
abbrev pub IsRowOf : SchemaValue → List Comp → Row → Type 0
IsRowOf schema key row = IsTrue (is_key_of true schema key) × IsTrue (are_cells_of (length schema.cols) row.cells)

-- a position at which a range may begin or end: before or after the keys with a prefix of the schema's kinds
abbrev pub IsRangeBound : SchemaValue → Pos → Type 0
IsRangeBound schema x = (x.weight ≢ At) × IsTrue (is_key_of false schema x.prefix)

-- what is written of a partition fits the schema: its static row, each row with its key, and both ends of each range tombstone
pub record ChangeFits (schema : SchemaValue) (m : Mutation) : Type 0 where
  pub statics : IsStaticOf schema m.statics
  pub rows : All (λ e. IsRowOf schema e.0 e.1) m.rows
  pub ranges : All (λ q. IsRangeBound schema q.from × IsRangeBound schema q.to) m.ranges
