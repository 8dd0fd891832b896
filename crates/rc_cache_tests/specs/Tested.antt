-- What is written under a schema of one clustering number and one column.
use Rattle.std.specs.Prelude.{◌≡◌, List, [], ◌∷◌, None, All, IsTrue}
use Rattle.rc_cell.specs.declared.rows.Row.{Row}
use Rattle.rc_cell.specs.Winner.{empty_row}
use Rattle.rc_position.specs.declared.comps.Comp.{Comp}
use Rattle.rc_schema.specs.SchemaValue.{SchemaValue, is_schema}
use Rattle.rc_schema.specs.declared.kinds.CkKind.TheVariants.{Int}
use Rattle.rc_mutation.specs.declared.mutations.Mutation.{Mutation}
use Rattle.rc_mutation.specs.Source.{source_at_head, source_at_static}
use Rattle.rc_writes.specs.Allowed.{ChangeFits}
use Rattle.rc_memtable.specs.Writes.{AreSmall}

-- the schema, whose column is `a`
abbrev pub tested_schema : SchemaValue
tested_schema = record { ck = Int ∷ []; statics = []; cols = (97 ∷ []) ∷ [] }

-- a row at a key, and nothing else
abbrev pub only_row : List Comp → Row → Mutation
only_row key row = record { pt = None; statics = empty_row; rows = (key, row) ∷ []; ranges = [] }

-- nothing is written at the head of the partition, and what is written fits the schema, of which no object is larger than an eighth of a segment
pub record AreHeadless (schema : SchemaValue) (writes : List Mutation) : Type 0 where
  pub limits : IsTrue (is_schema schema)
  pub small : AreSmall 16384 schema
  pub head : source_at_head writes ≡ None
  pub statics : source_at_static writes ≡ empty_row
  pub fit : All (ChangeFits schema) writes
