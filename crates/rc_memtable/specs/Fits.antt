-- What a schema allows of the versions of a chain: where their entries stand, and their rows.
use Rattle.std.specs.Prelude.{◌≡◌, false, IsTrue, IfSome}
use Rattle.rc_cell.specs.Winner.{IsRow}
use Rattle.rc_position.specs.Position.{row_pos}
use Rattle.rc_schema.specs.SchemaValue.{SchemaValue}
use Rattle.rc_schema.specs.Checks.{is_key_of}
use Rattle.rc_writes.specs.Allowed.{IsRowOf, IsStaticOf}
use Rattle.rc_core.specs.declared.entries.Entry.{Entry}
use Rattle.rc_core.specs.AtPlace.{EachEntry}
use Rattle.rc_core.specs.Version.{Version}

-- an entry stands at a position of the schema; where it has a row, that is one of the schema, and it stands at the row's position
pub record IsEntryUnder (schema : SchemaValue) (e : Entry) : Type 0 where
  pub position : IsTrue (is_key_of false schema e.position.prefix)
  pub row : IfSome e.row (λ row. (e.position ≡ row_pos e.position.prefix) × IsRowOf schema e.position.prefix row × IsRow row)

-- each entry of a version is one of the schema, and so is its static row
pub record IsVersionUnder (schema : SchemaValue) (v : Version) : Type 0 where
  pub entries : EachEntry (IsEntryUnder schema) v.entries
  pub statics : IfSome v.statics (λ row. IsStaticOf schema row × IsRow row)
