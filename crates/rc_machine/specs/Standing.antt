-- What every server of the machine keeps, whatever else it has: the schema, and what is known of the folder's tables.
use Rattle.std.specs.Prelude.{◌≡◌, ◌≤◌, List, length, Option, All}
use Rattle.rc_outside.specs.Files.{Files}
use Rattle.rc_schema.specs.SchemaValue.{SchemaValue}
use Rattle.rc_tfile.specs.declared.info.TableInfo.{TableInfo}
use Rattle.rc_lines.specs.Fits.{CommandFits}
use Rattle.rc_lines.specs.declared.commands.Command.TheVariants.{Put}
use Rattle.rc_machine.specs.State.{State}
use Rattle.rc_machine.specs.Tables.{AreTables, AreListed}

-- The state is one of this schema over a store with these files, of whose tables so much is known: they are the folder's; the writes fit
-- the schema; what stands in tables is sealed, and what is sealed is written.
pub record IsOver (told : Option Files) (lists : SchemaValue) (directories : List TableInfo) (m : State) : Type 0 where
  pub schema : m.schema ≡ lists
  pub files : m.files ≡ told
  pub infos : m.infos ≡ directories
  pub tables : AreTables m.files m.schema m.tables
  pub listed : AreListed m.files m.schema m.tables m.infos
  pub stored : m.stored ≤ m.sealed
  pub sealed : m.sealed ≤ length m.log
  pub fit : All (λ w. CommandFits m.schema (Put w)) m.log
