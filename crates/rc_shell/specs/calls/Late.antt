-- The schema that a command sets.
use Rattle.std.specs.Prelude.{Option, Some, None}
use Rattle.rc_schema.specs.SchemaValue.{SchemaValue}
use Rattle.rc_lines.specs.declared.commands.Command.{Command}
use Rattle.rc_lines.specs.declared.commands.Command.TheVariants.{SetSchema}

-- the schema of a schema line
abbrev pub schema_set : Command → Option SchemaValue
schema_set (SetSchema schema) = Some schema
schema_set command = None
