-- What a line commands, by the shape of its words: the same as by its form.
use Rattle.std.specs.Prelude.{ℕ, nat_lt, List, length, Option, Some, None, Result, Ok, Err, if◌then◌else◌}
use Rattle.rc_schema.specs.SchemaValue.{SchemaValue}
use Rattle.rc_spelling.specs.Words.{words}
use Rattle.rc_lines.specs.declared.commands.Command.{Command}
use Rattle.rc_lines.specs.declared.commands.Command.TheVariants.{Nothing, SetSchema}
use Rattle.rc_lines.specs.declared.commands.Refusal.{Refusal}
use Rattle.rc_lines.specs.declared.commands.Refusal.TheVariants.{BadLine, NoSchema}
use Rattle.rc_lines.specs.declared.shapes.Shape.{Shape}
use Rattle.rc_lines.specs.calls.Shapes.{shape_of}
use Rattle.rc_lines.specs.calls.ShapeMeaning.{meaning}
use Rattle.rc_lines.specs.Grammar.{longest_line, is_comment, schema_said}

-- what a line of a shape, or of none, commands under a schema, or under none
abbrev pub shape_meaning : Option SchemaValue → Option Shape → Result Command Refusal
shape_meaning taken None = Err BadLine
shape_meaning None (Some shape) = Err NoSchema
shape_meaning (Some schema) (Some shape) = meaning schema shape

-- what a line commands that is neither too long nor a comment
abbrev pub line_meaning : Option SchemaValue → List ℕ → Option SchemaValue → Result Command Refusal
line_meaning taken line (Some schema) = Ok (SetSchema schema)
line_meaning taken line None = shape_meaning taken (shape_of (words line))

-- what a line commands under the schema that was taken, if one was, or why it is refused
unfoldable pub parse_by_shape : Option SchemaValue → List ℕ → Result Command Refusal
parse_by_shape taken line =
    if nat_lt longest_line (length line) then Err BadLine
    else if is_comment line then Ok Nothing
    else line_meaning taken line (schema_said line)
