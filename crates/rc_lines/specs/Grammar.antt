-- What a line commands.
use Rattle.std.specs.Prelude.{ℕ, Bool, true, ◌==◌, nat_lt, List, [], ◌∷◌, length, codes, Option, Result, Ok, Err, ⊤, ◌≡◌, if◌then◌else◌, option_and_then}
use Rattle.std.specs.List.{filter_map, slice_get}
use Rattle.std.specs.Option.{option_map_or}
use Rattle.rc_schema.specs.SchemaValue.{SchemaValue}
use Rattle.rc_schema.specs.SchemaText.{schema_of}
use Rattle.rc_spelling.specs.Words.{words}
use Rattle.rc_lines.specs.declared.commands.Command.{Command}
use Rattle.rc_lines.specs.declared.commands.Command.TheVariants.{Nothing, SetSchema}
use Rattle.rc_lines.specs.declared.commands.Refusal.{Refusal}
use Rattle.rc_lines.specs.declared.commands.Refusal.TheVariants.{BadLine, NoSchema}
use Rattle.rc_lines.specs.declared.commands.LineErr.{LineErr}
use Rattle.rc_lines.specs.declared.commands.LineErr.TheVariants as errors
use Rattle.rc_lines.specs.Forms.{forms}
use Rattle.rc_lines.specs.Parts.{without_front}
use Rattle.rc_lines.specs.UnderSchema.{need}

-- the longest line, in bytes, without its newline
abbrev pub longest_line : ℕ
longest_line = 65536

-- whether a line is empty or a comment
abbrev pub is_comment : List ℕ → Bool
is_comment [] = true
is_comment (first ∷ rest) = first == 35

-- the schema of a schema line, `schema TEXT`
unfoldable pub schema_said : List ℕ → Option SchemaValue
schema_said line = option_and_then schema_of (without_front (codes "schema ") line)

-- what a line commands under the schema that was taken, if one was, or why it is refused: one that is too long is bad, and one that is no schema line, empty or a comment is bad where its words
-- have none of the forms, and else needs a schema, under which it says what the first of them says that they have
unfoldable pub parse : Option SchemaValue → List ℕ → Result Command Refusal
parse taken line =
    if nat_lt longest_line (length line) then Err BadLine
    else if is_comment line then Ok Nothing
    else option_map_or (λ schema. Ok (SetSchema schema)) (schema_said line) (need (slice_get (filter_map (λ form. form (words line)) forms) 0) BadLine (λ saying. need taken NoSchema saying))

-- what reading a line gave is its meaning, unless memory ran out
abbrev pub ReadsLine : Result Command LineErr → Result Command Refusal → Type 0
ReadsLine (Ok command) meaning = meaning ≡ Ok command
ReadsLine (Err (errors.Refused refusal)) meaning = meaning ≡ Err refusal
ReadsLine (Err errors.NoMemory) meaning = ⊤
