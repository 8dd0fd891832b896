-- What a line may be refused for, and what it commands before a schema is taken.
use Rattle.std.proofs.Common.{◌≡◌, ◌⊎◌, ℕ, Bool, true, false, inl, inr, List, length, nat_lt, sym, subst, ◌∙◌}
use Rattle.std.specs.Prelude.{if◌then◌else◌, Result, Ok, Err}
use Rattle.std.specs.declared.option.Option.{Option}
use Rattle.std.specs.declared.option.Option.TheVariants.{Some, None}
use Rattle.std.specs.List.{filter_map, slice_get}
use Rattle.std.specs.Option.{option_map_or}
use Rattle.rc_schema.specs.SchemaValue.{SchemaValue}
use Rattle.rc_spelling.specs.Words.{words}
use Rattle.rc_lines.specs.declared.commands.Command.{Command}
use Rattle.rc_lines.specs.declared.commands.Command.TheVariants.{Nothing, SetSchema}
use Rattle.rc_lines.specs.declared.commands.Refusal.{Refusal}
use Rattle.rc_lines.specs.declared.commands.Refusal.TheVariants.{BadLine, NoSchema, WrongKey, UnknownColumn, TooLong}
use Rattle.rc_lines.specs.Forms.{forms}
use Rattle.rc_lines.specs.Grammar.{longest_line, is_comment, schema_said, parse}
use Rattle.rc_lines.specs.UnderSchema.{Saying, need}
use Rattle.rc_lines.specs.calls.ByShape.{shape_meaning, line_meaning, parse_by_shape}
use Rattle.rc_lines.specs.calls.ShapeMeaning.{has_wrong_key, has_unknown_column, is_within, refusal_of, command_of, unless, meaning}
use Rattle.rc_lines.specs.calls.Shapes.{shape_of}
use Rattle.rc_lines.specs.laws.ByShape.{by_shape}

-- What holds of each of these refusals holds of the refusal of a line.
module _ (P : Refusal → Type 0) (bad : P BadLine) (no_schema : P NoSchema) (wrong : P WrongKey) (unknown : P UnknownColumn) (long : P TooLong) where
  cause_is : (key column short : Bool) (refusal : Refusal) → (if key then Some WrongKey else if column then Some UnknownColumn else if short then None else Some TooLong) ≡ Some refusal → P refusal
  cause_is true column short refusal e = let is : WrongKey ≡ refusal = cc in subst P is wrong
  cause_is false true short refusal e = let is : UnknownColumn ≡ refusal = cc in subst P is unknown
  cause_is false false true refusal e = absurd (cc)
  cause_is false false false refusal e = let is : TooLong ≡ refusal = cc in subst P is long

  unless_is : (cause : Option Refusal) (command : Command) (refusal : Refusal) → ((x : Refusal) → cause ≡ Some x → P x) → unless cause command ≡ Err refusal → P refusal
  unless_is None command refusal f e = absurd (cc)
  unless_is (Some cause) command refusal f e = f refusal (cc)

  shape_is : (taken : Option SchemaValue) (line : List ℕ) (refusal : Refusal) → shape_meaning taken (shape_of (words line)) ≡ Err refusal → P refusal
  unfolding meaning refusal_of
  shape_is None line refusal e = elim (shape_of (words line)) as (λ shape. shape_meaning None shape ≡ Err refusal → P refusal) [
    | None ↦ λ n. (let is : BadLine ≡ refusal = cc in subst P is bad)
    | Some shape ↦ λ n. (let is : NoSchema ≡ refusal = cc in subst P is no_schema)
  ] e
  shape_is (Some schema) line refusal e = elim (shape_of (words line)) as (λ shape. shape_meaning (Some schema) shape ≡ Err refusal → P refusal) [
    | None ↦ λ n. (let is : BadLine ≡ refusal = cc in subst P is bad)
    | Some shape ↦ λ n. unless_is (refusal_of schema shape) (command_of schema shape) refusal
        (λ x cause. cause_is (has_wrong_key schema shape) (has_unknown_column schema shape) (is_within schema shape) x cause) n
  ] e

  said_is : (taken : Option SchemaValue) (line : List ℕ) (found : Option SchemaValue) (refusal : Refusal) → line_meaning taken line found ≡ Err refusal → P refusal
  said_is taken line (Some schema) refusal e = absurd (cc)
  said_is taken line None refusal e = shape_is taken line refusal e

  line_is : (much comment : Bool) (later : Result Command Refusal) (refusal : Refusal) → (later ≡ Err refusal → P refusal)
      → (if much then Err BadLine else if comment then Ok Nothing else later) ≡ Err refusal → P refusal
  line_is true comment later refusal f e = let is : BadLine ≡ refusal = cc in subst P is bad
  line_is false true later refusal f e = absurd (cc)
  line_is false false later refusal f e = f e

  shaped_is : (taken : Option SchemaValue) (line : List ℕ) (refusal : Refusal) → parse_by_shape taken line ≡ Err refusal → P refusal
  unfolding parse_by_shape
  shaped_is taken line refusal e = line_is (nat_lt longest_line (length line)) (is_comment line) (line_meaning taken line (schema_said line)) refusal (said_is taken line (schema_said line) refusal) e

  pub of_line : (taken : Option SchemaValue) (line : List ℕ) (refusal : Refusal) → parse taken line ≡ Err refusal → P refusal
  of_line taken line refusal e = shaped_is taken line refusal (sym (by_shape taken line) ∙ e)

-- ---- before a schema is taken

-- what a line can command then
abbrev pub IsEarly : Command → Type 0
IsEarly command = (command ≡ Nothing) ⊎ ((schema : SchemaValue) × (command ≡ SetSchema schema))

-- what a line commands that is neither too long nor a comment
abbrev later : Option SchemaValue → Option SchemaValue → Option Saying → Result Command Refusal
later taken found said = option_map_or (λ schema. Ok (SetSchema schema)) found (need said BadLine (λ saying. need taken NoSchema saying))

later_early : (found : Option SchemaValue) (said : Option Saying) (command : Command) → later None found said ≡ Ok command → IsEarly command
later_early (Some schema) said command e = inr (schema, cc)
later_early None None command e = absurd (cc)
later_early None (Some saying) command e = absurd (cc)

either : (long comment : Bool) (later : Result Command Refusal) (command : Command) → (later ≡ Ok command → IsEarly command)
    → (if long then Err BadLine else if comment then Ok Nothing else later) ≡ Ok command → IsEarly command
either true comment later command f e = absurd (cc)
either false true later command f e = inl (cc)
either false false later command f e = f e

-- it commands nothing, or is a schema line
pub early : (line : List ℕ) (command : Command) → parse None line ≡ Ok command → IsEarly command
unfolding parse
early line command e =
    either (nat_lt longest_line (length line)) (is_comment line) (later None (schema_said line) (slice_get (filter_map (λ form. form (words line)) forms) 0)) command (later_early (schema_said line) (slice_get (filter_map (λ form. form (words line)) forms) 0) command) e

later_alike : (taken found : Option SchemaValue) (said : Option Saying) (schema : SchemaValue) → later None found said ≡ Ok (SetSchema schema) → later taken found said ≡ Ok (SetSchema schema)
later_alike taken (Some other) said schema e = e
later_alike taken None None schema e = absurd (cc)
later_alike taken None (Some saying) schema e = absurd (cc)

alike : (long comment : Bool) (early late : Result Command Refusal) (schema : SchemaValue) → (early ≡ Ok (SetSchema schema) → late ≡ Ok (SetSchema schema))
    → (if long then Err BadLine else if comment then Ok Nothing else early) ≡ Ok (SetSchema schema) → (if long then Err BadLine else if comment then Ok Nothing else late) ≡ Ok (SetSchema schema)
alike true comment early late schema f e = absurd (cc)
alike false true early late schema f e = absurd (cc)
alike false false early late schema f e = f e

-- a schema line is one whatever was taken
pub schema_line : (taken : Option SchemaValue) (line : List ℕ) (schema : SchemaValue) → parse None line ≡ Ok (SetSchema schema) → parse taken line ≡ Ok (SetSchema schema)
unfolding parse
schema_line taken line schema e =
    alike (nat_lt longest_line (length line)) (is_comment line) (later None (schema_said line) (slice_get (filter_map (λ form. form (words line)) forms) 0)) (later taken (schema_said line) (slice_get (filter_map (λ form. form (words line)) forms) 0)) schema
    (later_alike taken (schema_said line) (slice_get (filter_map (λ form. form (words line)) forms) 0) schema) e
