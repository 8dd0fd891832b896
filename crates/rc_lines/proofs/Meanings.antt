-- What a write means, by what is written and by its partition key.
use Rattle.std.proofs.Common.{◌≡◌, ℕ, Bool, true, false, ◌&&◌, List, refl}
use Rattle.std.specs.Prelude.{if◌then◌else◌, Result, Ok, Err}
use Rattle.std.specs.declared.option.Option.{Option}
use Rattle.std.specs.declared.option.Option.TheVariants.{Some, None}
use Rattle.rc_mutation.specs.declared.mutations.Mutation.{Mutation}
use Rattle.rc_schema.specs.SchemaValue.{SchemaValue}
use Rattle.rc_lines.specs.declared.commands.Command.{Command}
use Rattle.rc_lines.specs.declared.commands.Command.TheVariants.{Put}
use Rattle.rc_lines.specs.declared.commands.Refusal.{Refusal}
use Rattle.rc_lines.specs.declared.commands.Refusal.TheVariants.{WrongKey, UnknownColumn, TooLong}
use Rattle.rc_lines.specs.declared.shapes.Change.{Change}
use Rattle.rc_lines.specs.declared.shapes.Shape.TheVariants.{Written}
use Rattle.rc_lines.specs.UnderSchema.{is_partition_key}
use Rattle.rc_lines.specs.calls.ShapeMeaning.{is_wrong_change, is_unknown_change, is_short_change, mutation_of, refusal_of, unless, change_meaning, meaning}

-- what is written, and the key where it is within the limits
abbrev pub told : Result Mutation Refusal → Option (List ℕ) → Result Command Refusal
told (Err refusal) key = Err refusal
told (Ok change) None = Err TooLong
told (Ok change) (Some key) = Ok (Put (record { key = key; change = change }))

cases : (a b s k : Bool) (m : Mutation) (key : List ℕ) →
    unless (if a then Some WrongKey else if b then Some UnknownColumn else if k && s then None else Some TooLong) (Put (record { key = key; change = m }))
    ≡ told (if a then Err WrongKey else if b then Err UnknownColumn else if s then Ok m else Err TooLong) (if k then Some key else None)
cases true b s k m key = refl
cases false true s k m key = refl
cases false false true true m key = refl
cases false false true false m key = refl
cases false false false true m key = refl
cases false false false false m key = refl

pub write_told : (schema : SchemaValue) (key : List ℕ) (change : Change) →
    meaning schema (Written key change) ≡ told (change_meaning schema change) (if is_partition_key key then Some key else None)
unfolding meaning refusal_of change_meaning
write_told schema key change =
    cases (is_wrong_change schema change) (is_unknown_change schema change) (is_short_change schema change) (is_partition_key key) (mutation_of schema change) key
