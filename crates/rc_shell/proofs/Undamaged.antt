-- Where the store tells its files, no text tells a damaged table.
use Rattle.std.proofs.Common.{◌≡◌, inl, inr, ℕ, ◌==◌, nat_lt, Bool, true, false, List, [], ◌∷◌, length, Option, Some, None, Result, Ok, Err, MatchBool, MatchOption, refl, sym, ap, subst, ◌∙◌, arith}
use Rattle.std.specs.Prelude.{All, option_map, ⊤}
use Rattle.std.proofs.lemmas.List.Elements.{All-cons}
use Rattle.rc_outside.specs.Files.{Files}
use Rattle.rc_position.specs.declared.slices.Slice.{Slice}
use Rattle.rc_schema.specs.SchemaValue.{SchemaValue}
use Rattle.rc_query.specs.declared.lines.OutLine.TheVariants.{Static, Row}
use Rattle.rc_lines.specs.declared.commands.Command.{Command}
use Rattle.rc_lines.specs.declared.commands.Command.TheVariants.{Nothing as nothing, SetSchema, Put, OpenRead, Read, Close, Flush, FlushBegin, FlushStep, Evict, Compact, Clean, Stats as stats}
use Rattle.rc_lines.specs.declared.commands.Refusal.{Refusal}
use Rattle.rc_lines.specs.declared.commands.Refusal.TheVariants.{BadLine, NoSchema, SchemaDiffers, WrongKey, UnknownColumn, TooLong, NoReader, ReaderInUse, TooManyReaders, FlushInProgress, NothingToFlush, NoFlush, Full, ReadFault, WriteFault, Damaged, NoNumber}
use Rattle.rc_lines.specs.declared.commands.Reply.{Reply}
use Rattle.rc_lines.specs.declared.commands.Reply.TheVariants.{Nothing, Fine, Given, Going, Done, Stats, Refused}
use Rattle.rc_lines.specs.Grammar.{parse}
use Rattle.rc_lines.specs.Texts.{reply_text, refusal_text, figures_text}
use Rattle.rc_machine.specs.State.{State, Reader, numbers, reader_of}
use Rattle.rc_machine.specs.Steps.{Steps, Opens, Gives, Stores, Refuses, next_number, without_sealed}
use Rattle.rc_machine.specs.laws.Changes.{Change, Reads, Writes, Seals, Begins, Stored, Goes, Ends, change_of}
use Rattle.rc_shell.specs.Run.{AnswersLines}
use Rattle.rc_shell.specs.Step.{Moment, Stage, Waiting, Serving, LineStep, StageStep, files_of, meaning_at}
use Rattle.rc_shell.specs.Holding.{tells_damage}
use Rattle.rc_shell.proofs.Served.{served_is}
use Rattle.rc_lines.specs.laws.Refusals.{of_line}

-- the reply tells no damaged table
abbrev IsSound : Reply → Type 0
IsSound (Refused (Damaged file offset)) = ⊥
IsSound reply = ⊤

sound_text : (schema : SchemaValue) (reply : Reply) → IsSound reply → tells_damage (reply_text schema reply) ≡ false
unfolding reply_text figures_text
sound_text schema Nothing s = refl
sound_text schema Fine s = refl
sound_text schema (Given [] true) s = refl
sound_text schema (Given [] false) s = refl
sound_text schema (Given (Static shown ∷ lines) more) s = refl
sound_text schema (Given (Row key shown ∷ lines) more) s = refl
sound_text schema Going s = refl
sound_text schema Done s = refl
sound_text schema (Stats figures) s = refl
sound_text schema (Refused BadLine) s = refl
sound_text schema (Refused NoSchema) s = refl
sound_text schema (Refused SchemaDiffers) s = refl
sound_text schema (Refused WrongKey) s = refl
sound_text schema (Refused UnknownColumn) s = refl
sound_text schema (Refused TooLong) s = refl
sound_text schema (Refused NoReader) s = refl
sound_text schema (Refused ReaderInUse) s = refl
sound_text schema (Refused TooManyReaders) s = refl
sound_text schema (Refused FlushInProgress) s = refl
sound_text schema (Refused NothingToFlush) s = refl
sound_text schema (Refused NoFlush) s = refl
sound_text schema (Refused Full) s = refl
sound_text schema (Refused ReadFault) s = refl
sound_text schema (Refused WriteFault) s = refl
sound_text schema (Refused (Damaged file offset)) s = absurd s
sound_text schema (Refused NoNumber) s = refl

-- a line is refused for nothing that tells a damaged table
sound_refusal : (taken : Option SchemaValue) (line : List ℕ) (refusal : Refusal) → parse taken line ≡ Err refusal → tells_damage (refusal_text refusal) ≡ false
sound_refusal = of_line (λ refusal. tells_damage (refusal_text refusal) ≡ false) refl refl refl refl refl

module _ (m : State) (files : Files) (told : m.files ≡ Some files) (reply : Reply) (new : State) where
  is : (other : Reply) → IsSound other → reply ≡ other → IsSound reply
  is other s e = subst IsSound (sym e) s

  not_told : m.files ≡ None → ⊥
  not_told e = let clash : Some files ≡ None = sym told ∙ e in cc

  opens : (id : ℕ) (key : List ℕ) (slice : Slice) → Opens m id key slice reply new → IsSound reply
  opens id key slice (inl s) = is Fine tt s.2.0
  opens id key slice (inr (inl s)) = is (Refused ReadFault) tt s.0
  opens id key slice (inr (inr s)) = absurd (not_told s.2)

  tries : (id : ℕ) (key : List ℕ) (slice : Slice) (r : Option Reader) (b : Bool)
      → MatchOption r (MatchBool b (Opens m id key slice reply new) (Refuses m TooManyReaders reply new)) (λ _. Refuses m ReaderInUse reply new) → IsSound reply
  tries id key slice None true s = opens id key slice s
  tries id key slice None false s = is (Refused TooManyReaders) tt s.0
  tries id key slice (Some r) b s = is (Refused ReaderInUse) tt s.0

  gives : (id count : ℕ) (r : Reader) → Gives m id count r reply new → IsSound reply
  gives id count r (inl s) = is (Given _ _) tt s.2.0
  gives id count r (inr (inl s)) = is (Refused ReadFault) tt s.0
  gives id count r (inr (inr s)) = absurd (not_told s.2)

  reads : (id count : ℕ) (r : Option Reader) → MatchOption r (Refuses m NoReader reply new) (λ r. Gives m id count r reply new) → IsSound reply
  reads id count None s = is (Refused NoReader) tt s.0
  reads id count (Some r) s = gives id count r s

  closes : (next : State) (r : Option Reader) → MatchOption r (Refuses m NoReader reply new) (λ _. (reply ≡ Fine) × (new ≡ next)) → IsSound reply
  closes next None s = is (Refused NoReader) tt s.0
  closes next (Some r) s = is Fine tt s.0

  stores : (on : State → State) → Stores m on reply new → IsSound reply
  stores on (inl s) = is Fine tt s.2.0
  stores on (inr s) = is (Refused WriteFault) tt s.0

  flushes : (on : State → State) (a b c : Bool)
      → MatchBool a (Refuses m FlushInProgress reply new) (MatchBool b (Refuses m NothingToFlush reply new) (MatchBool c (Refuses m NoNumber reply new) (Stores m on reply new))) → IsSound reply
  flushes on true b c s = is (Refused FlushInProgress) tt s.0
  flushes on false true c s = is (Refused NothingToFlush) tt s.0
  flushes on false false true s = is (Refused NoNumber) tt s.0
  flushes on false false false s = stores on s

  steps : (a b : Bool) (going done : State) → MatchBool a (MatchBool b ((reply ≡ Going) × (new ≡ going)) ((reply ≡ Done) × (new ≡ done))) (Refuses m NoFlush reply new) → IsSound reply
  steps true true going done s = is Going tt s.0
  steps true false going done s = is Done tt s.0
  steps false b going done s = is (Refused NoFlush) tt s.0

  sound_step : (command : Command) → Steps m command reply new → IsSound reply
  sound_step nothing s = is Nothing tt s.0
  sound_step (SetSchema schema) (inl s) = is Fine tt s.1.0
  sound_step (SetSchema schema) (inr s) = is (Refused SchemaDiffers) tt s.1.0
  sound_step (Put w) (inl s) = is Fine tt s.0
  sound_step (Put w) (inr s) = is (Refused Full) tt s.1.0
  sound_step (OpenRead id key slice) s = tries id key slice (reader_of id m) (nat_lt (length m.readers) 64) s
  sound_step (Read id count) s = reads id count (reader_of id m) s
  sound_step (Close id) s = closes _ (reader_of id m) s
  sound_step Flush s = flushes without_sealed m.written (m.stored == length m.log) (nat_lt 4294967295 (next_number (numbers m.tables))) s
  sound_step FlushBegin s = flushes (λ next. next) m.written (m.stored == length m.log) (nat_lt 4294967295 (next_number (numbers m.tables))) s
  sound_step (FlushStep count) s = steps m.written (nat_lt count m.left) _ _ s
  sound_step (Evict count) s = is Fine tt s.0
  sound_step (Compact count) s = is Fine tt s.0
  sound_step (Clean count) s = is Fine tt s.0
  sound_step stats s = is (Stats s.0) tt s.2

-- files that are told stay so
abbrev IsTold : Option Files → Type 0
IsTold files = (f : Files) × (files ≡ Some f)

told_insert : (files : Option Files) (put : Files → Files) → IsTold files → IsTold (option_map put files)
told_insert files put t = (put t.0, ap (option_map put) t.1)

told_on : (m : State) (command : Command) (reply : Reply) (new : State) → IsTold m.files → Change m command reply new → IsTold new.files
told_on m command reply new t (Reads readers e none) = subst (λ (x : State). IsTold x.files) (sym e) t
told_on m command reply new t (Writes w e some) = subst (λ (x : State). IsTold x.files) (sym e) t
told_on m command reply new t (Seals idle e none) = subst (λ (x : State). IsTold x.files) (sym e) t
told_on m command reply new t (Begins parts is idle e none) = subst (λ (x : State). IsTold x.files) (sym e) (told_insert m.files _ t)
told_on m command reply new t (Stored parts is idle e none) = subst (λ (x : State). IsTold x.files) (sym e) (told_insert m.files _ t)
told_on m command reply new t (Goes left e none) = subst (λ (x : State). IsTold x.files) (sym e) t
told_on m command reply new t (Ends written e none) = subst (λ (x : State). IsTold x.files) (sym e) t

-- a line is answered by no text that tells a damaged table, and the files are told then
abbrev IsSoundly : List ℕ → Stage → Type 0
IsSoundly text stage = (tells_damage text ≡ false) × IsTold (files_of stage)

soundly : (text other : List ℕ) (stage next : Stage) → text ≡ other → stage ≡ next → tells_damage other ≡ false → IsTold (files_of next) → IsSoundly text stage
soundly text other stage next e f sound told = (ap tells_damage e ∙ sound, subst (λ st. IsTold (files_of st)) (sym f) told)

opened_soundly : (segments : ℕ) (files : Option Files) (meaning : Result Command Refusal) (answer : Option Reply) (text : List ℕ) (new : Stage) → IsTold files → ((refusal : Refusal) → meaning ≡ Err refusal → tells_damage (refusal_text refusal) ≡ false)
    → StageStep segments (Waiting files) meaning answer text new → IsSoundly text new
opened_soundly segments files (Ok nothing) answer text new t sound s = soundly text [] new (Waiting files) s.0 s.1 refl t
opened_soundly segments files (Ok (SetSchema schema)) answer text new t sound s = soundly text (reply_text schema Fine) new _ s.4 s.5 (sound_text schema Fine tt) t
opened_soundly segments files (Err refusal) answer text new t sound s = soundly text (refusal_text refusal) new (Waiting files) s.0 s.1 (sound refusal refl) t
opened_soundly segments files (Ok command) answer text new t sound s = absurd s

taken_soundly : (segments : ℕ) (m : State) (meaning : Result Command Refusal) (answer : Option Reply) (text : List ℕ) (new : Stage) → IsTold m.files → ((refusal : Refusal) → meaning ≡ Err refusal → tells_damage (refusal_text refusal) ≡ false)
    → StageStep segments (Serving m) meaning answer text new → IsSoundly text new
taken_soundly segments m (Ok command) (Some reply) text new t sound s =
    soundly text (reply_text m.schema reply) new (Serving s.0) s.2 s.3 (sound_text m.schema reply (sound_step m t.0 t.1 reply s.0 command s.1)) (told_on m command reply s.0 t (change_of m command reply s.0 s.1))
taken_soundly segments m (Ok command) None text new t sound s = absurd s
taken_soundly segments m (Err refusal) answer text new t sound s = soundly text (refusal_text refusal) new (Serving m) s.0 s.1 (sound refusal refl) t

staged_soundly : (segments : ℕ) (stage : Stage) (line : List ℕ) (answer : Option Reply) (text : List ℕ) (new : Stage) → IsTold (files_of stage) → StageStep segments stage (meaning_at stage line) answer text new → IsSoundly text new
staged_soundly segments (Waiting files) line answer text new t s =
    opened_soundly segments files (meaning_at (Waiting files) line) answer text new t (λ refusal e. served_is (λ r. tells_damage (refusal_text r) ≡ false) refl (parse None line) (sound_refusal None line) refusal e) s
staged_soundly segments (Serving m) line answer text new t s =
    taken_soundly segments m (meaning_at (Serving m) line) answer text new t (λ refusal e. served_is (λ r. tells_damage (refusal_text r) ≡ false) refl (parse (Some m.schema) line) (sound_refusal (Some m.schema) line) refusal e) s

pub undamaged : (old new : Moment) (lines texts : List (List ℕ)) → IsTold (files_of old.stage) → AnswersLines LineStep old lines texts new → All (λ text. tells_damage text ≡ false) texts
undamaged old new [] [] t a = λ k d l. absurd (omega arith)
undamaged old new (line ∷ lines) (text ∷ texts) t a =
    let s = staged_soundly old.segments old.stage line a.1.reply text a.0.stage t a.1.stage in
    All-cons (λ text. tells_damage text ≡ false) text texts s.0 (undamaged a.0 new lines texts s.1 a.2)
undamaged old new [] (text ∷ texts) t a = absurd a
undamaged old new (line ∷ lines) [] t a = absurd a
