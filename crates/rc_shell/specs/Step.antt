-- One line: its meaning, what it does at each stage of a run, and its text.
--     Statistics, told_after    what `stats` lines go by, and what a line adds to it
--     Moment              what holds between two lines
--     LineStep            what a line is answered, and the next moment
--     EndsRun                the lines that end the run
use Rattle.std.specs.Prelude.{◌≡◌, ℕ, ◌+◌, ◌-◌, ◌*◌, ◌^◌, ◌≤◌, ◌||◌, ◌&&◌, Bool, not, List, [], ◌++◌, length, Option, Some, None, Result, Ok, Err, IfSome, IsTrue, codes, decimal, min, nat_eq, if◌then◌else◌}
use Rattle.std.specs.Option.{option_map_or, option_or}
use Rattle.std.specs.FinMap as map
use Rattle.rc_outside.specs.Faults.{Rose}
use Rattle.rc_outside.specs.Files.{Files}
use Rattle.rc_tfile.specs.declared.info.TableInfo.{TableInfo}
use Rattle.rc_lines.specs.declared.commands.Command.{Command}
use Rattle.rc_lines.specs.declared.commands.Command.TheVariants.{Nothing, SetSchema}
use Rattle.rc_lines.specs.declared.commands.Figures.{Figures}
use Rattle.rc_lines.specs.declared.commands.Refusal.{Refusal}
use Rattle.rc_lines.specs.declared.commands.Refusal.TheVariants.{ReadFault, WriteFault}
use Rattle.rc_lines.specs.declared.commands.Reply.{Reply}
use Rattle.rc_lines.specs.declared.commands.Reply.TheVariants.{Fine}
use Rattle.rc_lines.specs.Grammar.{parse}
use Rattle.rc_folder.specs.Counting.{NoneFell, figures_in, is_answered}
use Rattle.rc_spelling.specs.Words.{is_word}
use Rattle.rc_lines.specs.Texts.{reply_text, refusal_text}
use Rattle.rc_machine.specs.Built.{served_meaning}
use Rattle.rc_machine.specs.State.{State, Table, opened_state}
use Rattle.rc_machine.specs.Serving.{most_asks, checks_of}
use Rattle.rc_machine.specs.Steps.{Steps}
use Rattle.rc_machine.specs.Tables.{AreTables, AreListed, IsFirstBad}
use Rattle.rc_shell.specs.Words.{segments_of}
use Rattle.rc_shell.specs.declared.words.Words.{Words}
use Rattle.rc_shell.specs.declared.status.Status.{Status}
use Rattle.rc_shell.specs.declared.status.Status.TheVariants.{BadTable, StoreFault}

-- the stage of a run: before a schema line was taken, over a store with these files; then the machine serves
pub data Stage : Type 0 where
  Waiting : Option Files → Stage
  Serving : State → Stage

-- what `stats` lines go by: how many ranges the store had been asked for when the machine was opened; how many `open` and `read` lines were answered
-- for which it was asked for none, and for how many for some; and the figures that were told last
pub record Statistics : Type 0 where
  pub opened : ℕ
  pub hits : ℕ
  pub misses : ℕ
  pub last : Option Figures

-- before any was answered, of a machine that was opened when the store had been asked for so many
abbrev pub nothing_told : ℕ → Statistics
nothing_told opened = record { opened = opened; hits = 0; misses = 0; last = None }

-- a moment of a run: its stage; the budget, in segments; the store's count of faults, and how many ranges it was asked for; at most how many the
-- lines so far may have asked for; and what `stats` lines go by
pub record Moment : Type 0 where
  pub stage : Stage
  pub segments : ℕ
  pub faults : ℕ
  pub asks : ℕ
  pub bound : ℕ
  pub told : Statistics

-- what is seen of a store: its files, where it tells them, its count of faults, and how many ranges it was asked for
abbrev pub StoreView : Type 0
StoreView = Option Files × ℕ × ℕ

-- a run begins over a store, by its words
abbrev pub start_moment : Words → StoreView → Moment
start_moment words store = record { stage = Waiting store.0; segments = segments_of words; faults = store.1; asks = store.2; bound = 0; told = nothing_told store.2 }

-- the files of the store at a stage
abbrev pub files_of : Stage → Option Files
files_of (Waiting files) = files
files_of (Serving m) = m.files

-- At most so many ranges were asked for since a moment at this stage: as many as one more line may ask for, which was not answered. Before a
-- schema line was taken these are the check of each file, where they are told, and then two for each table.
abbrev pub MayHaveAsked : Stage → ℕ → ℕ → Type 0
MayHaveAsked (Waiting files) before now = IfSome files (λ told. now ≤ before + checks_of (map.values told))
MayHaveAsked (Serving m) before now = now ≤ before + 2 * length m.infos

-- at this moment the store has the stage's files; its count of faults may rise still, and so may what is asked for, by one more line's
abbrev pub LeavesStore : Moment → StoreView → Type 0
LeavesStore now store = (store.0 ≡ files_of now.stage) × (now.faults ≤ store.1) × MayHaveAsked now.stage now.asks store.2

-- what a line means at a stage: under the schema that was taken, if one was
abbrev pub meaning_at : Stage → List ℕ → Result Command Refusal
meaning_at (Waiting files) line = served_meaning (parse None line)
meaning_at (Serving m) line = served_meaning (parse (Some m.schema) line)

-- What a line does at a stage, by its meaning. Before a schema line was taken a schema line opens the machine over the folder's tables; then a
-- command takes a step of the machine, with this reply. A refused line changes nothing.
abbrev pub StageStep : ℕ → Stage → Result Command Refusal → Option Reply → List ℕ → Stage → Type 0
StageStep segments (Waiting files) (Ok Nothing) reply text new = (text ≡ []) × (new ≡ Waiting files) × (reply ≡ None)
StageStep segments (Waiting files) (Ok (SetSchema schema)) reply text new =
    (tables : List Table) × (infos : List TableInfo) × AreTables files schema tables × AreListed files schema tables infos × (text ≡ reply_text schema Fine) × (new ≡ Serving (opened_state segments files schema tables infos)) × (reply ≡ None)
StageStep segments (Serving m) (Ok command) (Some reply) text new = (next : State) × Steps m command reply next × (text ≡ reply_text m.schema reply) × (new ≡ Serving next)
StageStep segments stage (Ok command) reply text new = ⊥
StageStep segments stage (Err refusal) reply text new = (text ≡ refusal_text refusal) × (new ≡ stage) × (reply ≡ None)

-- At most so many ranges may be asked for by a line, by its meaning: before a schema line was taken by the check of each file, where they
-- are told, and by as many as it takes where they are not; then by what its command may ask for: an open, and a read of an open reader.
abbrev pub MayAsk : Stage → Result Command Refusal → ℕ → Type 0
MayAsk (Waiting files) (Ok (SetSchema schema)) bound = IfSome files (λ told. bound ≡ checks_of (map.values told))
MayAsk (Serving m) (Ok command) bound = bound ≡ most_asks m command
MayAsk stage meaning bound = bound ≡ 0

-- What `stats` lines go by after a line, by its meaning and the machine's reply, where the store had been asked for so many ranges before and after it:
-- a schema line that opens the machine begins anew, and an answer is counted by whether it asked for any.
abbrev pub told_after : Stage → Result Command Refusal → Option Reply → ℕ → ℕ → Statistics → Statistics
told_after (Waiting files) (Ok (SetSchema schema)) reply before after told = nothing_told after
told_after (Serving m) (Ok command) (Some reply) before after told =
    record told { hits = if is_answered command reply && nat_eq before after then told.hits + 1 else told.hits; misses = if is_answered command reply && not (nat_eq before after) then told.misses + 1 else told.misses; last = option_or (figures_in command reply) told.last }
told_after stage meaning reply before after told = told

-- These figures may be told where the store was asked for so many ranges: the answers that were counted, each count up to the greatest that it has;
-- the ranges that were asked for since the machine was opened; and no counter is less than it was when figures were told last.
pub record MayBeTold (asked : ℕ) (told : Statistics) (figures : Figures) : Type 0 where
  pub hits : figures.hits ≡ min told.hits (2 ^ 64 - 1)
  pub misses : figures.misses ≡ min told.misses (2 ^ 64 - 1)
  pub asks : figures.asks ≡ asked - told.opened
  pub none_fell : IfSome told.last (λ last. NoneFell last figures)

-- whether a reply's text tells a fault of the store
abbrev pub tells_fault : List ℕ → Bool
tells_fault text = is_word text (refusal_text ReadFault) || is_word text (refusal_text WriteFault)

-- From old the line may be answered by the text, and new is next. The store's count of faults does not fall, and rose where the text tells a fault;
-- at most as many ranges were asked for as the line may ask for, which are added to the bound so far; and figures that it tells are those that may be told.
pub record LineStep (old : Moment) (line text : List ℕ) (new : Moment) : Type 0 where
  pub reply : Option Reply
  pub stage : StageStep old.segments old.stage (meaning_at old.stage line) reply text new.stage
  pub counts : (old.faults ≤ new.faults) × (IsTrue (tells_fault text) → Rose old.faults new.faults)
  pub asks : (bound : ℕ) × MayAsk old.stage (meaning_at old.stage line) bound × (new.bound ≡ old.bound + bound) × (new.asks ≤ old.asks + bound)
  pub segments : new.segments ≡ old.segments
  pub told : new.told ≡ told_after old.stage (meaning_at old.stage line) reply old.asks new.asks old.told
  pub figures : (command : Command) (answer : Reply) → meaning_at old.stage line ≡ Ok command → reply ≡ Some answer → IfSome (figures_in command answer) (MayBeTold old.asks old.told)

-- the last line where a table is bad: it is damaged at an offset, or has another schema
unfoldable pub bad_table : ℕ → Option ℕ → List ℕ
bad_table n damage = codes "! table " ++ decimal n ++ option_map_or (λ offset. codes " damaged at " ++ decimal offset) damage (codes " other schema") ++ codes "\n"

-- A line ends the run with a status and a last line, by its stage and meaning and the counts of faults: the first schema line, where the machine is not
-- opened over the folder, for its first bad table, where the files are told; or for a fault of the store.
abbrev pub EndsRunAt : Stage → Result Command Refusal → Status → List ℕ → ℕ → ℕ → Type 0
EndsRunAt (Waiting files) (Ok (SetSchema schema)) BadTable last before now = (n : ℕ) × (damage : Option ℕ) × IfSome files (λ told. IsFirstBad told schema n damage) × (last ≡ bad_table n damage)
EndsRunAt (Waiting files) (Ok (SetSchema schema)) StoreFault last before now = (last ≡ codes "! store fault\n") × Rose before now
EndsRunAt stage meaning status last before now = ⊥

-- at this moment the line ends the run with a status and a last line, and leaves the store so
abbrev pub EndsRun : Moment → List ℕ → Status → List ℕ → StoreView → Type 0
EndsRun old line status last store = LeavesStore old store × EndsRunAt old.stage (meaning_at old.stage line) status last old.faults store.1
