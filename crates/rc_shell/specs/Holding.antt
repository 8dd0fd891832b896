-- What a run comes to, in words of its lines and of the files that it leaves.
--     OfLines          the lines that were answered, their texts, and the moment behind them
--     HoldsFlushed     the files after are those before and the tables that were flushed, which hold accepted writes
--     tells_damage     whether a text tells a damaged table
--     IsWithinBounds        what figures tell over so many lines
use Rattle.std.specs.Prelude.{◌≡◌, ◌⊎◌, ℕ, ◌+◌, ◌-◌, ◌^◌, ◌≤◌, min, Bool, List, [], ◌∷◌, ◌++◌, take, All, Some, Result, Ok, codes, count_by, if◌then◌else◌}
use Rattle.std.specs.List.{concat}
use Rattle.std.specs.FinMap as map
use Rattle.rc_outside.specs.Files.{Files}
use Rattle.rc_schema.specs.SchemaValue.{SchemaValue}
use Rattle.rc_mutation.specs.declared.mutations.Partition.{Partition}
use Rattle.rc_mutation.specs.declared.mutations.Write.{Write}
use Rattle.rc_mutation.specs.Fragments.{IsParts}
use Rattle.rc_tfile.specs.TableText.{IsTable}
use Rattle.rc_lines.specs.declared.commands.Command.{Command}
use Rattle.rc_lines.specs.declared.commands.Command.TheVariants.{Put}
use Rattle.rc_lines.specs.declared.commands.Figures.{Figures}
use Rattle.rc_lines.specs.declared.commands.Refusal.{Refusal}
use Rattle.rc_lines.specs.Grammar.{parse}
use Rattle.rc_spelling.specs.Words.{is_word}
use Rattle.rc_machine.specs.Flushed.{Flush, IsFlushOf, tables_of, writes_of, files_with}
use Rattle.rc_shell.specs.Lines.{BeginsWithLines, last_line}
use Rattle.rc_shell.specs.Run.{AnswersLines, IsNear}
use Rattle.rc_shell.specs.Step.{Moment, StoreView, LineStep, LeavesStore, start_moment, tells_fault}
use Rattle.rc_shell.specs.declared.status.Status.{Status}
use Rattle.rc_shell.specs.declared.status.Status.TheVariants.{StoreFault}
use Rattle.rc_shell.specs.declared.words.Words.{Words}

-- these are the first lines of the bytes: whole ones, with at most a piece of the bytes behind the next one; or all of them, the last without a
-- newline
abbrev pub AreFirstLines : List ℕ → List (List ℕ) → Type 0
AreFirstLines bytes lines = (whole : List (List ℕ)) × (more : List ℕ) × BeginsWithLines bytes whole more × IsNear more × ((lines ≡ whole) ⊎ (lines ≡ whole ++ last_line more))

-- the faults of the store that a status tells
abbrev pub fault_of : Status → ℕ
fault_of StoreFault = 1
fault_of status = 0

-- A run answered these first lines of the bytes that it took, one after another, and what it wrote are their texts and perhaps a last line, up to
-- where the output failed; the store is left as the moment behind them says; and each fault that was told has a rise of its own.
pub record OfLines (words : Words) (before after : StoreView) (status : Status) (taken written : List ℕ) : Type 0 where
  pub lines : List (List ℕ)
  pub texts : List (List ℕ)
  pub last : List ℕ
  pub unwritten : List ℕ
  pub end : Moment
  pub first : AreFirstLines taken lines
  pub answered : AnswersLines LineStep (start_moment words before) lines texts end
  pub told : written ++ unwritten ≡ concat texts ++ last
  pub leaves : LeavesStore end after
  pub faults : min (before.1 + (count_by tells_fault texts + fault_of status)) (2 ^ 64 - 1) ≤ after.1

-- Figures that were told over so many lines, in a run of a budget of segments, whose lines may have asked for so many ranges: their segments are the
-- budget together, there are no more answers than lines, and no more was asked for.
pub record IsWithinBounds (lines segments bound : ℕ) (figures : Figures) : Type 0 where
  pub budget : figures.segments + figures.free ≡ segments
  pub answers : figures.hits + figures.misses ≤ lines
  pub asks : figures.asks ≤ bound

-- whether a text tells a damaged table
abbrev pub tells_damage : List ℕ → Bool
tells_damage text = is_word (take 10 text) (codes "? damaged ")

-- the write of a line under a schema, where its text says that it was accepted
abbrev pub write_accepted : Result Command Refusal → List ℕ → List Write
write_accepted (Ok (Put w)) text = if is_word text (codes "ok\n") then w ∷ [] else []
write_accepted meaning text = []

-- the accepted writes of lines, in order, by their texts
abbrev pub accepted_writes : SchemaValue → List (List ℕ) → List (List ℕ) → List Write
accepted_writes schema (line ∷ lines) (text ∷ texts) = write_accepted (parse (Some schema) line) text ++ accepted_writes schema lines texts
accepted_writes schema lines texts = []

-- some writes are a run of others
abbrev pub IsRunOf : List Write → List Write → Type 0
IsRunOf writes all = (before : List Write) × (behind : List Write) × (all ≡ before ++ (writes ++ behind))

-- the bytes are the text of a table of the schema that holds the parts of a run of these writes
pub record IsFlushedFile (schema : SchemaValue) (all : List Write) (bytes : List ℕ) : Type 0 where
  pub parts : List Partition
  pub writes : List Write
  pub is_table : IsTable bytes schema parts
  pub of_writes : IsParts parts writes
  pub run : IsRunOf writes all

-- What the files are after lines that were answered so: those before, and one for each flush, which is the text of a table of the schema. The tables
-- hold the first of the accepted writes, one run of them behind another.
pub record HoldsFlushed (lines texts : List (List ℕ)) (before after : Files) : Type 0 where
  pub schema : SchemaValue
  pub flushes : List Flush
  pub stored : ℕ
  pub each : All (IsFlushOf schema) flushes
  pub files : after ≡ files_with schema before (tables_of flushes)
  pub writes : writes_of flushes ≡ take stored (accepted_writes schema lines texts)
  pub kept : (n : ℕ) (bytes : List ℕ) → map.get before n ≡ Some bytes → map.get after n ≡ Some bytes
  pub new : (n : ℕ) (bytes : List ℕ) → map.get after n ≡ Some bytes → (map.get before n ≡ Some bytes) ⊎ IsFlushedFile schema (accepted_writes schema lines texts) bytes
