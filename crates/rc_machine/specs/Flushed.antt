-- What the files of a folder hold after some steps: the tables that were there, and then those that were flushed, each of which holds the
-- parts of a run of the accepted writes, one run behind another.
use Rattle.std.specs.Prelude.{◌≡◌, ℕ, ◌≤◌, List, [], ◌∷◌, ◌++◌, length, take, map as list_map, All, option_map, ⊤, if◌then◌else◌}
use Rattle.std.specs.FinMap as map
use Rattle.rc_outside.specs.Files.{Files}
use Rattle.rc_schema.specs.SchemaValue.{SchemaValue}
use Rattle.rc_mutation.specs.declared.mutations.Write.{Write}
use Rattle.rc_mutation.specs.Fragments.{IsParts}
use Rattle.rc_tfile.specs.Before.{text}
use Rattle.rc_tfile.specs.TableText.{whole_table, IsTable}
use Rattle.rc_lines.specs.declared.commands.Command.{Command}
use Rattle.rc_lines.specs.declared.commands.Command.TheVariants.{Put}
use Rattle.rc_lines.specs.declared.commands.Reply.{Reply}
use Rattle.rc_lines.specs.declared.commands.Reply.TheVariants.{Fine}
use Rattle.rc_machine.specs.State.{State, Table, numbers}
use Rattle.rc_machine.specs.Steps.{next_number}

-- a table, and the writes that were flushed to it
abbrev pub Flush : Type 0
Flush = Table × List Write

-- the table of a schema holds the parts of these writes
pub record IsFlushOf (schema : SchemaValue) (flush : Flush) : Type 0 where
  pub of_writes : IsParts flush.0.1 flush.1
  pub is_table : IsTable (text (whole_table schema flush.0.1)) schema flush.0.1

-- the tables of flushes
abbrev pub tables_of : List Flush → List Table
tables_of flushes = list_map (λ flush. flush.0) flushes

-- the writes of flushes, one behind another
abbrev pub writes_of : List Flush → List Write
writes_of [] = []
writes_of (flush ∷ flushes) = flush.1 ++ writes_of flushes

-- files with the texts of more tables
abbrev pub files_with : SchemaValue → Files → List Table → Files
files_with schema files [] = files
files_with schema files (t ∷ tables) = files_with schema (map.insert files t.0 (text (whole_table schema t.1))) tables

-- numbers are next, one behind another: each is one more than the last before it
abbrev pub AreNext : List ℕ → List ℕ → Type 0
AreNext before [] = ⊤
AreNext before (n ∷ ns) = (n ≡ next_number before) × AreNext (before ++ n ∷ []) ns

-- how many of the accepted writes stand in tables
abbrev pub in_tables : State → ℕ
in_tables m = if m.written then m.sealed else m.stored

-- since it was opened in the first state, the machine has flushed these: its tables and files are those of the first state and then these, and
-- they hold the first of the accepted writes
pub record HasFlushed (first m : State) (flushes : List Flush) : Type 0 where
  pub schema : m.schema ≡ first.schema
  pub each : All (IsFlushOf first.schema) flushes
  pub tables : m.tables ≡ first.tables ++ tables_of flushes
  pub numbered : AreNext (numbers first.tables) (numbers (tables_of flushes))
  pub files : m.files ≡ option_map (λ files. files_with first.schema files (tables_of flushes)) first.files
  pub writes : writes_of flushes ≡ take (in_tables m) m.log
  pub stored : m.stored ≤ m.sealed
  pub sealed : m.sealed ≤ length m.log

-- the write that a command makes, where it is accepted
abbrev pub accepted_by : Command → Reply → List Write
accepted_by (Put w) Fine = w ∷ []
accepted_by command reply = []

-- the accepted writes of steps, in order
abbrev pub writes_of_steps : List (Command × Reply) → List Write
writes_of_steps [] = []
writes_of_steps (step ∷ steps) = accepted_by step.0 step.1 ++ writes_of_steps steps
