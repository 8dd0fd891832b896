-- The machine without a cache, over a folder of tables: its state.
--     Table, Reader, State          what it holds
--     lines_of, rest_of             the lines of a reader's answer, and those that it has not given yet
--     opened_state                  as it is opened over a folder
--     unstored_writes, reader_of    the writes that stand in no table; an open reader
use Rattle.std.specs.Prelude.{ℕ, ◌-◌, ◌==◌, Bool, false, List, [], ◌++◌, drop, map as list_map, Option}
use Rattle.std.specs.Map.{lookup}
use Rattle.rc_outside.specs.Files.{Files}
use Rattle.rc_position.specs.declared.slices.Slice.{Slice}
use Rattle.rc_schema.specs.SchemaValue.{SchemaValue}
use Rattle.rc_mutation.specs.declared.mutations.Mutation.{Mutation}
use Rattle.rc_mutation.specs.declared.mutations.Partition.{Partition}
use Rattle.rc_mutation.specs.declared.mutations.Write.{Write}
use Rattle.rc_query.specs.declared.lines.OutLine.{OutLine}
use Rattle.rc_query.specs.Answer.{answer}
use Rattle.rc_tfile.specs.declared.info.TableInfo.{TableInfo}

-- a table: its number, and its partitions by ascending key
abbrev pub Table : Type 0
Table = ℕ × List Partition

-- an open reader: the partition and the slice that it reads; what the tables say of the partition; the changes to it that stood in no table when it was
-- opened, and how many tables listed it then; and how many lines of its answer are settled: none before its first read; then those that it was asked for,
-- and the one behind them, since each read tells whether there are more
pub record Reader : Type 0 where
  pub key : List ℕ
  pub slice : Slice
  pub said : List Mutation
  pub writes : List Mutation
  pub listed : ℕ
  pub settled : ℕ

-- the machine's state: the schema; the budget of memory, in segments; the folder's files, where the store tells them; the tables, by
-- ascending number, and what the directory of each lists; all accepted writes, in order; how many of them stand in tables, and how many
-- stand in tables or are sealed for the next one; whether that one is written already, and how many of its fragments the cache does not
-- have yet; and the open readers, by their ids
pub record State : Type 0 where
  pub schema : SchemaValue
  pub segments : ℕ
  pub files : Option Files
  pub tables : List Table
  pub infos : List TableInfo
  pub log : List Write
  pub stored : ℕ
  pub sealed : ℕ
  pub written : Bool
  pub left : ℕ
  pub readers : List (ℕ × Reader)

-- the lines of a reader's answer: to what the tables say, and then the writes of when it was opened
abbrev pub lines_of : Reader → List OutLine
lines_of r = answer (r.said ++ r.writes) r.slice

-- those that it has not given yet
abbrev pub rest_of : Reader → List OutLine
rest_of r = drop (r.settled - 1) (lines_of r)

-- the numbers of tables
abbrev pub numbers : List Table → List ℕ
numbers tables = list_map (λ t. t.0) tables

-- the machine as it is opened over a folder of tables
abbrev pub opened_state : ℕ → Option Files → SchemaValue → List Table → List TableInfo → State
opened_state segments files schema tables infos =
    record { schema = schema; segments = segments; files = files; tables = tables; infos = infos; log = []; stored = 0; sealed = 0; written = false; left = 0; readers = [] }

-- the writes that stand in no table, or only in one that the cache does not have yet
abbrev pub unstored_writes : State → List Write
unstored_writes m = drop m.stored m.log

-- an open reader, where the id is open
abbrev pub reader_of : ℕ → State → Option Reader
reader_of id m = lookup (λ k. k == id) m.readers
