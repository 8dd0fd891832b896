-- What is left to an open reader that goes on behind lines that are settled.
--     begins_static     whether lines begin with a static line
--     AreOver           what tables said of a partition, and snapshots of what is written of it, are those of these changes
--     lines_behind      the lines that are left behind settled ones
--     LeavesBehind      these lines are left
use Rattle.std.specs.Prelude.{◌≡◌, Bool, true, false, List, [], ◌∷◌, ◌++◌, Option, Some, None}
use Rattle.rc_position.specs.declared.slices.Slice.{Slice}
use Rattle.rc_schema.specs.SchemaValue.{SchemaValue}
use Rattle.rc_mutation.specs.declared.mutations.Mutation.{Mutation}
use Rattle.rc_mutation.specs.Fragments.{fragments}
use Rattle.rc_mutation.specs.Source.{IsJoinOf, IsMutation}
use Rattle.rc_query.specs.declared.lines.OutLine.{OutLine}
use Rattle.rc_query.specs.declared.lines.OutLine.TheVariants as line
use Rattle.rc_query.specs.Answer.{answer, row_lines}
use Rattle.rc_memory.specs.Memory.{Memory}
use Rattle.rc_stream.specs.Stream.{Stream, stream_of}
use Rattle.rc_snapshots.specs.declared.snaps.Snaps.{Snaps}
use Rattle.rc_snapshots.specs.Seeing.{SeesAllOf}
use Rattle.rc_opened.specs.declared.behind.OpenedBehind.{OpenedBehind}
use Rattle.rc_opened.specs.declared.opened.Opened.{Opened}
use Rattle.rc_opened.specs.Opened.{AreChangesOf}

-- whether lines begin with a static line
abbrev pub begins_static : List OutLine → Bool
begins_static [] = false
begins_static (line.Static values ∷ lines) = true
begins_static (line.Row key values ∷ lines) = false

-- the lines that are left where some are settled: these, and then the row lines in a slice; and the answer in it where nothing is settled
abbrev pub lines_behind : Option (List OutLine) → List Mutation → Slice → List OutLine
lines_behind None changes slice = answer changes slice
lines_behind (Some settled) changes slice = settled ++ row_lines changes slice

-- what was read is the stream of a mutation to which what the tables said joins; and the snapshots see what is sealed, and what is written since, such as the program has
pub record AreOver (schema : SchemaValue) (said writes later : List Mutation) (read : Stream) (m : Memory) (snaps : Snaps) : Type 0 where
  pub tabled : Mutation
  pub mutation : IsMutation tabled
  pub stream : read ≡ stream_of (fragments tabled)
  pub joined : IsJoinOf tabled said
  pub of_sealed : AreChangesOf schema writes
  pub of_active : AreChangesOf schema later
  pub sealed : SeesAllOf writes m snaps.sealed
  pub active : SeesAllOf later m snaps.active

-- these lines are left, where the open reader behind them leaves such: those in front, then those that were read behind them, and then its own
pub record LeavesBehind (left : Opened → Memory → List OutLine → Type 0) (m : Memory) (o : OpenedBehind) (lines : List OutLine) : Type 0 where
  pub rest : List OutLine
  pub opened : left o.opened m rest
  pub are : lines ≡ o.front ++ (o.ahead ++ rest)
