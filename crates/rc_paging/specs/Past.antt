-- What is left to a reader that goes on past the row cache, over what tables say now.
--     place_behind_line    where it goes on behind the line that a page told of
--     slice_past      what is left of its slice then
--     under_head      what was read, under the partition tombstone that the tables said before
--     lines_past      the lines that are left to it
use Rattle.std.specs.Prelude.{false, List, [], ◌∷◌, Option, Some, None}
use Rattle.rc_position.specs.declared.positions.Pos.{Pos}
use Rattle.rc_position.specs.declared.slices.Slice.{Slice}
use Rattle.rc_position.specs.Position.{start_bound}
use Rattle.rc_mutation.specs.declared.mutations.Mutation.{Mutation}
use Rattle.rc_mutation.specs.Source.{source_at_head}
use Rattle.rc_query.specs.declared.lines.OutLine.{OutLine}
use Rattle.rc_query.specs.declared.lines.OutLine.TheVariants as line
use Rattle.rc_query.specs.Answer.{sliced_from}
use Rattle.rc_opened.specs.Behind.{lines_behind}
use Rattle.rc_paging.specs.declared.layers.HeldSnaps.{HeldSnaps}

-- where a reader goes on behind the line that a page told of: right behind its row, where the slice begins behind the static line, and where it ends if there is no line
abbrev pub place_behind_line : List OutLine → Slice → Pos
place_behind_line [] slice = slice.to
place_behind_line (line.Static values ∷ lines) slice = slice.from
place_behind_line (line.Row key values ∷ lines) slice = start_bound key false

-- what is left of a slice then; all of it, where no page told of a line
abbrev pub slice_past : Option (List OutLine) → Slice → Slice
slice_past None slice = slice
slice_past (Some told) slice = sliced_from slice (place_behind_line told slice)

-- what was read, under the partition tombstone that the tables said before
abbrev pub under_head : List Mutation → Mutation → Mutation
under_head below read = record read { pt = source_at_head below }

-- what is read past the cache: what the tables say now; behind a line that a page told of, under the partition tombstone that they said before, which covers that line too
abbrev pub read_past : List Mutation → Option (List OutLine) → Mutation → Mutation
read_past below None read = read
read_past below (Some told) read = under_head below read

-- the lines that are left to a reader that goes on past the cache: the line that a page told of, and behind it the row lines of what is read past the cache, and of what is written
abbrev pub lines_past : List Mutation → Mutation → List Mutation → Option (List OutLine) → Slice → List OutLine
lines_past below read written told slice = lines_behind told (read_past below told read ∷ written) (slice_past told slice)

-- what is held once the snapshots of what is written were taken
abbrev pub without_written : HeldSnaps → HeldSnaps
without_written held = record { cached = held.cached; written = record { sealed = None; active = None } }
