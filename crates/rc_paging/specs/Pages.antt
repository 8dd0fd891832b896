-- What is left to an open reader over the chains that its snapshots are of, and why its calls are refused.
--     StandFor        snapshots stand for what tables say, and for what is sealed and written since
--     LinesAreLeft    these lines are left to an open reader
--     page_end        up to where a page looks
--     IsStretchKnown, IsPageKnown    what a page passes is known to the row cache
--     left_on         what is left of lines after a page
use Rattle.std.specs.Prelude.{◌≡◌, ◌++◌, ℕ, false, List, [], ◌∷◌, Option, IfSome, MatchOption, Result, Ok, Err, drop, take}
use Rattle.rc_mutation.specs.declared.mutations.Mutation.{Mutation}
use Rattle.rc_schema.specs.SchemaValue.{SchemaValue}
use Rattle.rc_query.specs.declared.lines.OutLine.{OutLine}
use Rattle.rc_query.specs.declared.lines.OutLine.TheVariants as line
use Rattle.rc_query.specs.Answer.{answer}
use Rattle.rc_position.specs.declared.positions.Pos.{Pos}
use Rattle.rc_position.specs.declared.slices.Slice.{Slice}
use Rattle.rc_position.specs.Position.{IsBefore, start_bound}
use Rattle.rc_core.specs.Version.{end_position}
use Rattle.rc_memory.specs.Memory.{Memory}
use Rattle.rc_chain.specs.declared.chains.Snap.{Snap}
use Rattle.rc_stream.specs.Places.{Reaches}
use Rattle.rc_stream.specs.Stream.{Stream}
use Rattle.rc_cursor.specs.Snapshots.{IsHeadSeen, Knows}
use Rattle.rc_cacheread.specs.Passing.{IsKnownFrom}
use Rattle.rc_cacheread.specs.Sharing.{IsStaticRowKnown}
use Rattle.rc_filler.specs.Fillers.{IsFillerReady}
use Rattle.rc_filler.specs.Stands.{StandsForWrites}
use Rattle.rc_snapshots.specs.Seeing.{SeesAllOf}
use Rattle.rc_opened.specs.Opened.{AreChangesOf}
use Rattle.rc_cached.specs.declared.readings.Readings.{Readings}
use Rattle.rc_cached.specs.Streams.{filler_for}
use Rattle.rc_paging.specs.declared.layers.HeldSnaps.{HeldSnaps}
use Rattle.rc_paging.specs.declared.pages.OpenReader.{OpenReader}
use Rattle.rc_paging.specs.declared.pages.PageErr.{PageErr}
use Rattle.rc_paging.specs.Remainders.{IsPlacedIn, given_before}

-- readings that have this
abbrev pub readings_with : Option Stream → Readings
readings_with read = record { list = read; missed = false; begun = false }

-- a snapshot of the row cache can be filled, and stands for these writes
pub record StandsCached (S : ℕ) (below : List Mutation) (m : Memory) (s : Snap) : Type 0 where
  pub ready : IsFillerReady S (filler_for s).filler m
  pub stands : StandsForWrites S m s.chain s.pin below

-- where there is a snapshot of the row cache, it stands for these writes; else there are none
abbrev pub StandCached : ℕ → List Mutation → Memory → Option Snap → Type 0
StandCached S below m snap = MatchOption snap (below ≡ []) (StandsCached S below m)

-- the snapshots stand for what the tables say, for what is sealed, and for what is written since
pub record StandFor (S : ℕ) (m : Memory) (held : HeldSnaps) (below writes later : List Mutation) : Type 0 where
  pub cached : StandCached S below m held.cached
  pub sealed : SeesAllOf writes m held.written.sealed
  pub active : SeesAllOf later m held.written.active

-- these lines are left to an open reader, where the tables say this: its snapshots stand for that, and for what is sealed and written since, such as the program has; of the answer to all of it, in what is left of the slice, they are those behind the lines that were given before; and once a page told whether there is one, the next of them is kept; until then none was given
pub record LinesAreLeft (S : ℕ) (m : Memory) (o : OpenReader) (below : List Mutation) (lines : List OutLine) : Type 0 where
  pub schema : SchemaValue
  pub writes : List Mutation
  pub later : List Mutation
  pub of_tables : AreChangesOf schema below
  pub of_sealed : AreChangesOf schema writes
  pub of_active : AreChangesOf schema later
  pub stand : StandFor S m o.held below writes later
  pub placed : IsPlacedIn (below ++ (writes ++ later)) o.remainder
  pub are : lines ≡ drop (given_before o.remainder) (answer (below ++ (writes ++ later)) o.remainder.slice)
  pub told : MatchOption o.behind (given_before o.remainder ≡ 0) (λ kept. kept ≡ take 1 lines)

-- of a partition the static row is known to a snapshot, and from x on each position up to y, but for those inside a row
pub record IsStretchKnown (m : Memory) (x y : Pos) (s : Snap) : Type 0 where
  pub static_row : IsStaticRowKnown (IsHeadSeen m s)
  pub each : (z : Pos) → Reaches x z → Reaches z y → IsBefore z end_position → IsKnownFrom (Knows m s) x z

-- up to where a page looks in a slice, where these lines are behind it: right behind the row of the first of them; to where the slice ends, if that is none
abbrev pub page_end : List OutLine → Slice → Pos
page_end [] slice = slice.to
page_end (line.Static values ∷ lines) slice = slice.to
page_end (line.Row key values ∷ lines) slice = start_bound key false

-- a page of so many of the lines that are left to an open reader is known to its snapshot of the row cache, where there is one: from where what is left of its slice begins, which is at the row of the last line that was given, up to where it looks
abbrev pub IsPageKnown : Memory → OpenReader → ℕ → List OutLine → Type 0
IsPageKnown m o n lines = IfSome o.held.cached (IsStretchKnown m o.remainder.slice.from (page_end (drop n lines) o.remainder.slice))

-- what is left of lines after a page of so many; all of them, where it was refused
abbrev pub left_on : {T : Type 0} → Result T PageErr → ℕ → List OutLine → List OutLine
left_on (Ok given) n lines = drop n lines
left_on (Err e) n lines = lines
