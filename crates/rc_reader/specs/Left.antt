-- What is left to a reader: the lines that are made, and those of what its stream has in the slice.
--     until          the rows and changes before a position
--     slice_lines    the lines of a stream in a slice
--     AreLeft        these lines are left to a reader, over a home and a store
--     LeavesOne      the lines in a slice are left of one of the streams that might be
use Rattle.std.specs.Prelude.{◌≡◌, ℕ, Bool, false, cond, List, [], ◌∷◌, ◌++◌, drop, Result, Ok, Err}
use Rattle.std.specs.Ordering.{is_lt}
use Rattle.std.specs.Option.{option_to_list}
use Rattle.rc_position.specs.declared.positions.Pos.{Pos}
use Rattle.rc_position.specs.declared.slices.Slice.{Slice}
use Rattle.rc_position.specs.Position.{pos_cmp, row_pos}
use Rattle.rc_mutation.specs.declared.fragments.Frag.{Frag}
use Rattle.rc_mutation.specs.declared.fragments.Frag.TheVariants as frag
use Rattle.rc_query.specs.declared.lines.OutLine.{OutLine}
use Rattle.rc_query.specs.Compacting.{compacted_all, compacted_lines}
use Rattle.rc_stream.specs.declared.streams.StreamErr.{StreamErr}
use Rattle.rc_stream.specs.Showing.{IsFromStart}
use Rattle.rc_stream.specs.Stream.{Stream, sought_stream}
use Rattle.rc_reader.specs.declared.readers.Reader.{Reader}
use Rattle.rc_reader.specs.declared.work.Work.{Work}

-- whether a fragment is a row or a change before x
abbrev pub is_short_of : Pos → Frag → Bool
is_short_of x (frag.Start pt) = false
is_short_of x (frag.Static row) = false
is_short_of x (frag.Row key row) = is_lt (pos_cmp (row_pos key) x)
is_short_of x (frag.Change from tomb) = is_lt (pos_cmp from x)
is_short_of x frag.End = false

-- the rows and changes at the front of fragments that stand before x
abbrev pub until : Pos → List Frag → List Frag
until x [] = []
until x (f ∷ fs) = cond (is_short_of x f) (f ∷ until x fs) []

-- the lines of a stream in a slice: the static line, whatever the slice; then those of its rows from where the slice begins to where it ends,
-- under the range tombstones in force
abbrev pub slice_lines : Slice → Stream → List OutLine
slice_lines slice s = compacted_all s.head (until slice.to (sought_stream slice.from s).left)

-- the lines that are left of a reader's work before x, where its stream has these fragments left: those that are made, then those of what
-- is taken and of what is left
abbrev pub lines_before : Pos → Work → List Frag → List OutLine
lines_before x work fs = work.lines.items ++ compacted_lines work.compactor.0.pt work.compactor.1 (until x (option_to_list work.taken ++ fs))

-- a stream stands for one of these, of which with the work these lines are left before the end of the slice
pub record Remains (seen : Stream → Type 0) (work : Work) (lines : List OutLine) : Type 0 where
  pub stream : Stream
  pub stands : seen stream
  pub are : lines ≡ lines_before work.to work stream.left

-- these lines are left to a reader over a home and a store: its stream stands there for one that leaves them
abbrev pub AreLeft : {S H W : Type 0} → (S → H → W → Stream → Type 0) → Reader S → H → W → List OutLine → Type 0
AreLeft seen r h w lines = Remains (seen r.stream h w) r.work lines

-- what is left of lines after a call that gives the first so many: the others, and all of them where it was refused
abbrev pub left_after : {T : Type 0} → Result T StreamErr → ℕ → List OutLine → List OutLine
left_after (Ok given) n lines = drop n lines
left_after (Err e) n lines = lines

-- one of the streams that might be, in order from its beginning, of which the lines in a slice are left
pub record LeavesOne (might : Stream → Type 0) (slice : Slice) (left : List OutLine → Type 0) : Type 0 where
  pub stream : Stream
  pub possible : might stream
  pub whole : IsFromStart stream
  pub stay : left (slice_lines slice stream)
