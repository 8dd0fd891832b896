-- What a stream stands for: the head of one partition, and its rows and changes of tombstone from a place on.
use Rattle.std.specs.Prelude.{Bool, true, false, cond, List, [], ◌∷◌, ◌++◌, Option, Some, None}
use Rattle.std.specs.Ordering.{eq_by_cmp, is_le, is_lt}
use Rattle.std.specs.List.{flat_map}
use Rattle.rc_cell.specs.declared.rows.Row.{Row}
use Rattle.rc_cell.specs.declared.writes.Tomb.{Tomb}
use Rattle.rc_cell.specs.Winner.{empty_row}
use Rattle.rc_position.specs.declared.positions.Pos.{Pos}
use Rattle.rc_position.specs.Position.{pos_cmp, row_pos}
use Rattle.rc_mutation.specs.declared.fragments.Frag.{Frag}
use Rattle.rc_mutation.specs.declared.fragments.Frag.TheVariants as frag
use Rattle.rc_mutation.specs.declared.fragments.Head.{Head}
use Rattle.rc_mutation.specs.Fragments.{tomb_after}

-- a stream: the head of its partition, the range tombstone in force before the first of what is left, and the rows and changes that are left
pub record Stream : Type 0 where
  pub head : Head
  pub tomb : Option Tomb
  pub left : List Frag

-- whether a fragment is a row or a change
abbrev pub is_clustered : Frag → Bool
is_clustered (frag.Start pt) = false
is_clustered (frag.Static row) = false
is_clustered (frag.Row key row) = true
is_clustered (frag.Change from tomb) = true
is_clustered frag.End = false

-- whether a fragment is a row or a change at x or before it
abbrev pub is_upto : Pos → Frag → Bool
is_upto x (frag.Start pt) = false
is_upto x (frag.Static row) = false
is_upto x (frag.Row key row) = is_le (pos_cmp (row_pos key) x)
is_upto x (frag.Change from tomb) = is_le (pos_cmp from x)
is_upto x frag.End = false

-- whether a seek to x passes a fragment: a row before x, and a change at x or before it
abbrev pub is_passed : Pos → Frag → Bool
is_passed x (frag.Start pt) = false
is_passed x (frag.Static row) = false
is_passed x (frag.Row key row) = is_lt (pos_cmp (row_pos key) x)
is_passed x (frag.Change from tomb) = is_le (pos_cmp from x)
is_passed x frag.End = false

-- the first fragment, if it stands at x or before it
abbrev pub first_upto : Pos → List Frag → Option Frag
first_upto x [] = None
first_upto x (f ∷ fs) = cond (is_upto x f) (Some f) None

-- a list without its first
abbrev pub rest : List Frag → List Frag
rest [] = []
rest (f ∷ fs) = fs

-- a stream from which this was taken
abbrev pub took : Option Frag → Stream → Stream
took None s = s
took (Some f) s = record { head = s.head; tomb = tomb_after s.tomb f; left = rest s.left }

-- the range tombstone in force at x along fragments, where this one is in force before them
abbrev pub force : Pos → Option Tomb → List Frag → Option Tomb
force x tomb [] = tomb
force x tomb (f ∷ fs) = cond (is_passed x f) (force x (tomb_after tomb f) fs) tomb

-- the rows from x on and the changes behind it
abbrev pub onward : Pos → List Frag → List Frag
onward x [] = []
onward x (f ∷ fs) = cond (is_passed x f) (onward x fs) (f ∷ fs)

-- a change at x to a tombstone, where there is one
abbrev pub opening : Pos → Option Tomb → List Frag
opening x None = []
opening x (Some tomb) = frag.Change x (Some tomb) ∷ []

-- a stream after a seek to x: the change at x to the tombstone in force there, where one is, then the rows from x on and the changes behind it
abbrev pub sought_stream : Pos → Stream → Stream
sought_stream x s = record { head = s.head; tomb = None; left = opening x (force x s.tomb s.left) ++ onward x s.left }

-- the row of a fragment at x, if it is one
abbrev pub row_at : Pos → Frag → List Row
row_at x (frag.Start pt) = []
row_at x (frag.Static row) = []
row_at x (frag.Row key row) = cond (eq_by_cmp pos_cmp x (row_pos key)) (row ∷ []) []
row_at x (frag.Change from tomb) = []
row_at x frag.End = []

-- what a stream says at x: the rows there, and the range tombstone in force
abbrev pub says : Pos → Stream → List Row × Option Tomb
says x s = (flat_map (row_at x) s.left, force x s.tomb s.left)

-- the partition tombstone that fragments name at their start
abbrev pub start_of : List Frag → Option Tomb
start_of [] = None
start_of (frag.Start pt ∷ fs) = pt
start_of (frag.Static row ∷ fs) = start_of fs
start_of (frag.Row key row ∷ fs) = start_of fs
start_of (frag.Change from tomb ∷ fs) = start_of fs
start_of (frag.End ∷ fs) = start_of fs

-- the static row among fragments; the empty row where there is none
abbrev pub static_of : List Frag → Row
static_of [] = empty_row
static_of (frag.Start pt ∷ fs) = static_of fs
static_of (frag.Static row ∷ fs) = row
static_of (frag.Row key row ∷ fs) = static_of fs
static_of (frag.Change from tomb ∷ fs) = static_of fs
static_of (frag.End ∷ fs) = static_of fs

-- the rows and changes at the front of fragments
abbrev pub clustered_front : List Frag → List Frag
clustered_front [] = []
clustered_front (f ∷ fs) = cond (is_clustered f) (f ∷ clustered_front fs) []

-- fragments without the start and the static row before the first row, change or end
abbrev pub without_head : List Frag → List Frag
without_head [] = []
without_head (frag.Start pt ∷ fs) = without_head fs
without_head (frag.Static row ∷ fs) = without_head fs
without_head (frag.Row key row ∷ fs) = frag.Row key row ∷ fs
without_head (frag.Change from tomb ∷ fs) = frag.Change from tomb ∷ fs
without_head (frag.End ∷ fs) = frag.End ∷ fs

-- the stream of a list of fragments, from the beginning: its start and its static row, and the rows and changes behind them
abbrev pub stream_of : List Frag → Stream
stream_of fs = record { head = record { pt = start_of fs; statics = static_of fs }; tomb = None; left = clustered_front (without_head fs) }
