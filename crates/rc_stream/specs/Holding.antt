-- What is held of a stream in front of what it still has: what was looked at and not given.
use Rattle.std.specs.Prelude.{◌≡◌, List, [], ◌∷◌, ◌++◌, Option, ⊤}
use Rattle.rc_cell.specs.declared.writes.Tomb.{Tomb}
use Rattle.rc_position.specs.declared.positions.Pos.{Pos}
use Rattle.rc_mutation.specs.declared.fragments.Frag.{Frag}
use Rattle.rc_mutation.specs.Fragments.{tomb_after}
use Rattle.rc_stream.specs.declared.holding.Held.{Held}
use Rattle.rc_stream.specs.declared.holding.Look.{Look}
use Rattle.rc_stream.specs.declared.holding.Look.TheVariants as look
use Rattle.rc_stream.specs.Fronts.{front_change, front_tomb}
use Rattle.rc_stream.specs.Places.{Reaches}
use Rattle.rc_stream.specs.Stream.{Stream}
use Rattle.rc_stream.specs.Merging.{IsOrdered, StandsBefore, place_of}

-- what was looked at and not given
abbrev pub look_fragments : Look → List Frag
look_fragments look.Open = []
look_fragments (look.Over z) = []
look_fragments (look.Next f) = f ∷ []
look_fragments (look.Past z f) = f ∷ []

-- what is held: the change that is due, and what was looked at
abbrev pub held_fragments : Held → List Frag
held_fragments h = front_change h.front ++ look_fragments h.look

-- the range tombstone in force behind fragments
abbrev pub tomb_behind : Option Tomb → List Frag → Option Tomb
tomb_behind tomb [] = tomb
tomb_behind tomb (f ∷ fs) = tomb_behind (tomb_after tomb f) fs

-- a stream with what is held put back before it
abbrev pub whole : Held → Stream → Stream
whole h s = record { head = s.head; tomb = front_tomb h.front; left = held_fragments h ++ s.left }

-- x is not before the last that was taken from the stream
abbrev pub IsFrom : Look → Pos → Type 0
IsFrom look.Open x = ⊤
IsFrom (look.Over z) x = Reaches z x
IsFrom (look.Next f) x = Reaches (place_of f).0 x
IsFrom (look.Past z f) x = Reaches z x × Reaches (place_of f).0 x

-- what was looked at, and what a stream still has, stands behind what was passed over
abbrev pub StandsOver : Look → List Frag → Type 0
StandsOver look.Open fs = ⊤
StandsOver (look.Over z) fs = StandsBefore (z, 0) fs
StandsOver (look.Next f) fs = ⊤
StandsOver (look.Past z f) fs = StandsBefore (z, 0) (f ∷ fs)

-- what is held fits the stream behind it
pub record HeldFits (h : Held) (s : Stream) : Type 0 where
  pub ordered : IsOrdered (held_fragments h ++ s.left)
  pub tomb : s.tomb ≡ tomb_behind (front_tomb h.front) (held_fragments h)
  pub over : StandsOver h.look s.left
