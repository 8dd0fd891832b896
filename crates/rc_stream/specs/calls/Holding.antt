-- A step of a merge: whose turn it is, what is given, and what is held then.
use Rattle.std.specs.Prelude.{◌≡◌, IsTrue, Bool, true, false, cond, ◌&&◌, List, [], ◌∷◌, ◌++◌, Option, Some, None, ⊤, ℕ, option_map}
use Rattle.std.specs.Ordering.{is_le}
use Rattle.rc_cell.specs.declared.rows.Row.{Row}
use Rattle.rc_cell.specs.declared.writes.Tomb.{Tomb}
use Rattle.rc_cell.specs.Greatest.{greater}
use Rattle.rc_cell.specs.Orders.{tomb_cmp}
use Rattle.rc_cell.specs.Winner.{joined_row, first_of}
use Rattle.rc_position.specs.declared.positions.Pos.{Pos}
use Rattle.rc_mutation.specs.declared.fragments.Frag.{Frag}
use Rattle.rc_mutation.specs.declared.fragments.Frag.TheVariants as frag
use Rattle.rc_mutation.specs.Fragments.{tomb_after, place_order}
use Rattle.rc_stream.specs.declared.holding.Held.{Held}
use Rattle.rc_stream.specs.declared.holding.Look.{Look}
use Rattle.rc_stream.specs.declared.holding.Look.TheVariants as look
use Rattle.rc_stream.specs.declared.holding.Step.{Step}
use Rattle.rc_stream.specs.declared.holding.Step.TheVariants as step
use Rattle.rc_stream.specs.declared.holding.Turn.{Turn}
use Rattle.rc_stream.specs.declared.holding.Turn.TheVariants as turn
use Rattle.rc_stream.specs.declared.lists.Front.{Front}
use Rattle.rc_stream.specs.declared.lists.Front.TheVariants as front
use Rattle.rc_stream.specs.Fronts.{front_change, front_tomb}
use Rattle.rc_stream.specs.Places.{Reaches}
use Rattle.rc_position.specs.Position.{pos_cmp}
use Rattle.rc_stream.specs.Stream.{force, is_passed, is_upto, onward, opening, rest}
use Rattle.rc_stream.specs.Merging.{IsOrdered, changes_nothing, place_of}
use Rattle.rc_stream.specs.calls.Merging.{beside, together}
use Rattle.rc_stream.specs.Holding.{held_fragments, IsFrom, StandsOver}
use Rattle.std.specs.FinMap.Entries.{by_order}

-- which of two places is the smaller, where there are any
abbrev pub turn_between : Option (Pos × ℕ) → Option (Pos × ℕ) → Turn
turn_between None None = turn.Nobody
turn_between None (Some q) = turn.Theirs
turn_between (Some p) None = turn.Ours
turn_between (Some p) (Some q) = by_order (place_order p q) turn.Ours turn.Both turn.Theirs

-- which of two first fragments has the smaller place
abbrev pub nearer : List Frag → List Frag → Turn
nearer fs gs = turn_between (option_map place_of (first_of fs)) (option_map place_of (first_of gs))

-- the later of two positions
abbrev pub later : Pos → Pos → Pos
later x y = cond (is_le (pos_cmp x y)) y x

-- the range tombstone in force behind the first of fragments
abbrev pub behind_first : Option Tomb → List Frag → Option Tomb
behind_first tomb [] = tomb
behind_first tomb (f ∷ fs) = tomb_after tomb f

-- whether the first of some fragments stands at x or before it
abbrev pub begins_upto : Pos → List Frag → Bool
begins_upto x [] = false
begins_upto x (f ∷ fs) = is_upto x f

-- whether the fragment whose turn it is stands at x or before it
abbrev pub is_near : Pos → Turn → List Frag → List Frag → Bool
is_near x turn.Nobody fs gs = false
is_near x turn.Ours fs gs = begins_upto x fs
is_near x turn.Theirs fs gs = begins_upto x gs
is_near x turn.Both fs gs = begins_upto x fs

-- whether a seek to x passes the change that is due, if one is
abbrev pub front_passed : Pos → Front → Bool
front_passed x (front.Passed tomb) = true
front_passed x (front.Due from tomb) = is_le (pos_cmp from x)

-- whether a seek to x passes the last that was taken from the stream
abbrev pub look_passed : Pos → Look → Bool
look_passed x look.Open = true
look_passed x (look.Over z) = is_le (pos_cmp z x)
look_passed x (look.Next f) = is_passed x f
look_passed x (look.Past z f) = is_le (pos_cmp z x) && is_passed x f

-- whether a seek to x passes all that is held, so that the stream is to be sought
abbrev pub passes_held : Pos → Held → Bool
passes_held x h = front_passed x h.front && look_passed x h.look

-- what was held before, after a seek to x that does not pass all of it
pub record WentOn (x : Pos) (h now : Held) : Type 0 where
  pub look : now.look ≡ h.look
  pub tomb : front_tomb now.front ≡ None
  pub change : front_change now.front ≡ opening x (force x (front_tomb h.front) (front_change h.front)) ++ onward x (front_change h.front)

-- a fragment is given, unless it changes nothing
abbrev pub fragment_step : Option Tomb → Frag → Step
fragment_step tomb f = cond (changes_nothing tomb f) step.Passed (step.Given f)

-- what the first of fragments comes to that alone stands at its place, where the other stream has this tombstone in force
abbrev pub alone : Option Tomb → Option Tomb → List Frag → Step
alone tomb other [] = step.Nothing
alone tomb other (f ∷ fs) = fragment_step (greater tomb_cmp tomb other) (beside other f)

-- what the first of both come to
abbrev pub pair_step : Option Tomb → List Frag → List Frag → Step
pair_step tomb [] gs = step.Nothing
pair_step tomb (f ∷ fs) [] = step.Nothing
pair_step tomb (f ∷ fs) (g ∷ gs) = fragment_step tomb (together f g)

-- x is not before the fragment that a step gave, if it gave one
abbrev pub StepReaches : Step → Pos → Type 0
StepReaches step.Nothing x = ⊤
StepReaches step.Passed x = ⊤
StepReaches (step.Given f) x = Reaches (place_of f).0 x

-- the fragment that a step gave stands at x or before it, if it gave one
abbrev pub IsStepUpto : Pos → Step → Type 0
IsStepUpto x step.Nothing = ⊤
IsStepUpto x step.Passed = ⊤
IsStepUpto x (step.Given f) = IsTrue (is_upto x f)

-- the first of what was held was taken in a step
pub record TakesFirst (s : Step) (h now : Held) : Type 0 where
  pub left : held_fragments now ≡ rest (held_fragments h)
  pub tomb : front_tomb now.front ≡ behind_first (front_tomb h.front) (held_fragments h)
  pub from : (x : Pos) → StepReaches s x → IsFrom now.look x → IsFrom h.look x
  pub over : (fs : List Frag) → IsOrdered (held_fragments h ++ fs) → StandsOver h.look fs → StandsOver now.look fs

-- a step of a merge: nothing; the first of one, alone at its place; the first of both, at one place
abbrev pub TakesTurn : Turn → Step → Held → Held → Held → Held → Type 0
TakesTurn turn.Nobody s ours theirs ours' theirs' = (s ≡ step.Nothing) × (ours' ≡ ours) × (theirs' ≡ theirs)
TakesTurn turn.Ours s ours theirs ours' theirs' = (s ≡ alone (front_tomb ours.front) (front_tomb theirs.front) (held_fragments ours)) × TakesFirst s ours ours' × (theirs' ≡ theirs)
TakesTurn turn.Theirs s ours theirs ours' theirs' = (s ≡ alone (front_tomb theirs.front) (front_tomb ours.front) (held_fragments theirs)) × (ours' ≡ ours) × TakesFirst s theirs theirs'
TakesTurn turn.Both s ours theirs ours' theirs' = (s ≡ pair_step (greater tomb_cmp (front_tomb ours.front) (front_tomb theirs.front)) (held_fragments ours) (held_fragments theirs)) × TakesFirst s ours ours' × TakesFirst s theirs theirs'

-- whose turn it is up to x
abbrev pub turn_of : Pos → List Frag → List Frag → Turn
turn_of x fs gs = cond (is_near x (nearer fs gs) fs gs) (nearer fs gs) turn.Nobody

-- a row of the first of fragments, if it is one
abbrev pub row_of : List Frag → Option Row
row_of [] = None
row_of (frag.Start pt ∷ fs) = None
row_of (frag.Static row ∷ fs) = None
row_of (frag.Row key row ∷ fs) = Some row
row_of (frag.Change from tomb ∷ fs) = None
row_of (frag.End ∷ fs) = None

-- two rows as one, where there are both
abbrev pub row_of_both : Option Row → Option Row → Option Row
row_of_both None other = None
row_of_both (Some row) None = None
row_of_both (Some row) (Some other) = Some (joined_row (row ∷ other ∷ []))

-- what was looked at, after the first that is held was taken
abbrev pub look_taken : Front → Look → Look
look_taken (front.Due from tomb) l = l
look_taken (front.Passed tomb) look.Open = look.Open
look_taken (front.Passed tomb) (look.Over z) = look.Over z
look_taken (front.Passed tomb) (look.Next f) = look.Open
look_taken (front.Passed tomb) (look.Past z f) = look.Over z

-- what is kept of a change at z that was passed over
abbrev pub passed_over : Pos → Look → Look
passed_over z look.Open = look.Over z
passed_over z (look.Over x) = look.Over (later z x)
passed_over z (look.Next f) = look.Next f
passed_over z (look.Past x f) = look.Past x f

-- what is kept of a fragment that was passed over, if it is a change
abbrev pub look_past : Frag → Look → Look
look_past (frag.Start pt) l = l
look_past (frag.Static row) l = l
look_past (frag.Row key row) l = l
look_past (frag.Change z tomb) l = passed_over z l
look_past frag.End l = l
