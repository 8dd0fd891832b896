-- How what fragments say is filled, one after another.
--     past, SaysUpToFragment    the place behind a fragment, and that writes say what it says up to there
--     SaysAll                   so of several, and nothing behind them
--     IsFit, FragmentsFit       the keys of fragments are within the limits
--     IsFilledBy                what fills keep, and what they make known
--     IsFilling                 how far fragments are filled
use Rattle.std.specs.Prelude.{◌≢◌, ◌≤◌, ⊤, List, [], ◌∷◌, Option, None}
use Rattle.rc_cell.specs.declared.writes.Tomb.{Tomb}
use Rattle.rc_cell.specs.Winner.{empty_row}
use Rattle.rc_position.specs.declared.positions.Pos.{Pos}
use Rattle.rc_position.specs.Position.{row_pos}
use Rattle.rc_rowcode.specs.Spelling.{KeyFits}
use Rattle.rc_mutation.specs.declared.fragments.Frag.{Frag}
use Rattle.rc_mutation.specs.declared.fragments.Frag.TheVariants as frag
use Rattle.rc_mutation.specs.declared.mutations.Mutation.{Mutation}
use Rattle.rc_mutation.specs.Fragments.{tomb_after}
use Rattle.rc_core.specs.Version.{end_position}
use Rattle.rc_stream.specs.Did.{Many}
use Rattle.rc_stream.specs.Snapshot.{SayThere, There, Throughout, Unlost}
use Rattle.rc_cacheread.specs.Passing.{IsKnownOver}
use Rattle.rc_cacheread.specs.Reading.{behind_row}
use Rattle.rc_cacheread.specs.Sharing.{OfFiller}
use Rattle.rc_snapshots.specs.Streams.{first_position}

-- the place behind a fragment: behind its row, or at its change
abbrev pub past : Pos → Frag → Pos
past x (frag.Start pt) = x
past x (frag.Static row) = x
past x (frag.Row key row) = behind_row key
past x (frag.Change from tomb) = from
past x frag.End = x

-- from one position on and before another writes say no row, and this tombstone
abbrev pub SaysNone : List Mutation → Pos → Pos → Option Tomb → Type 0
SaysNone writes x y tomb = Throughout x y (λ z. SayThere writes z (empty_row, tomb))

-- from a place on writes say no row and this tombstone up to a fragment, and its row, if it is one
abbrev pub SaysUpToFragment : List Mutation → Pos → Option Tomb → Frag → Type 0
SaysUpToFragment writes x tomb (frag.Start pt) = ⊤
SaysUpToFragment writes x tomb (frag.Static row) = ⊤
SaysUpToFragment writes x tomb (frag.Row key row) = SaysNone writes x (row_pos key) tomb × SayThere writes (row_pos key) (row, tomb)
SaysUpToFragment writes x tomb (frag.Change from next) = SaysNone writes x from tomb
SaysUpToFragment writes x tomb frag.End = ⊤

-- so of each of several fragments, and behind them no row
abbrev pub SaysAll : List Mutation → Pos → Option Tomb → List Frag → Type 0
SaysAll writes x tomb [] = SaysNone writes x end_position tomb
SaysAll writes x tomb (f ∷ fs) = SaysUpToFragment writes x tomb f × SaysAll writes (past x f) (tomb_after tomb f) fs

-- a row is not empty
abbrev pub IsNotEmptyRow : Frag → Type 0
IsNotEmptyRow (frag.Start pt) = ⊤
IsNotEmptyRow (frag.Static row) = ⊤
IsNotEmptyRow (frag.Row key row) = row ≢ empty_row
IsNotEmptyRow (frag.Change from tomb) = ⊤
IsNotEmptyRow frag.End = ⊤

-- no row is
abbrev pub NoEmptyRows : List Frag → Type 0
NoEmptyRows [] = ⊤
NoEmptyRows (f ∷ fs) = IsNotEmptyRow f × NoEmptyRows fs

-- the key of a row is within the limits, and so is that at which a change stands
abbrev pub IsFit : Frag → Type 0
IsFit (frag.Start pt) = ⊤
IsFit (frag.Static row) = ⊤
IsFit (frag.Row key row) = KeyFits key
IsFit (frag.Change from tomb) = KeyFits from.prefix
IsFit frag.End = ⊤

-- so of each of several
abbrev pub FragmentsFit : List Frag → Type 0
FragmentsFit [] = ⊤
FragmentsFit (f ∷ fs) = IsFit f × FragmentsFit fs

-- one fill
abbrev pub OneFill : {P H : Type 0} → OfFiller P H → P × H → P × H → Type 0
OneFill fi s t = fi.fills s.0 s.1 t.0 t.1

-- fills one after another: what may be filled still may be, and what was lost is not forgotten; where nothing was lost, what was known still is
pub record IsFilledBy {P H : Type 0} (fi : OfFiller P H) (p : P) (h : H) (q : P) (g : H) : Type 0 where
  pub did : Many (OneFill fi) (p, h) (q, g)
  pub still : fi.may p h → fi.may q g
  pub lost : fi.lost h ≤ fi.lost g
  pub each : Unlost (fi.may p h) (fi.lost h) (fi.lost g) ((x : Pos) (v : There) → fi.knows p h x v → fi.knows q g x v)
  pub ready : fi.ready q g

-- up to a place fragments are filled, where this tombstone is in force and these are left: it is known up to there, where nothing was lost; and for each list of writes that says all of them the filler stands as it stood, and they say what is left
pub record IsFilling {P H : Type 0} (fi : OfFiller P H) (all : List Frag) (p : P) (h : H) (q : P) (g : H) (at : Pos) (tomb : Option Tomb) (left : List Frag) : Type 0 where
  pub filled : IsFilledBy fi p h q g
  pub known : Unlost (fi.may p h) (fi.lost h) (fi.lost g) (IsKnownOver (fi.knows q g) first_position at)
  pub stands : (writes : List Mutation) → fi.stands p h writes → SaysAll writes first_position None all → fi.stands q g writes × SaysAll writes at tomb left
  pub written : NoEmptyRows left
