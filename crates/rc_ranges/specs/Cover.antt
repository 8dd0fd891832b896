-- Range tombstones: what deletes a position.
--     cover           the tombstone in force at a position: the greatest of the pieces that cover it
--     IsCanonical     pieces in order that do not overlap, none of them empty; two that touch have different tombstones
--     IsRangeJoinOf        at each position the greater tombstone of two lists
use Rattle.std.specs.Prelude.{◌≡◌, ◌≢◌, false, List, [], ◌∷◌, map, filter, Option, ◌⊎◌}
use Rattle.std.specs.Ordering.{is_gt}
use Rattle.rc_position.specs.declared.positions.Pos.{Pos}
use Rattle.rc_position.specs.Position.{pos_cmp, IsBefore, covers}
use Rattle.rc_cell.specs.declared.writes.Tomb.{Tomb}
use Rattle.rc_cell.specs.Orders.{tomb_cmp}
use Rattle.rc_cell.specs.Winner.{greatest}
use Rattle.rc_cell.specs.Greatest.{greater}
use Rattle.rc_ranges.specs.declared.pieces.Piece.{Piece}

-- the tombstones of the pieces that cover a position
abbrev pub tombs_over : List Piece → Pos → List Tomb
tombs_over pieces x = map (λ p. p.tomb) (filter (λ p. covers p.from p.to x) pieces)

-- the tombstone in force at a position: the greatest of those, and none where no piece covers it
unfoldable pub cover : List Piece → Pos → Option Tomb
cover pieces x = greatest tomb_cmp (tombs_over pieces x)

-- the first of some pieces may stand right after another: it begins where that one ends, or later, and where they touch their tombstones differ
abbrev pub MayFollow : Piece → List Piece → Type 0
MayFollow p [] = Unit {0}
MayFollow p (q ∷ qs) = (is_gt (pos_cmp p.to q.from) ≡ false) × (p.to ≡ q.from → p.tomb ≢ q.tomb)

-- ranges of some width that ascend, do not overlap, and meet only where their tombstones differ
abbrev pub IsCanonical : List Piece → Type 0
IsCanonical [] = Unit {0}
IsCanonical (p ∷ ps) = IsBefore p.from p.to × MayFollow p ps × IsCanonical ps

-- at each position the pieces have the greater of the tombstones that two other lists have there
abbrev pub IsRangeJoinOf : List Piece → List Piece → List Piece → Type 0
IsRangeJoinOf pieces ours theirs = (x : Pos) → cover pieces x ≡ greater tomb_cmp (cover ours x) (cover theirs x)

-- x is where some piece begins or ends
abbrev pub IsBoundOf : Pos → List Piece → Type 0
IsBoundOf x [] = ⊥
IsBoundOf x (p ∷ ps) = (x ≡ p.from) ⊎ (x ≡ p.to) ⊎ IsBoundOf x ps
