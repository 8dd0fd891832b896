-- Canonical range tombstones that are those of one list before a position, and those of another from there on.
use Rattle.std.proofs.Common.{◌≡◌, ◌≢◌, true, false, cond, List, [], ◌∷◌, ◌++◌, Option, Some, None, refl, sym, ap, ◌∙◌, subst}
use Rattle.std.specs.declared.cmp.Ordering.{Ordering}
use Rattle.std.specs.declared.cmp.Ordering.TheVariants.{Less, Equal, Greater}
use Rattle.std.specs.Ordering.{eq_by_cmp, is_eq, is_gt, ordering_reverse}
use Rattle.rc_cell.specs.declared.writes.Tomb.{Tomb}
use Rattle.rc_position.specs.declared.positions.Pos.{Pos}
use Rattle.rc_position.specs.Position.{pos_cmp, IsBefore}
use Rattle.rc_position.specs.laws.Orders.{pos_cmp_same, pos_cmp_total}
use Rattle.rc_ranges.specs.declared.pieces.Piece.{Piece}
use Rattle.rc_ranges.specs.Cover.{IsCanonical, cover}
use Rattle.rc_ranges.specs.calls.Sweep.{lt}
use Rattle.rc_mutation.specs.Canonical.{ComesNext}
use Rattle.rc_mutation.specs.Fragments.{changes_of}
use Rattle.rc_mutation.specs.laws.CanonicalMerging.{Change, IsChanges}
use Rattle.rc_mutation.specs.laws.CanonicalPieces.{canonical-pieces, changes-pieces, pieces_in}
use Rattle.rc_query.specs.laws.Compacting.{along, along-ranges}
use Rattle.rc_spliced.proofs.Sides.{tie}
use Rattle.rc_spliced.proofs.Changes.{spliced, spliced-are, spliced-before, spliced-from}

-- ---- canonical pieces have changes

not_behind : (r : Ordering) → is_gt r ≡ false → is_eq (ordering_reverse r) ≡ false → r ≡ Less
not_behind Less g e = refl
not_behind Equal g e = absurd (cc)
not_behind Greater g e = absurd (cc)

-- a position that is not behind another nor at it is before it
before : (x y : Pos) → is_gt (pos_cmp x y) ≡ false → eq_by_cmp pos_cmp y x ≡ false → IsBefore x y
before x y g e = not_behind (pos_cmp x y) g (sym (ap is_eq (pos_cmp_total.antisymm y x)) ∙ e)

other_tomb : (s t : Tomb) → s ≢ t → Some t ≢ Some s
other_tomb s t apart e = apart (let same : s ≡ t = cc in same)

-- the first piece begins behind a last position
abbrev StartsBehind : Option Pos → List Piece → Type 0
StartsBehind last [] = Unit {0}
StartsBehind last (p ∷ ps) = ComesNext last p.from

changes-are : (last : Option Pos) (ps : List Piece) → IsCanonical ps → StartsBehind last ps → IsChanges None last (changes_of ps)
changes-are last [] is h = refl
changes-are last (p ∷ []) is h = (h, (λ e. cc), (is.0, (λ e. cc), refl))
changes-are last (p ∷ (q ∷ qs)) is h = (
  h,
  (λ e. cc),
  elim (eq_by_cmp pos_cmp q.from p.to) as (λ b. eq_by_cmp pos_cmp q.from p.to ≡ b → IsChanges (Some p.tomb) (Some p.from) (cond b [] ((p.to, None) ∷ []) ++ changes_of (q ∷ qs))) [
    | true ↦ λ e.
        let meet : q.from ≡ p.to = pos_cmp_same q.from p.to (tie (pos_cmp q.from p.to) e) in
        let rest = changes-are (Some p.from) (q ∷ qs) is.2 (subst (IsBefore p.from) (sym meet) is.0) in
        (rest.0, other_tomb p.tomb q.tomb (is.1.1 (sym meet)), rest.2)
    | false ↦ λ e. (is.0, (λ same. cc), changes-are (Some p.to) (q ∷ qs) is.2 (before p.to q.from is.1.0 e))
  ] refl,
)

from_start : (ps : List Piece) → StartsBehind None ps
from_start [] = tt
from_start (p ∷ ps) = tt

-- ---- the pieces between the changes

module _ (x : Pos) (one other : List Piece) (is : IsCanonical one) (too : IsCanonical other) where
  abbrev changes : List Change
  changes = spliced x None (changes_of one) (changes_of other)

  are : IsChanges None None changes
  are = spliced-are x None None (changes_of one) (changes_of other) tt (changes-are None one is (from_start one)) (changes-are None other too (from_start other))

  abbrev pub ranges : List Piece
  ranges = pieces_in changes

  pub ranges_canonical : IsCanonical ranges
  ranges_canonical = canonical-pieces changes are

  cover-along : (y : Pos) → cover ranges y ≡ along None changes y
  cover-along y = sym (along-ranges ranges ranges_canonical y) ∙ ap (λ cs. along None cs y) (changes-pieces changes are)

  pub cover-before : (y : Pos) → lt y x ≡ true → cover ranges y ≡ cover one y
  cover-before y h = cover-along y ∙ spliced-before x None (changes_of one) (changes_of other) y h ∙ along-ranges one is y

  pub cover-from : (y : Pos) → lt y x ≡ false → cover ranges y ≡ cover other y
  cover-from y h = cover-along y ∙ spliced-from x None (changes_of one) (changes_of other) y h ∙ along-ranges other too y
