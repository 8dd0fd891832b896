-- What pieces in order have at a position.
use Rattle.std.proofs.Common.{◌≡◌, Bool, true, false, not, ◌&&◌, cond, List, [], ◌∷◌, ◌++◌, map, filter, Option, Some, None, refl, sym, ap, ◌∙◌}
use Rattle.rc_position.specs.declared.positions.Pos.{Pos}
use Rattle.rc_position.specs.Position.{covers}
use Rattle.rc_cell.specs.declared.writes.Tomb.{Tomb}
use Rattle.rc_cell.specs.Orders.{tomb_cmp, tomb_cmp_total}
use Rattle.rc_cell.specs.Winner.{greatest}
use Rattle.rc_cell.specs.Greatest.{greater}
use Rattle.rc_cell.specs.laws.Greatest.{top, greatest-none, greatest-top}
use Rattle.rc_cell.specs.laws.Beats.{tomb_cmp-IsAntisymmetric}
use Rattle.rc_ranges.specs.declared.pieces.Piece.{Piece}
use Rattle.rc_ranges.specs.Cover.{cover, tombs_over, IsCanonical}
use Rattle.rc_ranges.specs.calls.Sweep.{lt}
use Rattle.rc_ranges.specs.laws.Order.{covers-lt, gt-lt, before-lt, lt-trans, lt-le}
use Rattle.rc_ranges.specs.laws.Greater.{greatest-both}

-- what one piece has there
abbrev pub piece_at : Piece → Pos → Option Tomb
piece_at p x = cond (not (lt x p.from) && lt x p.to) (Some p.tomb) None

pub piece_at-inside : (p : Piece) (x : Pos) → lt x p.from ≡ false → lt x p.to ≡ true → piece_at p x ≡ Some p.tomb
piece_at-inside p x e f = λ i. cond (not (e i) && f i) (Some p.tomb) None

pub piece_at-before : (p : Piece) (x : Pos) → lt x p.from ≡ true → piece_at p x ≡ None
piece_at-before p x e = λ i. cond (not (e i) && lt x p.to) (Some p.tomb) None

never : (b : Bool) (t : Tomb) → cond (b && false) (Some t) None ≡ None
never true t = refl
never false t = refl

pub piece_at-behind : (p : Piece) (x : Pos) → lt x p.to ≡ false → piece_at p x ≡ None
piece_at-behind p x e = (λ i. cond (not (lt x p.from) && e i) (Some p.tomb) None) ∙ never (not (lt x p.from)) p.tomb

top_of : (xs : List Tomb) → greatest tomb_cmp xs ≡ top tomb_cmp xs
top_of = greatest-top tomb_cmp_total tomb_cmp-IsAntisymmetric

one_more : (b : Bool) (p : Piece) (ps : List Piece) → top tomb_cmp (map (λ (q : Piece). q.tomb) (cond b (p ∷ ps) ps)) ≡ greater tomb_cmp (cond b (Some p.tomb) None) (top tomb_cmp (map (λ (q : Piece). q.tomb) ps))
one_more true p ps = refl
one_more false p ps = refl

pub cover-none : (x : Pos) → cover [] x ≡ None
unfolding cover
cover-none x = greatest-none tomb_cmp

pub cover-cons : (p : Piece) (ps : List Piece) (x : Pos) → cover (p ∷ ps) x ≡ greater tomb_cmp (piece_at p x) (cover ps x)
unfolding cover
cover-cons p ps x =
    top_of (tombs_over (p ∷ ps) x)
    ∙ one_more (covers p.from p.to x) p (filter (λ (q : Piece). covers q.from q.to x) ps)
    ∙ (λ i. greater tomb_cmp (cond (covers-lt p.from p.to x i) (Some p.tomb) None) (sym (top_of (tombs_over ps x)) i))

-- the tombstones over a position of two lists together
pub over-append : (ours theirs : List Piece) (x : Pos) → tombs_over (ours ++ theirs) x ≡ tombs_over ours x ++ tombs_over theirs x
over-append [] theirs x = refl
over-append (p ∷ ps) theirs x =
    elim (covers p.from p.to x) as (λ b. map (λ (q : Piece). q.tomb) (cond b (p ∷ filter (λ (q : Piece). covers q.from q.to x) (ps ++ theirs)) (filter (λ (q : Piece). covers q.from q.to x) (ps ++ theirs))) ≡ map (λ (q : Piece). q.tomb) (cond b (p ∷ filter (λ (q : Piece). covers q.from q.to x) ps) (filter (λ (q : Piece). covers q.from q.to x) ps)) ++ tombs_over theirs x) [
      | true ↦ ap (λ ts. p.tomb ∷ ts) (over-append ps theirs x)
      | false ↦ over-append ps theirs x
    ]

-- two lists together have the greater of what each has
pub cover-append : (ours theirs : List Piece) (x : Pos) → cover (ours ++ theirs) x ≡ greater tomb_cmp (cover ours x) (cover theirs x)
unfolding cover
cover-append ours theirs x = ap (greatest tomb_cmp) (over-append ours theirs x) ∙ greatest-both (tombs_over ours x) (tombs_over theirs x)

-- no later piece covers what is before the end of a piece
pub cover-later : (p : Piece) (ps : List Piece) → IsCanonical (p ∷ ps) → (x : Pos) → lt x p.to ≡ true → cover ps x ≡ None
cover-later p [] c x e = cover-none x
cover-later p (q ∷ qs) c x e =
    let begins : lt x q.from ≡ true = lt-le x p.to q.from e (sym (gt-lt p.to q.from) ∙ c.1.0) in
    let ends : lt x q.to ≡ true = lt-trans x q.from q.to begins (before-lt q.from q.to c.2.0) in
    cover-cons q qs x ∙ (λ i. greater tomb_cmp (piece_at-before q x begins i) (cover-later q qs c.2 x ends i))

pub cover-before : (p : Piece) (ps : List Piece) → IsCanonical (p ∷ ps) → (x : Pos) → lt x p.from ≡ true → cover (p ∷ ps) x ≡ None
cover-before p ps c x e =
    let ends : lt x p.to ≡ true = lt-trans x p.from p.to e (before-lt p.from p.to c.0) in
    cover-cons p ps x ∙ (λ i. greater tomb_cmp (piece_at-before p x e i) (cover-later p ps c x ends i))

pub cover-inside : (p : Piece) (ps : List Piece) → IsCanonical (p ∷ ps) → (x : Pos) → lt x p.from ≡ false → lt x p.to ≡ true → cover (p ∷ ps) x ≡ Some p.tomb
cover-inside p ps c x e f = cover-cons p ps x ∙ (λ i. greater tomb_cmp (piece_at-inside p x e f i) (cover-later p ps c x f i))

pub cover-behind : (p : Piece) (ps : List Piece) (x : Pos) → lt x p.to ≡ false → cover (p ∷ ps) x ≡ cover ps x
cover-behind p ps x e = cover-cons p ps x ∙ (λ i. greater tomb_cmp (piece_at-behind p x e i) (cover ps x))
