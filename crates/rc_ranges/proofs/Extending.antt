-- One more piece behind pieces in order.
use Rattle.std.proofs.Common.{◌≡◌, Bool, true, false, ◌&&◌, cond, List, [], ◌∷◌, ◌++◌, Some, None, refl, sym, ap, ◌∙◌, subst}
use Rattle.std.specs.declared.cmp.Ordering.{Ordering}
use Rattle.std.specs.declared.cmp.Ordering.TheVariants.{Less, Equal, Greater}
use Rattle.std.specs.Ordering.{is_eq}
use Rattle.std.specs.Cmp.{tied_itself}
use Rattle.rc_position.specs.declared.positions.Pos.{Pos}
use Rattle.rc_position.specs.Position.{pos_cmp, IsBefore}
use Rattle.rc_position.specs.laws.Orders.{pos_cmp_total, pos_cmp_same}
use Rattle.rc_cell.specs.Orders.{tomb_cmp, tomb_cmp_total}
use Rattle.rc_cell.specs.Greatest.{greater}
use Rattle.rc_cell.specs.laws.Beats.{tomb_cmp-IsAntisymmetric}
use Rattle.rc_ranges.specs.declared.pieces.Piece.{Piece}
use Rattle.rc_ranges.specs.Cover.{cover, MayFollow, IsCanonical}
use Rattle.rc_ranges.specs.calls.Sweep.{lt, goes_on, extended_pieces}
use Rattle.rc_ranges.specs.laws.Order.{gt-lt, before-lt, lt-before, lt-irrefl, lt-asym, lt-trans, le-trans}
use Rattle.rc_ranges.specs.laws.Greater.{greater-none, greater-assoc}
use Rattle.rc_ranges.specs.laws.Covering.{piece_at, piece_at-inside, piece_at-before, piece_at-behind, cover-none, cover-cons}

-- no piece ends behind the mark
abbrev pub EndBy : List Piece → Pos → Type 0
EndBy [] m = Unit {0}
EndBy (p ∷ ps) m = (lt m p.to ≡ false) × EndBy ps m

pub EndBy-later : (ps : List Piece) (m n : Pos) → lt m n ≡ true → EndBy ps m → EndBy ps n
EndBy-later [] m n e h = tt
EndBy-later (p ∷ ps) m n e h = (le-trans p.to m n h.0 (lt-asym m n e), EndBy-later ps m n e h.1)

-- nothing is covered from there on
pub EndBy-cover : (ps : List Piece) (m x : Pos) → EndBy ps m → lt x m ≡ false → cover ps x ≡ None
EndBy-cover [] m x h e = cover-none x
EndBy-cover (p ∷ ps) m x h e =
    cover-cons p ps x ∙ (λ i. greater tomb_cmp (piece_at-behind p x (le-trans p.to m x h.0 e) i) (EndBy-cover ps m x h.1 e i))

tied : (r : Ordering) → is_eq r ≡ true → r ≡ Equal
tied Less e = absurd (cc)
tied Equal e = refl
tied Greater e = absurd (cc)

first_so : (a b : Bool) → (a && b) ≡ true → a ≡ true
first_so true b e = refl
first_so false b e = absurd (cc)

second_so : (a b : Bool) → (a && b) ≡ true → b ≡ true
second_so true b e = e
second_so false b e = absurd (cc)

goes_on-tomb : (p q : Piece) → goes_on p q ≡ true → p.tomb ≡ q.tomb
goes_on-tomb p q e = tomb_cmp-IsAntisymmetric p.tomb q.tomb (tied _ (first_so (is_eq (tomb_cmp p.tomb q.tomb)) (is_eq (pos_cmp p.to q.from)) e))

goes_on-touches : (p q : Piece) → goes_on p q ≡ true → p.to ≡ q.from
goes_on-touches p q e = pos_cmp_same p.to q.from (tied _ (second_so (is_eq (tomb_cmp p.tomb q.tomb)) (is_eq (pos_cmp p.to q.from)) e))

goes_on-from : (p q : Piece) → p.to ≡ q.from → p.tomb ≡ q.tomb → goes_on p q ≡ true
goes_on-from p q e f = λ i.
    (ap is_eq (subst (λ z. tomb_cmp p.tomb z ≡ Equal) f (tied_itself tomb_cmp_total p.tomb))) i
    && (ap is_eq (subst (λ z. pos_cmp p.to z ≡ Equal) e (tied_itself pos_cmp_total p.to))) i

no_both : (b : Bool) → b ≡ true → b ≡ false → ⊥
no_both true e f = cc
no_both false e f = cc

abbrev longer : Piece → Piece → Piece
longer p q = record p { to = q.to }

-- ---- what the longer list has at each position

-- a piece cut in two, both parts with its tombstone
cut : (p q : Piece) → goes_on p q ≡ true → IsBefore p.from p.to → IsBefore q.from q.to → (x : Pos) → piece_at (longer p q) x ≡ greater tomb_cmp (piece_at p x) (piece_at q x)
cut p q e before_p before_q x =
    let touch : p.to ≡ q.from = goes_on-touches p q e in
    let same : p.tomb ≡ q.tomb = goes_on-tomb p q e in
    let short : lt p.from p.to ≡ true = before-lt p.from p.to before_p in
    let next : lt p.to q.to ≡ true = subst (λ z. lt z q.to ≡ true) (sym touch) (before-lt q.from q.to before_q) in
    elim (lt x p.from) as (λ b. lt x p.from ≡ b → piece_at (longer p q) x ≡ greater tomb_cmp (piece_at p x) (piece_at q x)) [
      | true ↦ λ f.
          let early : lt x q.from ≡ true = subst (λ z. lt x z ≡ true) touch (lt-trans x p.from p.to f short) in
          piece_at-before (longer p q) x f ∙ sym (λ i. greater tomb_cmp (piece_at-before p x f i) (piece_at-before q x early i))
      | false ↦ λ f. elim (lt x p.to) as (λ b. lt x p.to ≡ b → piece_at (longer p q) x ≡ greater tomb_cmp (piece_at p x) (piece_at q x)) [
        | true ↦ λ g.
            let early : lt x q.from ≡ true = subst (λ z. lt x z ≡ true) touch g in
            piece_at-inside (longer p q) x f (lt-trans x p.to q.to g next) ∙ sym (λ i. greater tomb_cmp (piece_at-inside p x f g i) (piece_at-before q x early i))
        | false ↦ λ g.
            let begun : lt x q.from ≡ false = subst (λ z. lt x z ≡ false) touch g in
            elim (lt x q.to) as (λ b. lt x q.to ≡ b → piece_at (longer p q) x ≡ greater tomb_cmp (piece_at p x) (piece_at q x)) [
              | true ↦ λ h. piece_at-inside (longer p q) x f h ∙ ap Some same ∙ sym (λ i. greater tomb_cmp (piece_at-behind p x g i) (piece_at-inside q x begun h i))
              | false ↦ λ h. piece_at-behind (longer p q) x h ∙ sym (λ i. greater tomb_cmp (piece_at-behind p x g i) (piece_at-behind q x h i))
            ] refl
      ] refl
    ] refl

cover-one : (p : Piece) (x : Pos) → cover (p ∷ []) x ≡ piece_at p x
cover-one p x = cover-cons p [] x ∙ ap (greater tomb_cmp (piece_at p x)) (cover-none x) ∙ greater-none (piece_at p x)

pub cover-extended : (ps : List Piece) (q : Piece) → IsCanonical ps → IsBefore q.from q.to → (x : Pos) → cover (extended_pieces ps q) x ≡ greater tomb_cmp (cover ps x) (piece_at q x)
cover-extended [] q c before x = cover-one q x ∙ sym (ap (λ s. greater tomb_cmp s (piece_at q x)) (cover-none x))
cover-extended (p ∷ []) q c before x =
    elim (goes_on p q) as (λ b. goes_on p q ≡ b → cover (cond b (longer p q ∷ []) (p ∷ q ∷ [])) x ≡ greater tomb_cmp (cover (p ∷ []) x) (piece_at q x)) [
      | true ↦ λ e. cover-one (longer p q) x ∙ cut p q e c.0 before x ∙ sym (ap (λ s. greater tomb_cmp s (piece_at q x)) (cover-one p x))
      | false ↦ λ e. cover-cons p (q ∷ []) x ∙ (λ i. greater tomb_cmp (sym (cover-one p x) i) (cover-one q x i))
    ] refl
cover-extended (p ∷ r ∷ ps) q c before x =
    cover-cons p (extended_pieces (r ∷ ps) q) x
    ∙ ap (greater tomb_cmp (piece_at p x)) (cover-extended (r ∷ ps) q c.2 before x)
    ∙ sym (greater-assoc (piece_at p x) (cover (r ∷ ps) x) (piece_at q x))
    ∙ sym (ap (λ s. greater tomb_cmp s (piece_at q x)) (cover-cons p (r ∷ ps) x))

-- ---- it is canonical

MayFollow-extended : (p r : Piece) (ps : List Piece) (q : Piece) → MayFollow p (r ∷ ps) → MayFollow p (extended_pieces (r ∷ ps) q)
MayFollow-extended p r [] q h = elim (goes_on r q) as (λ b. MayFollow p (cond b (longer r q ∷ []) (r ∷ q ∷ []))) [ true ↦ h | false ↦ h ]
MayFollow-extended p r (s ∷ ps) q h = h

pub IsCanonical-extended : (ps : List Piece) (q : Piece) → IsCanonical ps → EndBy ps q.from → IsBefore q.from q.to → IsCanonical (extended_pieces ps q)
IsCanonical-extended [] q c ends before = (before, tt, tt)
IsCanonical-extended (p ∷ []) q c ends before =
    elim (goes_on p q) as (λ b. goes_on p q ≡ b → IsCanonical (cond b (longer p q ∷ []) (p ∷ q ∷ []))) [
      | true ↦ λ e.
          let next : lt p.to q.to ≡ true = subst (λ z. lt z q.to ≡ true) (sym (goes_on-touches p q e)) (before-lt q.from q.to before) in
          (lt-before p.from q.to (lt-trans p.from p.to q.to (before-lt p.from p.to c.0) next), tt, tt)
      | false ↦ λ e. (c.0, (gt-lt p.to q.from ∙ ends.0, λ touch same. no_both (goes_on p q) (goes_on-from p q touch same) e), (before, tt, tt))
    ] refl
IsCanonical-extended (p ∷ r ∷ ps) q c ends before = (c.0, MayFollow-extended p r ps q c.1, IsCanonical-extended (r ∷ ps) q c.2 ends.1 before)

-- ---- it ends where the new piece does

pub EndBy-extended : (ps : List Piece) (q : Piece) → EndBy ps q.from → IsBefore q.from q.to → EndBy (extended_pieces ps q) q.to
EndBy-extended [] q ends before = (lt-irrefl q.to, tt)
EndBy-extended (p ∷ []) q ends before =
    elim (goes_on p q) as (λ b. EndBy (cond b (longer p q ∷ []) (p ∷ q ∷ [])) q.to) [
      | true ↦ (lt-irrefl q.to, tt)
      | false ↦ (le-trans p.to q.from q.to ends.0 (lt-asym q.from q.to (before-lt q.from q.to before)), (lt-irrefl q.to, tt))
    ]
EndBy-extended (p ∷ r ∷ ps) q ends before =
    (le-trans p.to q.from q.to ends.0 (lt-asym q.from q.to (before-lt q.from q.to before)), EndBy-extended (r ∷ ps) q ends.1 before)

-- ---- the last piece taken off and put back

pub extended-last : (ps : List Piece) (p q : Piece) → extended_pieces (ps ++ p ∷ []) q ≡ ps ++ cond (goes_on p q) (longer p q ∷ []) (p ∷ q ∷ [])
extended-last [] p q = refl
extended-last (r ∷ []) p q = refl
extended-last (r ∷ s ∷ ps) p q = ap (λ t. r ∷ t) (extended-last (s ∷ ps) p q)
