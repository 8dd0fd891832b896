-- A canonical list is determined by what it has where pieces begin and end.
use Rattle.std.proofs.Common.{◌≡◌, inl, inr, true, false, cond, List, [], ◌∷◌, ◌++◌, Some, None, refl, sym, ap, ◌∙◌, subst, ⊎_elim}
use Rattle.rc_position.specs.declared.positions.Pos.{Pos}
use Rattle.rc_cell.specs.declared.writes.Tomb.{Tomb}
use Rattle.rc_cell.specs.Orders.{tomb_cmp}
use Rattle.rc_cell.specs.Greatest.{greater}
use Rattle.rc_position.specs.Position.{covers}
use Rattle.rc_ranges.specs.declared.pieces.Piece.{Piece}
use Rattle.rc_ranges.specs.Cover.{cover, IsCanonical, IsRangeJoinOf, IsBoundOf}
use Rattle.rc_ranges.specs.calls.Sweep.{lt}
use Rattle.rc_ranges.specs.laws.Order.{covers-lt, gt-lt, before-lt, lt-irrefl, lt-asym, le-same}
use Rattle.rc_ranges.specs.laws.Greater.{greater-none, greater-comm, greater-same, greater-assoc}
use Rattle.rc_ranges.specs.laws.Covering.{cover-none, cover-cons, cover-later, cover-before, cover-inside, cover-behind}

same_some : (s t : Tomb) → Some s ≡ Some t → s ≡ t
same_some s t e = cc

-- at its own beginning a piece is in force
at_from : (p : Piece) (ps : List Piece) → IsCanonical (p ∷ ps) → cover (p ∷ ps) p.from ≡ Some p.tomb
at_from p ps c = cover-inside p ps c p.from (lt-irrefl p.from) (before-lt p.from p.to c.0)

not_before : (p : Piece) (ps : List Piece) (q : Piece) (qs : List Piece) → IsCanonical (p ∷ ps) → IsCanonical (q ∷ qs) → cover (p ∷ ps) p.from ≡ cover (q ∷ qs) p.from → lt p.from q.from ≡ false
not_before p ps q qs c d e =
    elim (lt p.from q.from) as (λ b. lt p.from q.from ≡ b → b ≡ false) [
      | true ↦ λ f. let clash : Some p.tomb ≡ None = sym (at_from p ps c) ∙ e ∙ cover-before q qs d p.from f in absurd (cc)
      | false ↦ λ f. refl
    ] refl

-- behind a piece its tombstone is not in force
not_same_after : (p : Piece) (ps : List Piece) → IsCanonical (p ∷ ps) → cover ps p.to ≡ Some p.tomb → ⊥
not_same_after p [] c e = let clash : None ≡ Some p.tomb = sym (cover-none p.to) ∙ e in cc
not_same_after p (r ∷ rs) c e =
    elim (lt p.to r.from) as (λ b. lt p.to r.from ≡ b → ⊥) [
      | true ↦ λ f. let clash : None ≡ Some p.tomb = sym (cover-before r rs c.2 p.to f) ∙ e in cc
      | false ↦ λ f.
          let touch : p.to ≡ r.from = le-same p.to r.from (sym (gt-lt p.to r.from) ∙ c.1.0) f in
          let ends : lt p.to r.to ≡ true = subst (λ z. lt z r.to ≡ true) (sym touch) (before-lt r.from r.to c.2.0) in
          c.1.1 touch (same_some p.tomb r.tomb (sym e ∙ cover-inside r rs c.2 p.to f ends))
    ] refl

not_shorter : (p : Piece) (ps : List Piece) (q : Piece) (qs : List Piece) → IsCanonical (p ∷ ps) → IsCanonical (q ∷ qs) → p.from ≡ q.from → p.tomb ≡ q.tomb → cover (p ∷ ps) p.to ≡ cover (q ∷ qs) p.to → lt p.to q.to ≡ false
not_shorter p ps q qs c d begin same e =
    elim (lt p.to q.to) as (λ b. lt p.to q.to ≡ b → b ≡ false) [
      | true ↦ λ f.
          let begun : lt p.to q.from ≡ false = subst (λ z. lt p.to z ≡ false) begin (lt-asym p.from p.to (before-lt p.from p.to c.0)) in
          absurd (not_same_after p ps c (sym (cover-behind p ps p.to (lt-irrefl p.to)) ∙ e ∙ cover-inside q qs d p.to begun f ∙ ap Some (sym same)))
      | false ↦ λ f. refl
    ] refl

bound_between : (x : Pos) (ps : List Piece) (q : Piece) (qs : List Piece) → IsBoundOf x (ps ++ qs) → IsBoundOf x (ps ++ q ∷ qs)
bound_between x [] q qs h = inr (inr h)
bound_between x (p ∷ ps) q qs h = ⊎_elim (λ e. inl e) (λ k. ⊎_elim (λ e. inr (inl e)) (λ b. inr (inr (bound_between x ps q qs b))) k) h

from_between : (ps : List Piece) (q : Piece) (qs : List Piece) → IsBoundOf q.from (ps ++ q ∷ qs)
from_between [] q qs = inl refl
from_between (p ∷ ps) q qs = inr (inr (from_between ps q qs))

to_between : (ps : List Piece) (q : Piece) (qs : List Piece) → IsBoundOf q.to (ps ++ q ∷ qs)
to_between [] q qs = inr (inl refl)
to_between (p ∷ ps) q qs = inr (inr (to_between ps q qs))

-- the pieces behind a first piece that both have
after_first : (p : Piece) (ps : List Piece) (q : Piece) (qs : List Piece) → IsCanonical (p ∷ ps) → IsCanonical (q ∷ qs) → p.to ≡ q.to → (x : Pos) → cover (p ∷ ps) x ≡ cover (q ∷ qs) x → cover ps x ≡ cover qs x
after_first p ps q qs c d end x e =
    elim (lt x p.to) as (λ b. lt x p.to ≡ b → cover ps x ≡ cover qs x) [
      | true ↦ λ f. cover-later p ps c x f ∙ sym (cover-later q qs d x (subst (λ z. lt x z ≡ true) end f))
      | false ↦ λ f. sym (cover-behind p ps x f) ∙ e ∙ cover-behind q qs x (subst (λ z. lt x z ≡ false) end f)
    ] refl

pub determined : (ours theirs : List Piece) → IsCanonical ours → IsCanonical theirs → ((x : Pos) → IsBoundOf x (ours ++ theirs) → cover ours x ≡ cover theirs x) → ours ≡ theirs
determined [] [] c d h = refl
determined [] (q ∷ qs) c d h = let clash : None ≡ Some q.tomb = sym (cover-none q.from) ∙ h q.from (inl refl) ∙ at_from q qs d in absurd (cc)
determined (p ∷ ps) [] c d h = let clash : None ≡ Some p.tomb = sym (cover-none p.from) ∙ sym (h p.from (inl refl)) ∙ at_from p ps c in absurd (cc)
determined (p ∷ ps) (q ∷ qs) c d h =
    let at_p : cover (p ∷ ps) p.from ≡ cover (q ∷ qs) p.from = h p.from (inl refl) in
    let at_q : cover (p ∷ ps) q.from ≡ cover (q ∷ qs) q.from = h q.from (from_between (p ∷ ps) q qs) in
    let begin : p.from ≡ q.from = le-same p.from q.from (not_before q qs p ps d c (sym at_q)) (not_before p ps q qs c d at_p) in
    let same : p.tomb ≡ q.tomb = same_some p.tomb q.tomb (sym (at_from p ps c) ∙ at_p ∙ ap (λ x. cover (q ∷ qs) x) begin ∙ at_from q qs d) in
    let end : p.to ≡ q.to =
    le-same p.to q.to
    (not_shorter q qs p ps d c (sym begin) (sym same) (sym (h q.to (to_between (p ∷ ps) q qs))))
    (not_shorter p ps q qs c d begin same (h p.to (inr (inl refl)))) in
    let rest : ps ≡ qs =
    determined ps qs c.2 d.2 (λ x b. after_first p ps q qs c d end x (h x (inr (inr (bound_between x ps q qs b))))) in
    λ i. record { from = begin i; to = end i; tomb = same i } ∷ rest i

-- ---- joins

pub join-comm : (ours theirs one other : List Piece) → IsCanonical one → IsCanonical other → IsRangeJoinOf one ours theirs → IsRangeJoinOf other theirs ours → one ≡ other
join-comm ours theirs one other c d h k = determined one other c d (λ x _. h x ∙ greater-comm (cover ours x) (cover theirs x) ∙ sym (k x))

pub join-assoc : (a b c ab bc one other : List Piece) → IsCanonical one → IsCanonical other → IsRangeJoinOf ab a b → IsRangeJoinOf one ab c → IsRangeJoinOf bc b c → IsRangeJoinOf other a bc → one ≡ other
join-assoc a b c ab bc one other k l h_ab h_one h_bc h_other =
    determined one other k l (λ x _.
    h_one x
    ∙ ap (λ t. greater tomb_cmp t (cover c x)) (h_ab x)
    ∙ greater-assoc (cover a x) (cover b x) (cover c x)
    ∙ sym (ap (greater tomb_cmp (cover a x)) (h_bc x))
    ∙ sym (h_other x))

pub join-same : (ours one : List Piece) → IsCanonical ours → IsCanonical one → IsRangeJoinOf one ours ours → one ≡ ours
join-same ours one c d h = determined one ours d c (λ x _. h x ∙ greater-same (cover ours x))

-- ---- one piece

pub cover-one : (p : Piece) (x : Pos) → cover (p ∷ []) x ≡ cond (covers p.from p.to x) (Some p.tomb) None
cover-one p x =
    cover-cons p [] x
    ∙ ap (greater tomb_cmp (cond _ (Some p.tomb) None)) (cover-none x)
    ∙ greater-none _
    ∙ sym (ap (λ b. cond b (Some p.tomb) None) (covers-lt p.from p.to x))
