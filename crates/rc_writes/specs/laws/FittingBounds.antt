-- Each bound of canonical pieces is a bound of a piece of any list that has the same tombstones in force at each position.
use Rattle.std.specs.Prelude.{◌≡◌, Bool, true, false, not, ◌&&◌, cond, List, [], ◌∷◌, Option, Some, None, ◌⊎◌}
use Rattle.std.proofs.Common.{inl, inr, refl, sym, ◌∙◌, subst, ⊎_elim}
use Rattle.rc_cell.specs.declared.writes.Tomb.{Tomb}
use Rattle.rc_cell.specs.Orders.{tomb_cmp}
use Rattle.rc_cell.specs.Greatest.{greater}
use Rattle.rc_position.specs.declared.positions.Pos.{Pos}
use Rattle.rc_position.specs.declared.positions.Weight.TheVariants.{Before}
use Rattle.rc_position.specs.laws.Bounds.{first_pos-least}
use Rattle.rc_ranges.specs.declared.pieces.Piece.{Piece}
use Rattle.rc_ranges.specs.Cover.{cover, IsCanonical}
use Rattle.rc_ranges.specs.calls.Sweep.{lt}
use Rattle.rc_ranges.specs.laws.Order.{gt-lt, before-lt, lt-irrefl, lt-trans, lt-asym, le-trans, le-same}
use Rattle.rc_ranges.specs.laws.Covering.{cover-none, cover-cons, cover-before, cover-inside, cover-behind}
use Rattle.rc_writes.specs.laws.FittingValues.{Each}

-- the position before all others
abbrev pub start : Pos
start = record { prefix = []; weight = Before }

-- from a position on that is not before `lo`, and up to x, it holds of each
record Since (x lo : Pos) (Q : Pos → Type 0) : Type 0 where
  at : Pos
  up : lt at lo ≡ false
  before : lt at x ≡ true
  holds : (z : Pos) → lt z at ≡ false → lt z x ≡ true → Q z

no_both : (b : Bool) → b ≡ true → b ≡ false → ⊥
no_both true e f = cc
no_both false e f = cc

not_both : (t : Tomb) (o : Option Tomb) → o ≡ None → o ≡ Some t → ⊥
not_both t o e f = let clash : None ≡ Some t = sym e ∙ f in cc

same_some : (s t : Tomb) → Some s ≡ Some t → s ≡ t
same_some s t e = cc

-- ---- just before x no bound is met, unless one is x

module _ (P : Pos → Type 0) where
  raise : (x lo b : Pos) → lt lo x ≡ true → P b → P x ⊎ Since x lo (λ z. lt z b ≡ lt x b)
  raise x lo b up h =
      elim (lt x b) as (λ s. lt x b ≡ s → P x ⊎ Since x lo (λ z. lt z b ≡ lt x b)) [
        | true ↦ λ e. inr (record { at = lo; up = lt-irrefl lo; before = up; holds = λ z _ l. lt-trans z x b l e ∙ sym e })
        | false ↦ λ e. elim (lt b x) as (λ s. lt b x ≡ s → P x ⊎ Since x lo (λ z. lt z b ≡ lt x b)) [
          | true ↦ λ f. elim (lt lo b) as (λ s. lt lo b ≡ s → P x ⊎ Since x lo (λ z. lt z b ≡ lt x b)) [
            | true ↦ λ g. inr (record { at = b; up = lt-asym lo b g; before = f; holds = λ z k _. k ∙ sym e })
            | false ↦ λ g. inr (record { at = lo; up = lt-irrefl lo; before = up; holds = λ z k _. le-trans b lo z g k ∙ sym e })
          ] refl
          | false ↦ λ f. inl (subst P (le-same b x e f) h)
        ] refl
      ] refl

  -- unless x is a bound of a piece, what is in force just before x is in force at x
  settle : (x lo : Pos) (ps : List Piece) → lt lo x ≡ true → Each (λ p. P p.from × P p.to) ps → P x ⊎ Since x lo (λ z. cover ps z ≡ cover ps x)
  settle x lo [] up h = inr (record { at = lo; up = lt-irrefl lo; before = up; holds = λ z _ _. cover-none z ∙ sym (cover-none x) })
  settle x lo (p ∷ ps) up h =
      ⊎_elim (λ e. inl e)
      (λ a. ⊎_elim (λ e. inl e)
      (λ b. ⊎_elim (λ e. inl e)
      (λ c. inr (record {
        at = c.at;
        up = le-trans lo b.at c.at (le-trans lo a.at b.at a.up b.up) c.up;
        before = c.before;
        holds = λ z k l.
            let behind_b : lt z b.at ≡ false = le-trans b.at c.at z c.up k in
            let behind_a : lt z a.at ≡ false = le-trans a.at b.at z b.up behind_b in
            let begun : lt z p.from ≡ lt x p.from = a.holds z behind_a l in
            let ended : lt z p.to ≡ lt x p.to = b.holds z behind_b l in
            let rest : cover ps z ≡ cover ps x = c.holds z k l in
            cover-cons p ps z
            ∙ (λ i. greater tomb_cmp (cond (not (begun i) && ended i) (Some p.tomb) None) (rest i))
            ∙ sym (cover-cons p ps x);
      }))
      (settle x b.at ps b.before h.1))
      (raise x a.at p.to a.before h.0.1))
      (raise x lo p.from up h.0.0)

-- ---- bounds of canonical pieces

at_from : (p : Piece) (ps : List Piece) → IsCanonical (p ∷ ps) → cover (p ∷ ps) p.from ≡ Some p.tomb
at_from p ps c = cover-inside p ps c p.from (lt-irrefl p.from) (before-lt p.from p.to c.0)

-- behind a piece its tombstone is not in force
not_same_after : (p : Piece) (ps : List Piece) → IsCanonical (p ∷ ps) → cover ps p.to ≡ Some p.tomb → ⊥
not_same_after p [] c e = not_both p.tomb (cover [] p.to) (cover-none p.to) e
not_same_after p (r ∷ rs) c e =
    elim (lt p.to r.from) as (λ b. lt p.to r.from ≡ b → ⊥) [
      | true ↦ λ f. not_both p.tomb (cover (r ∷ rs) p.to) (cover-before r rs c.2 p.to f) e
      | false ↦ λ f.
          let touch : p.to ≡ r.from = le-same p.to r.from (sym (gt-lt p.to r.from) ∙ c.1.0) f in
          let ends : lt p.to r.to ≡ true = subst (λ z. lt z r.to ≡ true) (sym touch) (before-lt r.from r.to c.2.0) in
          c.1.1 touch (same_some p.tomb r.tomb (sym e ∙ cover-inside r rs c.2 p.to f ends))
    ] refl

module _ (P : Pos → Type 0) (ps : List Piece) (bounds : Each (λ p. P p.from × P p.to) ps) where
  -- where a piece ends something else is in force than before
  end_kept : (q : Piece) (qs : List Piece) → IsCanonical (q ∷ qs) → ((x : Pos) → lt x q.from ≡ false → cover (q ∷ qs) x ≡ cover ps x) → P q.to
  end_kept q qs c agree =
      ⊎_elim (λ e. e)
      (λ s. absurd (not_same_after q qs c (sym (cover-behind q qs q.to (lt-irrefl q.to))
      ∙ agree q.to (lt-asym q.from q.to (before-lt q.from q.to c.0))
      ∙ sym (s.holds s.at (lt-irrefl s.at) s.before)
      ∙ sym (agree s.at s.up)
      ∙ cover-inside q qs c s.at s.up s.before)))
      (settle P q.to q.from ps (before-lt q.from q.to c.0) bounds)

  -- where a piece begins behind a gap something else is in force than in the gap
  next_kept : (q r : Piece) (rs : List Piece) → IsCanonical (q ∷ r ∷ rs) → ((x : Pos) → lt x q.from ≡ false → cover (q ∷ r ∷ rs) x ≡ cover ps x) → P q.to → P r.from
  next_kept q r rs c agree h =
      let wide : lt q.to q.from ≡ false = lt-asym q.from q.to (before-lt q.from q.to c.0) in
      let later : lt r.from q.to ≡ false = sym (gt-lt q.to r.from) ∙ c.1.0 in
      elim (lt q.to r.from) as (λ b. lt q.to r.from ≡ b → P r.from) [
        | true ↦ λ f.
            ⊎_elim (λ e. e)
            (λ s. absurd (not_both r.tomb (cover (r ∷ rs) s.at) (cover-before r rs c.2 s.at s.before)
            (sym (cover-behind q (r ∷ rs) s.at s.up)
            ∙ agree s.at (le-trans q.from q.to s.at wide s.up)
            ∙ s.holds s.at (lt-irrefl s.at) s.before
            ∙ sym (agree r.from (le-trans q.from q.to r.from wide later))
            ∙ cover-behind q (r ∷ rs) r.from later
            ∙ at_from r rs c.2)))
            (settle P r.from q.to ps f bounds)
        | false ↦ λ f. subst P (le-same q.to r.from later f) h
      ] refl

  kept : (q : Piece) (qs : List Piece) → IsCanonical (q ∷ qs) → ((x : Pos) → lt x q.from ≡ false → cover (q ∷ qs) x ≡ cover ps x) → P q.from → Each (λ p. P p.from × P p.to) (q ∷ qs)
  kept q [] c agree h = ((h, end_kept q [] c agree), tt)
  kept q (r ∷ rs) c agree h =
      let wide : lt q.to q.from ≡ false = lt-asym q.from q.to (before-lt q.from q.to c.0) in
      let later : lt r.from q.to ≡ false = sym (gt-lt q.to r.from) ∙ c.1.0 in
      let ended : P q.to = end_kept q (r ∷ rs) c agree in (
        (h, ended),
        kept r rs c.2 (λ x k.
            let behind : lt x q.to ≡ false = le-trans q.to r.from x later k in
            sym (cover-behind q (r ∷ rs) x behind) ∙ agree x (le-trans q.from q.to x wide behind)) (next_kept q r rs c agree ended),
      )

  -- where the first piece begins something is in force, and nothing before
  first_kept : (q : Piece) (qs : List Piece) → IsCanonical (q ∷ qs) → ((x : Pos) → cover (q ∷ qs) x ≡ cover ps x) → P start → P q.from
  first_kept q qs c agree h =
      elim (lt start q.from) as (λ b. lt start q.from ≡ b → P q.from) [
        | true ↦ λ f.
            ⊎_elim (λ e. e)
            (λ s. absurd (not_both q.tomb (cover (q ∷ qs) s.at) (cover-before q qs c s.at s.before)
            (agree s.at ∙ s.holds s.at (lt-irrefl s.at) s.before ∙ sym (agree q.from) ∙ at_from q qs c)))
            (settle P q.from start ps f bounds)
        | false ↦ λ f. subst P (le-same start q.from (sym (gt-lt start q.from) ∙ first_pos-least q.from) f) h
      ] refl

  -- what holds of each bound of some pieces, and where all positions begin, holds of each bound of canonical pieces that have the same in force
  pub bounds_kept : (qs : List Piece) → IsCanonical qs → ((x : Pos) → cover qs x ≡ cover ps x) → P start → Each (λ p. P p.from × P p.to) qs
  bounds_kept [] c agree h = tt
  bounds_kept (q ∷ qs) c agree h = kept q qs c (λ x _. agree x) (first_kept q qs c agree h)
