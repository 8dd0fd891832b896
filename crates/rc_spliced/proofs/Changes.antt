-- Changes of tombstone, some before a position and others from there on.
use Rattle.std.proofs.Common.{◌≡◌, ◌≢◌, true, false, cond, List, [], ◌∷◌, Option, Some, None, refl, sym, ap, ◌∙◌, subst}
use Rattle.std.specs.Cmp.{tied_itself}
use Rattle.std.specs.Ordering.{is_eq, is_lt}
use Rattle.rc_cell.specs.declared.writes.Tomb.{Tomb}
use Rattle.rc_cell.specs.laws.Beats.{tomb_cmp-IsAntisymmetric}
use Rattle.rc_cell.specs.Orders.{tomb_cmp, tomb_cmp_total}
use Rattle.rc_position.specs.declared.positions.Pos.{Pos}
use Rattle.rc_position.specs.Position.{pos_cmp}
use Rattle.rc_ranges.specs.calls.Sweep.{lt}
use Rattle.rc_ranges.specs.laws.Order.{le-trans, lt-asym, lt-before, lt-le, lt-trans}
use Rattle.rc_mutation.specs.Canonical.{ComesNext}
use Rattle.rc_mutation.specs.laws.CanonicalMerging.{Change, IsChanges, next_trans}
use Rattle.rc_query.specs.laws.Compacting.{along}
use Rattle.rc_stream.specs.Merging.{same_tomb}
use Rattle.rc_spliced.proofs.Sides.{lt-is, tie}

one_tomb : (s t : Option Tomb) → same_tomb s t ≡ true → s ≡ t
one_tomb None None e = refl
one_tomb None (Some t) e = absurd (cc)
one_tomb (Some s) None e = absurd (cc)
one_tomb (Some s) (Some t) e = ap Some (tomb_cmp-IsAntisymmetric s t (tie (tomb_cmp s t) e))

same-itself : (t : Option Tomb) → same_tomb t t ≡ true
same-itself None = refl
same-itself (Some t) = ap is_eq (tied_itself tomb_cmp_total t)

two_tombs : (s t : Option Tomb) → same_tomb s t ≡ false → t ≢ s
two_tombs s t e same = (let told : true ≡ false = sym (same-itself s) ∙ ap (same_tomb s) (sym same) ∙ e in absurd (cc))

-- changes behind a position are behind each earlier one
sooner : (tomb : Option Tomb) (last : Option Pos) (y : Pos) (cs : List Change) → ComesNext last y → IsChanges tomb (Some y) cs → IsChanges tomb last cs
sooner tomb last y [] p h = h
sooner tomb last y (c ∷ cs) p h = (next_trans last y c.0 p h.0, h.1, h.2)

-- before the first change a tombstone stays, behind it that is in force which the change brings
stays : (tomb : Option Tomb) (c : Change) (cs : List Change) (y : Pos) → lt y c.0 ≡ true → along tomb (c ∷ cs) y ≡ tomb
stays tomb c cs y e = ap (λ b. cond b tomb (along c.1 cs y)) (sym (lt-is y c.0) ∙ e)

goes : (tomb : Option Tomb) (c : Change) (cs : List Change) (y : Pos) → lt y c.0 ≡ false → along tomb (c ∷ cs) y ≡ along c.1 cs y
goes tomb c cs y e = ap (λ b. cond b tomb (along c.1 cs y)) (sym (lt-is y c.0) ∙ e)

module _ (x : Pos) where
  -- a change at x to the tombstone that these changes find in force, if it is another one than before
  abbrev opened : Option Tomb → Option Tomb → List Change → List Change
  opened tomb next cs = cond (same_tomb tomb next) cs ((x, next) ∷ cs)

  -- the changes from x on, where one tombstone is in force before x, and another before all the changes
  abbrev later : Option Tomb → Option Tomb → List Change → List Change
  later tomb now [] = opened tomb now []
  later tomb now (c ∷ cs) = cond (lt x c.0) (opened tomb now (c ∷ cs)) (later tomb c.1 cs)

  -- the changes before x, where a tombstone is in force before them all, and then others from x on
  abbrev pub spliced : Option Tomb → List Change → List Change → List Change
  spliced tomb [] ds = later tomb None ds
  spliced tomb (c ∷ cs) ds = cond (lt c.0 x) (c ∷ spliced c.1 cs ds) (later tomb None ds)

  -- ---- they are changes

  opened-are : (tomb next : Option Tomb) (last : Option Pos) (cs : List Change) → ComesNext last x → IsChanges next (Some x) cs → IsChanges tomb last (opened tomb next cs)
  opened-are tomb next last cs p h =
      elim (same_tomb tomb next) as (λ b. same_tomb tomb next ≡ b → IsChanges tomb last (cond b cs ((x, next) ∷ cs))) [
        | true ↦ λ e. sooner tomb last x cs p (subst (λ t. IsChanges t (Some x) cs) (sym (one_tomb tomb next e)) h)
        | false ↦ λ e. (p, two_tombs tomb next e, h)
      ] refl

  later-are : (tomb now : Option Tomb) (last before : Option Pos) (cs : List Change) → ComesNext last x → IsChanges now before cs → IsChanges tomb last (later tomb now cs)
  later-are tomb now last before [] p h = opened-are tomb now last [] p h
  later-are tomb now last before (c ∷ cs) p h =
      elim (lt x c.0) as (λ b. lt x c.0 ≡ b → IsChanges tomb last (cond b (opened tomb now (c ∷ cs)) (later tomb c.1 cs))) [
        | true ↦ λ e. opened-are tomb now last (c ∷ cs) p (lt-before x c.0 e, h.1, h.2)
        | false ↦ λ e. later-are tomb c.1 last (Some c.0) cs p h.2
      ] refl

  pub spliced-are : (tomb : Option Tomb) (last : Option Pos) (cs ds : List Change) → ComesNext last x → IsChanges tomb last cs → IsChanges None None ds → IsChanges tomb last (spliced tomb cs ds)
  spliced-are tomb last [] ds p h k = later-are tomb None last None ds p k
  spliced-are tomb last (c ∷ cs) ds p h k =
      elim (lt c.0 x) as (λ b. lt c.0 x ≡ b → IsChanges tomb last (cond b (c ∷ spliced c.1 cs ds) (later tomb None ds))) [
        | true ↦ λ e. (h.0, h.1, spliced-are c.1 (Some c.0) cs ds (lt-before c.0 x e) h.2 k)
        | false ↦ λ e. later-are tomb None last None ds p k
      ] refl

  -- ---- from x on the others' tombstones are in force

  opened-from : (tomb next : Option Tomb) (cs : List Change) (y : Pos) → lt y x ≡ false → along tomb (opened tomb next cs) y ≡ along next cs y
  opened-from tomb next cs y h =
      elim (same_tomb tomb next) as (λ b. same_tomb tomb next ≡ b → along tomb (cond b cs ((x, next) ∷ cs)) y ≡ along next cs y) [
        | true ↦ λ e. ap (λ t. along t cs y) (one_tomb tomb next e)
        | false ↦ λ e. goes tomb (x, next) cs y h
      ] refl

  later-from : (tomb now : Option Tomb) (cs : List Change) (y : Pos) → lt y x ≡ false → along tomb (later tomb now cs) y ≡ along now cs y
  later-from tomb now [] y h = opened-from tomb now [] y h
  later-from tomb now (c ∷ cs) y h =
      elim (lt x c.0) as (λ b. lt x c.0 ≡ b → along tomb (cond b (opened tomb now (c ∷ cs)) (later tomb c.1 cs)) y ≡ along now (c ∷ cs) y) [
        | true ↦ λ e. opened-from tomb now (c ∷ cs) y h
        | false ↦ λ e. later-from tomb c.1 cs y h ∙ sym (goes now c cs y (le-trans c.0 x y e h))
      ] refl

  pub spliced-from : (tomb : Option Tomb) (cs ds : List Change) (y : Pos) → lt y x ≡ false → along tomb (spliced tomb cs ds) y ≡ along None ds y
  spliced-from tomb [] ds y h = later-from tomb None ds y h
  spliced-from tomb (c ∷ cs) ds y h =
      elim (lt c.0 x) as (λ b. lt c.0 x ≡ b → along tomb (cond b (c ∷ spliced c.1 cs ds) (later tomb None ds)) y ≡ along None ds y) [
        | true ↦ λ e. goes tomb c (spliced c.1 cs ds) y (le-trans c.0 x y (lt-asym c.0 x e) h) ∙ spliced-from c.1 cs ds y h
        | false ↦ λ e. later-from tomb None ds y h
      ] refl

  -- ---- before x those are in force that were

  opened-before : (tomb next : Option Tomb) (cs : List Change) (y : Pos) → lt y x ≡ true → along tomb cs y ≡ tomb → along tomb (opened tomb next cs) y ≡ tomb
  opened-before tomb next cs y h stay =
      elim (same_tomb tomb next) as (λ b. along tomb (cond b cs ((x, next) ∷ cs)) y ≡ tomb) [
        | true ↦ stay
        | false ↦ stays tomb (x, next) cs y h
      ]

  later-before : (tomb now : Option Tomb) (cs : List Change) (y : Pos) → lt y x ≡ true → along tomb (later tomb now cs) y ≡ tomb
  later-before tomb now [] y h = opened-before tomb now [] y h refl
  later-before tomb now (c ∷ cs) y h =
      elim (lt x c.0) as (λ b. lt x c.0 ≡ b → along tomb (cond b (opened tomb now (c ∷ cs)) (later tomb c.1 cs)) y ≡ tomb) [
        | true ↦ λ e. opened-before tomb now (c ∷ cs) y h (stays tomb c cs y (lt-trans y x c.0 h e))
        | false ↦ λ e. later-before tomb c.1 cs y h
      ] refl

  pub spliced-before : (tomb : Option Tomb) (cs ds : List Change) (y : Pos) → lt y x ≡ true → along tomb (spliced tomb cs ds) y ≡ along tomb cs y
  spliced-before tomb [] ds y h = later-before tomb None ds y h
  spliced-before tomb (c ∷ cs) ds y h =
      elim (lt c.0 x) as (λ b. lt c.0 x ≡ b → along tomb (cond b (c ∷ spliced c.1 cs ds) (later tomb None ds)) y ≡ along tomb (c ∷ cs) y) [
        | true ↦ λ e. ap (λ t. cond (is_lt (pos_cmp y c.0)) tomb t) (spliced-before c.1 cs ds y h)
        | false ↦ λ e. later-before tomb None ds y h ∙ sym (stays tomb c cs y (lt-le y x c.0 h e))
      ] refl
