-- The order of positions.
use Rattle.std.specs.Prelude.{◌≡◌, true, false, cond}
use Rattle.std.proofs.Common.{refl, sym, ap, ◌∙◌, subst, inl, inr}
use Rattle.std.specs.declared.cmp.Ordering.TheVariants.{Less, Equal, Greater}
use Rattle.std.specs.Ordering.{is_eq, is_gt, is_le, is_lt, ordering_reverse}
use Rattle.std.specs.Cmp.{tied_itself}
use Rattle.rc_position.specs.declared.positions.Pos.{Pos}
use Rattle.std.specs.Prelude.{List, [], ◌∷◌}
use Rattle.std.specs.declared.cmp.Ordering.{Ordering}
use Rattle.rc_position.specs.declared.comps.Comp.{Comp}
use Rattle.rc_position.specs.declared.positions.Weight.{Weight}
use Rattle.rc_position.specs.declared.positions.Weight.TheVariants.{Before, At, After}
use Rattle.rc_position.specs.Position.{IsBefore, comp_cmp, pos_cmp, prefix_cmp, row_pos}
use Rattle.std.specs.Ordering.{ordering_then}
use Rattle.rc_cacheread.specs.calls.Below.{last_before, near_of}
use Rattle.rc_position.specs.laws.Orders.{comp_cmp_total, pos_cmp_total, pos_cmp_same}
use Rattle.rc_stream.specs.Places.{Reaches}
use Rattle.rc_stream.specs.laws.Ordered.{passes-itself}
use Rattle.rc_cacheread.specs.laws.Orders.{either-way, greater-before, reach-through, same-place}

pub reach-itself : (x : Pos) → Reaches x x
reach-itself x = passes-itself x

pub before-reach : (x y : Pos) → IsBefore x y → Reaches x y
before-reach x y e = ap is_le e

pub reach-before : (x y z : Pos) → Reaches x y → IsBefore y z → IsBefore x z
reach-before x y z h b =
    elim (pos_cmp x y) as (λ r. pos_cmp x y ≡ r → is_le r ≡ true → IsBefore x z) [
      | Less ↦ λ e k. pos_cmp_total.trans x y z e b
      | Equal ↦ λ e k. subst (λ p. IsBefore p z) (sym (pos_cmp_same x y e)) b
      | Greater ↦ λ e k. absurd (cc)
    ] refl h

pub not-le : (x y : Pos) → is_le (pos_cmp x y) ≡ false → IsBefore y x
not-le x y e =
    elim (pos_cmp x y) as (λ r. pos_cmp x y ≡ r → is_le r ≡ false → IsBefore y x) [
      | Less ↦ λ k h. absurd (cc)
      | Equal ↦ λ k h. absurd (cc)
      | Greater ↦ λ k h. greater-before x y k
    ] refl e

pub not-gt : (x y : Pos) → is_gt (pos_cmp x y) ≡ false → Reaches x y
not-gt x y e =
    elim (pos_cmp x y) as (λ r. pos_cmp x y ≡ r → is_gt r ≡ false → Reaches x y) [
      | Less ↦ λ k h. ap is_le k
      | Equal ↦ λ k h. ap is_le k
      | Greater ↦ λ k h. absurd (cc)
    ] refl e

pub is-gt : (x y : Pos) → is_gt (pos_cmp x y) ≡ true → IsBefore y x
is-gt x y e =
    elim (pos_cmp x y) as (λ r. pos_cmp x y ≡ r → is_gt r ≡ true → IsBefore y x) [
      | Less ↦ λ k h. absurd (cc)
      | Equal ↦ λ k h. absurd (cc)
      | Greater ↦ λ k h. greater-before x y k
    ] refl e

pub is-lt : (x y : Pos) → is_lt (pos_cmp x y) ≡ true → IsBefore x y
is-lt x y e =
    elim (pos_cmp x y) as (λ r. pos_cmp x y ≡ r → is_lt r ≡ true → IsBefore x y) [
      | Less ↦ λ k h. k
      | Equal ↦ λ k h. absurd (cc)
      | Greater ↦ λ k h. absurd (cc)
    ] refl e

pub not-lt : (x y : Pos) → is_lt (pos_cmp x y) ≡ false → Reaches y x
not-lt x y e =
    elim (pos_cmp x y) as (λ r. pos_cmp x y ≡ r → is_lt r ≡ false → Reaches y x) [
      | Less ↦ λ k h. absurd (cc)
      | Equal ↦ λ k h. subst (λ p. Reaches y p) (sym (pos_cmp_same x y k)) (reach-itself y)
      | Greater ↦ λ k h. before-reach y x (greater-before x y k)
    ] refl e

pub is-eq : (x y : Pos) → is_eq (pos_cmp x y) ≡ true → x ≡ y
is-eq x y e =
    elim (pos_cmp x y) as (λ r. pos_cmp x y ≡ r → is_eq r ≡ true → x ≡ y) [
      | Less ↦ λ k h. absurd (cc)
      | Equal ↦ λ k h. pos_cmp_same x y k
      | Greater ↦ λ k h. absurd (cc)
    ] refl e

pub at-itself : (x y : Pos) → x ≡ y → is_eq (pos_cmp x y) ≡ true
at-itself x y e = subst (λ z. is_eq (pos_cmp x z) ≡ true) e (ap is_eq (tied_itself pos_cmp_total x))

-- ---- the last position before the end of a stretch

then-less : (r s t : Ordering) → ordering_then r s ≡ Less → (s ≡ Less → is_le t ≡ true) → is_le (ordering_then r t) ≡ true
then-less Less s t e h = refl
then-less Equal s t e h = h e
then-less Greater s t e h = absurd (cc)

before-at : (xs : List Comp) (v : Weight) (ks : List Comp) → prefix_cmp xs v ks At ≡ Less → is_le (prefix_cmp xs v ks Before) ≡ true
before-at [] Before [] e = refl
before-at [] At [] e = absurd (cc)
before-at [] After [] e = absurd (cc)
before-at [] v (d ∷ ds) e = ap is_le e
before-at (c ∷ cs) v [] e = absurd (cc)
before-at (c ∷ cs) v (d ∷ ds) e = then-less (comp_cmp c d) (prefix_cmp cs v ds At) (prefix_cmp cs v ds Before) e (before-at cs v ds)

under-at : (ks : List Comp) → prefix_cmp ks Before ks At ≡ Less
under-at [] = refl
under-at (c ∷ cs) = ap (λ r. ordering_then r (prefix_cmp cs Before cs At)) (tied_itself comp_cmp_total c) ∙ under-at cs

pub before-row : (x : Pos) (ks : List Comp) → IsBefore x (row_pos ks) → Reaches x (record { prefix = ks; weight = Before })
unfolding pos_cmp
before-row x ks e = before-at x.prefix x.weight ks e

pub row-behind : (ks : List Comp) → IsBefore (record { prefix = ks; weight = Before }) (row_pos ks)
unfolding pos_cmp
row-behind ks = under-at ks

pub last-on : (x end : Pos) (w : Weight) → end.weight ≡ w → IsBefore x end → Reaches x (last_before end w)
last-on x end Before e b = before-reach x end b
last-on x end At e b = before-row x end.prefix (subst (IsBefore x) (λ i. record { prefix = end.prefix; weight = e i }) b)
last-on x end After e b = before-reach x end b

pub last-within : (end : Pos) (w : Weight) → end.weight ≡ w → Reaches (last_before end w) end
last-within end Before e = reach-itself end
last-within end At e = subst (Reaches (record { prefix = end.prefix; weight = Before })) (λ i. record { prefix = end.prefix; weight = sym e i }) (before-reach (record { prefix = end.prefix; weight = Before }) (row_pos end.prefix) (row-behind end.prefix))
last-within end After e = reach-itself end

apart-weights : (key : List Comp) (end : Pos) → (At ≡ end.weight → ⊥) → Reaches (row_pos key) end → IsBefore (row_pos key) end
apart-weights key end d h =
    elim (either-way end (row_pos key)) [
      | inl r ↦ absurd (d (ap (λ (p : Pos). p.weight) (same-place (row_pos key) end h r)))
      | inr b ↦ b
    ]

pub row-inside : (key : List Comp) (end : Pos) (w : Weight) → end.weight ≡ w → Reaches (row_pos key) (last_before end w) → IsBefore (row_pos key) end
row-inside key end Before e h = apart-weights key end (λ d. not-one (d ∙ e)) h where
  not-one : At ≡ Before → ⊥
  not-one k = absurd (cc)
row-inside key end At e h = subst (IsBefore (row_pos key)) (λ i. record { prefix = end.prefix; weight = sym e i }) (reach-before (row_pos key) (record { prefix = end.prefix; weight = Before }) (row_pos end.prefix) h (row-behind end.prefix))
row-inside key end After e h = apart-weights key end (λ d. not-one (d ∙ e)) h where
  not-one : At ≡ After → ⊥
  not-one k = absurd (cc)

abbrev last_of : Pos → Pos
last_of end = last_before end end.weight

abbrev Near : Pos → Pos → Pos → Type 0
Near upto end n = Reaches n upto × Reaches n (last_of end) × ((x : Pos) → Reaches x upto → Reaches x (last_of end) → Reaches x n)

pub near-is : (upto end : Pos) → Near upto end (near_of upto end)
near-is upto end =
    elim (is_le (pos_cmp upto (last_of end))) as (λ b. is_le (pos_cmp upto (last_of end)) ≡ b → Near upto end (cond b upto (last_of end))) [
      | true ↦ λ e. (reach-itself upto, e, λ x h k. h)
      | false ↦ λ e. (before-reach (last_of end) upto (not-le upto (last_of end) e), reach-itself (last_of end), λ x h k. k)
    ] refl

pub near-within : (upto end : Pos) → Reaches (near_of upto end) end
near-within upto end = reach-through (near_of upto end) (last_of end) end (near-is upto end).1 (last-within end end.weight refl)

pub near-on : (x upto end : Pos) → Reaches x upto → IsBefore x end → Reaches x (near_of upto end)
near-on x upto end h b = (near-is upto end).2 x h (last-on x end end.weight refl b)

pub near-row : (key : List Comp) (upto end : Pos) → Reaches (row_pos key) (near_of upto end) → IsBefore (row_pos key) end
near-row key upto end h = row-inside key end end.weight refl (reach-through (row_pos key) (near_of upto end) (last_of end) h (near-is upto end).1)

-- ---- what stands inside a row

within-behind : (ks ls : List Comp) → is_le (prefix_cmp ks At ls At) ≡ true → prefix_cmp ls At ks After ≡ Less → is_le (prefix_cmp ls After ks After) ≡ true
within-behind [] [] h b = refl
within-behind [] (d ∷ ds) h b = refl
within-behind (c ∷ cs) [] h b = absurd (cc)
within-behind (c ∷ cs) (d ∷ ds) h b =
    elim (comp_cmp d c) as (λ r. comp_cmp d c ≡ r → ordering_then r (prefix_cmp ds At cs After) ≡ Less → is_le (ordering_then r (prefix_cmp ds After cs After)) ≡ true) [
      | Less ↦ λ e k. refl
      | Equal ↦ λ e k. within-behind cs ds (subst (λ r. is_le (ordering_then r (prefix_cmp cs At ds At)) ≡ true) (comp_cmp_total.antisymm c d ∙ ap ordering_reverse e) h) k
      | Greater ↦ λ e k. absurd (cc)
    ] refl b

-- what stands behind a row that is inside another one stands before what stands behind that one
pub behind-within : (ks ls : List Comp) → Reaches (row_pos ks) (row_pos ls) → IsBefore (row_pos ls) (record { prefix = ks; weight = After }) → Reaches (record { prefix = ls; weight = After }) (record { prefix = ks; weight = After })
unfolding pos_cmp
behind-within ks ls h b = within-behind ks ls h b
