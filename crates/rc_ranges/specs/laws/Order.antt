-- The order of positions as a test, by which goals split.
use Rattle.std.proofs.Common.{◌≡◌, Bool, true, false, not, ◌&&◌, refl, sym, ap, ◌∙◌}
use Rattle.std.specs.declared.cmp.Ordering.{Ordering}
use Rattle.std.specs.declared.cmp.Ordering.TheVariants.{Less, Equal, Greater}
use Rattle.std.specs.Ordering.{ordering_reverse, is_lt, is_le, is_gt}
use Rattle.std.specs.Cmp.{tied_itself, upto}
use Rattle.rc_position.specs.declared.positions.Pos.{Pos}
use Rattle.rc_position.specs.Position.{pos_cmp, covers, IsBefore}
use Rattle.rc_position.specs.laws.Orders.{pos_cmp_total, pos_cmp_same}
use Rattle.rc_ranges.specs.calls.Sweep.{lt}

turn_gt : (r : Ordering) → is_gt (ordering_reverse r) ≡ is_lt r
turn_gt Less = refl
turn_gt Equal = refl
turn_gt Greater = refl

is_less : (r : Ordering) → is_lt r ≡ true → r ≡ Less
is_less Less e = refl
is_less Equal e = absurd (cc)
is_less Greater e = absurd (cc)

le_not_gt : (r : Ordering) → is_le r ≡ not (is_gt r)
le_not_gt Less = refl
le_not_gt Equal = refl
le_not_gt Greater = refl

tied : (r : Ordering) → is_gt r ≡ false → is_lt r ≡ false → r ≡ Equal
tied Less g l = absurd (cc)
tied Equal g l = refl
tied Greater g l = absurd (cc)

-- x is behind y exactly where y is before x
pub gt-lt : (x y : Pos) → is_gt (pos_cmp x y) ≡ lt y x
unfolding lt
gt-lt x y = ap is_gt (pos_cmp_total.antisymm x y) ∙ turn_gt (pos_cmp y x)

pub before-lt : (x y : Pos) → IsBefore x y → lt x y ≡ true
unfolding lt
before-lt x y e = ap is_lt e

pub lt-before : (x y : Pos) → lt x y ≡ true → IsBefore x y
unfolding lt
lt-before x y e = is_less (pos_cmp x y) e

pub covers-lt : (from to x : Pos) → covers from to x ≡ (not (lt x from) && lt x to)
unfolding lt
covers-lt from to x = λ i. (le_not_gt (pos_cmp from x) ∙ ap not (gt-lt from x)) i && lt x to

pub lt-irrefl : (x : Pos) → lt x x ≡ false
unfolding lt
lt-irrefl x = ap is_lt (tied_itself pos_cmp_total x)

pub lt-trans : (x y z : Pos) → lt x y ≡ true → lt y z ≡ true → lt x z ≡ true
lt-trans x y z a b = before-lt x z (pos_cmp_total.trans x y z (lt-before x y a) (lt-before y z b))

-- `x <= y` is written `lt y x ≡ false`
pub le-trans : (x y z : Pos) → lt y x ≡ false → lt z y ≡ false → lt z x ≡ false
le-trans x y z a b = sym (gt-lt x z) ∙ upto pos_cmp_total x y z (gt-lt x y ∙ a) (gt-lt y z ∙ b)

pub le-same : (x y : Pos) → lt y x ≡ false → lt x y ≡ false → x ≡ y
unfolding lt
le-same x y a b = pos_cmp_same x y (tied (pos_cmp x y) (gt-lt x y ∙ a) b)

no_both : (b : Bool) → b ≡ true → b ≡ false → ⊥
no_both true e f = cc
no_both false e f = cc

pub lt-asym : (x y : Pos) → lt x y ≡ true → lt y x ≡ false
lt-asym x y a = elim (lt y x) as (λ b. lt y x ≡ b → b ≡ false) [
  | true ↦ λ e. absurd (no_both (lt x x) (lt-trans x y x a e) (lt-irrefl x))
  | false ↦ λ e. refl
] refl

pub lt-le : (x y z : Pos) → lt x y ≡ true → lt z y ≡ false → lt x z ≡ true
lt-le x y z a b = elim (lt x z) as (λ c. lt x z ≡ c → c ≡ true) [
  | true ↦ λ e. refl
  | false ↦ λ e. absurd (no_both (lt x y) a (le-trans y z x b e))
] refl

pub le-lt : (x y z : Pos) → lt y x ≡ false → lt y z ≡ true → lt x z ≡ true
le-lt x y z a b = elim (lt x z) as (λ c. lt x z ≡ c → c ≡ true) [
  | true ↦ λ e. refl
  | false ↦ λ e. absurd (no_both (lt y z) b (le-trans z x y e a))
] refl
