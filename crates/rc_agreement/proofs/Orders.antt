-- The order of positions, as tests.
use Rattle.std.proofs.Common.{◌≡◌, Bool, true, false, refl, sym, ap, ◌∙◌}
use Rattle.std.specs.declared.cmp.Ordering.{Ordering}
use Rattle.std.specs.declared.cmp.Ordering.TheVariants.{Less, Equal, Greater}
use Rattle.std.specs.Ordering.{is_gt, is_le, is_lt}
use Rattle.std.specs.Cmp.{tied_itself}
use Rattle.rc_position.specs.declared.positions.Pos.{Pos}
use Rattle.rc_position.specs.Position.{IsBefore, pos_cmp}
use Rattle.rc_position.specs.laws.Orders.{pos_cmp_total}
use Rattle.rc_ranges.specs.calls.Sweep.{lt}
use Rattle.rc_ranges.specs.laws.Order.{before-lt, gt-lt, le-lt, le-trans, lt-before, lt-le}
use Rattle.rc_stream.specs.Places.{Reaches}

not-over : (r : Ordering) → is_le r ≡ true → is_gt r ≡ false
not-over Less h = refl
not-over Equal h = refl
not-over Greater h = absurd (cc)

upto : (r : Ordering) → is_gt r ≡ false → is_le r ≡ true
upto Less h = refl
upto Equal h = refl
upto Greater h = absurd (cc)

pub lt-is : (x y : Pos) → lt x y ≡ is_lt (pos_cmp x y)
unfolding lt
lt-is x y = refl

pub reached-lt : (x y : Pos) → Reaches x y → lt y x ≡ false
reached-lt x y h = sym (gt-lt x y) ∙ not-over (pos_cmp x y) h

pub lt-reached : (x y : Pos) → lt y x ≡ false → Reaches x y
lt-reached x y h = upto (pos_cmp x y) (gt-lt x y ∙ h)

pub reaches-itself : (x : Pos) → Reaches x x
reaches-itself x = ap is_le (tied_itself pos_cmp_total x)

pub before-reaches : (x y : Pos) → IsBefore x y → Reaches x y
before-reaches x y l = ap is_le l

pub reaches-further : (x y z : Pos) → Reaches x y → Reaches y z → Reaches x z
reaches-further x y z a b = lt-reached x z (le-trans x y z (reached-lt x y a) (reached-lt y z b))

pub reaches-before : (x y z : Pos) → Reaches x y → IsBefore y z → IsBefore x z
reaches-before x y z a b = lt-before x z (le-lt x y z (reached-lt x y a) (before-lt y z b))

pub before-reached : (x y z : Pos) → IsBefore x y → Reaches y z → IsBefore x z
before-reached x y z a b = lt-before x z (lt-le x y z (before-lt x y a) (reached-lt y z b))

-- no position is before itself
pub never : (x : Pos) → IsBefore x x → ⊥
never x l = let u : Equal ≡ Less = sym (tied_itself pos_cmp_total x) ∙ l in cc

pub truth : (b : Bool) → b ≡ true → b ≡ false → ⊥
truth true e f = let u : true ≡ false = f in cc
truth false e f = let u : false ≡ true = e in cc
