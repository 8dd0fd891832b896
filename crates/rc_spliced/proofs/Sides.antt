-- Before a position or not, as one test; and what tests of an order say.
use Rattle.std.proofs.Common.{◌≡◌, Bool, true, false, not, T, refl, sym, ap, ◌∙◌}
use Rattle.std.specs.declared.cmp.Ordering.{Ordering}
use Rattle.std.specs.declared.cmp.Ordering.TheVariants.{Less, Equal, Greater}
use Rattle.std.specs.Ordering.{is_eq, is_le, is_lt, ordering_reverse}
use Rattle.rc_position.specs.declared.positions.Pos.{Pos}
use Rattle.rc_position.specs.Position.{pos_cmp}
use Rattle.rc_position.specs.laws.Orders.{pos_cmp_total}
use Rattle.rc_ranges.specs.calls.Sweep.{lt}
use Rattle.rc_stream.specs.Places.{Reaches}

pub tie : (r : Ordering) → is_eq r ≡ true → r ≡ Equal
tie Less e = absurd (cc)
tie Equal e = refl
tie Greater e = absurd (cc)

pub less : (r : Ordering) → T (is_lt r) → r ≡ Less
less Less h = refl
less Equal h = absurd h
less Greater h = absurd h

pub not_early : (b : Bool) → not b ≡ true → b ≡ false
not_early true e = absurd (cc)
not_early false e = refl

pub lt-is : (x y : Pos) → lt x y ≡ is_lt (pos_cmp x y)
unfolding lt
lt-is x y = refl

not_less : (r : Ordering) → is_le r ≡ true → is_lt (ordering_reverse r) ≡ false
not_less Less e = refl
not_less Equal e = refl
not_less Greater e = absurd (cc)

at_most : (r : Ordering) → is_lt (ordering_reverse r) ≡ false → is_le r ≡ true
at_most Less e = refl
at_most Equal e = refl
at_most Greater e = absurd (cc)

-- what x reaches is not before x
pub reached-lt : (x y : Pos) → Reaches x y → lt y x ≡ false
reached-lt x y h = lt-is y x ∙ ap is_lt (pos_cmp_total.antisymm y x) ∙ not_less (pos_cmp x y) h

pub lt-reached : (x y : Pos) → lt y x ≡ false → Reaches x y
lt-reached x y h = at_most (pos_cmp x y) (ap is_lt (sym (pos_cmp_total.antisymm y x)) ∙ sym (lt-is y x) ∙ h)
