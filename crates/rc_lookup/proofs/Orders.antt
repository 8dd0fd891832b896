-- The order of positions.
use Rattle.std.specs.Prelude.{◌≡◌, ◌⊎◌, true, false}
use Rattle.std.proofs.Common.{refl, sym, ap, ◌∙◌, subst, inl, inr}
use Rattle.std.specs.declared.cmp.Ordering.{Ordering}
use Rattle.std.specs.declared.cmp.Ordering.TheVariants.{Less, Equal, Greater}
use Rattle.std.specs.Ordering.{is_gt, is_le, is_lt, ordering_reverse}
use Rattle.rc_position.specs.declared.positions.Pos.{Pos}
use Rattle.rc_position.specs.Position.{IsBefore, pos_cmp}
use Rattle.rc_position.specs.laws.Bounds.{first_pos-least, last_pos-greatest}
use Rattle.rc_position.specs.laws.Orders.{pos_cmp_total, pos_cmp_same}
use Rattle.rc_core.specs.Version.{end_position}
use Rattle.rc_stream.specs.Places.{Reaches}
use Rattle.rc_stream.specs.laws.Ordered.{passes-itself}
use Rattle.rc_stream.specs.laws.Says.{le_le}
use Rattle.rc_snapshots.specs.Streams.{first_position}

pub reach-itself : (x : Pos) → Reaches x x
reach-itself x = passes-itself x

pub reach-through : (x y z : Pos) → Reaches x y → Reaches y z → Reaches x z
reach-through x y z a b = le_le x y z (pos_cmp x y) (pos_cmp y z) refl refl a b

pub before-reach : (x y : Pos) → IsBefore x y → Reaches x y
before-reach x y e = ap is_le e

pub before-reaches : (x y z : Pos) → IsBefore x y → Reaches y z → IsBefore x z
before-reaches x y z b h =
    elim (pos_cmp y z) as (λ r. pos_cmp y z ≡ r → is_le r ≡ true → IsBefore x z) [
      | Less ↦ λ e k. pos_cmp_total.trans x y z b e
      | Equal ↦ λ e k. subst (λ p. IsBefore x p) (pos_cmp_same y z e) b
      | Greater ↦ λ e k. absurd (cc)
    ] refl h

turned-before : (x y : Pos) → IsBefore x y → pos_cmp y x ≡ Greater
turned-before x y e = pos_cmp_total.antisymm y x ∙ ap ordering_reverse e

pub never-before : (x y : Pos) → Reaches y x → IsBefore x y → ⊥
never-before x y h b = let k : false ≡ true = sym (ap is_le (turned-before x y b)) ∙ h in absurd (cc)

greater-before : (x y : Pos) → pos_cmp x y ≡ Greater → IsBefore y x
greater-before x y e = pos_cmp_total.antisymm y x ∙ ap ordering_reverse e

pub either-way : (x y : Pos) → Reaches x y ⊎ IsBefore y x
either-way x y =
    elim (pos_cmp x y) as (λ r. pos_cmp x y ≡ r → Reaches x y ⊎ IsBefore y x) [
      | Less ↦ λ e. inl (ap is_le e)
      | Equal ↦ λ e. inl (ap is_le e)
      | Greater ↦ λ e. inr (greater-before x y e)
    ] refl

pub same-place : (x y : Pos) → Reaches x y → Reaches y x → x ≡ y
same-place x y h k =
    elim (pos_cmp x y) as (λ r. pos_cmp x y ≡ r → x ≡ y) [
      | Less ↦ λ e. absurd (never-before x y k e)
      | Equal ↦ λ e. pos_cmp_same x y e
      | Greater ↦ λ e. (let z : false ≡ true = sym (ap is_le e) ∙ h in absurd (cc))
    ] refl

pub not-lt : (x y : Pos) → is_lt (pos_cmp x y) ≡ false → Reaches y x
not-lt x y e =
    elim (pos_cmp x y) as (λ r. pos_cmp x y ≡ r → is_lt r ≡ false → Reaches y x) [
      | Less ↦ λ k h. absurd (cc)
      | Equal ↦ λ k h. subst (λ p. Reaches y p) (sym (pos_cmp_same x y k)) (reach-itself y)
      | Greater ↦ λ k h. before-reach y x (greater-before x y k)
    ] refl e

from-first : (r : Ordering) → is_gt r ≡ false → is_le r ≡ true
from-first Less h = refl
from-first Equal h = refl
from-first Greater h = absurd (cc)

pub first-reaches : (x : Pos) → Reaches first_position x
first-reaches x = from-first (pos_cmp first_position x) (first_pos-least x)

-- each position stands before the end of all, or is it
not-behind : (r : Ordering) → is_gt r ≡ false → is_le r ≡ true
not-behind Less h = refl
not-behind Equal h = refl
not-behind Greater h = absurd (cc)

pub reaches-end : (x : Pos) → Reaches x end_position
reaches-end x = not-behind (pos_cmp x end_position) (last_pos-greatest x)
