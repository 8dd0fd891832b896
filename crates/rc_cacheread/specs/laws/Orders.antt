-- The order of positions, where one reaches another or stands before it.
use Rattle.std.specs.Prelude.{◌≡◌, ◌⊎◌, true, false}
use Rattle.std.proofs.Common.{refl, sym, ap, subst, ◌∙◌, inl, inr}
use Rattle.std.specs.declared.cmp.Ordering.TheVariants.{Less, Equal, Greater}
use Rattle.std.specs.Ordering.{is_le, ordering_reverse}
use Rattle.rc_position.specs.declared.positions.Pos.{Pos}
use Rattle.rc_position.specs.Position.{IsBefore, pos_cmp}
use Rattle.rc_position.specs.laws.Orders.{pos_cmp_same, pos_cmp_total}
use Rattle.rc_stream.specs.Places.{Reaches}
use Rattle.rc_stream.specs.laws.Says.{le_le}

pub reach-through : (x y z : Pos) → Reaches x y → Reaches y z → Reaches x z
reach-through x y z a b = le_le x y z (pos_cmp x y) (pos_cmp y z) refl refl a b

pub turned-before : (x y : Pos) → IsBefore x y → pos_cmp y x ≡ Greater
turned-before x y e = pos_cmp_total.antisymm y x ∙ ap ordering_reverse e

pub before-reaches : (x y z : Pos) → IsBefore x y → Reaches y z → IsBefore x z
before-reaches x y z b h =
    elim (pos_cmp y z) as (λ r. pos_cmp y z ≡ r → is_le r ≡ true → IsBefore x z) [
      | Less ↦ λ e k. pos_cmp_total.trans x y z b e
      | Equal ↦ λ e k. subst (λ p. IsBefore x p) (pos_cmp_same y z e) b
      | Greater ↦ λ e k. absurd (cc)
    ] refl h

pub never-before : (x y : Pos) → Reaches y x → IsBefore x y → ⊥
never-before x y h b = let k : false ≡ true = sym (ap is_le (turned-before x y b)) ∙ h in absurd (cc)

pub greater-before : (x y : Pos) → pos_cmp x y ≡ Greater → IsBefore y x
greater-before x y e = pos_cmp_total.antisymm y x ∙ ap ordering_reverse e

pub either-way : (x y : Pos) → Reaches x y ⊎ IsBefore y x
either-way x y =
    elim (pos_cmp x y) as (λ r. pos_cmp x y ≡ r → Reaches x y ⊎ IsBefore y x) [
      | Less ↦ λ e. inl (ap is_le e)
      | Equal ↦ λ e. inl (ap is_le e)
      | Greater ↦ λ e. inr (greater-before x y e)
    ] refl

pub same-place : (x y : Pos) → Reaches x y → Reaches y x → x ≡ y
same-place x y h k =
    elim (pos_cmp x y) as (λ r. pos_cmp x y ≡ r → x ≡ y) [
      | Less ↦ λ e. absurd (never-before x y k e)
      | Equal ↦ λ e. pos_cmp_same x y e
      | Greater ↦ λ e. (let z : false ≡ true = sym (ap is_le e) ∙ h in absurd (cc))
    ] refl
