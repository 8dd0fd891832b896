-- Keys are the same where they compare so.
use Rattle.std.proofs.Common.{◌≡◌, ℕ, List, ap, sym, ◌∙◌, true, false, refl}
use Rattle.std.specs.Prelude.{not}
use Rattle.std.specs.Cmp.{tied_itself}
use Rattle.std.specs.Ordering.{is_eq, eq_by_cmp}
use Rattle.std.specs.declared.cmp.Ordering.TheVariants.{Less, Equal, Greater}
use Rattle.rc_position.specs.Position.{bytes_cmp}
use Rattle.rc_position.specs.laws.Orders.{bytes_cmp_same, bytes_cmp_total}
use Rattle.rc_tables.proofs.decoding.is_part_of.Goals as goal

clash : {P : Type 0} → true ≡ false → P
clash e = absurd cc

same_key : (x y : List ℕ) → false ≡ not (eq_by_cmp bytes_cmp x y) → x ≡ y
same_key x y e =
    elim (bytes_cmp x y) as (λ r. bytes_cmp x y ≡ r → false ≡ not (is_eq r) → x ≡ y) [
      | Less ↦ λ _ d. clash (sym d)
      | Equal ↦ λ h _. bytes_cmp_same x y h
      | Greater ↦ λ _ d. clash (sym d)
    ] refl e

pub returns-then-ne : goal.returns-then-ne
returns-then-ne c = (λ e. clash (sym e), λ p. clash (c.if-ne.ensures ∙ ap (λ k. not (eq_by_cmp bytes_cmp k c.args.key.now)) p.0 ∙ ap (λ o. not (is_eq o)) (tied_itself bytes_cmp_total c.args.key.now)))

pub returns : goal.returns
returns c = (λ e. (same_key c.args.part.now.key c.args.key.now c.if-ne.ensures, c.is_static_of.ensures.0 e), λ p. c.is_static_of.ensures.1 p.1)
