-- Positions and the end of a partition.
use Rattle.std.proofs.Common.{◌≡◌, true, false, refl, sym, ap, ◌∙◌, subst}
use Rattle.std.specs.declared.cmp.Ordering.{Ordering}
use Rattle.std.specs.declared.cmp.Ordering.TheVariants.{Less, Equal, Greater}
use Rattle.std.specs.Ordering.{is_gt}
use Rattle.rc_position.specs.declared.positions.Pos.{Pos}
use Rattle.rc_position.specs.Position.{IsBefore, pos_cmp}
use Rattle.rc_position.specs.laws.Bounds.{last_pos-greatest}
use Rattle.rc_position.specs.laws.Orders.{pos_cmp_same, pos_cmp_total}
use Rattle.rc_core.specs.Version.{end_position}

-- what stands before another position stands before the end
pub before-end : (x bound : Pos) → IsBefore x bound → IsBefore x end_position
before-end x bound l = by (pos_cmp bound end_position) refl
  where
    by : (r : Ordering) → pos_cmp bound end_position ≡ r → IsBefore x end_position
    by Less e = pos_cmp_total.trans x bound end_position l e
    by Equal e = subst (IsBefore x) (pos_cmp_same bound end_position e) l
    by Greater e = let u : true ≡ false = sym (ap is_gt e) ∙ last_pos-greatest bound in absurd (cc)
