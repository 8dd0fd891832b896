use Rattle.std.proofs.Common.{refl, ap, arith, length}
use Rattle.rc_core.proofs.Slowly.{at_the_end, before_by_weight, before_by_prefix}
use Rattle.rc_core.proofs.slow.is_before_end.Goals as goal

pub returns-in-empty-After : goal.returns-in-empty-After
returns-in-empty-After c = (λ u. absurd (cc), λ l. absurd (at_the_end c.args.x.now (omega (arith, c.in-empty-After.len_below, ap length c.as_slice.ensures)) c.in-empty-After.is-1 l))

pub returns-in_default : goal.returns-in_default
returns-in_default c = (λ _. before_by_weight c.args.x.now c.in_default.not-After-1, λ _. refl)

pub returns-in_default-2 : goal.returns-in_default-2
returns-in_default-2 c = (λ _. before_by_prefix c.args.x.now (omega (arith, c.in_default.len_at_least, ap length c.as_slice.ensures)), λ _. refl)
