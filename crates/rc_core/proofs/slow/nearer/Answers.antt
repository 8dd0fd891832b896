use Rattle.std.proofs.Common.{arith, sym, ◌∙◌}
use Rattle.rc_core.proofs.Reaching.{pass_over, take_it}
use Rattle.rc_core.proofs.slow.nearer.Goals as goal

pub loop-left-preserved-in_ok-to : goal.loop-left-preserved-in_ok-to
loop-left-preserved-in_ok-to c = let p = c.is_between.ensures.0 c.if-is_between.true in
    take_it c.args.x.now c.loop-left.to c.in_ok-to.to c.args.to c.loop-left.left.now c.args.entries.now c.first-item.result (omega (arith, c.in-len1-up.len_at_least)) c.first-item.is c.in_ok-to.ensures p.0 p.1 c.loop-left.invariant

pub loop-left-preserved : goal.loop-left-preserved
loop-left-preserved c = pass_over c.args.x.now c.loop-left.to c.args.to c.loop-left.left.now c.args.entries.now c.first-item.result (omega (arith, c.in-len1-up.len_at_least)) c.first-item.is
    (λ l m. let u = sym c.if-is_between.false ∙ c.is_between.ensures.1 (l, m) in cc) c.loop-left.invariant
