use Rattle.std.proofs.Common.{arith, subst, map}
use Rattle.rc_core.specs.calls.Parts.{IsNearer}
use Rattle.rc_core.specs.Slow.{plain}
use Rattle.rc_core.proofs.Reaching.{next_version}
use Rattle.rc_core.proofs.slow.reach.Goals as goal

pub loop-left-preserved : goal.loop-left-preserved
loop-left-preserved c = next_version c.args.x.now c.loop-left.to c.in_ok-to-2.to c.args.upto.now c.loop-left.left.now (map plain c.args.versions.now) c.oldest-item.result (omega (arith, c.in-len1-up.len_at_least)) c.oldest-item.is
    (subst (IsNearer c.args.x.now c.loop-left.to c.in_ok-to-2.to) c.as_slice.ensures.value c.in_ok-to-2.ensures) c.loop-left.invariant
