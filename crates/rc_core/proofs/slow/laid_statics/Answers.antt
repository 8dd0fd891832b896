use Rattle.std.proofs.Common.{arith, map}
use Rattle.rc_core.specs.SpotState.{through}
use Rattle.rc_core.specs.Continuity.{static_states}
use Rattle.rc_core.specs.Slow.{plain, seen_state}
use Rattle.rc_core.specs.Version.{static_state}
use Rattle.rc_core.proofs.Slowly.{laid_first, laid_next}
use Rattle.rc_core.proofs.slow.laid_statics.Goals as goal

pub loop-left-init : goal.loop-left-init
loop-left-init c = laid_first (seen_state c.nothing_seen-seen.result) (through (static_states (map plain c.args.versions.now))) c.nothing_seen-seen.ensures

pub loop-left-preserved : goal.loop-left-preserved
loop-left-preserved c = laid_next (seen_state c.loop-left.seen) (seen_state c.in_ok-seen.seen) static_state c.loop-left.left.now c.oldest-item.result
    (through (static_states (map plain c.args.versions.now))) (omega (arith, c.in-len1-up.len_at_least)) c.oldest-item.is
    c.in_ok-seen.ensures
    c.loop-left.invariant
