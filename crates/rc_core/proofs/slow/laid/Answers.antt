use Rattle.std.proofs.Common.{arith, map, subst}
use Rattle.rc_core.specs.SpotState.{through, under}
use Rattle.rc_core.specs.Merge.{Alike}
use Rattle.rc_core.specs.Version.{state_at, state_of, finding_in}
use Rattle.rc_core.specs.Chain.{states_at}
use Rattle.rc_core.specs.Slow.{plain, seen_state, spot_at}
use Rattle.rc_core.proofs.Slowly.{laid_first, laid_next}
use Rattle.rc_core.proofs.slow.laid.Goals as goal

pub loop-left-init : goal.loop-left-init
loop-left-init c = laid_first (seen_state c.nothing_seen-seen.result) (through (states_at (spot_at c.args.side c.args.x.now) (map plain c.args.versions.now))) c.nothing_seen-seen.ensures

pub loop-left-preserved : goal.loop-left-preserved
loop-left-preserved c = laid_next (seen_state c.loop-left.seen) (seen_state c.in_ok-seen.seen) (state_at (spot_at c.args.side c.args.x.now)) c.loop-left.left.now c.oldest-item.result
    (through (states_at (spot_at c.args.side c.args.x.now) (map plain c.args.versions.now))) (omega (arith, c.in-len1-up.len_at_least)) c.oldest-item.is
    (subst (λ es. Alike (seen_state c.in_ok-seen.seen) (under (seen_state c.loop-left.seen) (state_of (finding_in (spot_at c.args.side c.args.x.now) es)))) c.as_slice.ensures.value c.in_ok-seen.ensures) c.loop-left.invariant
