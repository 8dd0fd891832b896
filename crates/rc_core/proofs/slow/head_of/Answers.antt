use Rattle.std.proofs.Common.{arith, map}
use Rattle.rc_cell.specs.Orders.{tomb_cmp}
use Rattle.rc_cell.specs.Winner.{greatest}
use Rattle.rc_core.specs.Continuity.{version_tombs}
use Rattle.rc_core.specs.Slow.{plain}
use Rattle.rc_core.proofs.Slowly.{head_last, head_next}
use Rattle.rc_core.proofs.slow.head_of.Goals as goal

pub loop-left-preserved : goal.loop-left-preserved
loop-left-preserved c = head_next c.loop-left.pt c.greater_tomb-pt.result c.loop-left.left.now c.oldest-item.result (greatest tomb_cmp (version_tombs (map plain c.args.versions.now))) (omega (arith, c.in-len1-up.len_at_least)) c.oldest-item.is
    c.greater_tomb-pt.ensures c.loop-left.invariant

pub returns : goal.returns
returns c = head_last c.loop-left.pt c.loop-left.left.now (greatest tomb_cmp (version_tombs (map plain c.args.versions.now))) (omega arith) c.loop-left.invariant
