-- The first of those that are left fits.
use Rattle.rc_writes.specs.Allowed.{IsRangeBound}
use Rattle.rc_writes.proofs.Rest.{all_rest}
use Rattle.rc_writes.proofs.allowed.ranges_fit.Goals as goal

pub loop-left-preserved : goal.loop-left-preserved
loop-left-preserved c = all_rest (λ q. IsRangeBound c.args.schema.now q.from × IsRangeBound c.args.schema.now q.to) c.loop-left.left.now c.args.ranges.now c.range-item.result c.in-len1-up.len_at_least c.range-item.is (c.is_range_of.ensures.0 c.if-not-is_range_of.false) c.loop-left.invariant
