-- The first of those that are left fits.
use Rattle.rc_writes.specs.Allowed.{IsRowOf}
use Rattle.rc_writes.proofs.Rest.{all_rest}
use Rattle.rc_writes.proofs.allowed.rows_fit.Goals as goal

pub loop-left-preserved : goal.loop-left-preserved
loop-left-preserved c = all_rest (λ e. IsRowOf c.args.schema.now e.0 e.1) c.loop-left.left.now c.args.rows.now c.row-item.result c.in-len1-up.len_at_least c.row-item.is (c.is_row_of.ensures.0 c.if-not-is_row_of.false) c.loop-left.invariant
