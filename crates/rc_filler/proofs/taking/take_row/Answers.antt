use Rattle.rc_filler.specs.Fills.{OfRow}
use Rattle.rc_filler.proofs.Coming.{came-unfit}
use Rattle.rc_filler.proofs.taking.take_row.Goals as goal

pub returns-then-is_empty : goal.returns-then-is_empty
returns-then-is_empty g c =
    came-unfit g.row.S (OfRow c.args.key.now c.args.row.now c.args.tomb) c.skip.result c.args.s.now.chain c.args.s.now.pin c.args.chains.now c.skip.new.chains c.skip.ensures.answer (c.may_be_filled.ensures.0 c.if-not-may_be_filled.false)
    (c.is_empty.ensures.0 c.if-is_empty.true) c.skip.ensures.counted
