use Rattle.rc_filler.specs.Fills.{OfGap}
use Rattle.rc_filler.proofs.Coming.{came-unfit}
use Rattle.rc_filler.proofs.taking.take_gap.Goals as goal

pub returns-then-not-is_within_limits : goal.returns-then-not-is_within_limits
returns-then-not-is_within_limits g c =
    came-unfit g.row.S (OfGap c.args.from.now c.args.to.now c.args.tomb) c.skip.result c.args.s.now.chain c.args.s.now.pin c.args.chains.now c.skip.new.chains c.skip.ensures.answer (c.may_be_filled.ensures.0 c.if-not-may_be_filled.false)
    (λ both. (let yes = c.is_within_limits.ensures.1 both.0 in let no = c.if-not-is_within_limits.true in cc)) c.skip.ensures.counted

pub returns-then-not-is_within_limits-2 : goal.returns-then-not-is_within_limits-2
returns-then-not-is_within_limits-2 g c =
    came-unfit g.row.S (OfGap c.args.from.now c.args.to.now c.args.tomb) c.skip-then-not-is_within_limits-2.result c.args.s.now.chain c.args.s.now.pin c.args.chains.now c.skip-then-not-is_within_limits-2.new.chains c.skip-then-not-is_within_limits-2.ensures.answer (c.may_be_filled.ensures.0 c.if-not-may_be_filled.false)
    (λ both. (let yes = c.is_within_limits-2.ensures.1 both.1 in let no = c.if-not-is_within_limits-2.true in cc)) c.skip-then-not-is_within_limits-2.ensures.counted
