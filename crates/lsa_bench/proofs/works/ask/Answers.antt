use Rattle.std.proofs.Common.{◌+◌, sym, subst, arith}
use Rattle.lsa_bench.proofs.Moved.{IsAsked, asked-more}
use Rattle.lsa_bench.proofs.works.ask.Goals as goal

pub loop-asked-preserved : goal.loop-asked-preserved
loop-asked-preserved c =
    subst (IsAsked 4096 3584 c.args.region.now c.ask_once.new.region (c.loop-asked.asked + 1)) (sym c.saturating_add-full.ensures)
    (asked-more 4096 3584 c.args.region.now c.loop-asked.region c.ask_once.new.region c.loop-asked.asked c.loop-asked.full c.ask_once.result c.loop-asked.invariant
    (omega (arith, c.loop-asked-test.true, c.ranges.times.fits)) c.ask_once.ensures.one c.ask_once.ensures.full c.ask_once.ensures.tight c.ask_once.ensures.ready c.ask_once.ensures.idle c.ask_once.ensures.rounds)
