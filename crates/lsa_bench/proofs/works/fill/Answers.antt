use Rattle.std.proofs.Common.{arith}
use Rattle.lsa_bench.proofs.works.fill.Goals as goal

pub loop-made-preserved : goal.loop-made-preserved
loop-made-preserved c = (omega (arith, c.loop-made.invariant.0, c.make.ensures.objects c.if-not-make.false), omega (arith, c.loop-made.invariant.1, c.make.ensures.live c.if-not-make.false))
