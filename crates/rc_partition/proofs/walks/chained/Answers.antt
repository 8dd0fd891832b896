use Rattle.std.proofs.Common.{sym, ◌∙◌, arith}
use Rattle.rc_partition.proofs.Passing.{passing-start, passing-next, passing-last, passing-all}
use Rattle.rc_partition.proofs.walks.chained.Goals as goal

pub loop-passed-init : goal.loop-passed-init
loop-passed-init g c = (c.requires.path.0, passing-start c.args.region.now c.args.start c.requires.there c.requires.path.0 c.requires.path.1)

pub object_at-requires : goal.object_at-requires
object_at-requires g c = (omega arith, c.loop-passed.invariant.1.there)

pub loop-passed-preserved : goal.loop-passed-preserved
loop-passed-preserved g c = passing-next c.args.region.now c.args.start c.known.ensures.well c.loop-passed.at c.loop-passed.passed c.loop-passed.invariant.0 c.in-Some.r c.loop-passed.invariant.1 (sym c.object_at.ensures ∙ c.in-Some.is)

pub returns-in-None : goal.returns-in-None
returns-in-None g c = λ xs p. passing-last c.args.region.now c.args.start c.loop-passed.at c.loop-passed.passed c.loop-passed.invariant.0 c.loop-passed.invariant.1 (sym c.object_at.ensures ∙ c.in-None.is) xs p

pub returns : goal.returns
returns g c = λ xs p. c.objects-most.ensures ∙ passing-all c.args.region.now c.args.start c.loop-passed.at c.loop-passed.passed _ c.loop-passed.invariant.0 c.loop-passed.invariant.1 c.requires.path.0 c.requires.path.1 c.requires.path.2 (omega (arith, c.loop-passed-test.false, c.objects-most.ensures)) xs p
