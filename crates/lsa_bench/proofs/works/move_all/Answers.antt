use Rattle.std.proofs.Common.{sym, subst}
use Rattle.lsa_bench.specs.Works.{StepsDone}
use Rattle.lsa_bench.proofs.Moved.{steps-none, steps-more}
use Rattle.lsa_bench.proofs.works.move_all.Goals as goal

pub loop-made-init : goal.loop-made-init
loop-made-init c = (c.requires, steps-none c.args.region.now)

pub loop-made-preserved : goal.loop-made-preserved
loop-made-preserved c =
    (c.make_or_move.ensures.there, steps-more c.loop-made.made c.args.region.now c.loop-made.region c.make_or_move.new.region c.loop-made.invariant.1 (c.make_or_move.ensures.step c.if-not-make_or_move.false))

pub returns-then-not-make_or_move-clause-steps : goal.returns-then-not-make_or_move-clause-steps
returns-then-not-make_or_move-clause-steps c = subst (StepsDone c.loop-made.made c.args.region.now) (sym (c.make_or_move.ensures.same c.if-not-make_or_move.true)) c.loop-made.invariant.1
