use Rattle.rc_cache_tests.proofs.Left.{left-itself, left-then}
use Rattle.rc_cache_tests.proofs.room.fill.Goals as goal

pub loop-round-init : goal.loop-round-init
loop-round-init c = left-itself c.args.chains.now

pub loop-round-preserved : goal.loop-round-preserved
loop-round-preserved c = left-then c.args.chains.now c.loop-round.chains c.make_one.new.chains c.loop-round.invariant c.make_one.ensures
