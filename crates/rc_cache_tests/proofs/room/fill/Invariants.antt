-- Each chain that was there is as it was.
use Rattle.rc_cache_tests.specs.Holding.{ChainsStay}
use Rattle.rc_cache_tests.proofs.room.fill.Given as goal

abbrev pub invariant-loop-round : goal.invariant-loop-round
invariant-loop-round l = ChainsStay l.initial.chains l.chains
