-- What is known of the chains stays known.
use Rattle.rc_chain_guarded.specs.Guarded.{IsTracked}
use Rattle.rc_chain_walk.proofs.turning.turn_round.Given as goal

abbrev pub invariant-loop-place : goal.invariant-loop-place
invariant-loop-place l = IsTracked l.chains l.known
