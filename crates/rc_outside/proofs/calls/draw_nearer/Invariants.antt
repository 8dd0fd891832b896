use Rattle.std.proofs.Common.{◌≡◌, ◌++◌, map, take, drop}
use Rattle.rc_outside.specs.Failures.{one_call_nearer}
use Rattle.rc_outside.proofs.calls.draw_nearer.Given as goal

-- the failures so far are one call nearer, and the others are as they were
abbrev pub invariant-loop-failure : goal.invariant-loop-failure
invariant-loop-failure l = l.fails ≡ map (one_call_nearer l.call) (take l.failure-index l.initial.fails) ++ drop l.failure-index l.initial.fails
