-- The machine stands for some state over the store before each line.
use Rattle.rc_machine.specs.State.{State}
use Rattle.rc_plain.specs.Stands.{PlainStands}
use Rattle.direct.proofs.serve.Given as goal

abbrev pub invariant-loop-line : goal.invariant-loop-line
invariant-loop-line g l = (m : State) × PlainStands (g.W.Store.files l.store) l.machine m
