-- The chains up to the last one have the phase.
use Rattle.std.proofs.Common.{◌-◌, length}
use Rattle.rc_chain.proofs.Relabelled.{IsRelabelledBelow, first_after}
use Rattle.rc_chain.proofs.chains.Chains.relabel.Given as goal

abbrev pub invariant-loop-id : goal.invariant-loop-id
invariant-loop-id g l = IsRelabelledBelow g.row.S l.to (first_after l.after) l.fn.self l.self

abbrev pub decreases-loop-id : goal.decreases-loop-id
decreases-loop-id g l = length l.self.chains - first_after l.after
