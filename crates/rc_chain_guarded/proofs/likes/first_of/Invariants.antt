-- The chains are as they were, and where objects are, too.
use Rattle.std.proofs.Common.{◌≡◌}
use Rattle.rc_chain_guarded.proofs.likes.first_of.Given as goal

abbrev pub invariant-loop-turns : goal.invariant-loop-turns
invariant-loop-turns l = (l.chains.chains ≡ l.fn.chains.chains) × (l.chains.region.usages ≡ l.fn.chains.region.usages)
