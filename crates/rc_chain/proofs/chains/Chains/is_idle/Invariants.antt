-- Nothing is listed of the versions that were seen.
use Rattle.std.proofs.Common.{ℕ, ◌<◌}
use Rattle.rc_memory.specs.Changes.{NothingListed}
use Rattle.rc_chain.proofs.chains.Chains.is_idle.Given as goal

abbrev pub invariant-loop-number : goal.invariant-loop-number
invariant-loop-number g l = (j : ℕ) → j < l.number → NothingListed l.id j l.self
