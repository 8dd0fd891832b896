-- The entries of the numbers that were told are forgotten.
use Rattle.std.specs.Prelude.{length}
use Rattle.rc_entries.proofs.Forgetting.{IsForgetting}
use Rattle.rc_entries.proofs.entries.Entries.forget_dropped.Given as goal

abbrev pub invariant-loop-id : goal.invariant-loop-id
invariant-loop-id g l = IsForgetting l.fn.self l.self-inside.numbers.entries l.self-inside.keys.entries l.fn.chains l.chains

abbrev pub decreases-loop-id : goal.decreases-loop-id
decreases-loop-id g l = length l.chains.dropped
