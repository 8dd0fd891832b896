-- The chains of the keys that are left are still to be let go.
use Rattle.std.specs.Prelude.{length}
use Rattle.rc_memtable.proofs.LettingGo.{IsLettingGo}
use Rattle.rc_memtable.proofs.freeing.let_all_go.Given as goal

abbrev pub invariant-loop-key : goal.invariant-loop-key
invariant-loop-key g l = IsLettingGo l.fn.numbers.entries l.numbers.entries l.fn.chains l.chains

abbrev pub decreases-loop-key : goal.decreases-loop-key
decreases-loop-key g l = length l.numbers.entries
