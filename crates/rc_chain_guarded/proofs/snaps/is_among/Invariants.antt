-- Where those that are left are others, all are.
use Rattle.std.proofs.Common.{length}
use Rattle.std.specs.List.{AllByRecursion}
use Rattle.rc_chain_guarded.specs.calls.Inner.{IsOther}
use Rattle.rc_chain_guarded.proofs.snaps.is_among.Given as goal

abbrev pub invariant-loop-left : goal.invariant-loop-left
invariant-loop-left l = AllByRecursion (IsOther l.one) l.left → AllByRecursion (IsOther l.one) l.held

abbrev pub decreases-loop-left : goal.decreases-loop-left
decreases-loop-left l = length l.left
