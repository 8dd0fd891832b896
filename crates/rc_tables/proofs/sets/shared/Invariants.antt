-- The tables so far and those that are left are all of them.
use Rattle.std.proofs.Common.{◌≡◌, ◌++◌, length, map as list_map}
use Rattle.rc_tables.proofs.sets.shared.Given as goal

abbrev pub invariant-loop-left : goal.invariant-loop-left
invariant-loop-left l = list_map (λ t. t.value) l.list.items ++ list_map (λ t. t.value) l.left ≡ list_map (λ t. t.value) l.fn.tables

abbrev pub decreases-loop-left : goal.decreases-loop-left
decreases-loop-left l = length l.left
