-- The numbers so far and those of the tables that are left are those of all.
use Rattle.std.proofs.Common.{◌≡◌, ◌++◌, length, map as list_map}
use Rattle.rc_tables.proofs.sets.TableSet.numbers.Given as goal

abbrev pub invariant-loop-left : goal.invariant-loop-left
invariant-loop-left l = l.numbers.items ++ list_map (λ t. t.number) (list_map (λ t. t.value) l.left) ≡ list_map (λ t. t.number) l.fn.self

abbrev pub decreases-loop-left : goal.decreases-loop-left
decreases-loop-left l = length l.left
