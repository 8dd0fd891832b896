-- Of the tables behind the first ones those that are passed do not list the key.
use Rattle.std.proofs.Common.{◌<◌, drop, length, map as list_map}
use Rattle.rc_tables.specs.Tables.{listing}
use Rattle.rc_tables.proofs.Silent.{SilentSoFar}
use Rattle.rc_tables.proofs.reading.lists_behind.Given as goal

abbrev pub invariant-loop-left : goal.invariant-loop-left
invariant-loop-left l = record {
  silent : SilentSoFar l.fn.key (drop (length l.fn.first) l.fn.set) (list_map (λ t. t.value) l.left);
  listed : 0 < listing l.fn.key (list_map (λ t. t.value) l.left) → 0 < listing l.fn.key (drop (length l.fn.first) l.fn.set);
}

abbrev pub decreases-loop-left : goal.decreases-loop-left
decreases-loop-left l = length l.left
