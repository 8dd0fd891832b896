-- The references so far, with those of the entries that are left, are those of all.
use Rattle.std.proofs.Common.{◌≡◌, ◌++◌, length}
use Rattle.std.specs.List.{flat_map, AllByRecursion}
use Rattle.rc_items.specs.Items.{IsItem}
use Rattle.rc_items.specs.Blocks.{entry_items}
use Rattle.rc_tfile.specs.Info.{refs_from}
use Rattle.rc_tfile.proofs.directory.refs_of.Given as goal

abbrev pub invariant-loop-left : goal.invariant-loop-left
invariant-loop-left l = record {
  made : l.refs ++ refs_from l.next l.left ≡ refs_from l.off l.entries;
  items : AllByRecursion IsItem (flat_map entry_items l.left) → AllByRecursion IsItem (flat_map entry_items l.entries);
}

abbrev pub decreases-loop-left : goal.decreases-loop-left
decreases-loop-left l = length l.left
