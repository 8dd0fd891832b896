-- What is appended, with what is left, are the items of all blocks.
use Rattle.std.proofs.Common.{◌≡◌, ◌++◌, map, length}
use Rattle.std.specs.List.{flat_map, AllByRecursion}
use Rattle.rc_rowcode.specs.Spelling.{KeyFits}
use Rattle.rc_items.specs.Items.{item_code, BlockItem, IsItem}
use Rattle.rc_tfile.proofs.directory.spell_blocks.Given as goal

abbrev pub invariant-loop-left : goal.invariant-loop-left
invariant-loop-left l = record {
  fits : AllByRecursion (λ b. KeyFits b.first.prefix) l.left;
  items : AllByRecursion IsItem (map BlockItem l.left) → AllByRecursion IsItem (map BlockItem l.blocks);
  spelt : l.out.items ++ flat_map item_code (map BlockItem l.left) ≡ l.initial.out.items ++ flat_map item_code (map BlockItem l.blocks);
}

abbrev pub decreases-loop-left : goal.decreases-loop-left
decreases-loop-left l = length l.left
