-- Those that are left are still to come.
use Rattle.std.proofs.Common.{◌≡◌, ◌≤◌, ◌+◌, ◌++◌, List, length, map as list_map}
use Rattle.std.specs.List.{AllByRecursion}
use Rattle.rc_rowcode.specs.Spelling.{KeyFits}
use Rattle.rc_schema.specs.SchemaValue.{SchemaValue}
use Rattle.rc_items.specs.Items.{Item, BlockItem}
use Rattle.rc_items.specs.Before.{ItemsBefore}
use Rattle.rc_tfile.specs.calls.Windows.{IsOpen, reads_left}
use Rattle.rc_tfile.specs.calls.Walking.{Awaits}
use Rattle.rc_tfile.proofs.walking.check_blocks.Given as goal

abbrev pub invariant-loop-left : goal.invariant-loop-left
invariant-loop-left g l = record {
  files : g.W.Store.files l.store ≡ g.W.Store.files l.initial.store;
  building : g.W.Store.building l.store ≡ g.W.Store.building l.initial.store;
  faults : g.W.Store.faults l.initial.store ≤ g.W.Store.faults l.store;
  number : l.file.number ≡ l.initial.file.number;
  open_file : IsOpen (g.W.Store.files l.store) l.file;
  asks : g.W.Store.asks l.store + reads_left l.file ≤ g.W.Store.asks l.initial.store + reads_left l.initial.file;
  limits : AllByRecursion (λ b. KeyFits b.first.prefix) l.left;
  next : (schema : SchemaValue) (start : ItemsBefore) (more : List Item) → Awaits (g.W.Store.files l.initial.store) schema start (list_map BlockItem l.blocks ++ more) l.initial.file → Awaits (g.W.Store.files l.store) schema start (list_map BlockItem l.left ++ more) l.file;
}

abbrev pub decreases-loop-left : goal.decreases-loop-left
decreases-loop-left g l = length l.left
