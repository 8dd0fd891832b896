-- The entries so far are written.
use Rattle.std.proofs.Common.{◌≡◌, ◌≤◌, take}
use Rattle.std.specs.List.{flat_map, AllByRecursion}
use Rattle.rc_outside.specs.Files.{grown_draft}
use Rattle.rc_items.specs.Items.{item_code, IsItem}
use Rattle.rc_items.specs.Blocks.{entry_items}
use Rattle.rc_tfile.proofs.writing.write_entries.Given as goal

abbrev pub invariant-loop-listed : goal.invariant-loop-listed
invariant-loop-listed g l = record {
  items : AllByRecursion IsItem (flat_map entry_items (take l.listed-index l.entries));
  built : g.W.Store.building l.store ≡ grown_draft (g.W.Store.building l.initial.store) (flat_map item_code (flat_map entry_items (take l.listed-index l.entries)));
  files : g.W.Store.files l.store ≡ g.W.Store.files l.initial.store;
  asks : g.W.Store.asks l.store ≡ g.W.Store.asks l.initial.store;
  faults : g.W.Store.faults l.initial.store ≤ g.W.Store.faults l.store;
}
