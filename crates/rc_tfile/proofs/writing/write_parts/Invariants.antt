-- The partitions so far are written and taken into the outline.
use Rattle.std.proofs.Common.{◌≡◌, ◌≤◌, take}
use Rattle.std.specs.List.{flat_map, AllByRecursion}
use Rattle.rc_outside.specs.Files.{grown_draft}
use Rattle.rc_items.specs.Items.{item_code, IsItem}
use Rattle.rc_items.specs.Before.{ItemsBefore, followed_by}
use Rattle.rc_items.specs.Outlined.{IsOutline}
use Rattle.rc_items.specs.TableText.{part_items}
use Rattle.rc_tfile.proofs.writing.write_parts.Given as goal

abbrev pub invariant-loop-part : goal.invariant-loop-part
invariant-loop-part g l = record {
  outlined : (before : ItemsBefore) → IsOutline before l.initial.outline → IsOutline (followed_by before (flat_map part_items (take l.part-index l.parts))) l.outline;
  items : AllByRecursion IsItem (flat_map part_items (take l.part-index l.parts));
  built : g.W.Store.building l.store ≡ grown_draft (g.W.Store.building l.initial.store) (flat_map item_code (flat_map part_items (take l.part-index l.parts)));
  files : g.W.Store.files l.store ≡ g.W.Store.files l.initial.store;
  asks : g.W.Store.asks l.store ≡ g.W.Store.asks l.initial.store;
  faults : g.W.Store.faults l.initial.store ≤ g.W.Store.faults l.store;
}
