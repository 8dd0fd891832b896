-- The partitions so far are taken into the outline.
use Rattle.std.proofs.Common.{[], ◌∷◌, take}
use Rattle.std.specs.List.{flat_map, AllByRecursion}
use Rattle.rc_items.specs.Items.{HeadItem, IsItem}
use Rattle.rc_items.specs.Before.{followed_by}
use Rattle.rc_items.specs.Outlined.{IsOutline}
use Rattle.rc_items.specs.TableText.{part_items}
use Rattle.rc_tfile.proofs.writing.outline_of.Given as goal

abbrev pub invariant-loop-part : goal.invariant-loop-part
invariant-loop-part l = record {
  outlined : IsOutline (followed_by (HeadItem l.schema ∷ []) (flat_map part_items (take l.part-index l.parts))) l.outline;
  items : AllByRecursion IsItem (flat_map part_items (take l.part-index l.parts));
}
