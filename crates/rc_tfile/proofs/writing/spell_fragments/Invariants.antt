-- The fragments so far are appended and taken into the outline.
use Rattle.std.proofs.Common.{◌≡◌, ◌++◌, take}
use Rattle.std.specs.Prelude.{IsSome}
use Rattle.std.specs.List.{flat_map, AllByRecursion}
use Rattle.rc_items.specs.Items.{item_code, IsItem}
use Rattle.rc_items.specs.Before.{ItemsBefore, followed_by}
use Rattle.rc_items.specs.Outlined.{IsOutline}
use Rattle.rc_items.specs.TableText.{frag_items}
use Rattle.rc_tfile.proofs.writing.spell_fragments.Given as goal

abbrev pub invariant-loop-frag : goal.invariant-loop-frag
invariant-loop-frag l = record {
  outlined : (before : ItemsBefore) → IsOutline before l.initial.outline → IsOutline (followed_by before (flat_map frag_items (take l.frag-index l.frags))) l.outline;
  opened : IsSome l.outline.key;
  items : AllByRecursion IsItem (flat_map frag_items (take l.frag-index l.frags));
  spelt : l.out.items ≡ l.initial.out.items ++ flat_map item_code (flat_map frag_items (take l.frag-index l.frags));
}
