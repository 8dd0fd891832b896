-- One partition more.
use Rattle.std.proofs.Common.{◌≡◌, ◌+◌, ◌++◌, [], ◌∷◌, take, ap, sym, subst, ◌∙◌}
use Rattle.std.specs.List.{flat_map}
use Rattle.rc_items.specs.Items.{HeadItem}
use Rattle.rc_items.specs.Before.{followed_by}
use Rattle.rc_mutation.specs.declared.mutations.Partition.{Partition}
use Rattle.rc_writes.specs.Limits.{IsWithinLimits}
use Rattle.rc_items.specs.Outlined.{IsOutline}
use Rattle.rc_items.specs.TableText.{part_items}
use Rattle.rc_tfile.specs.laws.Follows.{one_more, followed_by-append}
use Rattle.rc_tfile.proofs.Widths.{more_items}
use Rattle.rc_tfile.proofs.writing.outline_of.Goals as goal

pub spell_part-requires : goal.spell_part-requires
spell_part-requires c = subst (λ (p : Partition). IsWithinLimits p.change) (sym c.part-item.is) (c.requires c.loop-part.part-index c.part-item.result c.loop-part-test.true)

pub loop-part-preserved : goal.loop-part-preserved
loop-part-preserved c =
    let before = HeadItem c.args.schema.now ∷ [] in
    let done = flat_map part_items (take c.loop-part.part-index c.args.parts.now) in
    let more : flat_map part_items (take (c.loop-part.part-index + 1) c.args.parts.now) ≡ done ++ part_items c.part-item.result = one_more part_items c.args.parts.now c.loop-part.part-index c.part-item.result c.loop-part-test.true c.part-item.is in record {
      outlined = subst (λ b. IsOutline b c.spell_part.new.outline) (sym (ap (followed_by before) more ∙ followed_by-append before done (part_items c.part-item.result))) (c.in_ok-spell_part.ensures.outline (followed_by before done) c.loop-part.invariant.outlined);
      items = more_items part_items _ done c.part-item.result more c.loop-part.invariant.items c.in_ok-spell_part.ensures.items;
    }
