-- One partition more.
use Rattle.std.proofs.Common.{◌≡◌, ◌+◌, ◌++◌, take, ap, sym, subst, ◌∙◌, arith}
use Rattle.std.specs.List.{flat_map}
use Rattle.std.proofs.lemmas.Grind.{flat_map-append}
use Rattle.rc_outside.specs.Files.{grown_draft}
use Rattle.rc_items.specs.Items.{item_code}
use Rattle.rc_items.specs.Before.{followed_by}
use Rattle.rc_mutation.specs.declared.mutations.Partition.{Partition}
use Rattle.rc_writes.specs.Limits.{IsWithinLimits}
use Rattle.rc_items.specs.Outlined.{IsOutline}
use Rattle.rc_items.specs.TableText.{part_items}
use Rattle.rc_tfile.specs.laws.Follows.{one_more, followed_by-append}
use Rattle.rc_tfile.specs.laws.Drafts.{grown_more}
use Rattle.rc_tfile.proofs.Widths.{more_items}
use Rattle.rc_tfile.proofs.writing.write_parts.Goals as goal

pub write_part-requires-clause-limits : goal.write_part-requires-clause-limits
write_part-requires-clause-limits g c = subst (λ (p : Partition). IsWithinLimits p.change) (sym c.part-item.is) (c.requires.limits c.loop-part.part-index c.part-item.result c.loop-part-test.true)

pub loop-part-preserved : goal.loop-part-preserved
loop-part-preserved g c =
    let done = flat_map part_items (take c.loop-part.part-index c.args.parts.now) in
    let more : flat_map part_items (take (c.loop-part.part-index + 1) c.args.parts.now) ≡ done ++ part_items c.part-item.result = one_more part_items c.args.parts.now c.loop-part.part-index c.part-item.result c.loop-part-test.true c.part-item.is in record {
      outlined = λ before is. subst (λ b. IsOutline b c.write_part.new.outline) (sym (ap (followed_by before) more ∙ followed_by-append before done (part_items c.part-item.result))) (c.in_ok-write_part.ensures.outline (followed_by before done) (c.loop-part.invariant.outlined before is));
      items = more_items part_items _ done c.part-item.result more c.loop-part.invariant.items c.in_ok-write_part.ensures.items;
      built = c.in_ok-write_part.ensures.building ∙ ap (λ b. grown_draft b (flat_map item_code (part_items c.part-item.result))) c.loop-part.invariant.built
          ∙ grown_more _ (flat_map item_code done) (flat_map item_code (part_items c.part-item.result))
          ∙ ap (grown_draft _) (sym (flat_map-append item_code done (part_items c.part-item.result)) ∙ ap (flat_map item_code) (sym more));
      files = c.in_ok-write_part.ensures.files ∙ c.loop-part.invariant.files;
      asks = c.in_ok-write_part.ensures.asks ∙ c.loop-part.invariant.asks;
      faults = omega (arith, c.in_ok-write_part.ensures.faults.0, c.loop-part.invariant.faults);
    }
