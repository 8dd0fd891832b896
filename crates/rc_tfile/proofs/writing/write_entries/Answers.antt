-- One entry more.
use Rattle.std.proofs.Common.{◌≡◌, ◌+◌, ◌++◌, take, ap, sym, ◌∙◌, arith}
use Rattle.std.specs.List.{flat_map}
use Rattle.std.proofs.lemmas.Grind.{flat_map-append}
use Rattle.rc_outside.specs.Files.{grown_draft}
use Rattle.rc_items.specs.Items.{item_code}
use Rattle.rc_items.specs.Blocks.{entry_items}
use Rattle.rc_tfile.specs.laws.Follows.{one_more}
use Rattle.rc_tfile.specs.laws.Drafts.{grown_more}
use Rattle.rc_tfile.proofs.Widths.{more_items}
use Rattle.rc_tfile.proofs.writing.write_entries.Goals as goal

pub loop-listed-preserved : goal.loop-listed-preserved
loop-listed-preserved g c =
    let done = flat_map entry_items (take c.loop-listed.listed-index c.args.entries.now) in
    let more : flat_map entry_items (take (c.loop-listed.listed-index + 1) c.args.entries.now) ≡ done ++ entry_items c.listed-item.result = one_more entry_items c.args.entries.now c.loop-listed.listed-index c.listed-item.result c.loop-listed-test.true c.listed-item.is in record {
      items = more_items entry_items _ done c.listed-item.result more c.loop-listed.invariant.items c.in_ok-write_entry.ensures.items;
      built = c.in_ok-write_entry.ensures.building ∙ ap (λ b. grown_draft b (flat_map item_code (entry_items c.listed-item.result))) c.loop-listed.invariant.built
          ∙ grown_more _ (flat_map item_code done) (flat_map item_code (entry_items c.listed-item.result))
          ∙ ap (grown_draft _) (sym (flat_map-append item_code done (entry_items c.listed-item.result)) ∙ ap (flat_map item_code) (sym more));
      files = c.in_ok-write_entry.ensures.files ∙ c.loop-listed.invariant.files;
      asks = c.in_ok-write_entry.ensures.asks ∙ c.loop-listed.invariant.asks;
      faults = omega (arith, c.in_ok-write_entry.ensures.faults.0, c.loop-listed.invariant.faults);
    }
