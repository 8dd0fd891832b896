-- The three pieces are what must come behind the partitions.
use Rattle.std.proofs.Common.{ap, subst, ◌∙◌}
use Rattle.std.specs.List.{flat_map}
use Rattle.std.proofs.lemmas.Result.{on_ok_weaker}
use Rattle.rc_outside.specs.Files.{grown_draft}
use Rattle.rc_items.specs.Items.{item_code}
use Rattle.rc_items.specs.Blocks.{entry_items}
use Rattle.rc_tfile.specs.laws.Drafts.{ending_built}
use Rattle.rc_tfile.proofs.Widths.{AreItems, ending_items}
use Rattle.rc_tfile.proofs.writing.write_listed.Goals as goal

pub returns-clause-building : goal.returns-clause-building
returns-clause-building g c = λ before is.
    on_ok_weaker c.write_tail.result (λ built. ending_built _ _ _ _ before c.args.outline.now is c.in_ok-append.ensures.building (c.in_ok-write_entries.ensures.building ∙ ap (λ es. grown_draft (g.W.Store.building c.append.new.store) (flat_map item_code (flat_map entry_items es))) c.as_slice.ensures.value) built) c.write_tail.ensures.building

pub returns-clause-items : goal.returns-clause-items
returns-clause-items g c = λ before is.
    on_ok_weaker c.write_tail.result (λ tail. ending_items before c.args.outline.now is (subst (λ es. AreItems (flat_map entry_items es)) c.as_slice.ensures.value c.in_ok-write_entries.ensures.items) tail) c.write_tail.ensures.item
