-- One fragment more.
use Rattle.std.proofs.Common.{◌≡◌, ◌+◌, ◌++◌, take, ap, sym, subst, ◌∙◌, append_assoc}
use Rattle.std.specs.List.{flat_map}
use Rattle.std.proofs.lemmas.Grind.{flat_map-append}
use Rattle.rc_items.specs.Items.{item_code}
use Rattle.rc_items.specs.Before.{followed_by}
use Rattle.rc_items.specs.Outlined.{IsOutline}
use Rattle.rc_items.specs.TableText.{frag_items}
use Rattle.rc_tfile.specs.laws.Follows.{one_more, followed_by-append}
use Rattle.rc_tfile.proofs.Widths.{more_items}
use Rattle.rc_tfile.proofs.writing.spell_fragments.Goals as goal

pub loop-frag-preserved : goal.loop-frag-preserved
loop-frag-preserved c =
    let done = flat_map frag_items (take c.loop-frag.frag-index c.args.frags.now) in
    let more : flat_map frag_items (take (c.loop-frag.frag-index + 1) c.args.frags.now) ≡ done ++ frag_items c.frag-item.result = one_more frag_items c.args.frags.now c.loop-frag.frag-index c.frag-item.result c.loop-frag-test.true c.frag-item.is in record {
      outlined = λ before is. subst (λ b. IsOutline b c.spell_fragment.new.outline) (sym (ap (followed_by before) more ∙ followed_by-append before done (frag_items c.frag-item.result))) (c.in_ok-spell_fragment.ensures.outline (followed_by before done) (c.loop-frag.invariant.outlined before is));
      opened = c.in_ok-spell_fragment.ensures.opened;
      items = more_items frag_items _ done c.frag-item.result more c.loop-frag.invariant.items c.in_ok-spell_fragment.ensures.items;
      spelt = c.in_ok-spell_fragment.ensures.bytes ∙ ap (λ t. t ++ flat_map item_code (frag_items c.frag-item.result)) c.loop-frag.invariant.spelt ∙ append_assoc _ (flat_map item_code done) (flat_map item_code (frag_items c.frag-item.result))
          ∙ ap (λ t. c.args.out.now.items ++ t) (sym (flat_map-append item_code done (frag_items c.frag-item.result)) ∙ ap (flat_map item_code) (sym more));
    }
