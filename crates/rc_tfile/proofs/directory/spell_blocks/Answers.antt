-- One block more.
use Rattle.std.proofs.Common.{◌≡◌, ◌++◌, ◌∷◌, ◌∙◌, ◌-◌, List, map, take, drop, length, ap, sym, subst, append_assoc}
use Rattle.std.specs.List.{flat_map, AllByRecursion}
use Rattle.rc_rowcode.specs.Spelling.{KeyFits}
use Rattle.rc_items.specs.declared.blocks.Block.{Block}
use Rattle.rc_items.specs.Items.{item_code, BlockItem}
use Rattle.rc_tfile.proofs.Widths.{AreItems, split}
use Rattle.rc_tfile.proofs.directory.spell_blocks.Goals as goal

pub loop-left-preserved : goal.loop-left-preserved
loop-left-preserved c =
    let left = c.loop-left.left.now in
    let block = c.block-item.result in
    let e : left ≡ block ∷ take (length left - 1) (drop 1 left) = split left block c.in-len1-up.len_at_least c.block-item.is in
    let spelled : List Block → List _ = λ bs. flat_map item_code (map BlockItem bs) in record {
      fits = (subst (λ (bs : List Block). AllByRecursion (λ b. KeyFits b.first.prefix) bs) e c.loop-left.invariant.fits).1;
      items = λ h. c.loop-left.invariant.items (subst (λ (bs : List Block). AreItems (map BlockItem bs)) (sym e) (c.in_ok-append_block.ensures.fits, h));
      spelt = ap (λ t. t ++ spelled (take (length left - 1) (drop 1 left))) c.in_ok-append_block.ensures.code
          ∙ append_assoc c.loop-left.out.items (item_code (BlockItem block)) (spelled (take (length left - 1) (drop 1 left)))
          ∙ ap (λ bs. c.loop-left.out.items ++ spelled bs) (sym e) ∙ c.loop-left.invariant.spelt;
    }
