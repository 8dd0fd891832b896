-- The first of those that are left comes next.
use Rattle.std.proofs.Common.{◌-◌, ◌++◌, List, length, take, drop, map as list_map, subst}
use Rattle.std.proofs.lemmas.Result.{err_from_is_err_and}
use Rattle.rc_items.specs.declared.blocks.Block.{Block}
use Rattle.rc_items.specs.Items.{BlockItem}
use Rattle.rc_tfile.specs.calls.Walking.{Awaits}
use Rattle.rc_tfile.specs.laws.Follows.{first_and_rest}
use Rattle.rc_tfile.proofs.walking.check_blocks.Goals as goal

pub returns-in_err-check_block-clause-next : goal.returns-in_err-check_block-clause-next
returns-in_err-check_block-clause-next g c =
    let left = first_and_rest c.loop-left.left.now c.block-item.result c.in-len1-up.len_at_least c.block-item.is in
    let behind : List Block = take (length c.loop-left.left.now - 1) (drop 1 c.loop-left.left.now) in
    let p = err_from_is_err_and c.from_residual.result c.from_residual.ensures.1 in
    rw (p.1, p.2) (λ schema start more a. c.in_err-check_block.ensures.next schema start (list_map BlockItem behind ++ more)
    (subst (λ (bs : List Block). Awaits (g.W.Store.files c.loop-left.store) schema start (list_map BlockItem bs ++ more) c.loop-left.file) left (c.loop-left.invariant.next schema start more a)))
