-- The partition's item, then those of its blocks.
use Rattle.std.proofs.Common.{[], ◌∷◌, List, length, map as list_map, subst}
use Rattle.std.proofs.lemmas.Result.{err_from_is_err_and}
use Rattle.rc_items.specs.declared.blocks.Block.{Block}
use Rattle.rc_items.specs.Items.{EntryItem, BlockItem}
use Rattle.rc_tfile.specs.calls.Walking.{Expects}
use Rattle.rc_tfile.proofs.Awaiting.{both_come, first_refused}
use Rattle.rc_tfile.proofs.walking.check_listed.Goals as goal

pub returns-in_err-check_entry-clause-next : goal.returns-in_err-check_entry-clause-next
returns-in_err-check_entry-clause-next g c =
    let e = c.args.listed.now in
    let p = err_from_is_err_and c.from_residual.result c.from_residual.ensures.1 in
    rw (p.1, p.2) (first_refused (g.W.Store.files c.args.store.now) (g.W.Store.files c.check_entry.new.store) (EntryItem e.key e.off (length e.blocks) ∷ []) (list_map BlockItem e.blocks) c.in_err-check_entry.field-0.0 c.args.file.now c.check_entry.new.file c.in_err-check_entry.ensures.next)

pub returns-clause-next : goal.returns-clause-next
returns-clause-next g c =
    let e = c.args.listed.now in
    both_come (g.W.Store.files c.args.store.now) (g.W.Store.files c.check_entry.new.store) (g.W.Store.files c.check_blocks.new.store) (EntryItem e.key e.off (length e.blocks) ∷ []) (list_map BlockItem e.blocks) c.check_blocks.result c.args.file.now c.check_entry.new.file c.check_blocks.new.file
    c.in_ok-check_entry.ensures.next
    (subst (λ (bs : List Block). Expects (g.W.Store.files c.check_entry.new.store) (g.W.Store.files c.check_blocks.new.store) (list_map BlockItem bs) c.check_blocks.result c.check_entry.new.file c.check_blocks.new.file) c.blocks-2.ensures.value c.check_blocks.ensures.next)
