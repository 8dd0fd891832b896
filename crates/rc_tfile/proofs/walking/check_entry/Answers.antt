-- Its bytes come, so the item does.
use Rattle.std.proofs.Common.{◌∙◌, length}
use Rattle.rc_items.specs.Items.{EntryItem}
use Rattle.rc_tfile.proofs.Awaiting.{item_expected}
use Rattle.rc_tfile.proofs.walking.check_entry.Goals as goal

pub returns-in-Ok-clause-next : goal.returns-in-Ok-clause-next
returns-in-Ok-clause-next g c =
    item_expected (g.W.Store.files c.args.store.now) (g.W.Store.files c.expect.new.store) (EntryItem c.args.listed.now.key c.args.listed.now.off (length c.args.listed.now.blocks)) c.as_slice.result.now c.expect.result c.args.file.now c.expect.new.file tt c.in-Ok.ensures.fits (c.as_slice.ensures.value ∙ c.in-Ok.ensures.code)
    c.expect.ensures.next
