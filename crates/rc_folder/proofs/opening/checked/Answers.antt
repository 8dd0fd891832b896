-- What the whole check says of the file.
use Rattle.std.proofs.Common.{subst}
use Rattle.rc_tfile.specs.Walking.{IsRefusalOf}
use Rattle.rc_folder.proofs.Opened.{is_checked, is_damaged, is_other}
use Rattle.rc_folder.proofs.opening.checked.Goals as goal

pub returns-in-Ok-clause-table : goal.returns-in-Ok-clause-table
returns-in-Ok-clause-table g c = is_checked (g.W.Store.files c.args.store.now) c.args.schema.now c.args.n c.in-Ok.info c.requires (λ bytes is. c.in-Ok.ensures.table bytes is)

pub returns-in-Err-Damaged-clause-bad : goal.returns-in-Err-Damaged-clause-bad
returns-in-Err-Damaged-clause-bad g c = is_damaged (g.W.Store.files c.args.store.now) c.args.schema.now c.args.n c.in-Err-Damaged.offset c.requires
    (λ bytes is. subst (IsRefusalOf bytes c.args.schema.now) c.in-Err-Damaged.field-0-is (c.in-Err-Damaged.ensures.table bytes is))

pub returns-in-Err-OtherSchema-clause-bad : goal.returns-in-Err-OtherSchema-clause-bad
returns-in-Err-OtherSchema-clause-bad g c = is_other (g.W.Store.files c.args.store.now) c.args.schema.now c.args.n c.requires
    (λ bytes is. subst (IsRefusalOf bytes c.args.schema.now) c.in-Err-OtherSchema.field-0-is (c.in-Err-OtherSchema.ensures.table bytes is))
