use Rattle.std.proofs.Common.{Some, subst, arith}
use Rattle.rc_position.specs.Position.{row_pos}
use Rattle.rc_object.specs.Objects.{IsMade, entry_of}
use Rattle.rc_object.proofs.Built.{ready_put, held}
use Rattle.lsa_kinds.specs.declared.kind.Kind.TheVariants.{RowEntry}
use Rattle.lsa_region.specs.Region.{body}
use Rattle.rc_object.proofs.makers.make_row.Goals as goal

pub make-requires : goal.make-requires
make-requires g c =
    let row = c.requires.row.0 in let code = c.requires.row.1 in let room = c.requires.row.2 in
    let ready = ready_put c.begin_row.new.sc c.put.new.self (row_pos c.args.key.now) c.args.at c.args.gap row c.args.code.now c.bytes.result.now c.begin_row.ensures.begun c.put.ensures code.1 c.bytes.ensures.value code.0 in
    (omega arith, (omega (arith, ready.takes, room.fits), (omega (arith, ready.takes, room.spare), λ ne. ready.level)))

pub returns-clause-holds : goal.returns-clause-holds
returns-clause-holds g c = λ row code.
    let x = row_pos c.args.key.now in
    let ready = ready_put c.begin_row.new.sc c.put.new.self x c.args.at c.args.gap row c.args.code.now c.bytes.result.now c.begin_row.ensures.begun c.put.ensures code.1 c.bytes.ensures.value code.0 in
    held (body c.make.new.region c.make.result) RowEntry c.bytes.result.now (entry_of x (Some row) c.args.at c.args.gap) c.make.ensures.here ready.spelled

pub returns-clause-made : goal.returns-clause-made
returns-clause-made g c = λ row code.
    let ready = ready_put c.begin_row.new.sc c.put.new.self (row_pos c.args.key.now) c.args.at c.args.gap row c.args.code.now c.bytes.result.now c.begin_row.ensures.begun c.put.ensures code.1 c.bytes.ensures.value code.0 in
    subst (λ n. IsMade g.row.S c.args.region.now c.make.new.region c.make.result n) ready.takes c.make.ensures.made
