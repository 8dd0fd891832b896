use Rattle.std.proofs.Common.{subst, arith}
use Rattle.rc_rowcode.specs.Objects.{entry_size}
use Rattle.rc_core.specs.Change.{joined_onto, with_row}
use Rattle.lsa_kinds.specs.declared.kind.Kind.TheVariants.{RowEntry}
use Rattle.lsa_region.specs.Region.{body}
use Rattle.rc_object.specs.Objects.{IsMade, IsRowCode}
use Rattle.rc_object.specs.laws.Spelled.{coded_of}
use Rattle.rc_object.proofs.Built.{built_as, held}
use Rattle.rc_object.proofs.makers.make_joined_like.Goals as goal

pub put_joined_entry-requires : goal.put_joined_entry-requires
put_joined_entry-requires g c =
    let row = c.requires.1 in
    let code : IsRowCode c.row_code.result.now row = (coded_of c.args.region.now c.args.from row c.requires.3, c.row_code.ensures row c.requires.3) in
    (omega arith, (c.requires.0, row, c.requires.2, code, c.requires.4.inside))

pub make-requires : goal.make-requires
make-requires g c =
    let x = c.requires.0 in let row = c.requires.1 in let holds = c.requires.2 in let room = c.requires.4 in
    let code : IsRowCode c.row_code.result.now row = (coded_of c.args.region.now c.args.from row c.requires.3, c.row_code.ensures row c.requires.3) in
    let ready = built_as c.put_joined_entry.new.sc.bytes c.bytes.result.now RowEntry (with_row row x) (entry_size x.position.prefix (joined_onto x.row row)) c.bytes.ensures.value (c.put_joined_entry.ensures.built x row holds code) in
    (omega arith, (omega (arith, ready.takes, room.fits), (omega (arith, ready.takes, room.spare), λ ne. ready.level)))

pub returns-clause-holds : goal.returns-clause-holds
returns-clause-holds g c = λ x row holds h.
    let code : IsRowCode c.row_code.result.now row = (coded_of c.args.region.now c.args.from row h, c.row_code.ensures row h) in
    let ready = built_as c.put_joined_entry.new.sc.bytes c.bytes.result.now RowEntry (with_row row x) (entry_size x.position.prefix (joined_onto x.row row)) c.bytes.ensures.value (c.put_joined_entry.ensures.built x row holds code) in
    held (body c.make.new.region c.make.result) RowEntry c.bytes.result.now (with_row row x) c.make.ensures.here ready.spelled

pub returns-clause-made : goal.returns-clause-made
returns-clause-made g c = λ x row holds h.
    let code : IsRowCode c.row_code.result.now row = (coded_of c.args.region.now c.args.from row h, c.row_code.ensures row h) in
    let ready = built_as c.put_joined_entry.new.sc.bytes c.bytes.result.now RowEntry (with_row row x) (entry_size x.position.prefix (joined_onto x.row row)) c.bytes.ensures.value (c.put_joined_entry.ensures.built x row holds code) in
    subst (λ n. IsMade g.row.S c.args.region.now c.make.new.region c.make.result n) ready.takes c.make.ensures.made
