use Rattle.std.proofs.Common.{Some, inr, ap, sym, ◌∙◌, subst, arith}
use Rattle.rc_core.specs.declared.entries.Entry.{Entry}
use Rattle.rc_object.specs.Objects.{IsMade, HoldsEntry, entry_of}
use Rattle.rc_object.specs.laws.OneValue.{entries_same}
use Rattle.rc_object.specs.laws.Spelled.{coded_of}
use Rattle.rc_object.proofs.Built.{ready_put, held}
use Rattle.lsa_kinds.specs.declared.kind.Kind.TheVariants.{RowEntry}
use Rattle.lsa_region.specs.Region.{body}
use Rattle.rc_object.proofs.makers.make_row_like.Goals as goal

pub make-requires : goal.make-requires
make-requires g c =
    let x = c.requires.0 in let row = c.requires.1 in let holds = c.requires.2 in let is = c.requires.3 in let room = c.requires.4 in
    let ready = ready_put c.begin_like.new.sc c.put.new.self x.position c.args.at c.args.gap row c.row_code.result.now c.bytes.result.now (c.begin_like.ensures.begun x holds) c.put.ensures (c.row_code.ensures row (inr (x, holds, is))) c.bytes.ensures.value (coded_of c.args.region.now c.args.from row (inr (x, holds, is))) in
    (omega arith, (omega (arith, ready.takes, room.fits), (omega (arith, ready.takes, room.spare), λ ne. ready.level)))

pub returns-clause-holds : goal.returns-clause-holds
returns-clause-holds g c = λ x holds.
    let row = c.requires.1 in
    let is = ap (λ (e : Entry). e.row) (entries_same (body c.args.region.now c.args.from) x c.requires.0 holds c.requires.2) ∙ c.requires.3 in
    let ready = ready_put c.begin_like.new.sc c.put.new.self x.position c.args.at c.args.gap row c.row_code.result.now c.bytes.result.now (c.begin_like.ensures.begun x holds) c.put.ensures (c.row_code.ensures row (inr (x, holds, is))) c.bytes.ensures.value (coded_of c.args.region.now c.args.from row (inr (x, holds, is))) in
    subst (λ o. HoldsEntry c.make.new.region c.make.result (entry_of x.position o c.args.at c.args.gap)) (sym is)
    (held (body c.make.new.region c.make.result) RowEntry c.bytes.result.now (entry_of x.position (Some row) c.args.at c.args.gap) c.make.ensures.here ready.spelled)

pub returns-clause-made : goal.returns-clause-made
returns-clause-made g c = λ x row holds is.
    let ready = ready_put c.begin_like.new.sc c.put.new.self x.position c.args.at c.args.gap row c.row_code.result.now c.bytes.result.now (c.begin_like.ensures.begun x holds) c.put.ensures (c.row_code.ensures row (inr (x, holds, is))) c.bytes.ensures.value (coded_of c.args.region.now c.args.from row (inr (x, holds, is))) in
    subst (λ n. IsMade g.row.S c.args.region.now c.make.new.region c.make.result n) ready.takes c.make.ensures.made
