use Rattle.std.proofs.Common.{inr, ◌++◌, length, ap, sym, ◌∙◌, subst, refl, arith}
use Rattle.rc_rowcode.specs.Space.{HasRoom}
use Rattle.rc_rowcode.specs.Spelling.{row_code}
use Rattle.lsa_region.specs.Region.{body}
use Rattle.rc_object.proofs.Built.{row_of, onto_is, coded_joined}
use Rattle.rc_object.specs.laws.OneValue.{row_same}
use Rattle.rc_object.proofs.makers.put_joined.Goals as goal

pub row_code-requires : goal.row_code-requires
row_code-requires g c =
    let own = row_of (body c.args.region.now c.args.e) c.requires.0 c.kind.result c.requires.2 c.kind.ensures c.in-RowEntry.is in
    (omega arith, (own.0, inr (c.requires.0, c.requires.2, own.1)))

pub join_codes-requires-clause-ours : goal.join_codes-requires-clause-ours
join_codes-requires-clause-ours g c =
    let own = row_of (body c.args.region.now c.args.e) c.requires.0 c.kind.result c.requires.2 c.kind.ensures c.in-RowEntry.is in
    (own.0, own.2, c.row_code.ensures own.0 (inr (c.requires.0, c.requires.2, own.1)))

pub join_codes-requires-clause-room : goal.join_codes-requires-clause-room
join_codes-requires-clause-room g c = λ r q h k e f.
    let x = c.requires.0 in let row = c.requires.1 in
    let own = row_of (body c.args.region.now c.args.e) x c.kind.result c.requires.2 c.kind.ensures c.in-RowEntry.is in
    let first = row_same r own.0 h own.2 (sym e ∙ c.row_code.ensures own.0 (inr (x, c.requires.2, own.1))) in
    let second = row_same q row k c.requires.3.0 (sym f ∙ c.requires.3.1) in
    subst (λ z. HasRoom c.args.sc.now (length (row_code z))) (onto_is x.row own.0 row r q own.1 first second) c.requires.4

pub returns-in-RowEntry-clause-joined : goal.returns-in-RowEntry-clause-joined
returns-in-RowEntry-clause-joined g c = λ x row holds code.
    let own = row_of (body c.args.region.now c.args.e) x c.kind.result holds c.kind.ensures c.in-RowEntry.is in
    let joined = c.join_codes.ensures own.0 row own.2 code.0 (c.row_code.ensures own.0 (inr (x, holds, own.1))) code.1 in
    joined ∙ ap (λ z. record { bytes = c.args.sc.now.bytes ++ row_code z; size = c.args.sc.now.size }) (sym (onto_is x.row own.0 row own.0 row own.1 refl refl))

pub returns-in-RowEntry-clause-coded : goal.returns-in-RowEntry-clause-coded
returns-in-RowEntry-clause-coded g c = λ x row holds code. coded_joined c.joined_row_has_a_code.ensures (body c.args.region.now c.args.e) x row holds code.0

pub returns-in-Version-clause-coded : goal.returns-in-Version-clause-coded
returns-in-Version-clause-coded g c = λ x row holds code. coded_joined c.joined_row_has_a_code.ensures (body c.args.region.now c.args.e) x row holds code.0
