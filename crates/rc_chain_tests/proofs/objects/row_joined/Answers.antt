use Rattle.std.proofs.Common.{◌≡◌, ◌+◌, [], ◌∷◌, length, inr, refl, ap, sym, ◌∙◌, arith}
use Rattle.rc_cell.specs.Winner.{joined_row}
use Rattle.lsa_kinds.specs.Kinds.{up8}
use Rattle.rc_rowcode.specs.Spelling.{row_code}
use Rattle.rc_core.specs.Change.{joined_onto, with_row}
use Rattle.rc_object.specs.laws.Spelled.{coded_of}
use Rattle.rc_chain_tests.proofs.Rooms.{IsMeasured, entry_room}
use Rattle.rc_chain_tests.proofs.objects.row_joined.Goals as goal

pub join_size-row-requires-clause-ours : goal.join_size-row-requires-clause-ours
join_size-row-requires-clause-ours c =
    let x = c.requires.entry.0 in let own = c.requires.entry.1 in let holds = c.requires.entry.2 in let is = c.requires.entry.3 in let v = c.args.region.now in
    (own, coded_of v c.args.e own (inr (x, holds, is)), c.code_in.ensures x own holds is)

pub make_joined-requires : goal.make_joined-requires
make_joined-requires c =
    let x = c.requires.entry.0 in let own = c.requires.entry.1 in let holds = c.requires.entry.2 in let is = c.requires.entry.3 in let v = c.args.region.now in
    let row = c.requires.code.0 in let all = joined_onto x.row row in
    let onto : all ≡ joined_row (own ∷ row ∷ []) = ap (λ o. joined_onto o row) is in
    let row_is : length (row_code all) ≡ c.join_size-row.result =
    ap (λ r. length (row_code r)) onto ∙ sym (c.join_size-row.ensures.value own row (coded_of v c.args.e own (inr (x, holds, is))) c.requires.code.1 (c.code_in.ensures x own holds is) c.requires.code.2) in
    let measured : IsMeasured v (80 + length c.position_code-position.result.now) (length (row_code all)) c.round_up-size.result c.spare.result c.args.sc.now.size = record {
      is = c.round_up-size.ensures ∙ ap (λ n. up8 (80 + length c.position_code-position.result.now + n)) (sym row_is);
      small = c.if-size-gt512.false;
      there = c.if-size-spare.false;
      spares = c.spare.ensures;
      short = omega (arith, row_is, c.if-row-gt400.false);
      whole = c.requires.size;
    } in
    let room = entry_room v x.position all (length c.position_code-position.result.now) c.round_up-size.result c.spare.result c.args.sc.now.size (ap length (c.position_code-position.ensures x holds)) c.if-position-gt300.false measured in
    (omega arith, (x, row, holds, (c.requires.code.1, c.requires.code.2), room))

pub returns-clause-made : goal.returns-clause-made
returns-clause-made c =
    let x = c.requires.entry.0 in let own = c.requires.entry.1 in let holds = c.requires.entry.2 in let is = c.requires.entry.3 in let v = c.args.region.now in
    let row = c.requires.code.0 in
    (with_row row x, joined_onto x.row row, c.make_joined.ensures.holds x row holds (c.requires.code.1, c.requires.code.2), refl)
