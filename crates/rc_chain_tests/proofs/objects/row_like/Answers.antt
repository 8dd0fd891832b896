use Rattle.std.proofs.Common.{◌≡◌, ◌+◌, length, ap, sym, ◌∙◌, arith}
use Rattle.lsa_kinds.specs.Kinds.{up8}
use Rattle.rc_rowcode.specs.Spelling.{row_code}
use Rattle.rc_object.specs.Objects.{entry_of}
use Rattle.rc_chain_tests.proofs.Rooms.{IsMeasured, entry_room}
use Rattle.rc_chain_tests.proofs.objects.row_like.Goals as goal

pub make_row_like-requires : goal.make_row_like-requires
make_row_like-requires c =
    let x = c.requires.entry.0 in let own = c.requires.entry.1 in let holds = c.requires.entry.2 in let is = c.requires.entry.3 in let v = c.args.region.now in
    let all = own in
    let row_is : length (row_code all) ≡ length c.code_in-row.result.now = sym (ap length (c.code_in-row.ensures x own holds is)) in
    let measured : IsMeasured v (80 + length c.position_code-position.result.now) (length (row_code all)) c.round_up-size.result c.spare.result c.args.sc.now.size = record {
      is = c.round_up-size.ensures ∙ ap (λ n. up8 (80 + length c.position_code-position.result.now + n)) (sym row_is);
      small = c.if-size-gt512.false;
      there = c.if-size-spare.false;
      spares = c.spare.ensures;
      short = omega (arith, row_is, c.if-row-gt400.false);
      whole = c.requires.size;
    } in
    let room = entry_room v x.position all (length c.position_code-position.result.now) c.round_up-size.result c.spare.result c.args.sc.now.size (ap length (c.position_code-position.ensures x holds)) c.if-position-gt300.false measured in
    (omega arith, (x, own, holds, is, room))

pub returns-clause-made : goal.returns-clause-made
returns-clause-made c =
    let x = c.requires.entry.0 in let own = c.requires.entry.1 in let holds = c.requires.entry.2 in let is = c.requires.entry.3 in let v = c.args.region.now in
    (entry_of x.position x.row c.plain-at.result c.plain-gap.result, own, c.make_row_like.ensures.holds x holds, is)
