use Rattle.std.proofs.Common.{◌≡◌, ◌+◌, length, Some, refl, ap, sym, ◌∙◌, arith}
use Rattle.lsa_kinds.specs.Kinds.{up8}
use Rattle.rc_position.specs.Position.{row_pos}
use Rattle.rc_rowcode.specs.Spelling.{pos_code, row_code}
use Rattle.rc_object.specs.Objects.{entry_of}
use Rattle.rc_chain_tests.proofs.Rooms.{IsMeasured, entry_room}
use Rattle.rc_chain_tests.proofs.objects.row_made.Goals as goal

pub make_row-requires : goal.make_row-requires
make_row-requires c =
    let v = c.args.region.now in let row = c.requires.code.0 in let x = row_pos c.args.key.now in let position = 1 + c.key_size-position.result in
    let row_is : length (row_code row) ≡ length c.args.code.now = sym (ap length c.requires.code.2) in
    let at : position ≡ length (pos_code x) = omega (arith, c.key_size-position.ensures.value) in
    let measured : IsMeasured v (80 + position) (length (row_code row)) c.round_up-size.result c.spare.result c.args.sc.now.size = record {
      is = c.round_up-size.ensures ∙ ap (λ n. up8 (80 + position + n)) (sym row_is);
      small = c.if-size-gt512.false;
      there = c.if-size-spare.false;
      spares = c.spare.ensures;
      short = omega (arith, row_is, c.if-code-gt400.false);
      whole = c.requires.size;
    } in
    let room = entry_room v x row position c.round_up-size.result c.spare.result c.args.sc.now.size at (omega (arith, c.key_size-position.ensures.small)) measured in
    (omega arith, (c.requires.limits, (row, (c.requires.code.1, c.requires.code.2), room)))

pub returns-clause-made : goal.returns-clause-made
returns-clause-made c =
    let row = c.requires.code.0 in let x = row_pos c.args.key.now in
    (entry_of x (Some row) c.plain-at.result c.plain-gap.result, row, c.make_row.ensures.holds row (c.requires.code.1, c.requires.code.2), refl)
