use Rattle.std.proofs.Common.{◌≡◌, ◌+◌, length, inl, ap, sym, ◌∙◌, arith}
use Rattle.lsa_kinds.specs.Kinds.{up8}
use Rattle.rc_rowcode.specs.Spelling.{row_code}
use Rattle.rc_chain_tests.proofs.Rooms.{IsMeasured, static_room}
use Rattle.rc_chain_tests.proofs.objects.static_like.Goals as goal

pub make_static_like-requires : goal.make_static_like-requires
make_static_like-requires c =
    let v = c.args.region.now in let row = c.requires.entry.0 in let holds = c.requires.entry.1 in
    let all = row in
    let row_is : length (row_code all) ≡ length c.static_code-row.result.now = sym (ap length (c.static_code-row.ensures row holds)) in
    let measured : IsMeasured v 32 (length (row_code all)) c.round_up-size.result c.spare.result c.args.sc.now.size = record {
      is = c.round_up-size.ensures ∙ ap (λ n. up8 (32 + n)) (sym row_is);
      small = c.if-size-gt512.false;
      there = c.if-size-spare.false;
      spares = c.spare.ensures;
      short = omega (arith, row_is, c.if-row-gt400.false);
      whole = c.requires.size;
    } in
    let room = static_room v all c.round_up-size.result c.spare.result c.args.sc.now.size measured in
    (omega arith, (row, inl holds, room))

pub returns-clause-made : goal.returns-clause-made
returns-clause-made c = (c.requires.entry.0, c.make_static_like.ensures.holds c.requires.entry.0 (inl c.requires.entry.1))
