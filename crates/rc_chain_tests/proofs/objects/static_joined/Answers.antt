use Rattle.std.proofs.Common.{◌≡◌, ◌+◌, [], ◌∷◌, length, inl, ap, sym, ◌∙◌, arith}
use Rattle.lsa_kinds.specs.Kinds.{up8}
use Rattle.rc_cell.specs.Winner.{joined_row}
use Rattle.rc_rowcode.specs.Spelling.{row_code}
use Rattle.rc_object.specs.laws.Spelled.{coded_of}
use Rattle.rc_chain_tests.proofs.Rooms.{IsMeasured, static_room}
use Rattle.rc_chain_tests.proofs.objects.static_joined.Goals as goal

pub join_size-row-requires-clause-ours : goal.join_size-row-requires-clause-ours
join_size-row-requires-clause-ours c = (c.requires.entry.0, coded_of c.args.region.now c.args.s c.requires.entry.0 (inl c.requires.entry.1), c.static_code.ensures c.requires.entry.0 c.requires.entry.1)

pub join_size-row-requires-clause-theirs : goal.join_size-row-requires-clause-theirs
join_size-row-requires-clause-theirs c = (c.requires.entry.0, coded_of c.args.region.now c.args.s c.requires.entry.0 (inl c.requires.entry.1), c.static_code-2.ensures c.requires.entry.0 c.requires.entry.1)

pub make_joined_static-requires : goal.make_joined_static-requires
make_joined_static-requires c =
    let v = c.args.region.now in let row = c.requires.entry.0 in let holds = c.requires.entry.1 in
    let all = joined_row (row ∷ row ∷ []) in let coded = coded_of v c.args.s row (inl holds) in
    let row_is : length (row_code all) ≡ c.join_size-row.result = sym (c.join_size-row.ensures.value row row coded coded (c.static_code.ensures row holds) (c.static_code-2.ensures row holds)) in
    let measured : IsMeasured v 32 (length (row_code all)) c.round_up-size.result c.spare.result c.args.sc.now.size = record {
      is = c.round_up-size.ensures ∙ ap (λ n. up8 (32 + n)) (sym row_is);
      small = c.if-size-gt512.false;
      there = c.if-size-spare.false;
      spares = c.spare.ensures;
      short = omega (arith, row_is, c.if-row-gt400.false);
      whole = c.requires.size;
    } in
    let room = static_room v all c.round_up-size.result c.spare.result c.args.sc.now.size measured in
    (omega arith, (row, row, inl holds, inl holds, room))

pub returns-clause-made : goal.returns-clause-made
returns-clause-made c =
    let row = c.requires.entry.0 in
    (joined_row (row ∷ row ∷ []), c.make_joined_static.ensures.holds row row (inl c.requires.entry.1) (inl c.requires.entry.1))
