use Rattle.std.proofs.Common.{◌≡◌, ◌+◌, length, ap, sym, ◌∙◌, arith}
use Rattle.lsa_kinds.specs.Kinds.{up8}
use Rattle.rc_position.specs.Position.{row_pos}
use Rattle.rc_rowcode.specs.Objects.{entry_size}
use Rattle.rc_rowcode.specs.Spelling.{pos_code, row_code}
use Rattle.rc_chain_tests.proofs.sizes.live_beside.Goals as goal

pub make_row-requires : goal.make_row-requires
make_row-requires c =
    let row = c.requires.code.0 in let x = row_pos c.args.key.now in let position = 1 + c.key_size-position.result in
    let row_is : length (row_code row) ≡ length c.args.code.now = sym (ap length c.requires.code.2) in
    let at : position ≡ length (pos_code x) = omega (arith, c.key_size-position.ensures.value) in
    let same : 80 + position + length c.args.code.now ≡ 80 + (length (pos_code x) + length (row_code row)) = omega (arith, at, row_is) in
    let takes : c.round_up-size.result ≡ entry_size c.args.key.now row = c.round_up-size.ensures ∙ ap up8 same in (
      omega arith,
      (
        c.requires.limits,
        (
          row,
          (c.requires.code.1, c.requires.code.2),
          record {
            fits = omega (arith, takes, c.if-size-gt16384.false);
            spare = omega (arith, takes, c.if-size-spare.false, c.spare.ensures);
            inside = omega (arith, at, row_is, c.key_size-position.ensures.small, c.if-code-gt8599.false, c.requires.size);
          },
        ),
      ),
    )
