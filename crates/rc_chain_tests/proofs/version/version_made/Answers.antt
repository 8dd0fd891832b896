use Rattle.std.proofs.Common.{◌≡◌, ◌+◌, ◌∷◌, [], None, length, ap, sym, ◌∙◌, arith}
use Rattle.lsa_kinds.specs.Kinds.{up8}
use Rattle.rc_position.specs.Position.{row_pos}
use Rattle.rc_rowcode.specs.Spelling.{pos_code, row_code}
use Rattle.rc_core.specs.declared.entries.Flag.TheVariants.{Inherit}
use Rattle.rc_core.specs.Steps.{version_of}
use Rattle.rc_chain_tests.proofs.Joined.{IsMeasured, can-join}
use Rattle.rc_chain_tests.proofs.version.version_made.Goals as goal

pub join_row-requires : goal.join_row-requires
join_row-requires c =
    let new = c.new_version-v.new.region in let made = c.new_version-v.ensures.made in let key = c.args.key.now in let row = c.requires.code.0 in
    let row_is : length (row_code row) ≡ length c.args.code.now = sym (ap length c.requires.code.2) in
    let at : 1 + c.key_size-position.result ≡ length (pos_code (row_pos key)) = omega (arith, c.key_size-position.ensures.value) in
    let same : 80 + (1 + c.key_size-position.result) + length c.args.code.now ≡ 80 + (length (pos_code (row_pos key)) + length (row_code row)) = omega (arith, at, row_is) in
    let measured : IsMeasured new key row c.round_up-size.result c.spare-else-size-gt512.result c.args.sc.now.size = record {
      is = c.round_up-size.ensures ∙ ap up8 same;
      small = c.if-size-gt512.false;
      there = c.if-size-spare.false;
      spares = c.spare-else-size-gt512.ensures;
      inside = omega (arith, at, row_is, c.key_size-position.ensures.small, c.if-code-gt400.false, c.requires.size);
    } in (
      omega arith,
      (
        c.requires.limits,
        (
          row,
          made.0 ∷ [],
          version_of Inherit None 7,
          (c.requires.code.1, c.requires.code.2),
          can-join c.args.region.now new c.new_version-v.result made.0 Inherit None 7 key row c.round_up-size.result c.spare-else-size-gt512.result c.args.sc.now.size made.1 c.new_version-v.ensures.parts c.new_version-v.ensures.unlisted measured,
        ),
      ),
    )
