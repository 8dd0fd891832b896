use Rattle.std.proofs.Common.{◌≡◌, ◌+◌, length, ap, ◌∙◌, arith}
use Rattle.lsa_kinds.specs.Kinds.{up8}
use Rattle.rc_rowcode.specs.Objects.{static_size}
use Rattle.rc_chain_tests.proofs.objects.static_made.Goals as goal

pub make_static-requires : goal.make_static-requires
make_static-requires c =
    let row = c.requires.0 in
    let takes : c.round_up-size.result ≡ static_size row = c.round_up-size.ensures ∙ ap (λ l. up8 (32 + length l)) c.requires.2 in
    (omega arith, (row, (c.requires.1, c.requires.2), omega (arith, takes, c.if-size-gt512.false), omega (arith, takes, c.if-size-spare.false, c.spare.ensures)))

pub returns : goal.returns
returns c = (c.requires.0, c.make_static.ensures.holds c.requires.0 (c.requires.1, c.requires.2))
