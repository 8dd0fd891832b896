use Rattle.std.proofs.Common.{◌≡◌, length, ap, arith}
use Rattle.lsa_kinds.specs.declared.kind.Kind.TheVariants.{Version}
use Rattle.lsa_region.specs.Objects.{rounded_size}
use Rattle.rc_object.proofs.heads.make_head.Goals as goal

pub make-requires : goal.make-requires
make-requires g c =
    let takes : rounded_size Version (length c.head_bytes.result) ≡ 64 = ap (rounded_size Version) c.head_bytes.ensures.spells.long in
    (omega arith, (omega (arith, takes, c.requires.fits), (omega (arith, takes, c.requires.spare), λ ne. c.head_bytes.ensures.level)))
