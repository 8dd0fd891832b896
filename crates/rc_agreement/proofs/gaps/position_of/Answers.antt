use Rattle.std.proofs.Common.{subst}
use Rattle.rc_rowcode.specs.Spelling.{IsPos, ReadsPrefix, pos_code}
use Rattle.rc_agreement.proofs.Reread.{always-read, place-coded, same-read}
use Rattle.rc_agreement.proofs.gaps.position_of.Goals as goal

pub unreachable-requires : goal.unreachable-requires
unreachable-requires g c = always-read c.requires.0.position c.position_code.result.now (place-coded c.args.region.now c.args.e c.requires.0 c.requires.1) (c.position_code.ensures c.requires.0 c.requires.1)
    (subst (ReadsPrefix pos_code IsPos c.position_code.result.now) c.in-None.is c.in_ok-x.ensures.value)

pub returns : goal.returns
returns g c = λ y h. same-read y.position c.position_code.result.now (place-coded c.args.region.now c.args.e y h) (c.position_code.ensures y h) (c.in-Some.x, c.in-Some._size)
    (subst (ReadsPrefix pos_code IsPos c.position_code.result.now) c.in-Some.is c.in_ok-x.ensures.value)
