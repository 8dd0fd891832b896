use Rattle.std.proofs.Common.{subst}
use Rattle.rc_rowcode.specs.calls.Reading.{parse_position}
use Rattle.rc_rowcode.specs.laws.Codecs.{pos_codec}
use Rattle.rc_rowcode.specs.Spelling.{pos_code, IsPos, ReadsPrefix}
use Rattle.rc_reading.proofs.Nearest.{place-coded}
use Rattle.rc_reading.proofs.Reread.{always-read, same-read}
use Rattle.rc_reading.proofs.parts.position_of.Goals as goal

pub unreachable-requires : goal.unreachable-requires
unreachable-requires g c = always-read pos_code IsPos c.requires.0.position c.position_code.result.now (place-coded c.args.region.now c.args.e c.requires.0 c.requires.1) (c.position_code.ensures c.requires.0 c.requires.1)
    (subst (ReadsPrefix pos_code IsPos c.position_code.result.now) c.in-None.is c.in_ok-x.ensures.value)

pub returns : goal.returns
returns g c = λ y h. same-read pos_code IsPos y.position c.position_code.result.now (place-coded c.args.region.now c.args.e y h) (c.position_code.ensures y h) parse_position pos_codec (c.in-Some.x, c.in-Some._size)
    (subst (ReadsPrefix pos_code IsPos c.position_code.result.now) c.in-Some.is c.in_ok-x.ensures.value)
