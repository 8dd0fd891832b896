use Rattle.std.proofs.Common.{arith}
use Rattle.rc_version_walk.proofs.Pairs.{pair-kept, static-unlisted}
use Rattle.rc_version_walk.proofs.Rooms.{static-small}
use Rattle.rc_version_walk.proofs.calls.set_static.Goals as goal

pub set_static-requires : goal.set_static-requires
set_static-requires c =
    let m = c.version_in-v.ensures.0 in let h = c.version_in-v.ensures.1 in let code = c.requires.code in let small = static-small code.0 code.1.0 in let spare = c.has_room.ensures.room c.if-not-has_room.false in
    (omega arith, (h.here, (static-unlisted c.args.this c.args.other c.has_room.new.region c.version_in-v.result m h, (code.0, code.1, omega (arith, small), omega (arith, small, spare)))))

pub returns : goal.returns
returns c =
    let m = c.version_in-v.ensures.0 in let h = c.version_in-v.ensures.1 in let v = h.here in let k = c.set_static.ensures in
    (c.version_in-v.result, m, pair-kept c.args.this c.args.other c.has_room.new.region c.set_static.new.region c.version_in-v.result m _ h k.kept (v.0, _, k.set v.0 v.1 c.requires.code.0 v.2 c.requires.code.1))
