use Rattle.std.proofs.Common.{arith}
use Rattle.rc_version_walk.proofs.Pairs.{pair-kept}
use Rattle.rc_version_walk.proofs.Rooms.{dummy-room}
use Rattle.rc_version_walk.proofs.calls.split.Goals as goal

pub split-e-requires : goal.split-e-requires
split-e-requires c =
    let room = dummy-room c.has_room.new.region c.args.sc.now.size c.requires.space (c.has_room.ensures.room c.if-not-has_room.false) c.args.x.now c.requires.limits in
    (omega arith, (c.requires.limits, (room, c.version_in-v.ensures.1.here)))

pub returns-clause-pair : goal.returns-clause-pair
returns-clause-pair c =
    let m = c.version_in-v.ensures.0 in let h = c.version_in-v.ensures.1 in let v = h.here in let k = c.split-e.ensures.split in let w = k.entries v.0 v.1 v.2 in
    (c.version_in-v.result, m, pair-kept c.args.this c.args.other c.has_room.new.region c.split-e.new.region c.version_in-v.result m _ h k.kept (w.0, _, w.2))
