use Rattle.std.proofs.Common.{arith}
use Rattle.rc_version_walk.proofs.Pairs.{pair-kept}
use Rattle.rc_version_walk.proofs.Rooms.{dummy-room, dummy-small}
use Rattle.rc_version_walk.proofs.calls.join_range.Goals as goal

pub join_range-requires : goal.join_range-requires
join_range-requires c =
    let spare = c.has_room.ensures.room c.if-not-has_room.false in let room = dummy-room c.has_room.new.region c.args.sc.now.size c.requires.space spare in let from = c.args.from.now in let to = c.args.to.now in
    let first = dummy-small from c.requires.from in let second = dummy-small to c.requires.to in
    (omega arith, (c.requires.from, (c.requires.to, (c.requires.ascend, (room from c.requires.from, (room to c.requires.to, (omega (arith, spare, first, second), c.version_in-v.ensures.1.here)))))))

pub returns-clause-pair : goal.returns-clause-pair
returns-clause-pair c =
    let m = c.version_in-v.ensures.0 in let h = c.version_in-v.ensures.1 in let v = h.here in let k = c.join_range.ensures in let w = k.joined v.0 v.1 v.2 in
    (c.version_in-v.result, m, pair-kept c.args.this c.args.other c.has_room.new.region c.join_range.new.region c.version_in-v.result m _ h k.kept (w.0, _, w.2))
