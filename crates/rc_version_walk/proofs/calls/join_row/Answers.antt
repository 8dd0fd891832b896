use Rattle.std.proofs.Common.{arith}
use Rattle.rc_position.specs.Position.{row_pos}
use Rattle.rc_version_walk.proofs.Pairs.{entry-unlisted, pair-kept}
use Rattle.rc_version_walk.proofs.Rooms.{joined-room}
use Rattle.rc_version_walk.proofs.calls.join_row.Goals as goal

pub join_row-e-requires : goal.join_row-e-requires
join_row-e-requires c =
    let now = c.has_room.new.region in let n = c.version_in-v.result in let m = c.version_in-v.ensures.0 in let h = c.version_in-v.ensures.1 in let v = h.here in let code = c.requires.code in
    let room = joined-room now c.args.sc.now.size c.requires.space (c.has_room.ensures.room c.if-not-has_room.false) c.joined_row_has_a_code.ensures v.0 v.1.entries v.2.entries (row_pos c.args.key.now) c.requires.limits code.0 code.1.0 in
    (omega arith, (c.requires.limits, (code.0, v.0, v.1, code.1, record { version = v.2; room = room; unlisted = λ r inside at. entry-unlisted c.args.this c.args.other now n m h n v.0 v.1 v.2 r inside })))

pub returns-clause-pair : goal.returns-clause-pair
returns-clause-pair c =
    let m = c.version_in-v.ensures.0 in let h = c.version_in-v.ensures.1 in let v = h.here in let k = c.join_row-e.ensures.joined c.requires.code.0 c.requires.code.1 in let w = k.entries v.0 v.1 v.2 in
    (c.version_in-v.result, m, pair-kept c.args.this c.args.other c.has_room.new.region c.join_row-e.new.region c.version_in-v.result m _ h k.kept (w.0, _, w.2))
