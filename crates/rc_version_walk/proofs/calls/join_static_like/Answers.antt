use Rattle.std.proofs.Common.{arith, inr, subst}
use Rattle.std.specs.Prelude.{IfSome}
use Rattle.rc_cell.specs.declared.rows.Row.{Row}
use Rattle.rc_object.specs.Objects.{HoldsStatic}
use Rattle.rc_version_walk.proofs.Pairs.{pair-kept, pair-swapped, static-unlisted}
use Rattle.rc_version_walk.proofs.Rooms.{static-room, statics-coded}
use Rattle.rc_version_walk.proofs.calls.join_static_like.Goals as goal

pub version_in-w-requires : goal.version_in-w-requires
version_in-w-requires c = let p = c.has_room.ensures.pair in (p.1, p.0, pair-swapped c.args.this c.args.other c.has_room.new.region p.0 p.1 p.2)

pub join_like-s-requires : goal.join_like-s-requires
join_like-s-requires c =
    let now = c.has_room.new.region in let n = c.version_in-v.result in let m = c.version_in-v.ensures.0 in let h = c.version_in-v.ensures.1 in let v = h.here in
    let held = subst (λ o. IfSome o (λ s. (row : Row) × HoldsStatic now s row)) c.in-Some.is c.statics_of.ensures in
    let room = static-room now c.args.sc.now.size c.requires.space (c.has_room.ensures.room c.if-not-has_room.false) c.joined_row_has_a_code.ensures v.1.statics (statics-coded now n v.1.statics v.2.statics) held.0 held.1.1 in
    (omega arith, inr (held.0, v.0, v.1, held.1, record { version = v.2; room = room; unlisted = static-unlisted c.args.this c.args.other now n m h }))

pub returns-in-Some-clause-pair : goal.returns-in-Some-clause-pair
returns-in-Some-clause-pair c =
    let now = c.has_room.new.region in let n = c.version_in-v.result in let m = c.version_in-v.ensures.0 in let h = c.version_in-v.ensures.1 in let v = h.here in
    let held = subst (λ o. IfSome o (λ s. (row : Row) × HoldsStatic now s row)) c.in-Some.is c.statics_of.ensures in let k = c.join_like-s.ensures.statics held.0 held.1 in
    (n, m, pair-kept c.args.this c.args.other now c.join_like-s.new.region n m _ h k.kept (v.0, _, k.statics v.0 v.1 v.2))
