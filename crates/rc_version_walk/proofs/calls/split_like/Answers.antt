use Rattle.std.proofs.Common.{arith, subst}
use Rattle.rc_version_walk.specs.Walking.{IsEntryOf}
use Rattle.rc_version_walk.proofs.Entries.{entry-held}
use Rattle.rc_version_walk.proofs.Pairs.{pair-kept, pair-swapped}
use Rattle.rc_version_walk.proofs.Rooms.{dummy-room-like, place-coded}
use Rattle.rc_version_walk.proofs.calls.split_like.Goals as goal

pub version_in-w-requires : goal.version_in-w-requires
version_in-w-requires c = let p = c.has_room.ensures.pair in (p.1, p.0, pair-swapped c.args.this c.args.other c.has_room.new.region p.0 p.1 p.2)

pub split_like-e-requires : goal.split_like-e-requires
split_like-e-requires c =
    let now = c.has_room.new.region in
    let found = subst (IsEntryOf now c.version_in-w.result) c.in-Some.is c.entry_from.ensures in let y = entry-held now c.version_in-w.result found.0 found.1 c.in-Some.e found.2 found.3 in
    let room = dummy-room-like now c.args.sc.now.size c.requires.space (c.has_room.ensures.room c.if-not-has_room.false) y.0.position (place-coded now c.in-Some.e y.0 y.1) in
    (omega arith, ((y.0, y.1, room), c.version_in-v.ensures.1.here))

pub returns-in-Some-clause-pair : goal.returns-in-Some-clause-pair
returns-in-Some-clause-pair c =
    let now = c.has_room.new.region in
    let found = subst (IsEntryOf now c.version_in-w.result) c.in-Some.is c.entry_from.ensures in let y = entry-held now c.version_in-w.result found.0 found.1 c.in-Some.e found.2 found.3 in
    let m = c.version_in-v.ensures.0 in let h = c.version_in-v.ensures.1 in let v = h.here in let k = c.split_like-e.ensures.split y.0 y.1 in let w = k.entries v.0 v.1 v.2 in
    (c.version_in-v.result, m, pair-kept c.args.this c.args.other now c.split_like-e.new.region c.version_in-v.result m _ h k.kept (w.0, _, w.2))
