use Rattle.std.proofs.Common.{arith, inl}
use Rattle.rc_version_walk.proofs.Entries.{entry-held}
use Rattle.rc_version_walk.proofs.Pairs.{entry-unlisted, pair-kept}
use Rattle.rc_version_walk.proofs.Rooms.{joined-room, place-fits, row-coded}
use Rattle.rc_version_walk.proofs.calls.join_entry.Goals as goal

pub has_row-requires : goal.has_row-requires
has_row-requires c = let found = c.requires.entry in entry-held c.args.region.now c.args.w found.0 found.1 c.args.e found.2 found.3

pub join_like-e-requires : goal.join_like-e-requires
join_like-e-requires c =
    let now = c.args.region.now in let n = c.args.v in let e = c.args.e in let m = c.requires.version.0 in let h = c.requires.version.1 in let v = h.here in
    let y = c.has_row.ensures c.if-not-has_row.false in
    let room = joined-room now c.args.sc.now.size c.requires.space c.requires.room c.joined_row_has_a_code.ensures v.0 v.1.entries v.2.entries y.0.position (place-fits now e y.0 y.2) y.1 (row-coded now e y.0 y.1 y.2 y.3) in
    (omega arith, inl (y.0, y.1, v.0, v.1, y.2, y.3, c.requires.entry.4 y.0 y.2, record { version = v.2; room = room; unlisted = λ r inside at. entry-unlisted c.args.this c.args.other now n m h n v.0 v.1 v.2 r inside }))

pub returns-clause-pair : goal.returns-clause-pair
returns-clause-pair c =
    let y = c.has_row.ensures c.if-not-has_row.false in let m = c.requires.version.0 in let h = c.requires.version.1 in let v = h.here in let k = c.join_like-e.ensures.entry y.0 y.1 y.2 y.3 in let w = k.entries v.0 v.1 v.2 in
    (c.args.v, m, pair-kept c.args.this c.args.other c.args.region.now c.join_like-e.new.region c.args.v m _ h k.kept (w.0, _, w.2))
