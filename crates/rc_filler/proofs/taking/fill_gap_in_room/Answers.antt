use Rattle.std.proofs.Common.{inl}
use Rattle.rc_filler.proofs.Ready.{gap-filled}
use Rattle.rc_filler.proofs.taking.fill_gap_in_room.Goals as goal

pub returns-then-not-room_or_skip : goal.returns-then-not-room_or_skip
returns-then-not-room_or_skip g c = let skip = c.room_or_skip.ensures.none c.if-not-room_or_skip.true in (c.requires.may, (skip.0, skip.1, inl skip.2, skip.3))

pub returns : goal.returns
returns g c =
    let S = g.row.S in
    let m = c.args.chains.now in
    let mid = c.room_or_skip.new.chains in
    let id = c.args.s.now.chain in
    let pin = c.args.s.now.pin in
    let room = (c.room_or_skip.ensures.room c.if-not-room_or_skip.false).0 in
    let law = c.room_leaves_a_snapshot.ensures in (
      c.requires.may,
      (
        mid,
        room,
        gap-filled mid c.fill_gap.new.chains id pin (law.there S m mid id pin room c.requires.snapshot) (law.may S m mid id pin room c.requires.may) c.known.ensures.sound
            c.args.from.now c.args.to.now c.args.tomb c.requires.order c.fill_gap.ensures.filled c.fill_gap.ensures.listed,
      ),
    )
