use Rattle.std.proofs.Common.{inl, arith}
use Rattle.rc_filler.proofs.Ready.{row-filled, row-fits, row-key, row-limits, row-small, row-within}
use Rattle.rc_filler.proofs.taking.fill_row_in_room.Goals as goal

pub row_need-need-requires-clause-key : goal.row_need-need-requires-clause-key
row_need-need-requires-clause-key g c = row-key g.row.S c.args.chains.now c.args.s.now.chain c.args.s.now.pin c.requires.source.0 c.requires.source.1 c.args.key.now c.args.row.now c.args.tomb c.requires.source.2 c.requires.written

pub row_need-need-requires-clause-row : goal.row_need-need-requires-clause-row
row_need-need-requires-clause-row g c = row-limits g.row.S c.args.chains.now c.args.s.now.chain c.args.s.now.pin c.requires.source.0 c.requires.source.1 c.args.key.now c.args.row.now c.args.tomb c.requires.source.2 c.requires.written

pub returns-then-not-room_or_skip : goal.returns-then-not-room_or_skip
returns-then-not-room_or_skip g c = let skip = c.room_or_skip.ensures.none c.if-not-room_or_skip.true in (c.requires.may, (skip.0, skip.1, inl skip.2, skip.3))

pub fill_row-requires : goal.fill_row-requires
fill_row-requires g c =
    let S = g.row.S in
    let m = c.args.chains.now in
    let mid = c.room_or_skip.new.chains in
    let id = c.args.s.now.chain in
    let pin = c.args.s.now.pin in
    let made = c.room_or_skip.ensures.room c.if-not-room_or_skip.false in
    let law = c.room_leaves_a_snapshot.ensures in
    let writes = c.requires.source.0 in
    let s = law.stands S m mid id pin writes c.known.ensures.rule made.0 c.requires.source.1 in
    let key = c.args.key.now in
    let row = c.args.row.now in
    let tomb = c.args.tomb in
    let said = c.requires.source.2 in
    let some = c.requires.written in
    let need = c.row_need-need.ensures.value in
    let spare = made.1 in (
      omega arith,
      (
        law.may S m mid id pin made.0 c.requires.may,
        (
          row-key S mid id pin writes s key row tomb said some,
          (
            row-limits S mid id pin writes s key row tomb said some,
            (
              row-small S mid id pin writes s key row tomb said some,
              (
                row-within S mid id pin writes s key row tomb said some c.what_the_source_says_may_be_filled.ensures.clustered,
                (row-fits S mid id pin writes s key row tomb said some c.known-2.ensures.fit, omega (arith, need, spare)),
              ),
            ),
          ),
        ),
      ),
    )

pub returns : goal.returns
returns g c =
    let S = g.row.S in
    let m = c.args.chains.now in
    let mid = c.room_or_skip.new.chains in
    let id = c.args.s.now.chain in
    let pin = c.args.s.now.pin in
    let room = (c.room_or_skip.ensures.room c.if-not-room_or_skip.false).0 in
    let law = c.room_leaves_a_snapshot.ensures in (
      c.requires.may,
      (
        mid,
        room,
        row-filled mid c.fill_row.new.chains id pin (law.there S m mid id pin room c.requires.source.1.snapshot) (law.may S m mid id pin room c.requires.may) c.known-2.ensures.sound
            c.args.key.now c.args.row.now c.args.tomb c.requires.written c.fill_row.ensures.filled c.fill_row.ensures.listed,
      ),
    )
