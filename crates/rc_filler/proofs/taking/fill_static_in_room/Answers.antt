use Rattle.std.proofs.Common.{arith}
use Rattle.rc_filler.proofs.Ready.{static-filled, static-fits, static-fits-small, static-limits, static-within}
use Rattle.rc_filler.proofs.taking.fill_static_in_room.Goals as goal

pub static_need-need-requires : goal.static_need-need-requires
static_need-need-requires g c = static-limits g.row.S c.args.chains.now c.args.s.now.chain c.args.s.now.pin c.requires.source.0 c.requires.source.1 c.args.row.now c.requires.source.2

pub fill_static-requires : goal.fill_static-requires
fill_static-requires g c =
    let S = g.row.S in
    let m = c.args.chains.now in
    let mid = c.room_or_skip.new.chains in
    let id = c.args.s.now.chain in
    let pin = c.args.s.now.pin in
    let made = c.room_or_skip.ensures.room c.if-not-room_or_skip.false in
    let law = c.room_leaves_a_snapshot.ensures in
    let writes = c.requires.source.0 in
    let s = law.stands S m mid id pin writes c.known.ensures.rule made.0 c.requires.source.1 in
    let row = c.args.row.now in
    let said = c.requires.source.2 in
    let need = c.static_need-need.ensures.value in
    let spare = made.1 in (
      omega arith,
      (
        law.may S m mid id pin made.0 c.requires.may,
        (
          static-limits S mid id pin writes s row said,
          (
            static-fits-small S mid id pin writes s row said,
            (
              static-within S mid id pin writes s row said c.what_the_source_says_may_be_filled.ensures.statics,
              (static-fits S mid id pin writes s row said c.known-2.ensures.fit, omega (arith, need, spare)),
            ),
          ),
        ),
      ),
    )

pub returns : goal.returns
returns g c =
    let S = g.row.S in
    let m = c.args.chains.now in
    let mid = c.room_or_skip.new.chains in
    let id = c.args.s.now.chain in
    let pin = c.args.s.now.pin in
    let room = (c.room_or_skip.ensures.room c.if-not-room_or_skip.false).0 in
    let law = c.room_leaves_a_snapshot.ensures in (
      c.requires.may,
      (
        mid,
        room,
        static-filled mid c.fill_static.new.chains id pin (law.there S m mid id pin room c.requires.source.1.snapshot) (law.may S m mid id pin room c.requires.may) c.known-2.ensures.sound c.args.row.now c.fill_static.ensures.filled c.fill_static.ensures.listed,
      ),
    )
