use Rattle.rc_cached.proofs.Sharing.{KnownLaws}
use Rattle.rc_cached.proofs.Staying.{still-ready, still-seen}
use Rattle.rc_cached.proofs.laws.a_cached_stream_stays_where_nothing_is_lost.Goals as goal

pub returns-clause-ready : goal.returns-clause-ready
returns-clause-ready g c s r m n w v of ready still knows same is =
    let known = c.a_snapshot_knows_the_writes_it_stands_for.ensures in
    let laws : KnownLaws g.row.S = record { there = known.there g.row.S; statics = known.statics g.row.S; head = known.head g.row.S; readable = known.readable g.row.S; may = c.a_fill_keeps_the_static_row_known.ensures.may g.row.S } in
    still-ready g.row.S laws s r m n w v of still knows same ready is

pub returns-clause-seen : goal.returns-clause-seen
returns-clause-seen g c s r m n w v of still knows same t is =
    let known = c.a_snapshot_knows_the_writes_it_stands_for.ensures in
    let laws : KnownLaws g.row.S = record { there = known.there g.row.S; statics = known.statics g.row.S; head = known.head g.row.S; readable = known.readable g.row.S; may = c.a_fill_keeps_the_static_row_known.ensures.may g.row.S } in
    still-seen g.row.S laws s r m n w v of still knows same t is
