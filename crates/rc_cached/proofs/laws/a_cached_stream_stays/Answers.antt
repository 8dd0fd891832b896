use Rattle.rc_cached.proofs.Sharing.{KnownLaws}
use Rattle.rc_cached.proofs.Standing.{ready-of, sees-of}
use Rattle.rc_cached.proofs.Staying.{rest-of, said-over, unread-seen}
use Rattle.rc_cached.proofs.laws.a_cached_stream_stays.Goals as goal

pub returns-clause-ready : goal.returns-clause-ready
returns-clause-ready g c s r m n w v writes of ready stands said is =
    let known = c.a_snapshot_knows_the_writes_it_stands_for.ensures in
    let laws : KnownLaws g.row.S = record { there = known.there g.row.S; statics = known.statics g.row.S; head = known.head g.row.S; readable = known.readable g.row.S; may = c.a_fill_keeps_the_static_row_known.ensures.may g.row.S } in
    ready-of g.row.S laws s r n v writes of stands said ready is.place

pub returns-clause-seen : goal.returns-clause-seen
returns-clause-seen g c s r m n w v writes of was stands said read same t is =
    let known = c.a_snapshot_knows_the_writes_it_stands_for.ensures in
    let laws : KnownLaws g.row.S = record { there = known.there g.row.S; statics = known.statics g.row.S; head = known.head g.row.S; readable = known.readable g.row.S; may = c.a_fill_keeps_the_static_row_known.ensures.may g.row.S } in
    let still = said-over writes writes r w v same said said.says in
    sees-of g.row.S laws s r n v writes of stands still t (rest-of g.row.S laws s r m w writes of was said read t is)

pub returns-clause-unread : goal.returns-clause-unread
returns-clause-unread g c s r m n w v others of stands said none now t is =
    let known = c.a_snapshot_knows_the_writes_it_stands_for.ensures in
    let laws : KnownLaws g.row.S = record { there = known.there g.row.S; statics = known.statics g.row.S; head = known.head g.row.S; readable = known.readable g.row.S; may = c.a_fill_keeps_the_static_row_known.ensures.may g.row.S } in
    unread-seen g.row.S laws s r m n w v others of stands said none now t is

pub returns-clause-left : goal.returns-clause-left
returns-clause-left g c s r n v writes t of stands said rest =
    let known = c.a_snapshot_knows_the_writes_it_stands_for.ensures in
    let laws : KnownLaws g.row.S = record { there = known.there g.row.S; statics = known.statics g.row.S; head = known.head g.row.S; readable = known.readable g.row.S; may = c.a_fill_keeps_the_static_row_known.ensures.may g.row.S } in
    sees-of g.row.S laws s r n v writes of stands said t rest

pub returns-clause-rest : goal.returns-clause-rest
returns-clause-rest g c s r m w writes t of stands said read is =
    let known = c.a_snapshot_knows_the_writes_it_stands_for.ensures in
    let laws : KnownLaws g.row.S = record { there = known.there g.row.S; statics = known.statics g.row.S; head = known.head g.row.S; readable = known.readable g.row.S; may = c.a_fill_keeps_the_static_row_known.ensures.may g.row.S } in
    rest-of g.row.S laws s r m w writes of stands said read t is
