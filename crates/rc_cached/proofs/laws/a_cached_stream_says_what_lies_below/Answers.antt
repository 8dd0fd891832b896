use Rattle.rc_mutation.specs.Fragments.{fragments}
use Rattle.rc_stream.specs.Stream.{stream_of}
use Rattle.rc_cached.proofs.Sharing.{KnownLaws}
use Rattle.rc_cached.proofs.Ready.{MutationLaws, new-is-of, new-place, new-rest, new-says, says-writes}
use Rattle.rc_cached.proofs.Standing.{ready-of, sees-of}
use Rattle.rc_cached.proofs.laws.a_cached_stream_says_what_lies_below.Goals as goal

pub returns-clause-ready : goal.returns-clause-ready
returns-clause-ready g c s r m w writes is ready stands say =
    let known = c.a_snapshot_knows_the_writes_it_stands_for.ensures in
    let laws : KnownLaws g.row.S = record { there = known.there g.row.S; statics = known.statics g.row.S; head = known.head g.row.S; readable = known.readable g.row.S; may = c.a_fill_keeps_the_static_row_known.ensures.may g.row.S } in
    let streams = c.a_mutations_stream_reads_it.ensures in
    let of_streams : MutationLaws = record { whole = c.the_stream_of_a_mutation.ensures.whole; fits = c.what_says_the_same_fits.ensures; reads = streams.reads; pt = streams.pt; statics = streams.statics } in
    ready-of g.row.S laws s r m w writes (new-is-of s r is) stands (new-says of_streams stands.schema writes stands.changes s r w is say) ready (new-place s r is)

pub returns-clause-seen : goal.returns-clause-seen
returns-clause-seen g c s r m w writes is stands say said mutation same =
    let known = c.a_snapshot_knows_the_writes_it_stands_for.ensures in
    let laws : KnownLaws g.row.S = record { there = known.there g.row.S; statics = known.statics g.row.S; head = known.head g.row.S; readable = known.readable g.row.S; may = c.a_fill_keeps_the_static_row_known.ensures.may g.row.S } in
    let streams = c.a_mutations_stream_reads_it.ensures in
    let of_streams : MutationLaws = record { whole = c.the_stream_of_a_mutation.ensures.whole; fits = c.what_says_the_same_fits.ensures; reads = streams.reads; pt = streams.pt; statics = streams.statics } in
    sees-of g.row.S laws s r m w writes (new-is-of s r is) stands (new-says of_streams stands.schema writes stands.changes s r w is say)
    (stream_of (fragments said)) (new-rest writes s r (stream_of (fragments said)) is (says-writes of_streams stands.schema writes stands.changes said mutation same))

pub returns-clause-made : goal.returns-clause-made
returns-clause-made g c s r is = new-is-of s r is
