use Rattle.rc_mutation.specs.Fragments.{fragments}
use Rattle.rc_stream.specs.Stream.{stream_of}
use Rattle.rc_cached.proofs.Sharing.{KnownLaws}
use Rattle.rc_cached.proofs.Ready.{MutationLaws, new-rest, new-says, says-writes, still-handed}
use Rattle.rc_cached.proofs.Staying.{stands-after, still-says}
use Rattle.rc_cached.proofs.laws.what_is_below_still_says.Goals as goal

pub returns-clause-made : goal.returns-clause-made
returns-clause-made g c s r m w writes is stands say =
    let streams = c.a_mutations_stream_reads_it.ensures in
    let of_streams : MutationLaws = record { whole = c.the_stream_of_a_mutation.ensures.whole; fits = c.what_says_the_same_fits.ensures; reads = streams.reads; pt = streams.pt; statics = streams.statics } in (
      new-says of_streams stands.schema writes stands.changes s r w is say,
      λ said mutation same. new-rest writes s r (stream_of (fragments said)) is (says-writes of_streams stands.schema writes stands.changes said mutation same),
    )

pub returns-clause-handed : goal.returns-clause-handed
returns-clause-handed g c s r m w v writes others stands none said say =
    let streams = c.a_mutations_stream_reads_it.ensures in
    let of_streams : MutationLaws = record { whole = c.the_stream_of_a_mutation.ensures.whole; fits = c.what_says_the_same_fits.ensures; reads = streams.reads; pt = streams.pt; statics = streams.statics } in
    still-handed of_streams stands.schema writes others stands.changes r w v none said say

pub returns-clause-stands : goal.returns-clause-stands
returns-clause-stands g c s r m w call ok t n v writes of stands said d =
    let known = c.a_snapshot_knows_the_writes_it_stands_for.ensures in
    let laws : KnownLaws g.row.S = record { there = known.there g.row.S; statics = known.statics g.row.S; head = known.head g.row.S; readable = known.readable g.row.S; may = c.a_fill_keeps_the_static_row_known.ensures.may g.row.S } in
    let now = (c.a_cached_stream_leaves_what_others_see.ensures.did r m w call ok t n v d).2 s of in
    stands-after g.row.S laws s r t m n w v call ok writes of now.snap now.filler stands said d

pub returns-clause-kept : goal.returns-clause-kept
returns-clause-kept g c s r m w call ok t n v writes left of stands said d x =
    let known = c.a_snapshot_knows_the_writes_it_stands_for.ensures in
    let laws : KnownLaws g.row.S = record { there = known.there g.row.S; statics = known.statics g.row.S; head = known.head g.row.S; readable = known.readable g.row.S; may = c.a_fill_keeps_the_static_row_known.ensures.may g.row.S } in
    let now = (c.a_cached_stream_leaves_what_others_see.ensures.did r m w call ok t n v d).2 s of in
    still-says g.row.S laws s r t m n w v call ok writes of now.snap stands said d left x
