use Rattle.std.proofs.Common.{refl}
use Rattle.rc_mutation.specs.Fragments.{fragments}
use Rattle.rc_stream.specs.Stream.{stream_of}
use Rattle.rc_snapshots.proofs.Ready.{new-is-of, new-ready, new-sees}
use Rattle.rc_snapshots.proofs.laws.a_snapshots_stream_says_what_was_written.Goals as goal

pub returns-clause-ready : goal.returns-clause-ready
returns-clause-ready g c s r changes m w is sees = new-ready c.a_memtable_is_known_everywhere.ensures.known s changes m sees w r is

pub returns-clause-seen : goal.returns-clause-seen
returns-clause-seen g c s r changes m w is sees schema said mutation fits same =
    let e = c.a_mutations_stream_reads_it.ensures in
    new-sees c.a_memtable_is_known_everywhere.ensures.known s changes m sees w r is said (stream_of (fragments said)) same (e.reads schema said mutation fits) refl (e.pt said mutation) (e.statics said mutation)

pub returns-clause-made : goal.returns-clause-made
returns-clause-made g c s r is = new-is-of s r is
