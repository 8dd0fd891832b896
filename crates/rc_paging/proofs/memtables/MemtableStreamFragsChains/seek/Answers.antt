-- What the stream of the snapshot does, which is still that snapshot's.
use Rattle.rc_stream.specs.Did.{Call.OfSeek, has_answer}
use Rattle.rc_paging.proofs.Still.{still_of}
use Rattle.rc_paging.proofs.memtables.MemtableStreamFragsChains.seek.Goals as goal

pub returns-clause-moves : goal.returns-clause-moves
returns-clause-moves g c = c.a_snapshots_stream_changes_nothing.ensures.moves c.args.home.now c.args.store.now c.seek.new._home c.seek.new._store c.seek.ensures.moves

pub returns-clause-did : goal.returns-clause-did
returns-clause-did g c = c.a_snapshots_stream_changes_nothing.ensures.did c.args.self.now.stream c.args.home.now c.args.store.now (OfSeek c.args.to.now) (has_answer c.seek.result) c.seek.new.self c.seek.new._home c.seek.new._store c.seek.ensures.did

pub returns-clause-seen : goal.returns-clause-seen
returns-clause-seen g c = λ s h.
    let d = c.a_snapshots_stream_changes_nothing.ensures.did c.args.self.now.stream c.args.home.now c.args.store.now (OfSeek c.args.to.now) (has_answer c.seek.result) c.seek.new.self c.seek.new._home c.seek.new._store c.seek.ensures.did in
    (still_of c.args.self.now c.seek.new.self c.args.home.now c.seek.new._home d.0 d.2 h.0, c.seek.ensures.seen s h.1)

pub returns-clause-ready : goal.returns-clause-ready
returns-clause-ready g c =
    let d = c.a_snapshots_stream_changes_nothing.ensures.did c.args.self.now.stream c.args.home.now c.args.store.now (OfSeek c.args.to.now) (has_answer c.seek.result) c.seek.new.self c.seek.new._home c.seek.new._store c.seek.ensures.did in
    (still_of c.args.self.now c.seek.new.self c.args.home.now c.seek.new._home d.0 d.2 c.requires.ready.0, c.seek.ensures.ready)
