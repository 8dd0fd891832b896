-- What the stream of the snapshot does, which is still that snapshot's.
use Rattle.rc_stream.specs.Did.{Call.OfHead, has_answer}
use Rattle.rc_paging.proofs.Still.{still_of}
use Rattle.rc_paging.proofs.memtables.MemtableStreamFragsChains.head.Goals as goal

pub returns-clause-moves : goal.returns-clause-moves
returns-clause-moves g c = c.a_snapshots_stream_changes_nothing.ensures.moves c.args.home.now c.args.store.now c.head.new.home c.head.new.store c.head.ensures.moves

pub returns-clause-did : goal.returns-clause-did
returns-clause-did g c = c.a_snapshots_stream_changes_nothing.ensures.did c.args.self.now.stream c.args.home.now c.args.store.now OfHead (has_answer c.head.result) c.head.new.self c.head.new.home c.head.new.store c.head.ensures.did

pub returns-clause-head : goal.returns-clause-head
returns-clause-head g c = λ s h. c.head.ensures.head s h.1

pub returns-clause-seen : goal.returns-clause-seen
returns-clause-seen g c = λ s h.
    let d = c.a_snapshots_stream_changes_nothing.ensures.did c.args.self.now.stream c.args.home.now c.args.store.now OfHead (has_answer c.head.result) c.head.new.self c.head.new.home c.head.new.store c.head.ensures.did in
    (still_of c.args.self.now c.head.new.self c.args.home.now c.head.new.home d.0 d.2 h.0, c.head.ensures.seen s h.1)

pub returns-clause-ready : goal.returns-clause-ready
returns-clause-ready g c =
    let d = c.a_snapshots_stream_changes_nothing.ensures.did c.args.self.now.stream c.args.home.now c.args.store.now OfHead (has_answer c.head.result) c.head.new.self c.head.new.home c.head.new.store c.head.ensures.did in
    (still_of c.args.self.now c.head.new.self c.args.home.now c.head.new.home d.0 d.2 c.requires.0, c.head.ensures.ready)
