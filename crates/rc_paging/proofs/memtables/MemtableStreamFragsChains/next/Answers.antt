-- What the stream of the snapshot does, which is still that snapshot's.
use Rattle.std.proofs.Common.{inl}
use Rattle.rc_stream.specs.Did.{Call.OfNext, has_answer}
use Rattle.rc_stream.specs.laws.Ordered.{passes-itself}
use Rattle.rc_paging.proofs.Still.{reached, still_of}
use Rattle.rc_paging.proofs.memtables.MemtableStreamFragsChains.next.Goals as goal

pub returns-clause-moves : goal.returns-clause-moves
returns-clause-moves g c = c.a_snapshots_stream_changes_nothing.ensures.moves c.args.home.now c.args.store.now c.next.new.home c.next.new.store c.next.ensures.moves

pub returns-clause-did : goal.returns-clause-did
returns-clause-did g c = λ y ends. c.a_snapshots_stream_changes_nothing.ensures.did c.args.self.now.stream c.args.home.now c.args.store.now (OfNext y) (has_answer c.next.result) c.next.new.self c.next.new.home c.next.new.store
    (c.next.ensures.did y (reached _ _ c.args.upto.now y (λ s h. h.1) ends))

pub returns-clause-gives : goal.returns-clause-gives
returns-clause-gives g c = λ s h. c.next.ensures.gives s h.1

pub returns-clause-seen : goal.returns-clause-seen
returns-clause-seen g c = λ s h.
    let d = c.a_snapshots_stream_changes_nothing.ensures.did c.args.self.now.stream c.args.home.now c.args.store.now (OfNext c.args.upto.now) (has_answer c.next.result) c.next.new.self c.next.new.home c.next.new.store (c.next.ensures.did c.args.upto.now (inl (passes-itself c.args.upto.now))) in
    (still_of c.args.self.now c.next.new.self c.args.home.now c.next.new.home d.0 d.2 h.0, c.next.ensures.seen s h.1)

pub returns-clause-ready : goal.returns-clause-ready
returns-clause-ready g c =
    let d = c.a_snapshots_stream_changes_nothing.ensures.did c.args.self.now.stream c.args.home.now c.args.store.now (OfNext c.args.upto.now) (has_answer c.next.result) c.next.new.self c.next.new.home c.next.new.store (c.next.ensures.did c.args.upto.now (inl (passes-itself c.args.upto.now))) in
    (still_of c.args.self.now c.next.new.self c.args.home.now c.next.new.home d.0 d.2 c.requires.0, c.next.ensures.ready)
