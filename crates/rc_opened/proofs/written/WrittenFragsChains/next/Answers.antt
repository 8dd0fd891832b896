-- What the stream of the snapshot does, which is still that snapshot's.
use Rattle.std.proofs.Common.{subst}
use Rattle.rc_stream.specs.Did.{Call.OfNext, has_answer}
use Rattle.rc_opened.specs.Written.{IsStreamOf}
use Rattle.rc_opened.proofs.Same.{at_some, reached, same}
use Rattle.rc_opened.proofs.written.WrittenFragsChains.next.Goals as goal

pub returns-in-Some-clause-moves : goal.returns-in-Some-clause-moves
returns-in-Some-clause-moves g c = c.a_snapshots_stream_changes_nothing.ensures.moves c.args.home.now c.args.store.now c.next.new.home c.next.new.store c.next.ensures.moves

pub returns-in-Some-clause-did : goal.returns-in-Some-clause-did
returns-in-Some-clause-did g c = λ y ends.
    let d = c.a_snapshots_stream_changes_nothing.ensures.did c.in-Some.stream c.args.home.now c.args.store.now (OfNext y) (has_answer c.next.result) c.next.new.self c.next.new.home c.next.new.store
    (c.next.ensures.did y (reached _ _ c.args.upto.now y (λ s h. at_some _ _ c.args.self.now.stream c.in-Some.stream c.in-Some.is h) ends)) in
    (d.0, d.1, λ snap is. same c.in-Some.stream c.next.new.self d.2 snap (subst (IsStreamOf snap) c.in-Some.is is))
