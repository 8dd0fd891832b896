-- What the stream of the snapshot does, which is still that snapshot's.
use Rattle.std.proofs.Common.{subst}
use Rattle.rc_stream.specs.Did.{Call.OfHead, has_answer}
use Rattle.rc_opened.specs.Written.{IsStreamOf}
use Rattle.rc_opened.proofs.Same.{at_some, same}
use Rattle.rc_opened.proofs.written.WrittenFragsChains.head.Goals as goal

pub returns-in-Some-clause-moves : goal.returns-in-Some-clause-moves
returns-in-Some-clause-moves g c = c.a_snapshots_stream_changes_nothing.ensures.moves c.args.home.now c.args.store.now c.head.new.home c.head.new.store c.head.ensures.moves

pub returns-in-Some-clause-did : goal.returns-in-Some-clause-did
returns-in-Some-clause-did g c =
    let d = c.a_snapshots_stream_changes_nothing.ensures.did c.in-Some.stream c.args.home.now c.args.store.now OfHead (has_answer c.head.result) c.head.new.self c.head.new.home c.head.new.store c.head.ensures.did in
    (d.0, d.1, λ snap is. same c.in-Some.stream c.head.new.self d.2 snap (subst (IsStreamOf snap) c.in-Some.is is))

pub returns-in-Some-clause-seen : goal.returns-in-Some-clause-seen
returns-in-Some-clause-seen g c = λ s h. c.head.ensures.seen s (at_some _ _ c.args.self.now.stream c.in-Some.stream c.in-Some.is h)
