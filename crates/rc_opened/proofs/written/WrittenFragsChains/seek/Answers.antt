-- What the stream of the snapshot does, which is still that snapshot's.
use Rattle.std.proofs.Common.{subst}
use Rattle.rc_stream.specs.Did.{Call.OfSeek, has_answer}
use Rattle.rc_opened.specs.Written.{IsStreamOf}
use Rattle.rc_opened.proofs.Same.{same}
use Rattle.rc_opened.proofs.written.WrittenFragsChains.seek.Goals as goal

pub returns-in-Some-clause-moves : goal.returns-in-Some-clause-moves
returns-in-Some-clause-moves g c = c.a_snapshots_stream_changes_nothing.ensures.moves c.args.home.now c.args.store.now c.seek.new._home c.seek.new._store c.seek.ensures.moves

pub returns-in-Some-clause-did : goal.returns-in-Some-clause-did
returns-in-Some-clause-did g c =
    let d = c.a_snapshots_stream_changes_nothing.ensures.did c.in-Some.stream c.args.home.now c.args.store.now (OfSeek c.args.to.now) (has_answer c.seek.result) c.seek.new.self c.seek.new._home c.seek.new._store c.seek.ensures.did in
    (d.0, d.1, λ snap is. same c.in-Some.stream c.seek.new.self d.2 snap (subst (IsStreamOf snap) c.in-Some.is is))
