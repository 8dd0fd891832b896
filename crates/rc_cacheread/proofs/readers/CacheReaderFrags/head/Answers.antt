-- The head, and what its calls did.
use Rattle.rc_stream.specs.Did.{OfHead, has_answer}
use Rattle.rc_cacheread.proofs.readers.CacheReaderFrags.head.Goals as goal

pub returns-clause-head : goal.returns-clause-head
returns-clause-head g c = c.whole_head.ensures.head

pub returns-clause-shown : goal.returns-clause-shown
returns-clause-shown g c = λ f. absurd f

pub returns-clause-fresh : goal.returns-clause-fresh
returns-clause-fresh g c = λ f. f

pub returns-clause-might : goal.returns-clause-might
returns-clause-might g c = λ s m. m

pub returns-clause-seen : goal.returns-clause-seen
returns-clause-seen g c = c.whole_head.ensures.seen

pub returns-clause-ahead : goal.returns-clause-ahead
returns-clause-ahead g c = λ x a. tt

pub returns-clause-ready : goal.returns-clause-ready
returns-clause-ready g c = c.whole_head.ensures.ready

pub returns-clause-moves : goal.returns-clause-moves
returns-clause-moves g c =
    let r = c.args.self.now in
    let n = c.whole_head.new.reader in
    record { s = (r.known, r.below, r.filler); t = (n.known, n.below, n.filler); c = OfHead; ok = has_answer c.whole_head.result; calls = c.whole_head.ensures.did.calls }

pub returns-clause-did : goal.returns-clause-did
returns-clause-did g c = c.whole_head.ensures.did

pub returns-clause-damage : goal.returns-clause-damage
returns-clause-damage g c = c.whole_head.ensures.damage
