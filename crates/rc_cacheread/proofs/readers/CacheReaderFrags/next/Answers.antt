-- The next, and what its calls did.
use Rattle.std.proofs.Common.{inl}
use Rattle.rc_stream.specs.Did.{OfNext, has_answer}
use Rattle.rc_cacheread.proofs.Orders.{reach-itself}
use Rattle.rc_cacheread.proofs.readers.CacheReaderFrags.next.Goals as goal

pub returns-clause-gives : goal.returns-clause-gives
returns-clause-gives g c = c.next_fragment.ensures.gives

pub returns-clause-upto : goal.returns-clause-upto
returns-clause-upto g c = c.next_fragment.ensures.upto

pub returns-clause-seen : goal.returns-clause-seen
returns-clause-seen g c = c.next_fragment.ensures.left

pub returns-clause-ahead : goal.returns-clause-ahead
returns-clause-ahead g c = λ x p a. tt

pub returns-clause-ready : goal.returns-clause-ready
returns-clause-ready g c = c.next_fragment.ensures.ready

pub returns-clause-moves : goal.returns-clause-moves
returns-clause-moves g c =
    let r = c.args.self.now in
    let n = c.next_fragment.new.reader in
    record { s = (r.known, r.below, r.filler); t = (n.known, n.below, n.filler); c = OfNext c.args.upto.now; ok = has_answer c.next_fragment.result; calls = (c.next_fragment.ensures.did c.args.upto.now (inl (reach-itself c.args.upto.now))).calls }

pub returns-clause-did : goal.returns-clause-did
returns-clause-did g c = c.next_fragment.ensures.did

pub returns-clause-damage : goal.returns-clause-damage
returns-clause-damage g c = c.next_fragment.ensures.damage
