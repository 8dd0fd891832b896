-- Both stand as they stood, by the other names.
use Rattle.rc_version_walk.proofs.Pairs.{pair-swapped}
use Rattle.rc_version_walk.proofs.pair.Pair.turn.Goals as goal

pub invariant_of-self : goal.invariant_of-self
invariant_of-self c =
    let w = c.self.inside in let p = c.self.invariant.pair in
    record { pair = (p.1, p.0, pair-swapped w.first w.second w.region p.0 p.1 p.2); size = c.self.invariant.size }
