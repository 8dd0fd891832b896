use Rattle.rc_version_walk.proofs.Pairs.{pair-swapped}
use Rattle.rc_version_walk.proofs.pair.Pair.ask.Goals as goal

pub ask-requires-2 : goal.ask-requires-2
ask-requires-2 c = let w = c.self.inside in let p = c.self.invariant.pair in (p.1, p.0, pair-swapped w.first w.second w.region p.0 p.1 p.2)
