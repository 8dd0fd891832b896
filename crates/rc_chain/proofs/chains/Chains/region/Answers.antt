use Rattle.std.proofs.Common.{sym}
use Rattle.rc_chain.proofs.Reading.{memory-now}
use Rattle.rc_chain.proofs.chains.Chains.region.Goals as goal

pub returns : goal.returns
returns g c =
    let s = c.self.inside in let n = memory-now g.row.S s.recency s.region s.registry s.counts s.memory c.args.self.now c.self.view_is c.self.invariant.0 c.self.invariant.1 in
    sym n.held.region
