use Rattle.std.proofs.Common.{◌∙◌}
use Rattle.rc_memory.specs.laws.At.{used-there}
use Rattle.rc_chain.proofs.Reading.{memory-now}
use Rattle.rc_chain.proofs.chains.Chains.is_there.Goals as goal

pub returns : goal.returns
returns g c =
    let s = c.self.inside in let n = memory-now g.row.S s.recency s.region s.registry s.counts s.memory c.args.self.now c.self.view_is c.self.invariant.0 c.self.invariant.1 in
    c.is_there.ensures ∙ used-there s.registry.uses c.args.self.now.standing c.args.self.now.chains c.args.id n.held.kept
