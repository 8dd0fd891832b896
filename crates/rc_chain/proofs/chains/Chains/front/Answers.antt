use Rattle.std.proofs.Common.{arith}
use Rattle.rc_chain.proofs.Reading.{front-place, memory-now}
use Rattle.rc_chain.proofs.chains.Chains.front.Goals as goal

pub front-requires : goal.front-requires
front-requires g c =
    let s = c.self.inside in let n = memory-now g.row.S s.recency s.region s.registry s.counts s.memory c.args.self.now c.self.view_is c.self.invariant.0 c.self.invariant.1 in
    (omega arith, (n.held.listed, n.held.stands.list))

pub returns-clause-some : goal.returns-clause-some
returns-clause-some g c =
    let s = c.self.inside in let n = memory-now g.row.S s.recency s.region s.registry s.counts s.memory c.args.self.now c.self.view_is c.self.invariant.0 c.self.invariant.1 in
    (front-place s.recency s.region s.registry s.counts c.args.self.now n.held c.front.result (c.front.ensures n.held.listed n.held.stands.list)).0

pub returns-clause-none : goal.returns-clause-none
returns-clause-none g c =
    let s = c.self.inside in let n = memory-now g.row.S s.recency s.region s.registry s.counts s.memory c.args.self.now c.self.view_is c.self.invariant.0 c.self.invariant.1 in
    (front-place s.recency s.region s.registry s.counts c.args.self.now n.held c.front.result (c.front.ensures n.held.listed n.held.stands.list)).1
