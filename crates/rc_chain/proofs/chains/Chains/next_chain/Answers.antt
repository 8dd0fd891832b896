use Rattle.rc_chain.proofs.Reading.{memory-now, next-chain, next-none}
use Rattle.rc_chain.proofs.chains.Chains.next_chain.Goals as goal

pub returns-clause-next : goal.returns-clause-next
returns-clause-next g c =
    let s = c.self.inside in let n = memory-now g.row.S s.recency s.region s.registry s.counts s.memory c.args.self.now c.self.view_is c.self.invariant.0 c.self.invariant.1 in
    next-chain s.recency s.region s.registry s.counts c.args.self.now n.held c.args.after c.next.result c.next.ensures.next

pub returns-clause-none : goal.returns-clause-none
returns-clause-none g c =
    let s = c.self.inside in let n = memory-now g.row.S s.recency s.region s.registry s.counts s.memory c.args.self.now c.self.view_is c.self.invariant.0 c.self.invariant.1 in
    next-none s.recency s.region s.registry s.counts c.args.self.now n.held c.args.after c.next.result c.next.ensures.none
