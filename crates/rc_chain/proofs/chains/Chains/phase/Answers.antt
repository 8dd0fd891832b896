use Rattle.std.proofs.Common.{arith}
use Rattle.rc_chain.proofs.Reading.{head-held, memory-now, phase-of}
use Rattle.rc_chain.proofs.chains.Chains.phase.Goals as goal

pub version-n-requires : goal.version-n-requires
version-n-requires g c = (omega arith, c.requires)

pub head_of-requires : goal.head_of-requires
head_of-requires g c =
    let s = c.self.inside in let n = memory-now g.row.S s.recency s.region s.registry s.counts s.memory c.args.self.now c.self.view_is c.self.invariant.0 c.self.invariant.1 in
    let a = head-held s.recency s.region s.registry s.counts c.args.self.now n.held c.args.id c.args.number c.version-n.result c.version-n.ensures in (omega arith, (a.0, a.1))

pub returns : goal.returns
returns g c = λ k w e at.
    let s = c.self.inside in let n = memory-now g.row.S s.recency s.region s.registry s.counts s.memory c.args.self.now c.self.view_is c.self.invariant.0 c.self.invariant.1 in
    phase-of s.recency s.region s.registry s.counts c.args.self.now n.held c.args.id c.args.number c.version-n.result c.version-n.ensures k w e at c.head_of.result c.head_of.ensures
