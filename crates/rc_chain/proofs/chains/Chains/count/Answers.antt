use Rattle.rc_memory.specs.Memory.{counts_raised}
use Rattle.rc_memory.specs.laws.One.{kept-is}
use Rattle.rc_chain.proofs.Opening.{counted-memory}
use Rattle.rc_chain.proofs.Reading.{memory-now}
use Rattle.rc_chain.proofs.chains.Chains.count.Goals as goal

pub invariant_of-self-inside : goal.invariant_of-self-inside
invariant_of-self-inside g c =
    let s = c.self.inside in let n = memory-now g.row.S s.recency s.region s.registry s.counts s.memory c.args.self.now c.self.view_is c.self.invariant.0 c.self.invariant.1 in
    ((counts_raised c.args.evicted c.args.skipped c.args.shrunk c.args.self.now, ∣ counted-memory g.row.S s.recency s.region s.registry s.counts c.args.self.now n c.args.evicted c.args.skipped c.args.shrunk _ c.saturating_add.ensures c.saturating_add-2.ensures c.saturating_add-3.ensures ∣₁), tt)

pub invariant_of-self : goal.invariant_of-self
invariant_of-self g c =
    let s = c.self.inside in let n = memory-now g.row.S s.recency s.region s.registry s.counts s.memory c.args.self.now c.self.view_is c.self.invariant.0 c.self.invariant.1 in
    (counts_raised c.args.evicted c.args.skipped c.args.shrunk c.args.self.now, counted-memory g.row.S s.recency s.region s.registry s.counts c.args.self.now n c.args.evicted c.args.skipped c.args.shrunk _ c.saturating_add.ensures c.saturating_add-2.ensures c.saturating_add-3.ensures, c.self.invariant.2, c.self.invariant.3, c.self.invariant.4)

pub returns : goal.returns
returns g c =
    let s = c.self.inside in let n = memory-now g.row.S s.recency s.region s.registry s.counts s.memory c.args.self.now c.self.view_is c.self.invariant.0 c.self.invariant.1 in
    let is = counted-memory g.row.S s.recency s.region s.registry s.counts c.args.self.now n c.args.evicted c.args.skipped c.args.shrunk _ c.saturating_add.ensures c.saturating_add-2.ensures c.saturating_add-3.ensures in kept-is g.row.S s.recency s.region s.registry _ c.self-1.given.0 (counts_raised c.args.evicted c.args.skipped c.args.shrunk c.args.self.now) is.held
