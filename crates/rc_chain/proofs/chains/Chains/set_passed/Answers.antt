use Rattle.std.proofs.Common.{sym, subst}
use Rattle.rc_memory.specs.Memory.{mark_passed, on_chain, with_chains}
use Rattle.rc_memory.specs.Kept.{IsMemory}
use Rattle.rc_memory.specs.laws.One.{kept-is}
use Rattle.rc_chain.proofs.Reading.{memory-now, there}
use Rattle.rc_memory.specs.laws.Keeping.{memory-passed}
use Rattle.rc_chain.proofs.chains.Chains.set_passed.Goals as goal

pub invariant_of-self-inside : goal.invariant_of-self-inside
invariant_of-self-inside g c =
    let s = c.self.inside in let n = memory-now g.row.S s.recency s.region s.registry s.counts s.memory c.args.self.now c.self.view_is c.self.invariant.0 c.self.invariant.1 in
    ((with_chains (on_chain c.args.id (mark_passed c.args.passed) c.args.self.now.chains) c.args.self.now, ∣ subst (λ r. IsMemory g.row.S s.recency s.region r s.counts (with_chains (on_chain c.args.id (mark_passed c.args.passed) c.args.self.now.chains) c.args.self.now)) (sym c.set_passed.ensures) (memory-passed g.row.S s.recency s.region s.registry s.counts c.args.self.now c.args.id n c.requires c.args.passed) ∣₁), tt)

pub invariant_of-self : goal.invariant_of-self
invariant_of-self g c =
    let s = c.self.inside in let n = memory-now g.row.S s.recency s.region s.registry s.counts s.memory c.args.self.now c.self.view_is c.self.invariant.0 c.self.invariant.1 in
    (with_chains (on_chain c.args.id (mark_passed c.args.passed) c.args.self.now.chains) c.args.self.now, subst (λ r. IsMemory g.row.S s.recency s.region r s.counts (with_chains (on_chain c.args.id (mark_passed c.args.passed) c.args.self.now.chains) c.args.self.now)) (sym c.set_passed.ensures) (memory-passed g.row.S s.recency s.region s.registry s.counts c.args.self.now c.args.id n c.requires c.args.passed), c.self.invariant.2, c.self.invariant.3, c.self.invariant.4)

pub returns : goal.returns
returns g c =
    let s = c.self.inside in let n = memory-now g.row.S s.recency s.region s.registry s.counts s.memory c.args.self.now c.self.view_is c.self.invariant.0 c.self.invariant.1 in
    let is = kept-is g.row.S s.recency s.region c.set_passed.new.self s.counts c.self-1.given.0 (with_chains (on_chain c.args.id (mark_passed c.args.passed) c.args.self.now.chains) c.args.self.now) (subst (λ r. IsMemory g.row.S s.recency s.region r s.counts (with_chains (on_chain c.args.id (mark_passed c.args.passed) c.args.self.now.chains) c.args.self.now)) (sym c.set_passed.ensures) (memory-passed g.row.S s.recency s.region s.registry s.counts c.args.self.now c.args.id n c.requires c.args.passed)).held in
    is

pub set_passed-requires : goal.set_passed-requires
set_passed-requires g c =
    let s = c.self.inside in let n = memory-now g.row.S s.recency s.region s.registry s.counts s.memory c.args.self.now c.self.view_is c.self.invariant.0 c.self.invariant.1 in
    there s.recency s.region s.registry s.counts c.args.self.now n.held c.args.id c.requires
