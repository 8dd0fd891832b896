use Rattle.std.proofs.Common.{sym, subst}
use Rattle.rc_memory.specs.Memory.{update_ended}
use Rattle.rc_memory.specs.Kept.{IsMemory}
use Rattle.rc_memory.specs.laws.Chains.{memory-ended}
use Rattle.rc_memory.specs.laws.One.{kept-is}
use Rattle.rc_chain.proofs.Reading.{memory-now, there}
use Rattle.rc_chain.proofs.chains.Chains.settle.Goals as goal

pub set_updating-requires : goal.set_updating-requires
set_updating-requires g c =
    let s = c.self.inside in let n = memory-now g.row.S s.recency s.region s.registry s.counts s.memory c.args.self.now c.self.view_is c.self.invariant.0 c.self.invariant.1 in
    there s.recency s.region s.registry s.counts c.args.self.now n.held c.args.id c.requires.there

pub invariant_of-self-inside : goal.invariant_of-self-inside
invariant_of-self-inside g c =
    let s = c.self.inside in let n = memory-now g.row.S s.recency s.region s.registry s.counts s.memory c.args.self.now c.self.view_is c.self.invariant.0 c.self.invariant.1 in
    ((update_ended c.args.id c.args.self.now, ∣ subst (λ r. IsMemory g.row.S s.recency s.region r s.counts (update_ended c.args.id c.args.self.now)) (sym c.set_updating.ensures) (memory-ended g.row.S s.recency s.region s.registry s.counts c.args.self.now c.args.id n c.requires.there (c.requires.listed)) ∣₁), tt)

pub invariant_of-self : goal.invariant_of-self
invariant_of-self g c =
    let s = c.self.inside in let n = memory-now g.row.S s.recency s.region s.registry s.counts s.memory c.args.self.now c.self.view_is c.self.invariant.0 c.self.invariant.1 in
    (update_ended c.args.id c.args.self.now, subst (λ r. IsMemory g.row.S s.recency s.region r s.counts (update_ended c.args.id c.args.self.now)) (sym c.set_updating.ensures) (memory-ended g.row.S s.recency s.region s.registry s.counts c.args.self.now c.args.id n c.requires.there (c.requires.listed)), c.self.invariant.2, c.self.invariant.3, c.self.invariant.4)

pub returns : goal.returns
returns g c =
    let s = c.self.inside in let n = memory-now g.row.S s.recency s.region s.registry s.counts s.memory c.args.self.now c.self.view_is c.self.invariant.0 c.self.invariant.1 in
    kept-is g.row.S s.recency s.region c.set_updating.new.self s.counts c.self-1.given.0 (update_ended c.args.id c.args.self.now) (subst (λ r. IsMemory g.row.S s.recency s.region r s.counts (update_ended c.args.id c.args.self.now)) (sym c.set_updating.ensures) (memory-ended g.row.S s.recency s.region s.registry s.counts c.args.self.now c.args.id n c.requires.there (c.requires.listed))).held
