use Rattle.std.proofs.Common.{sym, subst}
use Rattle.rc_memory.specs.Memory.{on_chain, with_chains, without_snapshot}
use Rattle.rc_memory.specs.Kept.{IsMemory}
use Rattle.rc_memory.specs.laws.One.{kept-is}
use Rattle.rc_chain.proofs.Reading.{memory-now}
use Rattle.rc_memory.specs.laws.Keeping.{memory-released}
use Rattle.rc_chain.proofs.Snapshots.{pin-chain, pin-used}
use Rattle.rc_chain.proofs.chains.Chains.release.Goals as goal

pub invariant_of-self-inside : goal.invariant_of-self-inside
invariant_of-self-inside g c =
    let s = c.self.inside in let n = memory-now g.row.S s.recency s.region s.registry s.counts s.memory c.args.self.now c.self.view_is c.self.invariant.0 c.self.invariant.1 in
    ((with_chains (on_chain c.args.s.chain (without_snapshot c.args.s.pin) c.args.self.now.chains) c.args.self.now, ∣ subst (λ r. IsMemory g.row.S s.recency s.region r s.counts (with_chains (on_chain c.args.s.chain (without_snapshot c.args.s.pin) c.args.self.now.chains) c.args.self.now)) (sym c.unpin.ensures) (memory-released g.row.S s.recency s.region s.registry s.counts c.args.self.now c.args.s.chain n (pin-chain c.args.self.now c.args.s.chain c.args.s.pin c.requires) c.args.s.pin) ∣₁), tt)

pub invariant_of-self : goal.invariant_of-self
invariant_of-self g c =
    let s = c.self.inside in let n = memory-now g.row.S s.recency s.region s.registry s.counts s.memory c.args.self.now c.self.view_is c.self.invariant.0 c.self.invariant.1 in
    (with_chains (on_chain c.args.s.chain (without_snapshot c.args.s.pin) c.args.self.now.chains) c.args.self.now, subst (λ r. IsMemory g.row.S s.recency s.region r s.counts (with_chains (on_chain c.args.s.chain (without_snapshot c.args.s.pin) c.args.self.now.chains) c.args.self.now)) (sym c.unpin.ensures) (memory-released g.row.S s.recency s.region s.registry s.counts c.args.self.now c.args.s.chain n (pin-chain c.args.self.now c.args.s.chain c.args.s.pin c.requires) c.args.s.pin), c.self.invariant.2, c.self.invariant.3, c.self.invariant.4)

pub returns : goal.returns
returns g c =
    let s = c.self.inside in let n = memory-now g.row.S s.recency s.region s.registry s.counts s.memory c.args.self.now c.self.view_is c.self.invariant.0 c.self.invariant.1 in
    let is = kept-is g.row.S s.recency s.region c.unpin.new.self s.counts c.self-1.given.0 (with_chains (on_chain c.args.s.chain (without_snapshot c.args.s.pin) c.args.self.now.chains) c.args.self.now) (subst (λ r. IsMemory g.row.S s.recency s.region r s.counts (with_chains (on_chain c.args.s.chain (without_snapshot c.args.s.pin) c.args.self.now.chains) c.args.self.now)) (sym c.unpin.ensures) (memory-released g.row.S s.recency s.region s.registry s.counts c.args.self.now c.args.s.chain n (pin-chain c.args.self.now c.args.s.chain c.args.s.pin c.requires) c.args.s.pin)).held in
    is

pub unpin-requires : goal.unpin-requires
unpin-requires g c =
    let s = c.self.inside in let n = memory-now g.row.S s.recency s.region s.registry s.counts s.memory c.args.self.now c.self.view_is c.self.invariant.0 c.self.invariant.1 in
    pin-used s.recency s.region s.registry s.counts c.args.self.now n.held c.args.s.chain c.args.s.pin c.requires
