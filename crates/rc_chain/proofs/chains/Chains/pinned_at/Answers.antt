use Rattle.rc_chain.proofs.Reading.{memory-now, there}
use Rattle.rc_chain.proofs.Snapshots.{pin-chain, pin-told, pin-unset}
use Rattle.rc_chain.proofs.chains.Chains.pinned_at.Goals as goal

pub pin_at-requires : goal.pin_at-requires
pin_at-requires g c =
    let s = c.self.inside in let n = memory-now g.row.S s.recency s.region s.registry s.counts s.memory c.args.self.now c.self.view_is c.self.invariant.0 c.self.invariant.1 in
    there s.recency s.region s.registry s.counts c.args.self.now n.held c.args.s.now.chain (pin-chain c.args.self.now c.args.s.now.chain c.args.s.now.pin c.requires)

pub unreachable-requires : goal.unreachable-requires
unreachable-requires g c =
    let s = c.self.inside in let n = memory-now g.row.S s.recency s.region s.registry s.counts s.memory c.args.self.now c.self.view_is c.self.invariant.0 c.self.invariant.1 in
    absurd (pin-unset s.recency s.region s.registry s.counts c.args.self.now n.held c.args.s.now.chain c.args.s.now.pin c.requires c.pin_at.result c.pin_at.ensures c.in-None.is)

pub returns : goal.returns
returns g c = λ k e.
    let s = c.self.inside in let n = memory-now g.row.S s.recency s.region s.registry s.counts s.memory c.args.self.now c.self.view_is c.self.invariant.0 c.self.invariant.1 in
    pin-told s.recency s.region s.registry s.counts c.args.self.now n.held c.args.s.now.chain c.args.s.now.pin c.pin_at.result c.pin_at.ensures c.in-Some.number c.in-Some.is k e
