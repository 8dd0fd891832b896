use Rattle.std.proofs.Common.{◌≤◌, sym, ◌∙◌, subst, arith}
use Rattle.rc_memory.specs.Memory.{chain_at}
use Rattle.rc_chain.proofs.Reading.{memory-now, some_of}
use Rattle.rc_chain.proofs.Snapshots.{fills-is, pin-chain, same-number, sound-here}
use Rattle.rc_chain.proofs.chains.Chains.may_fill.Goals as goal

pub versions-newest-requires : goal.versions-newest-requires
versions-newest-requires g c = (omega arith, pin-chain c.args.self.now c.args.s.now.chain c.args.s.now.pin c.requires)

pub overflow_sub-newest : goal.overflow_sub-newest
overflow_sub-newest g c =
    let s = c.self.inside in let n = memory-now g.row.S s.recency s.region s.registry s.counts s.memory c.args.self.now c.self.view_is c.self.invariant.0 c.self.invariant.1 in
    let k = some_of (chain_at c.args.self.now c.args.s.now.chain) (pin-chain c.args.self.now c.args.s.now.chain c.args.s.now.pin c.requires) in
    subst (λ x. 1 ≤ x) (sym (c.versions-newest.ensures k.0 k.1)) (sound-here g.row.S s.recency s.region s.registry s.counts c.args.self.now n c.args.s.now.chain k.0 k.1).some

pub pinned_at-pinned-requires : goal.pinned_at-pinned-requires
pinned_at-pinned-requires g c = (omega arith, c.requires)

pub is_attached-requires : goal.is_attached-requires
is_attached-requires g c = (omega arith, pin-chain c.args.self.now c.args.s.now.chain c.args.s.now.pin c.requires)

pub is_updating-requires : goal.is_updating-requires
is_updating-requires g c = (omega arith, pin-chain c.args.self.now c.args.s.now.chain c.args.s.now.pin c.requires)

pub returns : goal.returns
returns g c = λ k j e at.
    let s = c.self.inside in let n = memory-now g.row.S s.recency s.region s.registry s.counts s.memory c.args.self.now c.self.view_is c.self.invariant.0 c.self.invariant.1 in
    fills-is k.chain j c.pinned_at-pinned.result c.versions-newest.result c.is_attached.result c.is_updating.result c.fills.result (sound-here g.row.S s.recency s.region s.registry s.counts c.args.self.now n c.args.s.now.chain k e)
    (same-number _ _ (sym (c.pinned_at-pinned.ensures k e) ∙ at)) (c.versions-newest.ensures k e) (c.is_attached.ensures k e) (c.is_updating.ensures k e) c.fills.ensures
