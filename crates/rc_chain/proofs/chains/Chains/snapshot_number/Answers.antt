use Rattle.std.proofs.Common.{◌<◌, ◌≤◌, sym, ◌∙◌, subst, arith}
use Rattle.rc_memory.specs.Memory.{chain_at}
use Rattle.rc_chain.proofs.Reading.{memory-now, some_of}
use Rattle.rc_chain.proofs.Snapshots.{numbered, snapped-there, sound-here}
use Rattle.rc_chain.proofs.chains.Chains.snapshot_number.Goals as goal

pub versions-requires : goal.versions-requires
versions-requires g c = (omega arith, c.requires)

pub is_updating-requires : goal.is_updating-requires
is_updating-requires g c = (omega arith, c.requires)

pub pinned_number-requires : goal.pinned_number-requires
pinned_number-requires g c =
    let s = c.self.inside in let n = memory-now g.row.S s.recency s.region s.registry s.counts s.memory c.args.self.now c.self.view_is c.self.invariant.0 c.self.invariant.1 in
    let k = some_of (chain_at c.args.self.now c.args.id) c.requires in let h = sound-here g.row.S s.recency s.region s.registry s.counts c.args.self.now n c.args.id k.0 k.1 in record {
      some = subst (λ x. 0 < x) (sym (c.versions.ensures k.0 k.1)) h.some;
      below = λ u. subst (λ x. 2 ≤ x) (sym (c.versions.ensures k.0 k.1)) (h.below (sym (c.is_updating.ensures k.0 k.1) ∙ u));
    }

pub returns-clause-value : goal.returns-clause-value
returns-clause-value g c = λ k e. c.pinned_number.ensures ∙ numbered k.chain c.versions.result c.is_updating.result (c.versions.ensures k e) (c.is_updating.ensures k e)

pub returns-clause-there : goal.returns-clause-there
returns-clause-there g c =
    let s = c.self.inside in let n = memory-now g.row.S s.recency s.region s.registry s.counts s.memory c.args.self.now c.self.view_is c.self.invariant.0 c.self.invariant.1 in
    snapped-there g.row.S s.recency s.region s.registry s.counts c.args.self.now n c.args.id c.pinned_number.result c.requires (returns-clause-value g c)
