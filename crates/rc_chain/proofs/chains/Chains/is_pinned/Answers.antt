use Rattle.std.proofs.Common.{sym, subst}
use Rattle.std.specs.Prelude.{IfSome, IsTrue}
use Rattle.rc_core.specs.Chains.{IsPinned}
use Rattle.rc_memory.specs.Memory.{KeptChain}
use Rattle.rc_chain.proofs.Reading.{chain-kept, memory-now, there}
use Rattle.rc_chain.proofs.chains.Chains.is_pinned.Goals as goal

pub is_pinned-requires : goal.is_pinned-requires
is_pinned-requires g c =
    let s = c.self.inside in let n = memory-now g.row.S s.recency s.region s.registry s.counts s.memory c.args.self.now c.self.view_is c.self.invariant.0 c.self.invariant.1 in
    there s.recency s.region s.registry s.counts c.args.self.now n.held c.args.id c.requires

pub returns : goal.returns
returns g c = λ k e.
    let s = c.self.inside in let n = memory-now g.row.S s.recency s.region s.registry s.counts s.memory c.args.self.now c.self.view_is c.self.invariant.0 c.self.invariant.1 in
    let a = chain-kept s.recency s.region s.registry s.counts c.args.self.now n.held c.args.id k e in
    let told = subst (λ o. IfSome o (λ u. (IsTrue c.is_pinned.result → IsPinned u.pins c.args.number) × (IsPinned u.pins c.args.number → IsTrue c.is_pinned.result))) a.at c.is_pinned.ensures in
    subst (λ (x : KeptChain). (IsTrue c.is_pinned.result → IsPinned x.chain.pins c.args.number) × (IsPinned x.chain.pins c.args.number → IsTrue c.is_pinned.result)) (sym a.same) told
