use Rattle.std.proofs.Common.{inl, inr, IsTrue, false, refl, subst, arith}
use Rattle.rc_core.specs.Chains.{IsPinned}
use Rattle.rc_memory.specs.Kept.{IsSoundChain}
use Rattle.rc_memory.specs.Memory.{chain_at}
use Rattle.rc_memtable.proofs.Freed.{below-or}
use Rattle.rc_memtable.proofs.Steps.{of-chain}
use Rattle.rc_memtable.proofs.freeing.is_unpinned.Goals as goal

pub loop-number-init : goal.loop-number-init
loop-number-init g c k e j low on = omega (arith, low)

pub loop-number-preserved : goal.loop-number-preserved
loop-number-preserved g c k e j low on = elim (below-or j c.loop-number.number low) [
  | inl less ↦ c.loop-number.invariant k e j less on
  | inr same ↦ (let t : IsTrue false = (c.if-is_pinned.ensures k e).1 (subst (IsPinned k.chain.pins) same on) in absurd (cc))
]

pub returns : goal.returns
returns g c k e =
    ((λ t j on. c.loop-number.invariant k e j (let low = (of-chain (λ k. IsSoundChain k.chain) (chain_at c.args.chains.now c.args.id) k e (c.known.ensures.sound c.args.id)).pins j on in let all = c.versions-number-end.ensures k e in let over = c.loop-number-test.false in omega (arith, low, all, over)) on), (λ free. refl))
