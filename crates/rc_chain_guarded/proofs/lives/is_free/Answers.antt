use Rattle.std.proofs.Common.{◌≡◌, true, false, inl, inr, sym, ◌∙◌, subst, arith}
use Rattle.lsa_pool.specs.laws.Usages.{decided}
use Rattle.rc_core.specs.Chains.{IsPinned}
use Rattle.rc_memory.specs.Memory.{chain_at}
use Rattle.rc_chain_guarded.proofs.Steps.{from-if}
use Rattle.rc_chain_guarded.proofs.lives.is_free.Goals as goal

pub loop-number-init : goal.loop-number-init
loop-number-init c = λ k j there low pinned. absurd (omega (arith, low))

pub loop-number-preserved : goal.loop-number-preserved
loop-number-preserved c = λ k j there low pinned. elim (decided j c.loop-number.number) [
  | inl same ↦ let told : true ≡ false = sym ((c.is_pinned.ensures k there).1 (subst (IsPinned k.chain.pins) same pinned)) ∙ c.if-is_pinned.false in cc told
  | inr ne ↦ c.loop-number.invariant k j there (omega (arith, low, ne)) pinned
]

pub returns : goal.returns
returns c = λ yes k there j pinned.
    c.loop-number.invariant k j there (let low = (from-if _ (chain_at c.args.chains.now c.args.id) k (c.known.ensures.sound c.args.id) there).pins j pinned in let all = c.versions-number-end.ensures k there in let end = c.loop-number-test.false in omega (arith, low, all, end)) pinned
