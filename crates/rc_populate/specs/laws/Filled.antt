-- What the answer of `may_fill` says, and that each snapshot is there still once something was filled.
use Rattle.std.proofs.Common.{inl, inr, ◌≡◌, ℕ, Option, Some, None, slice_index_or, sym, ap, ◌∙◌, subst}
use Rattle.std.specs.Prelude.{IsSome, IsSomeAnd}
use Rattle.std.specs.Option.{option_map}
use Rattle.lsa_pool.specs.laws.Usages.{decided}
use Rattle.rc_position.specs.Position.{Head}
use Rattle.rc_core.specs.Chains.{at_place}
use Rattle.rc_core.specs.Steps.{MayPopulate, pin_at}
use Rattle.rc_core.specs.Version.{Version}
use Rattle.rc_memory.specs.Memory.{HasPin, KeptChain, Memory, chain_at, on_chain, on_shown}
use Rattle.rc_memory.specs.laws.Put.{put-at, put-beside}
use Rattle.rc_populate.specs.Filling.{MayFill, on_newest_of}

pub may-fill : (m : Memory) (id pin j : ℕ) (k : KeptChain) → chain_at m id ≡ Some k → pin_at k.chain.pins pin ≡ Some j → MayPopulate (at_place Head k.chain) j → MayFill m id pin
may-fill m id pin j k e at h = subst (λ (o : Option KeptChain). IsSomeAnd o (λ k. IsSomeAnd (pin_at k.chain.pins pin) (MayPopulate (at_place Head k.chain)))) (sym e)
    (subst (λ (o : Option ℕ). IsSomeAnd o (MayPopulate (at_place Head k.chain))) (sym at) h)

module _ (id : ℕ) (f : Version → Version) (old new : Memory) (is : new.chains ≡ on_chain id (on_shown (on_newest_of f)) old.chains) where
  pub filled-pins : (i pin : ℕ) → HasPin old i pin → HasPin new i pin
  filled-pins i pin h = elim (decided i id) [
    | inl here ↦ subst (λ (o : Option KeptChain). IsSomeAnd o (λ k. IsSome (pin_at k.chain.pins pin)))
        (sym (ap (chain_at new) here ∙ ap (λ cs. slice_index_or cs id None) is ∙ put-at old.chains id (option_map (on_shown (on_newest_of f)) (chain_at old id))))
        (mapped (chain_at old id) (subst (λ n. HasPin old n pin) here h))
    | inr beside ↦ subst (λ (o : Option KeptChain). IsSomeAnd o (λ k. IsSome (pin_at k.chain.pins pin)))
        (sym (ap (λ cs. slice_index_or cs i None) is ∙ put-beside old.chains id (option_map (on_shown (on_newest_of f)) (chain_at old id)) i beside)) h
  ]
    where
      mapped : (o : Option KeptChain) → IsSomeAnd o (λ k. IsSome (pin_at k.chain.pins pin)) → IsSomeAnd (option_map (on_shown (on_newest_of f)) o) (λ k. IsSome (pin_at k.chain.pins pin))
      mapped None h = h
      mapped (Some k) h = h
