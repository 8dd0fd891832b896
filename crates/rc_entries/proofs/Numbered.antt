-- The chain of a number, and those of others, where one is put there.
use Rattle.std.proofs.Common.{inl, inr, ◌≡◌, ◌≢◌, ℕ, Option, Some, None, refl, sym, ap, ◌∙◌, subst, slice_index_or}
use Rattle.std.specs.Option.{option_map}
use Rattle.lsa_pool.specs.laws.Usages.{decided}
use Rattle.rc_registry.specs.Registry.{put_at_number}
use Rattle.rc_memory.specs.Memory.{KeptChain, Memory, chain_at, on_chain}
use Rattle.rc_memory.specs.laws.Put.{put-at, put-beside}
use Rattle.rc_entries.proofs.Ways.{none-is-none}

-- what holds of this number, and of each other one, holds of each
pub here-or-beside : (P : ℕ → Type 0) (id i : ℕ) → P id → (i ≢ id → P i) → P i
here-or-beside P id i here beside = elim (decided i id) [ inl same ↦ subst P (sym same) here | inr ne ↦ beside ne ]

module _ (old new : Memory) (id : ℕ) (c : Option KeptChain) (is : new.chains ≡ put_at_number id c old.chains) where
  pub chain-here : chain_at new id ≡ c
  chain-here = ap (λ cs. slice_index_or cs id None) is ∙ put-at old.chains id c

  pub chain-beside : (i : ℕ) → i ≢ id → chain_at new i ≡ chain_at old i
  chain-beside i ne = ap (λ cs. slice_index_or cs i None) is ∙ put-beside old.chains id c i ne

pub mapped : (f : KeptChain → KeptChain) (o : Option KeptChain) (k : KeptChain) → option_map f o ≡ Some k → (was : KeptChain) × (o ≡ Some was) × (f was ≡ k)
mapped f None k e = absurd (none-is-none k e)
mapped f (Some was) k e = (was, refl, cc)

module _ (old new : Memory) (id : ℕ) (f : KeptChain → KeptChain) (is : new.chains ≡ on_chain id f old.chains) where
  -- what is done to a chain is done to the one of its number
  pub changed-now : (k : KeptChain) → chain_at old id ≡ Some k → chain_at new id ≡ Some (f k)
  changed-now k e = chain-here old new id (option_map f (chain_at old id)) is ∙ ap (option_map f) e

  pub changed-was : (k : KeptChain) → chain_at new id ≡ Some k → (was : KeptChain) × (chain_at old id ≡ Some was) × (f was ≡ k)
  changed-was k e = mapped f (chain_at old id) k (sym (chain-here old new id (option_map f (chain_at old id)) is) ∙ e)
