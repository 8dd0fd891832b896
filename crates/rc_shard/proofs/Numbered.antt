-- The chain of a number, and those of others, where one is put there.
use Rattle.std.proofs.Common.{inl, inr, ◌≡◌, ◌≢◌, ℕ, Bool, true, false, Option, Some, None, refl, sym, ap, ◌∙◌, subst, slice_index_or}
use Rattle.std.specs.Prelude.{IsSomeAnd}
use Rattle.std.specs.Option.{option_map}
use Rattle.lsa_pool.specs.laws.Usages.{decided}
use Rattle.rc_registry.specs.Registry.{put_at_number}
use Rattle.rc_memory.specs.Memory.{KeptChain, Memory, chain_at}
use Rattle.rc_memory.specs.laws.Places.{no_some}
use Rattle.rc_memory.specs.laws.Put.{put-at, put-beside}

pub either : (P : Type 0) (b : Bool) → (b ≡ true → P) → (b ≡ false → P) → P
either P true t f = t refl
either P false t f = f refl

-- a chain of a number is there, or it is not
pub there-or-not : (P : Type 0) (c : Option KeptChain) → (c ≡ None → P) → ((k : KeptChain) → c ≡ Some k → P) → P
there-or-not P None none some = none refl
there-or-not P (Some k) none some = some k refl

-- what holds of this number, and of each other one, holds of each
pub here-or-beside : (P : ℕ → Type 0) (id i : ℕ) → P id → (i ≢ id → P i) → P i
here-or-beside P id i here beside = elim (decided i id) [ inl same ↦ subst P (sym same) here | inr ne ↦ beside ne ]

pub mapped : (f : KeptChain → KeptChain) (o : Option KeptChain) (k : KeptChain) → option_map f o ≡ Some k → (was : KeptChain) × (o ≡ Some was) × (f was ≡ k)
mapped f None k e = absurd (no_some k e)
mapped f (Some was) k e = (was, refl, cc)

pub some-chain : (P : KeptChain → Type 0) (o : Option KeptChain) → IsSomeAnd o P → (k : KeptChain) × (o ≡ Some k) × P k
some-chain P None h = absurd h
some-chain P (Some k) h = (k, refl, h)

module _ (old new : Memory) (id : ℕ) (c : Option KeptChain) (is : new.chains ≡ put_at_number id c old.chains) where
  pub chain-here : chain_at new id ≡ c
  chain-here = ap (λ cs. slice_index_or cs id None) is ∙ put-at old.chains id c

  pub chain-beside : (i : ℕ) → i ≢ id → chain_at new i ≡ chain_at old i
  chain-beside i ne = ap (λ cs. slice_index_or cs i None) is ∙ put-beside old.chains id c i ne
