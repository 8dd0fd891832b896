-- Chains by number.
use Rattle.std.proofs.Common.{inl, inr, ◌≡◌, ◌⊎◌, ℕ, zero, suc, Option, Some, None, refl, sym, ap, ◌∙◌, subst, slice_index_or, arith}
use Rattle.std.specs.Prelude.{IfSome, IsSomeAnd}
use Rattle.std.specs.Option.{option_map}
use Rattle.rc_registry.specs.Registry.{put_at_number}
use Rattle.rc_memory.specs.Memory.{KeptChain, Memory, chain_at, on_chain}
use Rattle.rc_memory.specs.laws.Put.{put-at, put-beside}

-- whether two numbers are one
pub same-or-not : (i j : ℕ) → (i ≡ j) ⊎ (i ≡ j → ⊥)
same-or-not zero zero = inl refl
same-or-not zero (suc j) = inr (λ e. omega (arith, e))
same-or-not (suc i) zero = inr (λ e. omega (arith, e))
same-or-not (suc i) (suc j) = elim (same-or-not i j) [ inl e ↦ inl (ap suc e) | inr ne ↦ inr (λ e. ne (omega (arith, e))) ]

-- what was put at a number is there, and others are as they were
pub chain-put : (m n : Memory) (id : ℕ) (c : Option KeptChain) → n.chains ≡ put_at_number id c m.chains → chain_at n id ≡ c
chain-put m n id c is = ap (λ cs. slice_index_or cs id None) is ∙ put-at m.chains id c

pub chain-done : (m n : Memory) (id : ℕ) (f : KeptChain → KeptChain) → n.chains ≡ on_chain id f m.chains → chain_at n id ≡ option_map f (chain_at m id)
chain-done m n id f is = chain-put m n id (option_map f (chain_at m id)) is

pub chain-beside : (m n : Memory) (id : ℕ) (c : Option KeptChain) (i : ℕ) → n.chains ≡ put_at_number id c m.chains → (i ≡ id → ⊥) → chain_at n i ≡ chain_at m i
chain-beside m n id c i is ne = ap (λ cs. slice_index_or cs i None) is ∙ put-beside m.chains id c i ne

pub chain-same : (m n : Memory) → n.chains ≡ m.chains → (i : ℕ) → chain_at n i ≡ chain_at m i
chain-same m n is i = ap (λ cs. slice_index_or cs i None) is

-- what holds of each chain holds of this one
pub of-chain : (P : KeptChain → Type 0) (o : Option KeptChain) (k : KeptChain) → o ≡ Some k → IfSome o P → P k
of-chain P o k there h = subst (λ (x : Option KeptChain). IfSome x P) there h

pub is-chain : (P : KeptChain → Type 0) (o : Option KeptChain) (k : KeptChain) → o ≡ Some k → P k → IsSomeAnd o P
is-chain P o k there h = subst (λ (x : Option KeptChain). IsSomeAnd x P) (sym there) h

pub chain-is : (P : KeptChain → Type 0) (o : Option KeptChain) (k : KeptChain) → o ≡ Some k → IsSomeAnd o P → P k
chain-is P o k there h = subst (λ (x : Option KeptChain). IsSomeAnd x P) there h

pub some-chain : (P : KeptChain → Type 0) (o : Option KeptChain) → IsSomeAnd o P → (k : KeptChain) × (o ≡ Some k) × P k
some-chain P None h = absurd h
some-chain P (Some k) h = (k, refl, h)
