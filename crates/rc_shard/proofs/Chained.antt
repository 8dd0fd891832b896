-- The chain of a number, and those of others, where one is put there.
use Rattle.std.proofs.Common.{inl, inr, ◌≡◌, ◌⊎◌, ℕ, List, [], ◌∷◌, Option, Some, None, refl, sym, ap, ◌∙◌, subst, slice_index_or}
use Rattle.std.specs.Option.{option_map}
use Rattle.std.specs.Prelude.{Contains}
use Rattle.lsa_pool.specs.laws.Usages.{decided}
use Rattle.rc_registry.specs.Registry.{put_at_number}
use Rattle.rc_memory.specs.Lists.{elem-cases, elem-first, elem-later, elem-none}
use Rattle.rc_memory.specs.Memory.{KeptChain, Memory, chain_at, on_chain}
use Rattle.rc_memory.specs.laws.Put.{put-at, put-beside}

pub none-is-none : (k : KeptChain) → None ≡ Some k → ⊥
none-is-none k e = cc

-- a chain of a number is there, or it is not
pub there-or-not : (P : Type 0) (c : Option KeptChain) → (c ≡ None → P) → ((k : KeptChain) → c ≡ Some k → P) → P
there-or-not P None none some = none refl
there-or-not P (Some k) none some = some k refl

pub among-or : (xs : List ℕ) (i : ℕ) → Contains xs i ⊎ (Contains xs i → ⊥)
among-or [] i = inr (elem-none i)
among-or (x ∷ xs) i = elim (decided x i) [
  | inl here ↦ inl (subst (Contains (x ∷ xs)) here (elem-first x xs))
  | inr ne ↦ elim (among-or xs i) [
    | inl later ↦ inl (elem-later x i xs later)
    | inr out ↦ inr (λ on. elim (elem-cases x i xs on) [ inl e ↦ ne e | inr later ↦ out later ])
  ]
]

pub mapped : (f : KeptChain → KeptChain) (o : Option KeptChain) (k : KeptChain) → option_map f o ≡ Some k → (was : KeptChain) × (o ≡ Some was) × (f was ≡ k)
mapped f None k e = absurd (none-is-none k e)
mapped f (Some was) k e = (was, refl, cc)

module _ (old new : Memory) (id : ℕ) (o : Option KeptChain) (is : new.chains ≡ put_at_number id o old.chains) where
  pub chain-here : chain_at new id ≡ o
  chain-here = ap (λ cs. slice_index_or cs id None) is ∙ put-at old.chains id o

  pub chain-beside : (i : ℕ) → (i ≡ id → ⊥) → chain_at new i ≡ chain_at old i
  chain-beside i ne = ap (λ cs. slice_index_or cs i None) is ∙ put-beside old.chains id o i ne

module _ (old new : Memory) (id : ℕ) (f : KeptChain → KeptChain) (is : new.chains ≡ on_chain id f old.chains) where
  -- what is done to a chain is done to the one of its number
  pub changed-now : (k : KeptChain) → chain_at old id ≡ Some k → chain_at new id ≡ Some (f k)
  changed-now k e = chain-here old new id (option_map f (chain_at old id)) is ∙ ap (option_map f) e

  pub changed-was : (k : KeptChain) → chain_at new id ≡ Some k → (was : KeptChain) × (chain_at old id ≡ Some was) × (f was ≡ k)
  changed-was k e = mapped f (chain_at old id) k (sym (chain-here old new id (option_map f (chain_at old id)) is) ∙ e)

  pub changed-beside : (i : ℕ) → (i ≡ id → ⊥) → chain_at new i ≡ chain_at old i
  changed-beside = chain-beside old new id (option_map f (chain_at old id)) is
