-- The chain of a number, and those of others, where one is put there.
use Rattle.std.proofs.Common.{inl, inr, ◌≡◌, ◌≢◌, ◌⊎◌, ℕ, List, [], ◌∷◌, Option, Some, None, refl, sym, ap, ◌∙◌, subst, slice_index_or}
use Rattle.std.specs.Option.{option_map}
use Rattle.std.specs.Prelude.{Contains}
use Rattle.lsa_pool.specs.laws.Usages.{decided}
use Rattle.rc_partition.specs.laws.Lists.{elem-cases, elem-first, elem-later, elem-none}
use Rattle.rc_registry.specs.Registry.{IsNumberIn, put_at_number}
use Rattle.rc_memory.specs.Memory.{KeptChain, Memory, chain_at, on_chain}
use Rattle.rc_memory.specs.laws.Put.{put-at, put-beside}

pub none-is-none : {X : Type 0} (x : X) → None ≡ Some x → ⊥
none-is-none x e = cc

-- a chain of a number is there, or it is not
pub there-or-not : {P : Type 0} (c : Option KeptChain) → (c ≡ None → P) → ((k : KeptChain) → c ≡ Some k → P) → P
there-or-not None none some = none refl
there-or-not (Some k) none some = some k refl

-- what holds of this number, and of each other one, holds of each
pub here-or-beside : (P : ℕ → Type 0) (id i : ℕ) → P id → (i ≢ id → P i) → P i
here-or-beside P id i here beside = elim (decided i id) [ inl same ↦ subst P (sym same) here | inr ne ↦ beside ne ]

pub among-or : (xs : List ℕ) (i : ℕ) → Contains xs i ⊎ (Contains xs i → ⊥)
among-or [] i = inr (elem-none i)
among-or (x ∷ xs) i = elim (decided x i) [
  | inl here ↦ inl (subst (Contains (x ∷ xs)) here (elem-first x xs))
  | inr ne ↦ elim (among-or xs i) [
    | inl later ↦ inl (elem-later x i xs later)
    | inr out ↦ inr (λ on. elim (elem-cases x i xs on) [ inl e ↦ ne e | inr later ↦ out later ])
  ]
]

pub number-or : (ids : List ℕ) (id : ℕ) → IsNumberIn ids id ⊎ (IsNumberIn ids id → ⊥)
number-or [] id = inr (λ on. on)
number-or (n ∷ ids) id = elim (decided n id) [
  | inl here ↦ inl (inl here)
  | inr ne ↦ elim (number-or ids id) [ inl later ↦ inl (inr later) | inr out ↦ inr (λ on. elim on [ inl e ↦ ne e | inr later ↦ out later ]) ]
]

module _ (old new : Memory) (id : ℕ) (c : Option KeptChain) (is : new.chains ≡ put_at_number id c old.chains) where
  pub chain-here : chain_at new id ≡ c
  chain-here = ap (λ cs. slice_index_or cs id None) is ∙ put-at old.chains id c

  pub chain-beside : (i : ℕ) → i ≢ id → chain_at new i ≡ chain_at old i
  chain-beside i ne = ap (λ cs. slice_index_or cs i None) is ∙ put-beside old.chains id c i ne

pub mapped : (f : KeptChain → KeptChain) (o : Option KeptChain) (k : KeptChain) → option_map f o ≡ Some k → (was : KeptChain) × (o ≡ Some was) × (f was ≡ k)
mapped f None k e = absurd (none-is-none k e)
mapped f (Some was) k e = (was, refl, cc)

module _ (old new : Memory) (id : ℕ) (f : KeptChain → KeptChain) (is : new.chains ≡ on_chain id f old.chains) where
  -- what is done to a chain is done to the one of its number
  pub changed-now : (k : KeptChain) → chain_at old id ≡ Some k → chain_at new id ≡ Some (f k)
  changed-now k e = chain-here old new id (option_map f (chain_at old id)) is ∙ ap (option_map f) e

  pub changed-was : (k : KeptChain) → chain_at new id ≡ Some k → (was : KeptChain) × (chain_at old id ≡ Some was) × (f was ≡ k)
  changed-was k e = mapped f (chain_at old id) k (sym (chain-here old new id (option_map f (chain_at old id)) is) ∙ e)

  pub changed-beside : (i : ℕ) → i ≢ id → chain_at new i ≡ chain_at old i
  changed-beside = chain-beside old new id (option_map f (chain_at old id)) is

-- a number is there, or it is not
pub number-there : {P : Type 0} (o : Option ℕ) → (o ≡ None → P) → ((n : ℕ) → o ≡ Some n → P) → P
number-there None none some = none refl
number-there (Some n) none some = some n refl
