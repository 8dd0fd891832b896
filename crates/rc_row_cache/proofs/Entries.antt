-- Evictions leave the entries: the chain of each is there, or its number is to be told.
use Rattle.std.proofs.Common.{inl, inr, ◌≡◌, ◌⊎◌, ℕ, List, [], ◌∷◌, Some, None, sym, ap, ◌∙◌, subst}
use Rattle.std.specs.Option.{option_map}
use Rattle.std.specs.Prelude.{Contains}
use Rattle.rc_partition.specs.laws.Lists.{elem-cases, elem-first, elem-later, elem-none}
use Rattle.rc_registry.specs.Registry.{IsNumberIn}
use Rattle.rc_registry.specs.laws.Numbers.{IsOneOf-back, IsOneOf-front, IsOneOf-parts}
use Rattle.rc_memory.specs.Memory.{KeptChain, Member, Memory, chain_at}
use Rattle.rc_filler.specs.Evictions.{AreEvicted, evicted_of}
use Rattle.rc_entries.specs.Entries.{IsUsedAlike, LeavesCached}
use Rattle.rc_row_cache.proofs.Numbered.{among-or}

among-number : (xs : List ℕ) (i : ℕ) → Contains xs i → IsNumberIn xs i
among-number [] i h = absurd (elem-none i h)
among-number (x ∷ xs) i h = elim (elem-cases x i xs h) [ inl same ↦ inl same | inr later ↦ inr (among-number xs i later) ]

number-among : (xs : List ℕ) (i : ℕ) → IsNumberIn xs i → Contains xs i
number-among [] i h = absurd h
number-among (x ∷ xs) i (inl here) = subst (Contains (x ∷ xs)) here (elem-first x xs)
number-among (x ∷ xs) i (inr later) = elem-later x i xs (number-among xs i later)

pub evicted-leaves : ((old new : Memory) → ((id : ℕ) (k : KeptChain) → chain_at old id ≡ Some k → IsUsedAlike new id k ⊎ IsNumberIn new.dropped id) → ((id : ℕ) → chain_at old id ≡ None → chain_at new id ≡ None) →
    ((id : ℕ) → IsNumberIn old.dropped id → IsNumberIn new.dropped id) → ((id : ℕ) → IsNumberIn new.dropped id → chain_at new id ≡ None) → LeavesCached old new) →
    ((id : ℕ) (went : List Member) (k : KeptChain) → (evicted_of id went k).chain.kind ≡ k.chain.kind) → ((id : ℕ) (went : List Member) (k : KeptChain) → (evicted_of id went k).chain.attached ≡ k.chain.attached) →
    ((went : List Member) (gone : List ℕ) (old new : Memory) (id : ℕ) → AreEvicted went gone old new → chain_at old id ≡ None → chain_at new id ≡ None) →
    (went : List Member) (gone : List ℕ) (old new : Memory) → ((id : ℕ) → IsNumberIn old.dropped id → chain_at old id ≡ None) → AreEvicted went gone old new → LeavesCached old new
evicted-leaves several kind attached absent went gone old new told a = several old new
    (λ id k e. elim (among-or gone id) [
      | inl on ↦ inr (subst (λ ns. IsNumberIn ns id) (sym a.dropped) (IsOneOf-back old.dropped gone id (among-number gone id on)))
      | inr off ↦ inl (record { now = evicted_of id went k; there = a.chains id off ∙ ap (option_map (evicted_of id went)) e; kind = kind id went k; attached = attached id went k })
    ])
    (λ id e. absent went gone old new id a e)
    (λ id on. subst (λ ns. IsNumberIn ns id) (sym a.dropped) (IsOneOf-front old.dropped gone id on))
    (λ id on. elim (IsOneOf-parts old.dropped gone id (subst (λ ns. IsNumberIn ns id) a.dropped on)) [
      | inl before ↦ absent went gone old new id a (told id before)
      | inr now ↦ a.absent id (number-among gone id now)
    ])
