-- The chain of a reader's snapshot of the row cache is no entry's but that of its partition.
use Rattle.std.proofs.Common.{◌≡◌, ◌<◌, ℕ, zero, suc, List, [], ◌∷◌, ◌++◌, length, get_or, remove, set, Option, Some, None, IfSome, sym, subst, arith}
use Rattle.std.specs.List.{AllByRecursion, AllZip}
use Rattle.rc_mutation.specs.declared.mutations.Mutation.{Mutation}
use Rattle.rc_query.specs.declared.lines.OutLine.{OutLine}
use Rattle.rc_memory.specs.Memory.{Memory}
use Rattle.rc_chain.specs.declared.chains.Snap.{Snap}
use Rattle.rc_cached.specs.Stands.{HasCacheSnapshot}
use Rattle.rc_lookup.specs.Found.{entry_number}
use Rattle.rc_paging.specs.declared.forms.PartReader.{PartReader}
use Rattle.rc_machine.specs.State.{Reader, State}
use Rattle.rc_shard.specs.declared.readers.PartitionReader.{PartitionReader}
use Rattle.rc_shard.specs.Readers.{IsCachedThere, IsOfItsKey, IsServed, cached_of}

module _ (entries : List (List ℕ × ℕ)) where
  -- a reader of the same partition that holds the same snapshot
  pub of-same : (x d : ℕ × PartitionReader) → cached_of x.1 ≡ cached_of d.1 → x.1.key ≡ d.1.key → IsOfItsKey entries d → IsOfItsKey entries x
  of-same x d snap key h = subst (λ (o : Option Snap). IfSome o (λ s. (q : List ℕ) → entry_number entries q ≡ Some s.chain → q ≡ x.1.key)) (sym snap) (subst (λ (own : List ℕ). IfSome (cached_of d.1) (λ s. (q : List ℕ) → entry_number entries q ≡ Some s.chain → q ≡ own)) (sym key) h)

  -- one that holds none
  pub of-none : (x : ℕ × PartitionReader) → cached_of x.1 ≡ None → IsOfItsKey entries x
  of-none x none = subst (λ (o : Option Snap). IfSome o (λ s. (q : List ℕ) → entry_number entries q ≡ Some s.chain → q ≡ x.1.key)) (sym none) tt

  pub of-at : (os : List (ℕ × PartitionReader)) (at : ℕ) (d : ℕ × PartitionReader) → at < length os → get_or os at d ≡ d → AllByRecursion (IsOfItsKey entries) os → IsOfItsKey entries d
  of-at [] at d l here h = absurd (omega (arith, l))
  of-at (o ∷ os) zero d l here h = subst (IsOfItsKey entries) here h.0
  of-at (o ∷ os) (suc at) d l here h = of-at os at d (omega (arith, l)) here h.1

  pub of-set : (os : List (ℕ × PartitionReader)) (at : ℕ) (x : ℕ × PartitionReader) → IsOfItsKey entries x → AllByRecursion (IsOfItsKey entries) os → AllByRecursion (IsOfItsKey entries) (set os at x)
  of-set [] at x new h = tt
  of-set (o ∷ os) zero x new h = (new, h.1)
  of-set (o ∷ os) (suc at) x new h = (h.0, of-set os at x new h.1)

  pub of-more : (os : List (ℕ × PartitionReader)) (x : ℕ × PartitionReader) → IsOfItsKey entries x → AllByRecursion (IsOfItsKey entries) os → AllByRecursion (IsOfItsKey entries) (os ++ x ∷ [])
  of-more [] x new h = (new, tt)
  of-more (o ∷ os) x new h = (h.0, of-more os x new h.1)

  pub of-fewer : (os : List (ℕ × PartitionReader)) (at : ℕ) → AllByRecursion (IsOfItsKey entries) os → AllByRecursion (IsOfItsKey entries) (remove os at)
  of-fewer [] zero h = tt
  of-fewer [] (suc at) h = tt
  of-fewer (o ∷ os) zero h = h.1
  of-fewer (o ∷ os) (suc at) h = (h.0, of-fewer os at h.1)

-- entries of chains of which snapshots are there were entries before
module _ (m : Memory) (a b : List (List ℕ × ℕ)) (were : (id pin : ℕ) → HasCacheSnapshot m id pin → (key : List ℕ) → entry_number b key ≡ Some id → entry_number a key ≡ Some id) where
  of-still : (x : ℕ × PartitionReader) (o : Option Snap) → IsCachedThere m o → IfSome o (λ s. (q : List ℕ) → entry_number a q ≡ Some s.chain → q ≡ x.1.key) → IfSome o (λ s. (q : List ℕ) → entry_number b q ≡ Some s.chain → q ≡ x.1.key)
  of-still x None there h = tt
  of-still x (Some s) there h = λ q found. h q (were s.chain s.pin there q found)

  pub all-still : (lines : PartReader → Memory → List Mutation → List OutLine → Type 0) (below : ℕ → List Mutation) (st : State) (os : List (ℕ × PartitionReader)) (rs : List (ℕ × Reader)) → AllZip (IsServed lines below st m) os rs → AllByRecursion (IsOfItsKey a) os → AllByRecursion (IsOfItsKey b) os
  all-still lines below st [] rs served h = tt
  all-still lines below st (o ∷ os) [] served h = absurd served
  all-still lines below st (o ∷ os) (r ∷ rs) served h = (of-still o (cached_of o.1) served.0.held.cached h.0, all-still lines below st os rs served.1 h.1)

-- entries that were there before
pub fewer-entries : (a b : List (List ℕ × ℕ)) → ((key : List ℕ) (id : ℕ) → entry_number b key ≡ Some id → entry_number a key ≡ Some id) → (os : List (ℕ × PartitionReader)) → AllByRecursion (IsOfItsKey a) os → AllByRecursion (IsOfItsKey b) os
fewer-entries a b were [] h = tt
fewer-entries a b were (o ∷ os) h = (here (cached_of o.1) h.0, fewer-entries a b were os h.1)
  where
    here : (s : Option Snap) → IfSome s (λ s. (q : List ℕ) → entry_number a q ≡ Some s.chain → q ≡ o.1.key) → IfSome s (λ s. (q : List ℕ) → entry_number b q ≡ Some s.chain → q ≡ o.1.key)
    here None h = tt
    here (Some s) h = λ q found. h q (were q s.chain found)
