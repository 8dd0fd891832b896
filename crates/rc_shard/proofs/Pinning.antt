-- How many snapshots of chains of the cache are taken, by what stands at each number.
use Rattle.std.proofs.Common.{inl, inr, ◌≡◌, ◌⊎◌, ◌≤◌, ◌+◌, ℕ, zero, suc, Bool, true, false, List, [], ◌∷◌, Option, Some, None, length, refl, sym, ap, ◌∙◌, slice_index_or, cond, sum_by, arith}
use Rattle.std.specs.Prelude.{filter}
use Rattle.std.proofs.lemmas.List.Sums.{sum_by-cons}
use Rattle.rc_registry.specs.ChainKind.{ChainKind}
use Rattle.rc_registry.specs.ChainKind.TheVariants.{Cache, Memtable}
use Rattle.rc_registry.specs.Steps.{pin_at, pins_without}
use Rattle.rc_memory.specs.Kept.{present}
use Rattle.rc_memory.specs.Memory.{KeptChain, Memory, chain_at}
use Rattle.rc_chain.specs.Lives.{is_cache}
use Rattle.rc_lookup.specs.Footprint.{cache_snapshots, is_chain_of, snapshots_of}

-- ---- sums over what is there of a list

-- what stands at a number adds
abbrev pub added_by : {X : Type 0} → (X → ℕ) → Option X → ℕ
added_by f None = 0
added_by f (Some x) = f x

-- what an element adds that a test lets through
abbrev pub through : {X : Type 0} → (X → Bool) → (X → ℕ) → X → ℕ
through p f x = cond (p x) (f x) 0

module _ {X : Type 0} where
  -- a sum over those that a test lets through
  sum-filter : (p : X → Bool) (f : X → ℕ) (xs : List X) → sum_by f (filter p xs) ≡ sum_by (through p f) xs
  sum-filter p f [] = refl
  sum-filter p f (x ∷ xs) =
      elim (p x) as (λ b. sum_by f (cond b (x ∷ filter p xs) (filter p xs)) ≡ cond b (f x) 0 + sum_by (through p f) xs) [
        | true ↦ sum_by-cons f x (filter p xs) ∙ ap (λ n. f x + n) (sum-filter p f xs)
        | false ↦ omega (arith, sum-filter p f xs)
      ] ∙ sym (sum_by-cons (through p f) x xs)

  -- one more in front
  sum-front : (f : X → ℕ) (o : Option X) (xs : List (Option X)) → sum_by f (present (o ∷ xs)) ≡ added_by f o + sum_by f (present xs)
  sum-front f None xs = omega arith
  sum-front f (Some x) xs = sum_by-cons f x (present xs)

  count-front : (o : Option X) (xs : List (Option X)) → length (present (o ∷ xs)) ≡ added_by (λ x. 1) o + length (present xs)
  count-front None xs = omega arith
  count-front (Some x) xs = omega arith

  -- what adds no more at each number has no greater sum
  sum-least : (f : X → ℕ) (xs ys : List (Option X)) → ((n : ℕ) → added_by f (slice_index_or xs n None) ≤ added_by f (slice_index_or ys n None)) → sum_by f (present xs) ≤ sum_by f (present ys)
  sum-least f [] ys h = omega arith
  sum-least f (o ∷ xs) [] h = omega (arith, sum-front f o xs, h 0, sum-least f xs [] (λ n. h (suc n)))
  sum-least f (o ∷ xs) (q ∷ ys) h = omega (arith, sum-front f o xs, sum-front f q ys, h 0, sum-least f xs ys (λ n. h (suc n)))

  -- and what adds less at one of them has a smaller one
  sum-less : (f : X → ℕ) (xs ys : List (Option X)) (i : ℕ) → ((n : ℕ) → added_by f (slice_index_or xs n None) ≤ added_by f (slice_index_or ys n None)) → added_by f (slice_index_or xs i None) + 1 ≤ added_by f (slice_index_or ys i None) → sum_by f (present xs) + 1 ≤ sum_by f (present ys)
  sum-less f xs [] i h less = absurd (omega (arith, less))
  sum-less f [] (q ∷ ys) zero h less = omega (arith, sum-front f q ys, less)
  sum-less f [] (q ∷ ys) (suc i) h less = omega (arith, sum-front f q ys, sum-less f [] ys i (λ n. h (suc n)) less)
  sum-less f (o ∷ xs) (q ∷ ys) zero h less = omega (arith, sum-front f o xs, sum-front f q ys, less, sum-least f xs ys (λ n. h (suc n)))
  sum-less f (o ∷ xs) (q ∷ ys) (suc i) h less = omega (arith, sum-front f o xs, sum-front f q ys, h 0, sum-less f xs ys i (λ n. h (suc n)) less)

-- ---- snapshots of one chain

-- that of which each number is free that was free, or pins what it pinned, has no more
pub pins-least : (ps qs : List (Option ℕ)) → ((pin : ℕ) → pin_at ps pin ≡ pin_at qs pin) → length (present ps) ≤ length (present qs)
pins-least [] qs h = omega arith
pins-least (p ∷ ps) [] h = let none : added_by (λ j. 1) p ≡ 0 = ap (added_by (λ j. 1)) (h 0) in omega (arith, count-front p ps, none, pins-least ps [] (λ n. h (suc n)))
pins-least (p ∷ ps) (q ∷ qs) h = let same : added_by (λ j. 1) p ≡ added_by (λ j. 1) q = ap (added_by (λ j. 1)) (h 0) in omega (arith, count-front p ps, count-front q qs, same, pins-least ps qs (λ n. h (suc n)))

-- one that is taken back is one less
pub pins-less : (pin : ℕ) (ps : List (Option ℕ)) (j : ℕ) → pin_at ps pin ≡ Some j → length (present (pins_without pin ps)) + 1 ≡ length (present ps)
pins-less pin [] j e = absurd (let none : None ≡ Some j = e in cc none)
pins-less zero (p ∷ ps) j e = let one : added_by (λ j. 1) p ≡ 1 = ap (added_by (λ j. 1)) e in omega (arith, count-front p ps, one)
pins-less (suc i) (p ∷ ps) j e = omega (arith, count-front p (pins_without i ps), count-front p ps, pins-less i ps j e)

-- ---- those of all chains of the cache

-- what a chain adds
abbrev snapped : KeptChain → ℕ
snapped = through (is_chain_of Cache) snapshots_of

snapped-cache : (k : KeptChain) → k.chain.kind ≡ Cache → snapped k ≡ snapshots_of k
snapped-cache k e = ap (λ kind. cond (is_cache kind) (snapshots_of k) 0) e

snapped-memtable : (k : KeptChain) → k.chain.kind ≡ Memtable → snapped k ≡ 0
snapped-memtable k e = ap (λ kind. cond (is_cache kind) (snapshots_of k) 0) e

kind-or : (kind : ChainKind) → (kind ≡ Memtable) ⊎ (kind ≡ Cache)
kind-or Memtable = inl refl
kind-or Cache = inr refl

snapshots-are : (m : Memory) → cache_snapshots m ≡ sum_by snapped (present m.chains)
snapshots-are m = sum-filter (is_chain_of Cache) snapshots_of (present m.chains)

-- each chain of the cache was one that had as many snapshots at least
abbrev pub HaveNoMore : Memory → Memory → Type 0
HaveNoMore old new = (id : ℕ) (n : KeptChain) → chain_at new id ≡ Some n → n.chain.kind ≡ Cache → (k : KeptChain) × (chain_at old id ≡ Some k) × (k.chain.kind ≡ Cache) × (snapshots_of n ≤ snapshots_of k)

module _ (old new : Memory) (h : HaveNoMore old new) where
  no-more-at : (id : ℕ) (o : Option KeptChain) → chain_at new id ≡ o → added_by snapped o ≤ added_by snapped (chain_at old id)
  no-more-at id None e = omega arith
  no-more-at id (Some n) e = elim (kind-or n.chain.kind) [
    | inl memtable ↦ (let none = snapped-memtable n memtable in omega (arith, none))
    | inr cached ↦ (let was = h id n e cached in let before : added_by snapped (chain_at old id) ≡ snapped was.0 = ap (added_by snapped) was.1 in let one = snapped-cache n cached in let two = snapped-cache was.0 was.2 in let less = was.3 in omega (arith, before, one, two, less))
  ]

  -- so there are no more of all
  pub snapshots-least : cache_snapshots new ≤ cache_snapshots old
  snapshots-least = omega (arith, snapshots-are new, snapshots-are old, sum-least snapped new.chains old.chains (λ id. no-more-at id (chain_at new id) refl))

  less-at : (id : ℕ) (k : KeptChain) → chain_at old id ≡ Some k → k.chain.kind ≡ Cache → ((n : KeptChain) → chain_at new id ≡ Some n → snapshots_of n + 1 ≤ snapshots_of k) → 1 ≤ snapshots_of k → (o : Option KeptChain) → chain_at new id ≡ o → added_by snapped o + 1 ≤ added_by snapped (chain_at old id)
  less-at id k e cached less some None f = (let before : added_by snapped (chain_at old id) ≡ snapped k = ap (added_by snapped) e in let one = snapped-cache k cached in omega (arith, before, one, some))
  less-at id k e cached less some (Some n) f =
      let before : added_by snapped (chain_at old id) ≡ snapped k = ap (added_by snapped) e in
      let one = snapped-cache k cached in
      elim (kind-or n.chain.kind) [
        | inl memtable ↦ (let none = snapped-memtable n memtable in omega (arith, before, one, some, none))
        | inr now ↦ (let two = snapped-cache n now in let fewer = less n f in omega (arith, before, one, two, fewer))
      ]

  -- and one less where a chain has one less, or is gone
  pub snapshots-less : (id : ℕ) (k : KeptChain) → chain_at old id ≡ Some k → k.chain.kind ≡ Cache → ((n : KeptChain) → chain_at new id ≡ Some n → snapshots_of n + 1 ≤ snapshots_of k) → 1 ≤ snapshots_of k → cache_snapshots new + 1 ≤ cache_snapshots old
  snapshots-less id k e cached less some =
      omega (arith, snapshots-are new, snapshots-are old, sum-less snapped new.chains old.chains id (λ i. no-more-at i (chain_at new i) refl) (less-at id k e cached less some (chain_at new id) refl))
