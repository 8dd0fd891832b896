-- The chains of a shard, counted one after another.
use Rattle.std.proofs.Common.{◌≡◌, ◌≤◌, ◌<◌, ◌+◌, ◌-◌, ◌^◌, ℕ, zero, suc, List, [], ◌∷◌, Option, Some, None, length, refl, sym, ap, ◌∙◌, subst, slice_index_or, take, sum_by, arith}
use Rattle.std.specs.Prelude.{IfNone, IfSome, IsSome}
use Rattle.rc_registry.specs.Registry.{IsAfter}
use Rattle.rc_memory.specs.Kept.{IsSoundChain, present}
use Rattle.rc_memory.specs.Memory.{KeptChain, Memory, IsNextChain, chain_at}
use Rattle.rc_memory.specs.Room.{chain_objects}
use Rattle.rc_census.specs.declared.figures.Census.{Census}
use Rattle.rc_census.specs.Census.{census_of, chain_dummies, chain_rows}
use Rattle.rc_census.specs.calls.Weights.{dummies_added, partitions_added, rows_added}
use Rattle.rc_census.proofs.Sums.{sum-one, sum-under}
use Rattle.rc_census.proofs.Taken.{sum-all, sum-more, sum-part}
use Rattle.rc_census.proofs.Weighed.{census-is, dummies-added-few, dummies-few, partitions-added-few, rows-added-few, rows-few}

-- the number from which on chains are to be counted
abbrev pub first_after : Option ℕ → ℕ
first_after None = 0
first_after (Some a) = suc a

after-first : (after : Option ℕ) (n : ℕ) → IsAfter after n → first_after after ≤ n
after-first None n h = omega arith
after-first (Some a) n h = omega (arith, h)

first-after : (after : Option ℕ) (n : ℕ) → first_after after ≤ n → IsAfter after n
first-after None n h = tt
first-after (Some a) n h = omega (arith, h)

-- the chains below a number are counted
pub record AreCountedBelow (m : Memory) (first : ℕ) (census : Census) : Type 0 where
  pub partitions : census.partitions ≡ sum_by partitions_added (present (take first m.chains))
  pub rows : census.rows ≡ sum_by rows_added (present (take first m.chains))
  pub dummies : census.dummies ≡ sum_by dummies_added (present (take first m.chains))
  pub few : census.partitions ≤ sum_by chain_objects (present (take first m.chains))

pub count-begun : (m : Memory) (census : Census) → census.partitions ≡ 0 → census.rows ≡ 0 → census.dummies ≡ 0 → AreCountedBelow m 0 census
count-begun m census p r d = record { partitions = p; rows = r; dummies = d; few = omega (arith, p) }

module _ (m : Memory) (few : sum_by chain_objects (present m.chains) < 2 ^ 64) where
  -- no chain adds too much
  pub rows-fit : (id : ℕ) (k : KeptChain) → chain_at m id ≡ Some k → chain_rows k < 2 ^ 64
  rows-fit id k there = omega (arith, few, rows-few k, sum-one chain_objects m.chains id k there)

  pub dummies-fit : (id : ℕ) (k : KeptChain) → chain_at m id ≡ Some k → chain_dummies k < 2 ^ 64
  dummies-fit id k there = omega (arith, few, dummies-few k, sum-one chain_objects m.chains id k there)

  module _ (after : Option ℕ) (census : Census) (h : AreCountedBelow m (first_after after) census) (id : ℕ) (next : IsNextChain m after id) (k : KeptChain) (there : chain_at m id ≡ Some k) where
    -- one chain more of what each adds
    more : (f : KeptChain → ℕ) → sum_by f (present (take (suc id) m.chains)) ≡ sum_by f (present (take (first_after after) m.chains)) + f k
    more f = sum-more f m.chains (first_after after) id k (after-first after id next.behind) (λ i low high. next.least i (first-after after i low) high) there

    -- there is room for it
    pub partitions-room : IsSoundChain k.chain → census.partitions + partitions_added k < 2 ^ 64
    partitions-room sound = let below = h.few in omega (arith, few, below, partitions-added-few k sound.some, more chain_objects, sum-part chain_objects m.chains (suc id))

    room : (f : KeptChain → ℕ) → ((q : KeptChain) → f q ≤ chain_objects q) → (n : ℕ) → n ≡ sum_by f (present (take (first_after after) m.chains)) → n + f k < 2 ^ 64
    room f under n is = omega (arith, few, is, more f, sum-part f m.chains (suc id), sum-under f chain_objects under (present m.chains))

    pub rows-room : census.rows + rows_added k < 2 ^ 64
    rows-room = room rows_added rows-added-few census.rows h.rows

    pub dummies-room : census.dummies + dummies_added k < 2 ^ 64
    dummies-room = room dummies_added dummies-added-few census.dummies h.dummies

    -- it is counted
    pub count-more : IsSoundChain k.chain → (now : Census) → now.partitions ≡ census.partitions + partitions_added k → now.rows ≡ census.rows + rows_added k → now.dummies ≡ census.dummies + dummies_added k → AreCountedBelow m (suc id) now
    count-more sound now p r d = record {
      partitions = p ∙ ap (λ n. n + partitions_added k) h.partitions ∙ sym (more partitions_added);
      rows = r ∙ ap (λ n. n + rows_added k) h.rows ∙ sym (more rows_added);
      dummies = d ∙ ap (λ n. n + dummies_added k) h.dummies ∙ sym (more dummies_added);
      few = let below = h.few in omega (arith, p, below, partitions-added-few k sound.some, more chain_objects);
    }

-- where no chain is left all are counted
pub count-ended : (m : Memory) (after : Option ℕ) (census : Census) → AreCountedBelow m (first_after after) census → ((n : ℕ) → IsAfter after n → chain_at m n ≡ None) → census ≡ census_of m
count-ended m after census h none =
    let gap = λ (i : ℕ) (low : first_after after ≤ i). none i (first-after after i low) in
    census-is m.chains census (h.partitions ∙ sym (sum-all partitions_added m.chains (first_after after) gap)) (h.rows ∙ sym (sum-all rows_added m.chains (first_after after) gap)) (h.dummies ∙ sym (sum-all dummies_added m.chains (first_after after) gap))

low-there : {X : Type 0} (xs : List (Option X)) (n : ℕ) → IsSome (slice_index_or xs n None) → n < length xs
low-there [] n h = cc h
low-there (z ∷ xs) zero h = omega arith
low-there (z ∷ xs) (suc n) h = omega (arith, low-there xs n h)

-- fewer are left
pub count-smaller : (m : Memory) (after : Option ℕ) (id : ℕ) → IsNextChain m after id → length m.chains - suc id < length m.chains - first_after after
count-smaller m after id next = omega (arith, low-there m.chains id next.there, after-first after id next.behind)

-- a chain that is there is sound
pub sound-there : (m : Memory) (id : ℕ) (k : KeptChain) → chain_at m id ≡ Some k → IfSome (chain_at m id) (λ q. IsSoundChain q.chain) → IsSoundChain k.chain
sound-there m id k there sound = told (chain_at m id) there sound
  where
    told : (o : Option KeptChain) → o ≡ Some k → IfSome o (λ q. IsSoundChain q.chain) → IsSoundChain k.chain
    told None e sound = cc e
    told (Some q) e sound = let P : KeptChain → Type 0 = λ x. IsSoundChain x.chain in let same : q ≡ k = cc e in subst P same sound

pub none-of : (o : Option ℕ) (P : Type 0) → ((x : ℕ) → o ≡ Some x → ⊥) → IfNone o P → P
none-of None P none h = h
none-of (Some x) P none h = absurd (none x refl)
