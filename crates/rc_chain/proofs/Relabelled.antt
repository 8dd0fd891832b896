-- Chains whose newest versions get another phase, one after another.
use Rattle.std.proofs.Common.{◌≡◌, ◌≢◌, ℕ, zero, suc, ◌<◌, ◌≤◌, ◌-◌, true, false, List, [], ◌∷◌, Option, Some, None, IsSome, length, inl, inr, refl, sym, ap, ◌∙◌, subst, map, slice_index_or, cond, arith}
use Rattle.std.specs.Prelude.{IfNone, IsSomeAnd, ◌⊎◌}
use Rattle.std.specs.Option.{option_map}
use Rattle.lsa_pool.specs.Room.{spare_of}
use Rattle.lsa_pool.specs.laws.Usages.{decided}
use Rattle.rc_core.specs.Steps.{on_newest, on_version, with_phase}
use Rattle.rc_core.specs.Version.{Version}
use Rattle.rc_registry.specs.Registry.{IsAfter, put_at_number}
use Rattle.rc_memory.specs.Memory.{KeptChain, Memory, HasVersion, IsNextChain, chain_at, on_chain, on_shown, on_version_of, shown_with}
use Rattle.rc_memory.specs.Kept.{IsSoundChain}
use Rattle.rc_memory.specs.Changes.{IsUnmoved, IsVersionChanged, Nowhere, StandStill}
use Rattle.rc_memory.specs.laws.Put.{put-at, put-beside}
use Rattle.rc_memory.specs.laws.Standing.{at-mapped}
use Rattle.rc_memory.specs.laws.Still.{still-itself, still-then, unmoved-itself, unmoved-then}
use Rattle.rc_chain.specs.Lives.{IsChainChanged, IsRelabelled, relabelled_chain}
use Rattle.rc_chain.proofs.Ended.{on-itself}
use Rattle.rc_chain.proofs.Made.{on-alike}

-- ---- lists

put-long : {X : Type 0} (xs : List (Option X)) (n : ℕ) (x y : Option X) → IsSome (slice_index_or xs n None) → length (put_at_number n x xs) ≡ length xs
put-long [] n x y h = cc h
put-long (z ∷ xs) zero x y h = refl
put-long (z ∷ xs) (suc n) x y h = ap suc (put-long xs n x y h)

low-there : {X : Type 0} (xs : List (Option X)) (n : ℕ) → IsSome (slice_index_or xs n None) → n < length xs
low-there [] n h = cc h
low-there (z ∷ xs) zero h = omega arith
low-there (z ∷ xs) (suc n) h = omega (arith, low-there xs n h)

same-read : {X : Type 0} (xs ys : List (Option X)) → length xs ≡ length ys → ((n : ℕ) → slice_index_or xs n None ≡ slice_index_or ys n None) → xs ≡ ys
same-read [] [] e h = refl
same-read [] (y ∷ ys) e h = absurd (omega (arith, e))
same-read (x ∷ xs) [] e h = absurd (omega (arith, e))
same-read (x ∷ xs) (y ∷ ys) e h = let rest = same-read xs ys (omega (arith, e)) (λ n. h (suc n)) in λ i. h 0 i ∷ rest i

mapped-long : {X Y : Type 0} (f : X → Y) (xs : List X) → length (map f xs) ≡ length xs
mapped-long f [] = refl
mapped-long f (x ∷ xs) = ap suc (mapped-long f xs)

-- ---- one chain

newest-on : (f : Version → Version) (vs : List Version) (j : ℕ) → suc j ≡ length vs → on_version j f vs ≡ on_newest f vs
newest-on f [] j e = refl
newest-on f (v ∷ []) zero e = refl
newest-on f (v ∷ []) (suc j) e = cc e
newest-on f (v ∷ w ∷ vs) zero e = cc e
newest-on f (v ∷ w ∷ vs) (suc j) e = ap (λ l. v ∷ l) (newest-on f (w ∷ vs) j (cc e))

module _ (to : ℕ) (m n : Memory) (id : ℕ) where
  pub relabelled-attached : (j : ℕ) → ((k : KeptChain) → chain_at m id ≡ Some k → (k.chain.attached ≡ true) × (suc j ≡ length k.chain.versions)) → IsVersionChanged id j (with_phase to) Nowhere m n → n.recency ≡ m.recency → IsChainChanged id (relabelled_chain to) m.recency m n
  relabelled-attached j is h same = record {
    chains = h.chains ∙ on-alike m.chains id (on_shown (on_version_of j (with_phase to))) (relabelled_chain to)
        (λ k e. ap (λ vs. on_shown (λ c. shown_with vs c) k) (newest-on (with_phase to) k.chain.versions j (is k e).1)
        ∙ ap (λ b. cond b (on_shown (λ c. shown_with (on_newest (with_phase to) c.versions) c) k) k) (sym (is k e).0));
    recency = same;
    dropped = h.dropped;
    counts = h.counts;
    still = h.still;
    region = h.region;
  }

  pub relabelled-detached : (k : KeptChain) → chain_at m id ≡ Some k → k.chain.attached ≡ false → IsChainChanged id (relabelled_chain to) m.recency m m
  relabelled-detached k e off = record {
    chains = on-itself m.chains id (relabelled_chain to) k e (ap (λ b. cond b (on_shown (λ c. shown_with (on_newest (with_phase to) c.versions) c) k) k) off);
    recency = refl;
    dropped = refl;
    counts = refl;
    still = still-itself Nowhere m;
    region = unmoved-itself m.region;
  }

-- ---- all chains

-- the number from which on chains are to be relabelled
abbrev pub first_after : Option ℕ → ℕ
first_after None = 0
first_after (Some a) = suc a

after-first : (after : Option ℕ) (n : ℕ) → IsAfter after n → first_after after ≤ n
after-first None n h = omega arith
after-first (Some a) n h = omega (arith, h)

first-after : (after : Option ℕ) (n : ℕ) → first_after after ≤ n → IsAfter after n
first-after None n h = tt
first-after (Some a) n h = omega (arith, h)

-- the chains below a number have the phase
pub record IsRelabelledBelow (S to first : ℕ) (old now : Memory) : Type 0 where
  pub long : length now.chains ≡ length old.chains
  pub below : (n : ℕ) → n < first → chain_at now n ≡ option_map (relabelled_chain to) (chain_at old n)
  pub ahead : (n : ℕ) → first ≤ n → chain_at now n ≡ chain_at old n
  pub recency : now.recency ≡ old.recency
  pub dropped : now.dropped ≡ old.dropped
  pub counts : now.counts ≡ old.counts
  pub still : StandStill Nowhere old now
  pub region : IsUnmoved old.region now.region
  pub spare : spare_of S now.region.usages ≡ spare_of S old.region.usages

pub relabelled-start : (S to : ℕ) (m : Memory) → IsRelabelledBelow S to 0 m m
relabelled-start S to m = record { long = refl; below = λ n h. absurd (omega (arith, h)); ahead = λ n h. refl; recency = refl; dropped = refl; counts = refl; still = still-itself Nowhere m; region = unmoved-itself m.region; spare = refl }

module _ (S to : ℕ) (old now : Memory) (after : Option ℕ) (h : IsRelabelledBelow S to (first_after after) old now) where
  module _ (id : ℕ) (next : IsNextChain now after id) (new : Memory) (c : IsChainChanged id (relabelled_chain to) now.recency now new) (spare : spare_of S new.region.usages ≡ spare_of S now.region.usages) where
    done : Option KeptChain
    done = option_map (relabelled_chain to) (slice_index_or now.chains id None)

    read : (n : ℕ) → chain_at new n ≡ slice_index_or (on_chain id (relabelled_chain to) now.chains) n None
    read n = ap (λ cs. slice_index_or cs n None) c.chains

    same-at : (n : ℕ) → n ≢ id → chain_at new n ≡ chain_at now n
    same-at n ne = read n ∙ put-beside now.chains id (option_map (relabelled_chain to) (slice_index_or now.chains id None)) n ne

    one_below : (n : ℕ) → n < suc id → chain_at new n ≡ option_map (relabelled_chain to) (chain_at old n)
    one_below n low = elim (decided n id) [
      | inl here ↦ ap (λ i. chain_at new i) here ∙ read id ∙ put-at now.chains id (option_map (relabelled_chain to) (slice_index_or now.chains id None)) ∙ ap (option_map (relabelled_chain to)) (h.ahead id (after-first after id next.behind)) ∙ ap (λ i. option_map (relabelled_chain to) (chain_at old i)) (sym here)
      | inr ne ↦ same-at n ne ∙ elim (low_or n (first_after after)) [
        | inl under ↦ h.below n under
        | inr over ↦ let none : chain_at now n ≡ None = next.least n (first-after after n over) (omega (arith, low, ne)) in none ∙ ap (option_map (relabelled_chain to)) (sym none ∙ h.ahead n over)
      ]
    ] where
      low_or : (a b : ℕ) → (a < b) ⊎ (b ≤ a)
      low_or a zero = inr (omega arith)
      low_or zero (suc b) = inl (omega arith)
      low_or (suc a) (suc b) = elim (low_or a b) [ inl x ↦ inl (omega (arith, x)) | inr x ↦ inr (omega (arith, x)) ]

    pub relabelled-step : IsRelabelledBelow S to (suc id) old new
    relabelled-step = record {
      long = ap length c.chains ∙ put-long now.chains id (option_map (relabelled_chain to) (slice_index_or now.chains id None)) None next.there ∙ h.long;
      below = one_below;
      ahead = λ n low. same-at n (λ e. omega (arith, e, low)) ∙ h.ahead n (omega (arith, low, after-first after id next.behind));
      recency = c.recency ∙ h.recency;
      dropped = c.dropped ∙ h.dropped;
      counts = c.counts ∙ h.counts;
      still = still-then Nowhere old now new h.still c.still;
      region = unmoved-then old.region now.region new.region h.region c.region;
      spare = spare ∙ h.spare;
    }

    pub relabelled-smaller : length new.chains - suc id < length now.chains - first_after after
    relabelled-smaller = let long = ap length c.chains ∙ put-long now.chains id (option_map (relabelled_chain to) (slice_index_or now.chains id None)) None next.there in omega (arith, long, low-there now.chains id next.there, after-first after id next.behind)

  pub relabelled-all : ((n : ℕ) → IsAfter after n → chain_at now n ≡ None) → IsRelabelled to old now
  relabelled-all none = record {
    chains = same-read now.chains (map (option_map (relabelled_chain to)) old.chains) (h.long ∙ sym (mapped-long (option_map (relabelled_chain to)) old.chains)) (λ n. each n ∙ sym (at-mapped (relabelled_chain to) old.chains n));
    recency = h.recency;
    dropped = h.dropped;
    counts = h.counts;
    still = h.still;
    region = h.region;
  } where
    low_or : (a b : ℕ) → (a < b) ⊎ (b ≤ a)
    low_or a zero = inr (omega arith)
    low_or zero (suc b) = inl (omega arith)
    low_or (suc a) (suc b) = elim (low_or a b) [ inl x ↦ inl (omega (arith, x)) | inr x ↦ inr (omega (arith, x)) ]

    each : (n : ℕ) → chain_at now n ≡ option_map (relabelled_chain to) (chain_at old n)
    each n = elim (low_or n (first_after after)) [
      | inl under ↦ h.below n under
      | inr over ↦ let nothing = none n (first-after after n over) in nothing ∙ ap (option_map (relabelled_chain to)) (sym nothing ∙ h.ahead n over)
    ]

pub newest-there : (m : Memory) (id : ℕ) (k : KeptChain) → chain_at m id ≡ Some k → (n : ℕ) → n ≡ length k.chain.versions → IsSoundChain k.chain → HasVersion m id (n - 1)
newest-there m id k e n is sound = let some = sound.some in subst (λ (o : Option KeptChain). IsSomeAnd o (λ q. n - 1 < length q.chain.versions)) (sym e) (omega (arith, is, some))

pub none-of : (o : Option ℕ) (P : Type 0) → ((x : ℕ) → o ≡ Some x → ⊥) → IfNone o P → P
none-of None P none h = h
none-of (Some x) P none h = absurd (none x refl)
