-- Steps in which what is lost is lost in a crowded region, one after another.
use Rattle.std.proofs.Common.{◌≡◌, ◌⊎◌, ◌+◌, ◌-◌, ◌*◌, ◌/◌, ◌^◌, ◌<◌, ◌≤◌, ℕ, List, Option, Some, None, length, inl, inr, refl, sym, ap, ◌∙◌, subst, slice_index_or, arith}
use Rattle.std.specs.Prelude.{sum_by}
use Rattle.std.specs.Option.{option_map}
use Rattle.lsa_region.specs.Region.{live_bytes}
use Rattle.rc_partition.specs.laws.Lists.{sum-middle, sum-without}
use Rattle.rc_registry.specs.Registry.{put_at_number}
use Rattle.rc_memory.specs.declared.counts.Counts.{Counts}
use Rattle.rc_memory.specs.Kept.{present}
use Rattle.rc_memory.specs.Memory.{KeptChain, Memory, on_chain}
use Rattle.rc_memory.specs.laws.Put.{placed}
use Rattle.rc_evict.specs.Crowding.{IsCrowded, IsNearlyFull, KeepsLive, LosesNothing, LosesWhereCrowded, versions_of}

-- ---- a sum over all chains

same_sum : (a b c d : ℕ) → b ≡ d → a + (b + c) ≡ a + (d + c)
same_sum a b c d e = omega (arith, e)

more_sum : (a b c : ℕ) → a + (b + c) ≡ a + c + b
more_sum a b c = omega arith

-- of which one is another one that adds as much
pub sum-on : (f : KeptChain → ℕ) (g : KeptChain → KeptChain) → ((k : KeptChain) → f (g k) ≡ f k) → (id : ℕ) (cs : List (Option KeptChain)) → sum_by f (present (on_chain id g cs)) ≡ sum_by f (present cs)
sum-on f g same id cs = elim (slice_index_or cs id None) as (λ o. slice_index_or cs id None ≡ o → sum_by f (present (put_at_number id (option_map g o) cs)) ≡ sum_by f (present cs)) [
  | None ↦ λ e. let p = placed cs id in ap (sum_by f) (p.without ∙ sym (p.free e))
  | Some k ↦ λ e. let p = placed cs id in
      ap (sum_by f) (p.with_one (g k)) ∙ sum-middle f p.front p.back (g k) ∙ same_sum (sum_by f p.front) (f (g k)) (sum_by f p.back) (f k) (same k) ∙ sym (ap (sum_by f) (p.there k e) ∙ sum-middle f p.front p.back k)
] refl

-- with one more
pub sum-made : (f : KeptChain → ℕ) (id : ℕ) (k : KeptChain) (cs : List (Option KeptChain)) → slice_index_or cs id None ≡ None → sum_by f (present (put_at_number id (Some k) cs)) ≡ sum_by f (present cs) + f k
sum-made f id k cs free =
    let p = placed cs id in
    ap (sum_by f) (p.with_one k) ∙ sum-middle f p.front p.back k ∙ more_sum (sum_by f p.front) (f k) (sum_by f p.back) ∙ ap (λ n. n + f k) (sym (ap (sum_by f) (p.free free) ∙ sum-without f p.front p.back))

-- with one less
pub sum-gone : (f : KeptChain → ℕ) (id : ℕ) (k : KeptChain) (cs : List (Option KeptChain)) → slice_index_or cs id None ≡ Some k → sum_by f (present cs) ≡ sum_by f (present (put_at_number id None cs)) + f k
sum-gone f id k cs there =
    let p = placed cs id in
    ap (sum_by f) (p.there k there) ∙ sum-middle f p.front p.back k ∙ more_sum (sum_by f p.front) (f k) (sum_by f p.back) ∙ ap (λ n. n + f k) (sym (ap (sum_by f) p.without ∙ sum-without f p.front p.back))

-- ---- sums of steps: what is live, how many versions there are, and the count, at three moments

keeps_then : (a b c u v w m n h i j : ℕ) → a + 152 * v + h ≤ b + 152 * (u + m) + i → b + 152 * w + i ≤ c + 152 * (v + n) + j → a + 152 * w + h ≤ c + 152 * (u + (m + n)) + j
keeps_then a b c u v w m n h i j p q = omega (arith, p, q)

crowded_then : (least less b c u v w m n h i j : ℕ) → least + 152 * v + h < b + less + 152 * (u + m) + i → b + 152 * w + i ≤ c + 152 * (v + n) + j → least + 152 * w + h < c + less + 152 * (u + (m + n)) + j
crowded_then least less b c u v w m n h i j p q = omega (arith, p, q)

then_crowded : (least less c u v w m n h i j : ℕ) → v ≤ u + m → h ≤ i → least + 152 * w + i < c + less + 152 * (v + n) + j → least + 152 * w + h < c + less + 152 * (u + (m + n)) + j
then_crowded least less c u v w m n h i j p q r = omega (arith, p, q, r)

versions_then : (u v w m n : ℕ) → v ≤ u + m → w ≤ v + n → w ≤ u + (m + n)
versions_then u v w m n p q = omega (arith, p, q)

no_less : (a b c : ℕ) → a ≤ b → b ≤ c → a ≤ c
no_less a b c p q = omega (arith, p, q)

-- ---- one after another

module _ (S made more : ℕ) (old mid new : Memory) where
  -- crowded at last
  pub crowded-last : versions_of mid ≤ versions_of old + made → old.counts.shrunk ≤ mid.counts.shrunk → IsCrowded S (S / 8) more mid new → IsCrowded S (S / 8) (made + more) old new
  crowded-last versions shrunk c =
      then_crowded (3 * S / 4 * (length new.region.usages - 2)) (S / 8) (live_bytes new.region) (versions_of old) (versions_of mid) (versions_of new) made more old.counts.shrunk mid.counts.shrunk new.counts.shrunk versions shrunk c

  -- or crowded at first
  pub crowded-first : length new.region.usages ≡ length mid.region.usages → IsCrowded S (S / 8) made old mid → KeepsLive more mid new → IsCrowded S (S / 8) (made + more) old new
  crowded-first segments c keeps =
      crowded_then (3 * S / 4 * (length new.region.usages - 2)) (S / 8) (live_bytes mid.region) (live_bytes new.region) (versions_of old) (versions_of mid) (versions_of new) made more old.counts.shrunk mid.counts.shrunk new.counts.shrunk
      (subst (λ n. 3 * S / 4 * (n - 2) + 152 * versions_of mid + old.counts.shrunk < live_bytes mid.region + S / 8 + 152 * (versions_of old + made) + mid.counts.shrunk) (sym segments) c) keeps

  cause_then : LosesWhereCrowded S made old mid → LosesWhereCrowded S more mid new → (LosesNothing old new × KeepsLive (made + more) old new) ⊎ (IsCrowded S (S / 8) (made + more) old new ⊎ (2 ^ 64 - 1 ≤ new.counts.shrunk))
  cause_then a b = elim b.cause [
    | inr late ↦ elim late [
      | inl c ↦ inr (inl (crowded-last a.versions a.shrunk c))
      | inr top ↦ inr (inr top)
    ]
    | inl keeps ↦ elim a.cause [
      | inr early ↦ elim early [
        | inl c ↦ inr (inl (crowded-first b.segments c keeps.1))
        | inr top ↦ inr (inr (no_less (2 ^ 64 - 1) mid.counts.shrunk new.counts.shrunk top b.shrunk))
      ]
      | inl kept ↦ inl (
        (keeps.0.0 ∙ kept.0.0, keeps.0.1 ∙ kept.0.1),
        keeps_then (live_bytes old.region) (live_bytes mid.region) (live_bytes new.region) (versions_of old) (versions_of mid) (versions_of new) made more old.counts.shrunk mid.counts.shrunk new.counts.shrunk kept.1 keeps.1,
      )
    ]
  ]

  pub loses-then : LosesWhereCrowded S made old mid → LosesWhereCrowded S more mid new → LosesWhereCrowded S (made + more) old new
  loses-then a b = record {
    segments = b.segments ∙ a.segments;
    versions = versions_then (versions_of old) (versions_of mid) (versions_of new) made more a.versions b.versions;
    shrunk = no_less old.counts.shrunk mid.counts.shrunk new.counts.shrunk a.shrunk b.shrunk;
    cause = cause_then a b;
  }

first_none : (made : ℕ) → 0 + made ≡ made
first_none made = omega arith

last_none : (made : ℕ) → made + 0 ≡ made
last_none made = omega arith

-- after a step that makes no version
pub loses-after : (S made : ℕ) (old mid new : Memory) → LosesWhereCrowded S 0 old mid → LosesWhereCrowded S made mid new → LosesWhereCrowded S made old new
loses-after S made old mid new a b = subst (λ n. LosesWhereCrowded S n old new) (first_none made) (loses-then S 0 made old mid new a b)

-- and before one
pub loses-before : (S made : ℕ) (old mid new : Memory) → LosesWhereCrowded S made old mid → LosesWhereCrowded S 0 mid new → LosesWhereCrowded S made old new
loses-before S made old mid new a b = subst (λ n. LosesWhereCrowded S n old new) (last_none made) (loses-then S made 0 old mid new a b)

-- ---- steps that lose nothing

same_live : (a b u v h i : ℕ) → b ≡ a → v ≡ u → i ≡ h → a + 152 * v + h ≤ b + 152 * (u + 0) + i
same_live a b u v h i p q r = omega (arith, p, q, r)

same_most : (u v : ℕ) → v ≡ u → v ≤ u + 0
same_most u v e = omega (arith, e)

same_least : (h i : ℕ) → i ≡ h → h ≤ i
same_least h i e = omega (arith, e)

-- as much is live, there are as many versions, and nothing is counted
pub loses-same : (S : ℕ) (old new : Memory) → length new.region.usages ≡ length old.region.usages → live_bytes new.region ≡ live_bytes old.region → versions_of new ≡ versions_of old → new.counts ≡ old.counts → LosesWhereCrowded S 0 old new
loses-same S old new segments live versions counts =
    let shrunk = ap (λ (c : Counts). c.shrunk) counts in record {
      segments = segments;
      versions = same_most (versions_of old) (versions_of new) versions;
      shrunk = same_least old.counts.shrunk new.counts.shrunk shrunk;
      cause = inl ((ap (λ (c : Counts). c.evicted) counts, ap (λ (c : Counts). c.skipped) counts), same_live (live_bytes old.region) (live_bytes new.region) (versions_of old) (versions_of new) old.counts.shrunk new.counts.shrunk live versions shrunk);
    }

pub loses-nothing : (S : ℕ) (m : Memory) → LosesWhereCrowded S 0 m m
loses-nothing S m = loses-same S m m refl refl refl refl

grown_live : (a b u v made h i : ℕ) → a ≤ b → v ≡ u + made → i ≡ h → a + 152 * v + h ≤ b + 152 * (u + made) + i
grown_live a b u v made h i p q r = omega (arith, p, q, r)

grown_most : (u v made : ℕ) → v ≡ u + made → v ≤ u + made
grown_most u v made e = omega (arith, e)

-- no less is live, so many versions were made, and nothing is counted
pub loses-grown : (S made : ℕ) (old new : Memory) → length new.region.usages ≡ length old.region.usages → live_bytes old.region ≤ live_bytes new.region → versions_of new ≡ versions_of old + made → new.counts ≡ old.counts → LosesWhereCrowded S made old new
loses-grown S made old new segments live versions counts =
    let shrunk = ap (λ (c : Counts). c.shrunk) counts in record {
      segments = segments;
      versions = grown_most (versions_of old) (versions_of new) made versions;
      shrunk = same_least old.counts.shrunk new.counts.shrunk shrunk;
      cause = inl ((ap (λ (c : Counts). c.evicted) counts, ap (λ (c : Counts). c.skipped) counts), grown_live (live_bytes old.region) (live_bytes new.region) (versions_of old) (versions_of new) made old.counts.shrunk new.counts.shrunk live versions shrunk);
    }

gone_live : (a b u v count h i : ℕ) → a ≡ b + 152 * count → u ≡ v + count → i ≡ h → a + 152 * v + h ≤ b + 152 * (u + 0) + i
gone_live a b u v count h i p q r = omega (arith, p, q, r)

gone_most : (u v count : ℕ) → u ≡ v + count → v ≤ u + 0
gone_most u v count e = omega (arith, e)

-- so many versions went, of each of which a head and an end dummy was left, and nothing is counted
pub loses-gone : (S count : ℕ) (old new : Memory) → length new.region.usages ≡ length old.region.usages → live_bytes old.region ≡ live_bytes new.region + 152 * count → versions_of old ≡ versions_of new + count → new.counts ≡ old.counts → LosesWhereCrowded S 0 old new
loses-gone S count old new segments live versions counts =
    let shrunk = ap (λ (c : Counts). c.shrunk) counts in record {
      segments = segments;
      versions = gone_most (versions_of old) (versions_of new) count versions;
      shrunk = same_least old.counts.shrunk new.counts.shrunk shrunk;
      cause = inl ((ap (λ (c : Counts). c.evicted) counts, ap (λ (c : Counts). c.skipped) counts), gone_live (live_bytes old.region) (live_bytes new.region) (versions_of old) (versions_of new) count old.counts.shrunk new.counts.shrunk live versions shrunk);
    }

shrunk_live : (a b u v h i : ℕ) → v ≡ u → i ≡ h + (a - b) → a + 152 * v + h ≤ b + 152 * (u + 0) + i
shrunk_live a b u v h i p q = omega (arith, p, q)

-- chains became smaller, by so much as is counted
pub loses-shrunk : (S : ℕ) (old new : Memory) → length new.region.usages ≡ length old.region.usages → versions_of new ≡ versions_of old → LosesNothing old new → old.counts.shrunk ≤ new.counts.shrunk
    → (new.counts.shrunk ≡ old.counts.shrunk + (live_bytes old.region - live_bytes new.region)) ⊎ (2 ^ 64 - 1 ≤ new.counts.shrunk) → LosesWhereCrowded S 0 old new
loses-shrunk S old new segments versions nothing shrunk counted = record {
  segments = segments;
  versions = same_most (versions_of old) (versions_of new) versions;
  shrunk = shrunk;
  cause = elim counted [
    | inl is ↦ inl (nothing, shrunk_live (live_bytes old.region) (live_bytes new.region) (versions_of old) (versions_of new) old.counts.shrunk new.counts.shrunk versions is)
    | inr top ↦ inr (inr top)
  ];
}

-- ---- steps in a region that is nearly full

full_crowded : (least a b less u v h i : ℕ) → least < a → b ≡ a → v ≡ u → i ≡ h → least + 152 * v + h < b + less + 152 * (u + 0) + i
full_crowded least a b less u v h i p q r s = omega (arith, p, q, r, s)

-- something was counted in it, and nothing else changed
pub loses-counted : (S : ℕ) (old new : Memory) → IsNearlyFull S old → length new.region.usages ≡ length old.region.usages → live_bytes new.region ≡ live_bytes old.region → versions_of new ≡ versions_of old → new.counts.shrunk ≡ old.counts.shrunk → LosesWhereCrowded S 0 old new
loses-counted S old new full segments live versions shrunk = record {
  segments = segments;
  versions = same_most (versions_of old) (versions_of new) versions;
  shrunk = same_least old.counts.shrunk new.counts.shrunk shrunk;
  cause = inr (inl (full_crowded (3 * S / 4 * (length new.region.usages - 2)) (live_bytes old.region) (live_bytes new.region) (S / 8) (versions_of old) (versions_of new) old.counts.shrunk new.counts.shrunk
      (subst (λ n. 3 * S / 4 * (n - 2) < live_bytes old.region) (sym segments) full) live versions shrunk));
}
