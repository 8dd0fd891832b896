-- One eviction beside both memtables.
use Rattle.std.proofs.Common.{inl, inr, ◌≡◌, ◌⊎◌, ◌≤◌, ℕ, true, false, List, [], ◌∷◌, Option, Some, None, is_some, length, sym, ap, ◌∙◌, arith}
use Rattle.std.specs.Prelude.{IfNone, IfSome}
use Rattle.lsa_region.specs.Region.{live_bytes}
use Rattle.rc_schema.specs.SchemaValue.{SchemaValue}
use Rattle.rc_mutation.specs.declared.mutations.Write.{Write}
use Rattle.rc_memory.specs.Memory.{Member, Memory}
use Rattle.rc_memory.specs.Recency.{IsRecency}
use Rattle.rc_evict.specs.declared.evicting.Evicted.{Evicted}
use Rattle.rc_evict.specs.Evictions.{AreEvicted, IsOneEvicted}
use Rattle.rc_memtable.specs.LetGo.{TakesNoMore}
use Rattle.rc_snapshots.specs.Seeing.{AllStillSee}
use Rattle.rc_snapshots.specs.laws.Seeing.{all-see}
use Rattle.rc_unstored.specs.declared.unstored.Unstored.{Unstored}
use Rattle.rc_unstored.specs.Memtables.{HaveWrites, in_chains}
use Rattle.rc_unstored.proofs.Chains.{chain-same}
use Rattle.rc_unstored.proofs.Keeping.{both-moved}
use Rattle.rc_unstored.proofs.Making.{LeavesPins, SparesMemtables, SparesPinned, both-spared, spared-seen}
use Rattle.rc_unstored.proofs.Pins.{chains-same}

-- one eviction is one of several, and leaves the number of segments and of moves
pub record EvictLaws : Type 0 where
  pub one : (sort : Evicted) (old new : Memory) (e : IsOneEvicted sort old new) → (gone : List ℕ) × AreEvicted (e.place ∷ []) gone old new
  pub region : (sort : Evicted) (old new : Memory) → IsOneEvicted sort old new → (length new.region.usages ≡ length old.region.usages) × (new.region.moved ≡ old.region.moved)

-- an object went, or nothing was done
abbrev Went : Memory → Memory → Type 0
Went old new = ((place : Member) × (gone : List ℕ) × AreEvicted (place ∷ []) gone old new) ⊎ (new ≡ old)

module _ (laws : EvictLaws) (old new : Memory) where
  way : (o : Option Evicted) → IfSome o (λ sort. IsOneEvicted sort old new) → IfNone o ((old.recency ≡ []) × (new ≡ old)) → Went old new
  way None some none = inr none.1
  way (Some sort) some none = let e = laws.one sort old new some in inl (some.place, e.0, e.1)

  pub evict-some : (o : Option Evicted) → is_some o ≡ true → IfSome o (λ sort. IsOneEvicted sort old new) → (place : Member) × (gone : List ℕ) × AreEvicted (place ∷ []) gone old new
  evict-some None e some = absurd (cc e)
  evict-some (Some sort) e some = let one = laws.one sort old new some in (some.place, one.0, one.1)

  pub evict-none : (o : Option Evicted) → is_some o ≡ false → IfNone o ((old.recency ≡ []) × (new ≡ old)) → (old.recency ≡ []) × (new ≡ old)
  evict-none None e none = none
  evict-none (Some sort) e none = absurd (cc e)

  region-of : (o : Option Evicted) → IfSome o (λ sort. IsOneEvicted sort old new) → IfNone o ((old.recency ≡ []) × (new ≡ old)) → (length new.region.usages ≡ length old.region.usages) × (new.region.moved ≡ old.region.moved)
  region-of None some none = (ap (λ (m : Memory). length m.region.usages) none.1, ap (λ (m : Memory). m.region.moved) none.1)
  region-of (Some sort) some none = laws.region sort old new some

  skipped-same : Went old new → new.counts.skipped ≡ old.counts.skipped
  skipped-same (inl w) = ap (λ c. c.skipped) w.2.counts
  skipped-same (inr same) = ap (λ (m : Memory). m.counts.skipped) same

  pub evict-takes-no-more : (o : Option Evicted) → IfSome o (λ sort. IsOneEvicted sort old new) → IfNone o ((old.recency ≡ []) × (new ≡ old)) → live_bytes new.region ≤ live_bytes old.region → old.counts.evicted ≤ new.counts.evicted → TakesNoMore old new
  evict-takes-no-more o some none less more =
      let region = region-of o some none in
      let moved = region.1 in
      let skipped = skipped-same (way o some none) in
      record { budget = region.0; live = less; counts = record { evicted = more; moved = omega (arith, moved); skipped = omega (arith, skipped) } }

  module _ (spares : SparesMemtables) (rule : IsRecency old) where
    pub evict-seen : SparesPinned → LeavesPins → (o : Option Evicted) → IfSome o (λ sort. IsOneEvicted sort old new) → IfNone o ((old.recency ≡ []) × (new ≡ old)) → AllStillSee old new
    evict-seen pinned pins o some none = elim (way o some none) [
      | inl w ↦ spared-seen spares 0 old new rule (w.0 ∷ []) w.1 w.2 pinned pins
      | inr same ↦ all-see old new (chains-same old new (chain-same old new (ap (λ (m : Memory). m.chains) same))).alike
    ]

    pub evict-stands : (S : ℕ) (schema : SchemaValue) (u : Unstored S) → u.chains ≡ old → (o : Option Evicted) → IfSome o (λ sort. IsOneEvicted sort old new) → IfNone o ((old.recency ≡ []) × (new ≡ old)) → (writes later : List Write) → HaveWrites schema u writes later → HaveWrites schema (in_chains new u) writes later
    evict-stands S schema u at o some none writes later h = elim (way o some none) [
      | inl w ↦ both-spared spares S old new rule (w.0 ∷ []) w.1 w.2 schema u at writes later h
      | inr same ↦ both-moved schema u new writes later (ap (λ (m : Memory). m.chains) same ∙ sym (ap (λ (m : Memory). m.chains) at)) h
    ]
