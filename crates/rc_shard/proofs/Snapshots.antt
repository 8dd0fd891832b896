-- What leaves the snapshots of chains of the cache, and how many they are.
use Rattle.std.proofs.Common.{inl, inr, ◌≡◌, ◌≤◌, ℕ, List, None, length, refl, sym, ap, ◌∙◌, subst, slice_index_or, le_refl, arith}
use Rattle.lsa_pool.specs.laws.Usages.{decided}
use Rattle.rc_registry.specs.Steps.{pin_at}
use Rattle.rc_memory.specs.Kept.{present}
use Rattle.rc_memory.specs.Memory.{KeptChain, Member, Memory, chain_at, on_chain, on_shown, shown_detached}
use Rattle.rc_memory.specs.laws.Places.{same_some}
use Rattle.rc_cached.specs.Stands.{HasCacheSnapshot}
use Rattle.rc_lookup.specs.Detached.{IsDetached}
use Rattle.rc_lookup.specs.Evictions.{AreEvicted, evicted_of}
use Rattle.rc_lookup.specs.Footprint.{snapshots_of}
use Rattle.rc_lookup.specs.Leaving.{AreCachesSame}
use Rattle.rc_lookup.specs.Partitions.{AreAsBefore}
use Rattle.rc_shard.specs.Releasing.{KeepsSnapshots}
use Rattle.rc_shard.proofs.Chained.{among-or, changed-beside, changed-now, changed-was, mapped, none-is-none, there-or-not}
use Rattle.rc_shard.proofs.Pinning.{pins-least, snapshots-least}

pub keeps-then : (old mid new : Memory) → KeepsSnapshots old mid → KeepsSnapshots mid new → KeepsSnapshots old new
keeps-then old mid new f g = let less = f.number in let more = g.number in record { each = λ id pin h. g.each id pin (f.each id pin h); number = omega (arith, less, more) }

pub keeps-beside : (old new : Memory) → AreCachesSame old new → KeepsSnapshots old new
keeps-beside old new same = record {
  each = λ id pin h. record { chain = h.chain; number = h.number; there = same.stays id h.chain h.cached h.there; pinned = h.pinned; cached = h.cached };
  number = snapshots-least old new (λ id n e cached. (n, same.none id n cached e, cached, le_refl (snapshots_of n)));
}

pub keeps-same : (old new : Memory) → new.chains ≡ old.chains → KeepsSnapshots old new
keeps-same old new is = record {
  each = λ id pin h. record { chain = h.chain; number = h.number; there = ap (λ cs. slice_index_or cs id None) is ∙ h.there; pinned = h.pinned; cached = h.cached };
  number = snapshots-least old new (λ id n e cached. (n, sym (ap (λ cs. slice_index_or cs id None) is) ∙ e, cached, le_refl (snapshots_of n)));
}

-- where something is done to one chain that leaves its kind and its pins
module _ (old new : Memory) (id : ℕ) (f : KeptChain → KeptChain) (is : new.chains ≡ on_chain id f old.chains) (kinds : (k : KeptChain) → (f k).chain.kind ≡ k.chain.kind) (pins : (k : KeptChain) → (f k).chain.pins ≡ k.chain.pins) where
  changed-each : (i pin : ℕ) → HasCacheSnapshot old i pin → HasCacheSnapshot new i pin
  changed-each i pin h = elim (decided i id) [
    | inl same ↦ record {
      chain = f h.chain;
      number = h.number;
      there = ap (chain_at new) same ∙ changed-now old new id f is h.chain (sym (ap (chain_at old) same) ∙ h.there);
      pinned = ap (λ ps. pin_at ps pin) (pins h.chain) ∙ h.pinned;
      cached = kinds h.chain ∙ h.cached;
    }
    | inr ne ↦ record { chain = h.chain; number = h.number; there = changed-beside old new id f is i ne ∙ h.there; pinned = h.pinned; cached = h.cached }
  ]

  as-many : (k n : KeptChain) → f k ≡ n → snapshots_of n ≤ snapshots_of k
  as-many k n e = let same : snapshots_of (f k) ≡ snapshots_of k = ap (λ ps. length (present ps)) (pins k) in subst (λ (q : KeptChain). snapshots_of q ≤ snapshots_of k) e (omega (arith, same))

  pub keeps-changed : KeepsSnapshots old new
  keeps-changed = record {
    each = changed-each;
    number = snapshots-least old new (λ i n e cached. elim (decided i id) [
      | inl same ↦ (let was = changed-was old new id f is n (sym (ap (chain_at new) same) ∙ e) in (was.0, ap (chain_at old) same ∙ was.1, sym (kinds was.0) ∙ ap (λ (q : KeptChain). q.chain.kind) was.2 ∙ cached, as-many was.0 n was.2))
      | inr ne ↦ (n, sym (changed-beside old new id f is i ne) ∙ e, cached, le_refl (snapshots_of n))
    ]);
  }

pub keeps-detached : (id : ℕ) (old new : Memory) → IsDetached id old new → KeepsSnapshots old new
keeps-detached id old new d = there-or-not (KeepsSnapshots old new) (chain_at old id)
    (λ none. keeps-same old new (ap (λ (m : Memory). m.chains) (d.gone none)))
    (λ k e. keeps-changed old new id (on_shown shown_detached) (d.there k e).2.chains (λ q. refl) (λ q. refl))

-- where chains were read
pub keeps-before : (old new : Memory) → AreAsBefore old new → KeepsSnapshots old new
keeps-before old new b = record {
  each = λ id pin h. (let n = b.there id h.chain h.there in record { chain = n.0; number = h.number; there = n.1; pinned = n.2.pins pin ∙ h.pinned; cached = n.2.kind ∙ h.cached });
  number = snapshots-least old new (λ id n e cached. there-or-not _ (chain_at old id)
      (λ none. absurd (none-is-none n (sym (b.absent id none) ∙ e)))
      (λ k was.
      let now = b.there id k was in
      let same = same_some now.0 n (sym now.1 ∙ e) in
      (k, was, sym now.2.kind ∙ ap (λ (q : KeptChain). q.chain.kind) same ∙ cached, subst (λ (q : KeptChain). snapshots_of q ≤ snapshots_of k) same (pins-least now.0.chain.pins k.chain.pins now.2.pins))));
}

-- what evictions leave of the use of a chain
pub record UseLaws : Type 0 where
  pub kind : (id : ℕ) (went : List Member) (k : KeptChain) → (evicted_of id went k).chain.kind ≡ k.chain.kind
  pub pins : (id : ℕ) (went : List Member) (k : KeptChain) → (evicted_of id went k).chain.pins ≡ k.chain.pins

pub keeps-evicted : UseLaws → (went : List Member) (gone : List ℕ) (old new : Memory) → AreEvicted went gone old new → ((id pin : ℕ) → HasCacheSnapshot old id pin → HasCacheSnapshot new id pin) → KeepsSnapshots old new
keeps-evicted laws went gone old new a each = record {
  each = each;
  number = snapshots-least old new (λ id n e cached. elim (among-or gone id) [
    | inl on ↦ absurd (none-is-none n (sym (a.absent id on) ∙ e))
    | inr off ↦ (
        let was = mapped (evicted_of id went) (chain_at old id) n (sym (a.chains id off) ∙ e) in
        let same : snapshots_of (evicted_of id went was.0) ≡ snapshots_of was.0 = ap (λ ps. length (present ps)) (laws.pins id went was.0) in
        (was.0, was.1, sym (laws.kind id went was.0) ∙ ap (λ (q : KeptChain). q.chain.kind) was.2 ∙ cached, subst (λ (q : KeptChain). snapshots_of q ≤ snapshots_of was.0) was.2 (omega (arith, same))))
  ]);
}
