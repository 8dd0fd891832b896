-- What calls leave of everything else.
use Rattle.std.proofs.Common.{inl, inr, ◌≡◌, ◌⊎◌, ◌≤◌, ℕ, List, [], Option, Some, None, IsSome, refl, sym, ap, ◌∙◌, subst, length, arith}
use Rattle.std.specs.Prelude.{IsSomeAnd}
use Rattle.rc_core.specs.declared.entries.ChainKind.TheVariants.{Cache, Memtable}
use Rattle.rc_core.specs.Steps.{pin_at}
use Rattle.rc_core.specs.laws.Pins.{pin-is-pinned}
use Rattle.rc_memory.specs.Memory.{HasPin, KeptChain, Memory, chain_at, on_chain, on_shown, shown_detached}
use Rattle.rc_chain.specs.declared.chains.Snap.{Snap}
use Rattle.rc_cached.specs.Opening.{some-and}
use Rattle.rc_cached.specs.Stands.{HasCacheSnapshot}
use Rattle.rc_row_cache.specs.Detached.{IsDetached}
use Rattle.rc_snapshots.specs.Seeing.{NothingIsLost}
use Rattle.rc_snapshots.specs.laws.Seeing.{all-see}
use Rattle.rc_row_cache.specs.Footprint.{AreInUse, HaveOneVersion, cache_snapshots, memtable_bytes}
use Rattle.rc_lookup.specs.Rest.{LeavesRest}
use Rattle.rc_lookup.specs.laws.Rest.{rest-none}
use Rattle.rc_lookup.proofs.Kept.{here-or-beside}
use Rattle.rc_lookup.proofs.Numbered.{changed-beside, changed-was, there-or-not}
use Rattle.rc_lookup.specs.calls.Reading.{IsLookedUp}

-- ---- snapshots

-- a snapshot of this number is there
abbrev pub Pins : ℕ → Option KeptChain → Type 0
Pins pin o = IsSomeAnd o (λ k. IsSome (pin_at k.chain.pins pin))

pub some-of : (o : Option ℕ) → IsSome o → (j : ℕ) × (o ≡ Some j)
some-of None on = absurd (cc)
some-of (Some j) on = (j, refl)

-- each chain has the snapshots that it had, or none
abbrev pub NoMorePins : Memory → Memory → Type 0
NoMorePins old new = (id : ℕ) (n : KeptChain) → chain_at new id ≡ Some n → (n.chain.pins ≡ []) ⊎ ((k : KeptChain) × (chain_at old id ≡ Some k) × (n.chain.pins ≡ k.chain.pins))

pub none-pinned : (pin : ℕ) → IsSome (pin_at [] pin) → ⊥
none-pinned pin on = let j = some-of (pin_at [] pin) on in pin-is-pinned [] pin j.0 j.1

pub none-more : (old new : Memory) → NoMorePins old new → (s : Snap) → HasPin new s.chain s.pin → HasPin old s.chain s.pin
none-more old new h s on =
    let n = some-and (chain_at new s.chain) (λ q. IsSome (pin_at q.chain.pins s.pin)) on in
    elim (h s.chain n.0 n.1) [
      | inl none ↦ absurd (none-pinned s.pin (subst (λ (ps : List (Option ℕ)). IsSome (pin_at ps s.pin)) none n.2))
      | inr was ↦ subst (Pins s.pin) (sym was.1) (subst (λ (ps : List (Option ℕ)). IsSome (pin_at ps s.pin)) was.2 n.2)
    ]

-- ---- a partition is looked up

-- the snapshots of chains of the cache that were there are there still
abbrev pub KeepsPins : Memory → Memory → Type 0
KeepsPins old new = (id pin : ℕ) → HasCacheSnapshot old id pin → HasCacheSnapshot new id pin

pub rest-looked : (old new : Memory) → IsLookedUp old new → memtable_bytes new ≡ memtable_bytes old → (HaveOneVersion old → HaveOneVersion new) → (AreInUse old → AreInUse new) → KeepsPins old new → cache_snapshots new ≤ cache_snapshots old → LeavesRest old new
rest-looked old new l bytes one used pins snapshots = record {
  memtables = l.still.memtables;
  seen = all-see old new l.snapshots.alike;
  none_more = l.snapshots.none_more;
  segments = ap length l.still.region.usages;
  counts = record {
    evicted = (let e : new.counts.evicted ≡ old.counts.evicted = λ i. (l.still.counts i).evicted in omega (arith, e));
    moved = (let e : new.region.moved ≡ old.region.moved = l.still.region.moved in omega (arith, e));
    skipped = (let e : new.counts.skipped ≡ old.counts.skipped = λ i. (l.still.counts i).skipped in omega (arith, e));
  };
  bytes = omega (arith, bytes);
  one = one;
  used = λ _. used;
  pins = pins;
  snapshots = snapshots;
}

-- ---- a chain of the cache is detached

module _ (id : ℕ) (old new : Memory) (chains : new.chains ≡ on_chain id (on_shown shown_detached) old.chains) where
  detached-pins : NoMorePins old new
  detached-pins i n e = here-or-beside id i
      (λ same. (let was = changed-was old new id (on_shown shown_detached) chains n (sym (ap (chain_at new) same) ∙ e) in inr (was.0, ap (chain_at old) same ∙ was.1, sym (ap (λ (q : KeptChain). q.chain.pins) was.2))))
      (λ ne. inr (n, sym (changed-beside old new id (on_shown shown_detached) chains i ne) ∙ e, refl))

  detached-memtables : ((k : KeptChain) → chain_at old id ≡ Some k → k.chain.kind ≡ Cache) → (i : ℕ) (k : KeptChain) → chain_at old i ≡ Some k → k.chain.kind ≡ Memtable → chain_at new i ≡ Some k
  detached-memtables cached i k e kind = here-or-beside id i
      (λ same. (let clash : Memtable ≡ Cache = sym kind ∙ cached k (sym (ap (chain_at old) same) ∙ e) in absurd (cc)))
      (λ ne. changed-beside old new id (on_shown shown_detached) chains i ne ∙ e)

pub rest-detached : (id : ℕ) (old new : Memory) → IsDetached id old new → ((k : KeptChain) → chain_at old id ≡ Some k → k.chain.kind ≡ Cache) → NothingIsLost old new →
    memtable_bytes new ≡ memtable_bytes old → (HaveOneVersion old → HaveOneVersion new) → (AreInUse old → AreInUse new) → KeepsPins old new → cache_snapshots new ≤ cache_snapshots old → LeavesRest old new
rest-detached id old new d cached seen bytes one used pins snapshots = there-or-not (chain_at old id)
    (λ none. subst (LeavesRest old) (sym (d.gone none)) (rest-none old))
    (λ k there. (let c = (d.there k there).2 in record {
      memtables = detached-memtables id old new c.chains cached;
      seen = all-see old new seen;
      none_more = none-more old new (detached-pins id old new c.chains);
      segments = c.region.budget;
      counts = record {
        evicted = (let e : new.counts.evicted ≡ old.counts.evicted = λ i. (c.counts i).evicted in omega (arith, e));
        moved = (let e = c.region.moved in omega (arith, e));
        skipped = (let e : new.counts.skipped ≡ old.counts.skipped = λ i. (c.counts i).skipped in omega (arith, e));
      };
      bytes = omega (arith, bytes);
      one = one;
      used = λ _. used;
      pins = pins;
      snapshots = snapshots;
    }))
