-- What is left where a snapshot is taken of a chain of the cache, and where it is taken back.
use Rattle.std.proofs.Common.{inl, inr, ◌≡◌, ◌⊎◌, ◌≤◌, ◌+◌, ℕ, List, [], Option, Some, None, IsSome, length, refl, sym, ap, ◌∙◌, subst, arith}
use Rattle.std.specs.Prelude.{Err, IfNone, IfOk, IfSome, IsSomeAnd, MatchOption, Ok, OnErr, OnOk, Result}
use Rattle.std.specs.declared.alloc.AllocError.{AllocError}
use Rattle.lsa_region.specs.Region.{SameObjects}
use Rattle.rc_core.specs.declared.entries.ChainKind.TheVariants.{Cache, Memtable}
use Rattle.rc_core.specs.Steps.{free_number, pin_at}
use Rattle.rc_core.specs.laws.Pins.{pin-others}
use Rattle.rc_memory.specs.Memory.{HasPin, IsSnapshotTaken, KeptChain, Memory, chain_at, snapshot_number, with_dropped, with_snapshot}
use Rattle.rc_memory.specs.laws.Places.{same_some}
use Rattle.rc_chain.specs.declared.chains.Snap.{Snap}
use Rattle.rc_cached.specs.Stands.{HasCacheSnapshot}
use Rattle.rc_snapshots.specs.Seeing.{NothingIsLost}
use Rattle.rc_snapshots.specs.laws.Seeing.{all-see}
use Rattle.rc_stream.specs.Snapshot.{NoneLost}
use Rattle.rc_row_cache.specs.Fillers.{losses}
use Rattle.rc_row_cache.specs.Found.{entry_number}
use Rattle.rc_row_cache.specs.Footprint.{AreInUse, HaveOneVersion, cache_snapshots, memtable_bytes}
use Rattle.rc_lookup.specs.Held.{IsHeldOf, IsHeldWhole}
use Rattle.rc_lookup.specs.Known.{IsChainKnown, IsPartitionKnown}
use Rattle.rc_lookup.specs.Looked.{IsStill}
use Rattle.rc_lookup.specs.Rest.{LeavesBut, LeavesRest}
use Rattle.rc_lookup.specs.Staying.{IsStillThere}
use Rattle.rc_lookup.specs.calls.Reading.{without_snap}
use Rattle.rc_lookup.specs.calls.Touched.{IsReordered}
use Rattle.rc_lookup.proofs.Kept.{back-used, has-pin, here-or-beside, looked, told-looked, unchanged}
use Rattle.rc_lookup.proofs.Numbered.{changed-beside, changed-now, changed-was}
use Rattle.rc_lookup.proofs.Reordered.{rest-reordered}
use Rattle.rc_lookup.proofs.Rest.{KeepsPins, Pins, rest-looked}
use Rattle.rc_lookup.proofs.Swept.{chain-held}

-- what is left where a snapshot is taken, and where one is taken back
pub record HoldLaws : Type 0 where
  pub bytes_taken : (id pin phase : ℕ) (old new : Memory) → IsSnapshotTaken old new id pin phase → memtable_bytes new ≡ memtable_bytes old
  pub bytes_back : (s : Snap) (m : Memory) → memtable_bytes (without_snap s m) ≡ memtable_bytes m
  pub one_taken : (id pin phase : ℕ) (old new : Memory) → IsSnapshotTaken old new id pin phase → HaveOneVersion old → HaveOneVersion new
  pub one_back : (s : Snap) (m : Memory) → HaveOneVersion m → HaveOneVersion (without_snap s m)
  pub used_taken : (id pin phase : ℕ) (old new : Memory) → IsSnapshotTaken old new id pin phase → AreInUse old → AreInUse new
  pub held_back : (s : Snap) (m : Memory) (id pin : ℕ) → (id ≡ s.chain → pin ≡ s.pin → ⊥) → HasCacheSnapshot m id pin → HasCacheSnapshot (without_snap s m) id pin
  pub snapshots_taken : (id pin phase : ℕ) (old new : Memory) → IsSnapshotTaken old new id pin phase → cache_snapshots new ≤ cache_snapshots old + 1
  pub one_less : (s : Snap) (m : Memory) → HasCacheSnapshot m s.chain s.pin → cache_snapshots (without_snap s m) + 1 ≤ cache_snapshots m

module _ (s : Snap) (old mid : Memory) (taken : IsSnapshotTaken (with_dropped [] old) mid s.chain s.pin s.phase) (h : HasCacheSnapshot mid s.chain s.pin) where
  abbrev told : Memory
  told = with_dropped [] old

  abbrev more : KeptChain → KeptChain
  more k = with_snapshot (snapshot_number k.chain) k

  -- its chain was there
  was : (k : KeptChain) × (chain_at told s.chain ≡ Some k) × (k.chain.kind ≡ Cache)
  was = let k = changed-was told mid s.chain more (ap (λ (m : Memory). m.chains) taken.now) h.chain h.there in (k.0, k.1, ap (λ (q : KeptChain). q.chain.kind) k.2 ∙ h.cached)

  taken-now : chain_at mid s.chain ≡ Some (more was.0)
  taken-now = changed-now told mid s.chain more (ap (λ (m : Memory). m.chains) taken.now) was.0 was.1

  taken-beside : (i : ℕ) → (i ≡ s.chain → ⊥) → chain_at mid i ≡ chain_at old i
  taken-beside i ne = changed-beside told mid s.chain more (ap (λ (m : Memory). m.chains) taken.now) i ne

  taken-number : s.pin ≡ free_number was.0.chain.pins
  taken-number = subst (λ (o : Option KeptChain). IfSome o (λ q. s.pin ≡ free_number q.chain.pins)) was.1 taken.number

  taken-memtables : (id : ℕ) (k : KeptChain) → chain_at old id ≡ Some k → k.chain.kind ≡ Memtable → chain_at mid id ≡ Some k
  taken-memtables id k e kind = here-or-beside s.chain id
      (λ same. (let clash : Memtable ≡ Cache = sym kind ∙ ap (λ (q : KeptChain). q.chain.kind) (same_some k was.0 (sym e ∙ ap (chain_at old) same ∙ was.1)) ∙ was.2 in absurd (cc)))
      (λ ne. taken-beside id ne ∙ e)

  taken-none-more : (t : Snap) → HasPin mid t.chain t.pin → HasPin old t.chain t.pin ⊎ ((t.chain ≡ s.chain) × (t.pin ≡ s.pin))
  taken-none-more t on = here-or-beside s.chain t.chain
      (λ same. here-or-beside s.pin t.pin
      (λ pin. inr (same, pin))
      (λ ne. inl (
      let now : IsSome (pin_at (more was.0).chain.pins t.pin) = subst (Pins t.pin) (ap (chain_at mid) same ∙ taken-now) on in
      let others = pin-others (snapshot_number was.0.chain) was.0.chain.pins t.pin (λ free. ne (free ∙ sym taken-number)) in
      subst (Pins t.pin) (sym (ap (chain_at old) same ∙ was.1)) (subst (λ (o : Option ℕ). IsSome o) others now))))
      (λ ne. inl (subst (Pins t.pin) (taken-beside t.chain ne) on))

  -- no object moved
  pub taken-still : IsStill old mid
  taken-still = record {
    region = subst (SameObjects old.region) (sym (ap (λ (m : Memory). m.region) taken.now)) (unchanged old.region);
    counts = ap (λ (m : Memory). m.counts) taken.now;
    memtables = taken-memtables;
  }

  -- each chain is there still, with what it had
  pub taken-there : (id : ℕ) → IsStillThere old mid id
  taken-there id k e = here-or-beside s.chain id
      (λ same. (
      let own : k ≡ was.0 = same_some k was.0 (sym e ∙ ap (chain_at old) same ∙ was.1) in
      (more k, ap (chain_at mid) same ∙ changed-now told mid s.chain more (ap (λ (m : Memory). m.chains) taken.now) k (was.1 ∙ ap (λ (q : KeptChain). Some q) (sym own)), record { kind = refl; attached = refl; versions = refl })))
      (λ ne. (k, taken-beside id ne ∙ e, record { kind = refl; attached = refl; versions = refl }))

  -- the snapshot is handed out
  pub held-of : (key : List ℕ) (entries : List (List ℕ × ℕ)) (new : Memory) → entry_number entries key ≡ Some s.chain → (HasPin old s.chain s.pin → ⊥) → IsReordered mid new → IsHeldOf key entries old new s
  held-of key entries new entry fresh left = record { entry = entry; there = (rest-reordered mid new left).pins s.chain s.pin h; fresh = fresh }

  module _ (laws : HoldLaws) (pins : KeepsPins old mid) where
    -- all else is left but for it
    pub taken-but : NothingIsLost old mid → LeavesBut s old mid
    taken-but seen = record {
      memtables = taken-memtables;
      seen = all-see old mid seen;
      none_more = taken-none-more;
      segments = ap (λ (m : Memory). length m.region.usages) taken.now;
      counts = record {
        evicted = (let e : mid.counts.evicted ≡ old.counts.evicted = ap (λ (m : Memory). m.counts.evicted) taken.now in omega (arith, e));
        moved = (let e : mid.region.moved ≡ old.region.moved = ap (λ (m : Memory). m.region.moved) taken.now in omega (arith, e));
        skipped = (let e : mid.counts.skipped ≡ old.counts.skipped = ap (λ (m : Memory). m.counts.skipped) taken.now in omega (arith, e));
      };
      bytes = (let e : memtable_bytes mid ≡ memtable_bytes old = laws.bytes_taken s.chain s.pin s.phase told mid taken in omega (arith, e));
      one = laws.one_taken s.chain s.pin s.phase told mid taken;
      used = λ _ u. laws.used_taken s.chain s.pin s.phase told mid taken (used-told u);
      pins = pins;
      snapshots = laws.snapshots_taken s.chain s.pin s.phase told mid taken;
    }
      where
        used-told : AreInUse old → AreInUse told
        used-told u id k e idle = u id k e (record { cached = idle.cached; settled = idle.settled; unpinned = idle.unpinned; unlisted = idle.unlisted })

    -- all else is left where it is taken back
    pub back-rest : (HasPin old s.chain s.pin → ⊥) → LeavesRest old (without_snap s mid)
    back-rest fresh =
        let new = without_snap s mid in
        let bytes : memtable_bytes new ≡ memtable_bytes old = laws.bytes_back s mid ∙ laws.bytes_taken s.chain s.pin s.phase told mid taken in
        let one : HaveOneVersion old → HaveOneVersion new = λ o. laws.one_back s mid (laws.one_taken s.chain s.pin s.phase told mid taken o) in
        let more_then : cache_snapshots mid ≤ cache_snapshots old + 1 = laws.snapshots_taken s.chain s.pin s.phase told mid taken in
        let less = laws.one_less s mid h in
        rest-looked old new (told-looked old new (looked s told mid taken h)) bytes one
        (λ u. back-used s told mid taken h (λ id k e idle. u id k e (record { cached = idle.cached; settled = idle.settled; unpinned = idle.unpinned; unlisted = idle.unlisted })))
        (λ id pin there. laws.held_back s mid id pin (λ chain same. fresh (subst (λ i. HasPin old i s.pin) chain (subst (λ p. HasPin old id p) same (has-pin old id pin there)))) (pins id pin there))
        (omega (arith, more_then, less))

-- ---- answers

-- what holds of a snapshot that may be given
pub if-held : (P Q : Snap → Type 0) (r : Result (Option Snap) AllocError) → ((s : Snap) → P s → Q s) → IfOk r (λ o. IfSome o P) → IfOk r (λ o. IfSome o Q)
if-held P Q (Ok None) f h = tt
if-held P Q (Ok (Some s)) f h = f s h
if-held P Q (Err e) f h = tt

pub if-none : (P Q : Type 0) (r : Result (Option Snap) AllocError) → (P → Q) → IfOk r (λ o. IfNone o P) → IfOk r (λ o. IfNone o Q)
if-none P Q (Ok None) f h = f h
if-none P Q (Ok (Some s)) f h = tt
if-none P Q (Err e) f h = tt

pub on-failed : (P Q : Type 0) (r : Result (Option Snap) AllocError) → (P → Q) → OnErr r P → OnErr r Q
on-failed P Q (Ok o) f h = tt
on-failed P Q (Err e) f h = f h

pub match-held : (P Q : Snap → Type 0) (M N : Type 0) (r : Result (Option Snap) AllocError) → ((s : Snap) → P s → Q s) → (M → N) → IfOk r (λ o. IfSome o P) → IfOk r (λ o. IfNone o M) → IfOk r (λ o. MatchOption o N Q)
match-held P Q M N (Ok None) f n h m = n m
match-held P Q M N (Ok (Some s)) f n h m = f s h
match-held P Q M N (Err e) f n h m = tt

-- what is never none
pub never-none : (P : Type 0) (r : Result (Option Snap) AllocError) → IfOk r IsSome → IfOk r (λ o. IfNone o P)
never-none P (Ok None) h = absurd (cc)
never-none P (Ok (Some s)) h = tt
never-none P (Err e) h = tt

-- nothing was counted as left out but by what handed out nothing
pub skips-through : (r : Result (Option Snap) AllocError) (old mid new : Memory) → old.counts.skipped ≤ mid.counts.skipped → IfOk r (λ o. MatchOption o (LeavesRest mid new) (λ s. LeavesBut s mid new)) → IfOk r (λ o. IfNone o (NoneLost mid.counts.skipped new.counts.skipped → ⊥)) → IfOk r (λ o. IfNone o (NoneLost old.counts.skipped new.counts.skipped → ⊥))
skips-through (Ok None) old mid new before rest f = λ none. let since = rest.counts.skipped in let same = none.0 in f (omega (arith, before, since, same), none.1)
skips-through (Ok (Some s)) old mid new before rest f = tt
skips-through (Err e) old mid new before rest f = tt

-- what cannot be none is some
pub is-held : (P : Type 0) (r : Result (Option Snap) AllocError) → IfOk r (λ o. IfNone o (P → ⊥)) → P → IfOk r IsSome
is-held P (Ok None) h p = absurd (h p)
is-held P (Ok (Some s)) h p = refl
is-held P (Err e) h p = tt

pub match-also : (A B : Type 0) (P Q : Snap → Type 0) (r : Result (Option Snap) AllocError) → (A → B) → ((s : Snap) → P s → Q s) → IfOk r (λ o. MatchOption o A P) → IfOk r (λ o. MatchOption o B Q)
match-also A B P Q (Ok None) n f h = n h
match-also A B P Q (Ok (Some s)) n f h = f s h
match-also A B P Q (Err e) n f h = tt

-- what holds of one that is given
pub some-of-match : (A : Type 0) (P : Snap → Type 0) (r : Result (Option Snap) AllocError) → IfOk r (λ o. MatchOption o A P) → IfOk r (λ o. IfSome o P)
some-of-match A P (Ok None) h = tt
some-of-match A P (Ok (Some s)) h = h
some-of-match A P (Err e) h = tt

-- what holds anyway holds on an error
pub failed-done : (r : Result (Option Snap) AllocError) (P : Type 0) → P → OnErr r P
failed-done (Ok o) P h = tt
failed-done (Err e) P h = h

-- what is known to a snapshot that is handed out is to the chain of its entry
pub held-is-known : (key : List ℕ) (entries : List (List ℕ × ℕ)) (old new : Memory) (N : Type 0) (r : Result (Option Snap) AllocError) → IfOk r (λ o. IfSome o (IsHeldOf key entries old new)) → IfOk r (λ o. MatchOption o (N → ⊥) (λ s. N → IsHeldWhole new s)) → OnOk r (N → IsSomeAnd (entry_number entries key) (IsChainKnown new))
held-is-known key entries old new N (Ok None) t w = λ n. absurd (w n)
held-is-known key entries old new N (Ok (Some s)) t w = λ n. subst (λ (o : Option ℕ). IsSomeAnd o (IsChainKnown new)) (sym t.entry) (chain-held IsPartitionKnown s new t.there (w n).known (w n).may)
held-is-known key entries old new N (Err e) t w = tt

-- no count fell, whatever was answered
pub rest-lost : (old new : Memory) (r : Result (Option Snap) AllocError) → IfOk r (λ o. MatchOption o (LeavesRest old new) (λ s. LeavesBut s old new)) → OnErr r (LeavesRest old new) → losses old ≤ losses new
rest-lost old new (Ok None) h e = let counts = h.counts in omega (arith, counts.evicted, counts.skipped)
rest-lost old new (Ok (Some s)) h e = let counts = h.counts in omega (arith, counts.evicted, counts.skipped)
rest-lost old new (Err x) h e = let counts = e.counts in omega (arith, counts.evicted, counts.skipped)
