-- What a fill leaves of all chains: of those of memtables, of those that are read, and of all others but the one that is filled.
use Rattle.std.proofs.Common.{◌⊎◌, ◌∷◌, ◌≡◌, ◌≢◌, ◌≤◌, ◌<◌, ℕ, suc, List, [], Option, Some, None, IsSome, length, inl, inr, refl, sym, ap, ◌∙◌, subst, arith}
use Rattle.std.specs.Prelude.{Contains, IsSomeAnd}
use Rattle.std.specs.Option.{option_map}
use Rattle.std.proofs.lemmas.List.{append-nil}
use Rattle.lsa_pool.specs.laws.Usages.{decided}
use Rattle.rc_position.specs.Position.{Place}
use Rattle.rc_mutation.specs.declared.mutations.Mutation.{Mutation}
use Rattle.rc_core.specs.declared.entries.ChainKind.TheVariants.{Cache, Memtable}
use Rattle.rc_core.specs.Chains.{IsChainContinuous, IsPinned, Shown, at_place, upto}
use Rattle.rc_core.specs.Continuity.{IsSameOrLost}
use Rattle.rc_core.specs.Steps.{IsChain, pin_at}
use Rattle.rc_core.specs.Version.{Version}
use Rattle.rc_core.specs.laws.Pins.{pin-is-pinned}
use Rattle.rc_partition.specs.laws.Lists.{elem-cases, elem-first, elem-later, elem-none, once-none}
use Rattle.rc_registry.specs.Registry.{IsNumberIn}
use Rattle.rc_registry.specs.laws.Numbers.{IsOneOf-back, IsOneOf-front}
use Rattle.rc_memory.specs.Memory.{HasPin, KeptChain, Member, Memory, chain_at, on_chain, on_shown}
use Rattle.rc_memory.specs.Recency.{IsRecency}
use Rattle.rc_memory.specs.laws.Places.{same_some}
use Rattle.rc_chain.specs.declared.chains.Snap.{Snap}
use Rattle.rc_evict.specs.Evictions.{AreEvicted, IsPlaceUnlisted, evicted_of}
use Rattle.rc_evict.specs.laws.Crowds.{loses-nothing}
use Rattle.rc_populate.specs.Filling.{on_newest_of}
use Rattle.rc_populate.specs.laws.Opening.{some-and}
use Rattle.rc_cursor.specs.Snapshots.{kind_in, kind_seen, versions_in, versions_seen}
use Rattle.rc_filler.specs.Fills.{IsFillDone, IsPortionFilled, IsSkipCounted, IsUsedAsBefore, Portion, filled_with}
use Rattle.rc_evict.specs.Evictions.{IsRoomMade}
use Rattle.rc_filler.specs.calls.Coming.{AreCountsInRange}
use Rattle.rc_filler.proofs.Counted.{raised-low, room-range, room-raised}
use Rattle.rc_filler.proofs.Evicting.{EvictionLaws, room-chain}
use Rattle.rc_filler.proofs.Filling.{phases-kept}
use Rattle.rc_filler.proofs.Listed.{ComeOf}

same_use : (k : KeptChain) → IsUsedAsBefore k k
same_use k = record { kind = refl; attached = refl; updating = refl; pins = refl; passed = refl; phases = refl }

use_then : (k l m : KeptChain) → IsUsedAsBefore k l → IsUsedAsBefore l m → IsUsedAsBefore k m
use_then k l m a b = record { kind = b.kind ∙ a.kind; attached = b.attached ∙ a.attached; updating = b.updating ∙ a.updating; pins = b.pins ∙ a.pins; passed = b.passed ∙ a.passed; phases = b.phases ∙ a.phases }

-- ---- numbers of a list

number-decided : (xs : List ℕ) (i : ℕ) → IsNumberIn xs i ⊎ (IsNumberIn xs i → ⊥)
number-decided [] i = inr (λ h. h)
number-decided (x ∷ xs) i = elim (decided x i) [
  | inl here ↦ inl (inl here)
  | inr ne ↦ elim (number-decided xs i) [ inl later ↦ inl (inr later) | inr none ↦ inr (λ h. elim h [ inl here ↦ ne here | inr later ↦ none later ]) ]
]

number-contained : (xs : List ℕ) (i : ℕ) → IsNumberIn xs i → Contains xs i
number-contained [] i h = absurd h
number-contained (x ∷ xs) i (inl here) = subst (Contains (x ∷ xs)) here (elem-first x xs)
number-contained (x ∷ xs) i (inr later) = elem-later x i xs (number-contained xs i later)

contained-number : (xs : List ℕ) (i : ℕ) → Contains xs i → IsNumberIn xs i
contained-number [] i h = absurd (elem-none i h)
contained-number (x ∷ xs) i h = elim (elem-cases x i xs h) [ inl same ↦ inl same | inr later ↦ inr (contained-number xs i later) ]

-- ---- once room was made

-- what was done once room was made: one chain was filled at most
record IsAfterRoom (id : ℕ) (mid n : Memory) : Type 0 where
  others : (i : ℕ) → i ≢ id → chain_at n i ≡ chain_at mid i
  here : (k : KeptChain) → chain_at mid id ≡ Some k → (now : KeptChain) × (chain_at n id ≡ Some now) × IsUsedAsBefore k now × ((j : ℕ) → suc j < length k.chain.versions → upto now.chain.versions j ≡ upto k.chain.versions j)
  gone : chain_at mid id ≡ None → chain_at n id ≡ None
  memtable : (i : ℕ) (k : KeptChain) → chain_at mid i ≡ Some k → k.chain.kind ≡ Memtable → chain_at n i ≡ Some k
  listed : ComeOf id mid.recency n.recency
  dropped : n.dropped ≡ mid.dropped
  budget : length n.region.usages ≡ length mid.region.usages
  evicted : AreCountsInRange mid.counts → mid.counts.evicted ≤ n.counts.evicted
  skipped : AreCountsInRange mid.counts → mid.counts.skipped ≤ n.counts.skipped

record IsRoomThenFill (S id : ℕ) (m n : Memory) : Type 0 where
  mid : Memory
  room : IsRoomMade S m mid
  after : IsAfterRoom id mid n

same_map : (i : ℕ) (o : Option KeptChain) → o ≡ option_map (evicted_of i []) o
same_map i None = refl
same_map i (Some k) = refl

-- nothing went, and nothing moved
pub no-room : (S : ℕ) (m : Memory) → IsRoomMade S m m
no-room S m = record {
  went = [];
  gone = [];
  evicted = record {
    recency = refl;
    chains = λ i off. same_map i (chain_at m i);
    absent = λ i on. absurd (elem-none i on);
    idle = λ i on. absurd (elem-none i on);
    cause = λ i on. absurd (elem-none i on);
    kept = λ w k on off e idle. elem-none w on;
    once = once-none;
    dropped = sym (append-nil m.dropped);
    counts = refl;
  };
  crowded = inl refl;
  loses = loses-nothing S m;
  budget = refl;
  live = omega arith;
  moved = omega arith;
  counted = omega arith;
  skipped = refl;
  shrunk = refl;
}

module _ (others : (id : ℕ) (f : Version → Version) (old new : Memory) (i : ℕ) → new.chains ≡ on_chain id (on_shown (on_newest_of f)) old.chains → i ≢ id → chain_at new i ≡ chain_at old i)
    (here : (id : ℕ) (f : Version → Version) (old new : Memory) (k : KeptChain) → new.chains ≡ on_chain id (on_shown (on_newest_of f)) old.chains → chain_at old id ≡ Some k → chain_at new id ≡ Some (on_shown (on_newest_of f) k))
    (older : (f : Version → Version) (c : Shown) (i : ℕ) → suc i < length c.versions → upto (on_newest_of f c).versions i ≡ upto c.versions i) where
  module _ (id : ℕ) where
    after_none : (m : Memory) → IsAfterRoom id m m
    after_none m = record { others = λ i ne. refl; here = λ k e. (k, e, same_use k, λ j l. refl); gone = λ e. e; memtable = λ i k e is. e; listed = λ x on. inl on; dropped = refl; budget = refl; evicted = λ r. omega arith; skipped = λ r. omega arith }

    after_skip : (mid n : Memory) → IsSkipCounted mid n → IsAfterRoom id mid n
    after_skip mid n skip = subst (IsAfterRoom id mid) (sym skip) (record {
      others = λ i ne. refl;
      here = λ k e. (k, e, same_use k, λ j l. refl);
      gone = λ e. e;
      memtable = λ i k e is. e;
      listed = λ x on. inl on;
      dropped = refl;
      budget = refl;
      evicted = λ r. raised-low 0 mid.counts.evicted r.evicted;
      skipped = λ r. raised-low 1 mid.counts.skipped r.skipped;
    })

    after_filled : (pin : ℕ) (q : Portion) (mid n : Memory) → IsPortionFilled q id pin mid n → IsAfterRoom id mid n
    after_filled pin q mid n f = record {
      others = λ i ne. others id (filled_with q) mid n i f.filled.chains ne;
      here = λ k e. (
        on_shown (on_newest_of (filled_with q)) k,
        here id (filled_with q) mid n k f.filled.chains e,
        record { kind = refl; attached = refl; updating = refl; pins = refl; passed = refl; phases = phases-kept q k.chain.versions },
        λ j l. older (filled_with q) k.chain j l,
      );
      gone = λ none. (let clash : None ≡ Some f.snapshot.chain = sym none ∙ f.snapshot.there in absurd (cc));
      memtable = λ i k e is. elim (decided i id) [
        | inl same ↦ (let one : k ≡ f.snapshot.chain = same_some k f.snapshot.chain (sym e ∙ (ap (chain_at mid) same ∙ f.snapshot.there)) in
            let clash : Memtable ≡ Cache = sym is ∙ (ap (λ (x : KeptChain). x.chain.kind) one ∙ f.snapshot.cached) in absurd (cc))
        | inr ne ↦ others id (filled_with q) mid n i f.filled.chains ne ∙ e
      ];
      listed = f.listed;
      dropped = f.filled.dropped;
      budget = f.filled.region.budget;
      evicted = λ r. subst (λ x. mid.counts.evicted ≤ x) (sym (ap (λ c. c.evicted) f.filled.counts)) (raised-low 0 mid.counts.evicted r.evicted);
      skipped = λ r. subst (λ x. mid.counts.skipped ≤ x) (sym (ap (λ c. c.skipped) f.filled.counts)) (raised-low 0 mid.counts.skipped r.skipped);
    }

    parted : (S pin : ℕ) (m n : Memory) → IsFillDone S id pin m n → IsRoomThenFill S id m n
    parted S pin m n (inl same) = record { mid = m; room = no-room S m; after = subst (IsAfterRoom id m) (sym same) (after_none m) }
    parted S pin m n (inr (mid, q, room, inl filled)) = record { mid = mid; room = room; after = after_filled pin q mid n filled }
    parted S pin m n (inr (mid, q, room, inr skip)) = record { mid = mid; room = room; after = after_skip mid n skip.1 }

  module _ (laws : EvictionLaws) (S id pin : ℕ) (m n : Memory) (done : IsFillDone S id pin m n) where
    p : IsRoomThenFill S id m n
    p = parted id S pin m n done

    evicted_use : (i : ℕ) (k : KeptChain) → IsUsedAsBefore k (evicted_of i p.room.went k)
    evicted_use i k = record {
      kind = laws.kind i p.room.went k;
      attached = laws.attached i p.room.went k;
      updating = laws.updating i p.room.went k;
      pins = laws.pins i p.room.went k;
      passed = laws.passed i p.room.went k;
      phases = laws.phases i p.room.went k;
    }

    -- a chain that did not go is there, and used as before
    stays_used : (i : ℕ) (k : KeptChain) → chain_at p.mid i ≡ Some (evicted_of i p.room.went k) → (now : KeptChain) × (chain_at n i ≡ Some now) × IsUsedAsBefore k now
    stays_used i k there = elim (decided i id) [
      | inl same ↦
          let w = p.after.here (evicted_of i p.room.went k) (sym (ap (chain_at p.mid) same) ∙ there) in
          (w.0, ap (chain_at n) same ∙ w.1, use_then k (evicted_of i p.room.went k) w.0 (evicted_use i k) w.2)
      | inr ne ↦ (evicted_of i p.room.went k, p.after.others i ne ∙ there, evicted_use i k)
    ]

    pub done-pinned : (i j : ℕ) (k : KeptChain) → chain_at m i ≡ Some k → IsPinned k.chain.pins j → (now : KeptChain) × (chain_at n i ≡ Some now) × IsUsedAsBefore k now
    done-pinned i j k e on = stays_used i k (room-chain laws S m p.mid p.room i j k e on)

    -- a chain is there and used as before, or it is gone and its number is to be told
    pub done-told : (i : ℕ) (k : KeptChain) → chain_at m i ≡ Some k → ((now : KeptChain) × (chain_at n i ≡ Some now) × IsUsedAsBefore k now) ⊎ ((chain_at n i ≡ None) × IsNumberIn n.dropped i)
    done-told i k e = elim (number-decided p.room.gone i) [
      | inl on ↦
          let none : chain_at p.mid i ≡ None = p.room.evicted.absent i (number-contained p.room.gone i on) in
          inr (
            elim (decided i id) [
              | inl same ↦ ap (chain_at n) same ∙ p.after.gone (sym (ap (chain_at p.mid) same) ∙ none)
              | inr ne ↦ p.after.others i ne ∙ none
            ],
            subst (λ l. IsNumberIn l i) (sym p.after.dropped) (subst (λ l. IsNumberIn l i) (sym p.room.evicted.dropped) (IsOneOf-back m.dropped p.room.gone i on)),
          )
      | inr off ↦ inl (stays_used i k (p.room.evicted.chains i (λ on. off (contained-number p.room.gone i on)) ∙ ap (option_map (evicted_of i p.room.went)) e))
    ]

    pub done-still : (i : ℕ) → IsNumberIn m.dropped i → IsNumberIn n.dropped i
    done-still i on = subst (λ l. IsNumberIn l i) (sym p.after.dropped) (subst (λ l. IsNumberIn l i) (sym p.room.evicted.dropped) (IsOneOf-front m.dropped p.room.gone i on))

    pub done-pins : (i q : ℕ) → HasPin m i q → HasPin n i q
    done-pins i q h =
        let k = some-and (chain_at m i) (λ k. IsSome (pin_at k.chain.pins q)) h in
        let j = some_there (pin_at k.0.chain.pins q) k.2 in
        let w = done-pinned i j.0 k.0 k.1 (pin-is-pinned k.0.chain.pins q j.0 j.1) in
        subst (λ (o : Option KeptChain). IsSomeAnd o (λ k. IsSome (pin_at k.chain.pins q))) (sym w.1) (subst (λ ps. IsSome (pin_at ps q)) (sym w.2.pins) k.2)
      where
        some_there : (o : Option ℕ) → IsSome o → (j : ℕ) × (o ≡ Some j)
        some_there None h = absurd (cc)
        some_there (Some j) h = (j, refl)

    -- ---- memtables

    module _ (memtables : (went : List Member) (gone : List ℕ) (old new : Memory) (i : ℕ) (k : KeptChain) → IsRecency old → AreEvicted went gone old new → chain_at old i ≡ Some k → k.chain.kind ≡ Memtable → chain_at new i ≡ Some k) (rule : IsRecency m) where
      pub done-memtable : (i : ℕ) (k : KeptChain) → chain_at m i ≡ Some k → k.chain.kind ≡ Memtable → chain_at n i ≡ Some k
      done-memtable i k e is = p.after.memtable i k (memtables p.room.went p.room.gone m p.mid i k rule p.room.evicted e is) is

      pub done-sees : (s : Snap) → HasPin m s.chain s.pin → kind_seen m s ≡ Memtable → (versions_seen n s ≡ versions_seen m s) × (kind_seen n s ≡ kind_seen m s)
      done-sees s h is =
          let k = some-and (chain_at m s.chain) (λ k. IsSome (pin_at k.chain.pins s.pin)) h in
          let same : chain_at n s.chain ≡ chain_at m s.chain = done-memtable s.chain k.0 k.1 (sym (ap kind_in k.1) ∙ is) ∙ sym k.1 in
          (ap (λ o. versions_in o s.pin) same, ap kind_in same)

    -- ---- other chains

    pub done-absent : ((went : List Member) (gone : List ℕ) (old new : Memory) (i : ℕ) → AreEvicted went gone old new → chain_at old i ≡ None → chain_at new i ≡ None) → (i : ℕ) → chain_at m i ≡ None → chain_at n i ≡ None
    done-absent absent i none =
        let there : chain_at p.mid i ≡ None = absent p.room.went p.room.gone m p.mid i p.room.evicted none in
        elim (decided i id) [
          | inl same ↦ ap (chain_at n) same ∙ p.after.gone (sym (ap (chain_at p.mid) same) ∙ there)
          | inr ne ↦ p.after.others i ne ∙ there
        ]

    module _ (i : ℕ) (ne : i ≢ id) (k now : KeptChain) (e : chain_at m i ≡ Some k) (then_there : chain_at n i ≡ Some now) where
      other_is : evicted_of i p.room.went k ≡ now
      other_is =
          let there : chain_at p.mid i ≡ Some now = sym (p.after.others i ne) ∙ then_there in
          let stays : Contains p.room.gone i → ⊥ = λ on. (let clash : None ≡ Some now = sym (p.room.evicted.absent i on) ∙ there in cc clash) in
          same_some (evicted_of i p.room.went k) now (sym (p.room.evicted.chains i stays ∙ ap (option_map (evicted_of i p.room.went)) e) ∙ there)

      pub other-seen : ((pl : Place) (i : ℕ) (went : List Member) (k : KeptChain) (j : ℕ) → IsChain (at_place pl k.chain) → IsSameOrLost (upto k.chain.versions j) (upto (evicted_of i went k).chain.versions j)) →
          (pl : Place) (j : ℕ) → IsChain (at_place pl k.chain) → IsSameOrLost (upto k.chain.versions j) (upto now.chain.versions j)
      other-seen seen pl j ch = subst (λ (q : KeptChain). IsSameOrLost (upto k.chain.versions j) (upto q.chain.versions j)) other_is (seen pl i p.room.went k j ch)

      module _ (pl : Place) where
        pub other-form : IsChain (at_place pl k.chain) → IsChain (at_place pl now.chain)
        other-form ch = subst (λ (q : KeptChain). IsChain (at_place pl q.chain)) other_is (laws.form pl i p.room.went k ch)

        module _ (off : IsPlaceUnlisted pl i k.chain m.recency) where
          pub other-unlisted : IsPlaceUnlisted pl i now.chain n.recency
          other-unlisted = λ x j is up last on. elim (p.after.listed (record { chain = i; version = j; position = Some x }) on) [
            | inl was ↦ subst (λ (q : KeptChain). IsPlaceUnlisted pl i q.chain p.mid.recency) other_is (laws.place pl p.room.went p.room.gone m p.mid i k p.room.evicted off) x j is up last was
            | inr own ↦ ne own
          ]

          pub other-continuous : (below : ℕ → List Mutation) → IsRecency m → IsChain (at_place pl k.chain) → IsChainContinuous below (at_place pl k.chain) → IsChainContinuous below (at_place pl now.chain)
          other-continuous below rule ch on = subst (λ (q : KeptChain). IsChainContinuous below (at_place pl q.chain)) other_is
              (laws.continuous below pl p.room.went p.room.gone m p.mid i k rule p.room.evicted e ch off on)

    -- ---- the older versions of the chain that is filled

    pub older-seen : ((pl : Place) (i : ℕ) (went : List Member) (k : KeptChain) (j : ℕ) → IsChain (at_place pl k.chain) → IsSameOrLost (upto k.chain.versions j) (upto (evicted_of i went k).chain.versions j)) →
        (pl : Place) (j : ℕ) (k now : KeptChain) → chain_at m id ≡ Some k → chain_at n id ≡ Some now → IsChain (at_place pl k.chain) → suc j < length k.chain.versions → IsSameOrLost (upto k.chain.versions j) (upto now.chain.versions j)
    older-seen seen pl j k now e then_there ch low =
        let stays : Contains p.room.gone id → ⊥ = λ on. (let clash : None ≡ Some now = sym (p.after.gone (p.room.evicted.absent id on)) ∙ then_there in cc clash) in
        let there : chain_at p.mid id ≡ Some (evicted_of id p.room.went k) = p.room.evicted.chains id stays ∙ ap (option_map (evicted_of id p.room.went)) e in
        let w = p.after.here (evicted_of id p.room.went k) there in
        let count = laws.count id p.room.went k in
        subst (λ (q : KeptChain). IsSameOrLost (upto k.chain.versions j) (upto q.chain.versions j)) (same_some w.0 now (sym w.1 ∙ then_there))
        (subst (IsSameOrLost (upto k.chain.versions j)) (sym (w.3 j (omega (arith, low, count)))) (seen pl id p.room.went k j ch))

  module _ (S id pin : ℕ) (m n : Memory) (done : IsFillDone S id pin m n) where
    q : IsRoomThenFill S id m n
    q = parted id S pin m n done

    -- ---- what is counted

    pub done-budget : length n.region.usages ≡ length m.region.usages
    done-budget = q.after.budget ∙ q.room.budget

    pub done-counts : AreCountsInRange m.counts → (m.counts.evicted ≤ n.counts.evicted) × (m.counts.skipped ≤ n.counts.skipped)
    done-counts range =
        let mid = room-raised S m q.mid range q.room in
        let more = q.after.evicted (room-range S m q.mid range q.room) in
        let skipped = q.after.skipped (room-range S m q.mid range q.room) in
        (omega (arith, mid.0, more), omega (arith, mid.1, skipped))
