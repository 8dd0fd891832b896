-- A chain whose newest version was filled is continuous for whatever lies below it, if it was, and if that version stands for what lies below it.
use Rattle.std.proofs.Common.{◌≡◌, ◌<◌, ◌≤◌, ℕ, suc, List, [], ◌∷◌, Option, Some, None, get_or, length, slice_index_or, inl, inr, refl, sym, ap, ◌∙◌, subst, arith}
use Rattle.rc_position.specs.Position.{Head, Place}
use Rattle.rc_mutation.specs.declared.mutations.Mutation.{Mutation}
use Rattle.rc_mutation.specs.Source.{SameSource}
use Rattle.rc_core.specs.Chains.{IsChainContinuous, IsNeeded, IsPinned, IsUpdating, Shown, at_place, phase_at, phases, upto}
use Rattle.rc_core.specs.Continuity.{HoldNoMore, IsContinuous}
use Rattle.rc_core.specs.Steps.{IsChain, MayPopulate, on_newest, pin_at}
use Rattle.rc_core.specs.Version.{Version}
use Rattle.rc_core.specs.laws.Updating.{relabelled, same-hold}
use Rattle.rc_chain.specs.laws.PlaceBeside.{anywhere-fills}
use Rattle.rc_core.specs.laws.Pins.{pin-is-pinned}
use Rattle.rc_memory.specs.Memory.{KeptChain, Memory, chain_at, on_chain, on_shown}
use Rattle.rc_memory.specs.Recency.{IsRecency}
use Rattle.rc_memory.specs.laws.Places.{same_some}
use Rattle.rc_evict.specs.Evictions.{IsPlaceUnlisted, evicted_of}
use Rattle.rc_populate.specs.Filling.{on_newest_of}
use Rattle.rc_filler.specs.Stands.{HasCacheSnapshot, StandsForWrites}
use Rattle.rc_filler.specs.Fills.{IsFillDone, IsPortionFilled, Portion, filled_with}
use Rattle.rc_evict.specs.Evictions.{IsRoomMade}
use Rattle.rc_filler.proofs.Counted.{low_or}
use Rattle.rc_filler.proofs.Evicting.{EvictionLaws, room-chain}
use Rattle.rc_filler.proofs.Filling.{phases-kept}
use Rattle.rc_filler.proofs.Seen.{may-there, pins-there}

pub newest-length : (f : Version → Version) (vs : List Version) → length (on_newest f vs) ≡ length vs
newest-length f [] = refl
newest-length f (v ∷ []) = refl
newest-length f (v ∷ w ∷ vs) = ap suc (newest-length f (w ∷ vs))

module _ (older : (f : Version → Version) (c : Shown) (i : ℕ) → suc i < length c.versions → upto (on_newest_of f c).versions i ≡ upto c.versions i)
    (f : Version → Version) (keeps : (vs : List Version) → phases (on_newest f vs) ≡ phases vs) (below : ℕ → List Mutation) (pl : Place) (c : Shown) (j : ℕ) (may : MayPopulate (at_place Head c) j) (ch : IsChain (at_place pl c)) (on : IsChainContinuous below (at_place pl c))
    (writes : List Mutation) (now : IsContinuous None writes (upto (on_newest f c.versions) j)) (same : SameSource writes (below (phase_at (on_newest f c.versions) j))) where
  phase_same : (i : ℕ) → phase_at (on_newest f c.versions) i ≡ phase_at c.versions i
  phase_same i = ap (λ ps. get_or ps i 0) (keeps c.versions)

  count_same : length (on_newest f c.versions) ≡ length c.versions
  count_same = newest-length f c.versions

  at_end : length c.versions ≡ suc j
  at_end = sym may.newest

  old_held : (i : ℕ) → suc i < length c.versions → HoldNoMore (below (phase_at c.versions i)) (upto c.versions i) → HoldNoMore (below (phase_at (on_newest f c.versions) i)) (upto (on_newest f c.versions) i)
  old_held i low h = subst (λ p. HoldNoMore (below p) (upto (on_newest f c.versions) i)) (sym (phase_same i)) (subst (HoldNoMore (below (phase_at c.versions i))) (sym (older f c i low)) h)

  old_seen : (i : ℕ) (reach : Option Place) → suc i < length c.versions → IsContinuous reach (below (phase_at c.versions i)) (upto c.versions i) → IsContinuous reach (below (phase_at (on_newest f c.versions) i)) (upto (on_newest f c.versions) i)
  old_seen i reach low h = subst (λ p. IsContinuous reach (below p) (upto (on_newest f c.versions) i)) (sym (phase_same i)) (subst (IsContinuous reach (below (phase_at c.versions i))) (sym (older f c i low)) h)

  needed_there : (i : ℕ) → IsNeeded (at_place pl (on_newest_of f c)) i → IsNeeded (at_place pl c) i
  needed_there i (inl pinned) = inl pinned
  needed_there i (inr (inl newest)) = inr (inl (newest.0, newest.1 ∙ count_same))
  needed_there i (inr (inr under)) = inr (inr (under.0, under.1 ∙ count_same))

  settled_there : (at_place pl c).updating ≡ None
  settled_there = (anywhere-fills Head pl c j may).settled

  -- a version that is needed, and not an older one, is the newest
  newest_is : (i : ℕ) → length c.versions ≤ suc i → IsNeeded (at_place pl c) i → i ≡ j
  newest_is i high (inl pinned) = let low = ch.pins i pinned in omega (arith, high, low, at_end)
  newest_is i high (inr (inl newest)) = let e = newest.1 in omega (arith, e, at_end)
  newest_is i high (inr (inr under)) = absurd (subst IsUpdating settled_there under.0)

  pub newest-continuous : IsChainContinuous below (at_place pl (on_newest_of f c))
  newest-continuous = record {
    within = λ i low. elim (low_or (suc i) (length c.versions)) [
      | inl before ↦ old_held i before (on.within i (omega (arith, before)))
      | inr high ↦ (let here : j ≡ i = omega (arith, high, low, at_end, count_same) in
          subst (λ x. HoldNoMore (below (phase_at (on_newest f c.versions) x)) (upto (on_newest f c.versions) x)) here (same-hold writes (below (phase_at (on_newest f c.versions) j)) (upto (on_newest f c.versions) j) same now.within))
    ];
    needed = λ i reach has need. elim (low_or (suc i) (length c.versions)) [
      | inl before ↦ old_seen i reach before (on.needed i reach (λ e. has.0 (e ∙ sym count_same), λ off. has.1 (λ e. off (e ∙ count_same))) (needed_there i need))
      | inr high ↦ (let here : i ≡ j = newest_is i high (needed_there i need) in
          let none : reach ≡ None = has.0 (ap suc here ∙ (may.newest ∙ sym count_same)) ∙ settled_there in
          subst (λ r. IsContinuous r (below (phase_at (on_newest f c.versions) i)) (upto (on_newest f c.versions) i)) (sym none)
          (subst (λ x. IsContinuous None (below (phase_at (on_newest f c.versions) x)) (upto (on_newest f c.versions) x)) (sym here)
          (relabelled None writes (below (phase_at (on_newest f c.versions) j)) (upto (on_newest f c.versions) j) same now)))
    ];
    ahead = λ p e. (let clash : None ≡ Some p = sym settled_there ∙ e in absurd (cc));
  }

-- ---- after a fill

module _ (laws : EvictionLaws) (older : (f : Version → Version) (c : Shown) (i : ℕ) → suc i < length c.versions → upto (on_newest_of f c).versions i ≡ upto c.versions i)
    (here : (id : ℕ) (f : Version → Version) (old new : Memory) (k : KeptChain) → new.chains ≡ on_chain id (on_shown (on_newest_of f)) old.chains → chain_at old id ≡ Some k → chain_at new id ≡ Some (on_shown (on_newest_of f) k))
    (source : (below : ℕ → List Mutation) (p : Place) (c : Shown) (j : ℕ) → IsChain (at_place p c) → IsChainContinuous below (at_place p c) → IsPinned c.pins j → IsContinuous None (below (phase_at c.versions j)) (upto c.versions j))
    (S : ℕ) (below : ℕ → List Mutation) (pl : Place) (id pin : ℕ) (m n : Memory) (rule : IsRecency m) (k now : KeptChain) (j : ℕ) (e : chain_at m id ≡ Some k) (then_there : chain_at n id ≡ Some now) (pinned : pin_at k.chain.pins pin ≡ Some j)
    (ch : IsChain (at_place pl k.chain)) (off : IsPlaceUnlisted pl id k.chain m.recency) (on : IsChainContinuous below (at_place pl k.chain)) (s : StandsForWrites S n id pin (below (phase_at k.chain.versions j))) where
  module _ (mid : Memory) (room : IsRoomMade S m mid) where
    abbrev evicted : KeptChain
    evicted = evicted_of id room.went k

    there : chain_at mid id ≡ Some evicted
    there = room-chain laws S m mid room id j k e (pin-is-pinned k.chain.pins pin j pinned)

    evicted_form : IsChain (at_place pl evicted.chain)
    evicted_form = laws.form pl id room.went k ch

    evicted_continuous : IsChainContinuous below (at_place pl evicted.chain)
    evicted_continuous = laws.continuous below pl room.went room.gone m mid id k rule room.evicted e ch off on

    skip_continuous : n.chains ≡ mid.chains → IsChainContinuous below (at_place pl now.chain)
    skip_continuous same = subst (λ (q : KeptChain). IsChainContinuous below (at_place pl q.chain)) (same_some evicted now (sym there ∙ (sym (ap (λ cs. slice_index_or cs id None) same) ∙ then_there))) evicted_continuous

    module _ (q : Portion) (f : IsPortionFilled q id pin mid n) where
      after : chain_at n id ≡ Some (on_shown (on_newest_of (filled_with q)) evicted)
      after = here id (filled_with q) mid n evicted f.filled.chains there

      evicted_pinned : pin_at evicted.chain.pins pin ≡ Some j
      evicted_pinned = ap (λ ps. pin_at ps pin) (laws.pins id room.went k) ∙ pinned

      h : HasCacheSnapshot mid id pin
      h = record { chain = evicted; number = j; there = there; pinned = evicted_pinned; cached = ap (λ (x : KeptChain). x.chain.kind) (same_some evicted f.snapshot.chain (sym there ∙ f.snapshot.there)) ∙ f.snapshot.cached }

      may : MayPopulate (at_place Head evicted.chain) j
      unfolding h
      may = may-there mid id pin h f.may

      -- what the snapshot sees then is what lies below
      module _ (k' : KeptChain) (is : s.snapshot.chain ≡ k') where
        number_is : pin_at k'.chain.pins pin ≡ Some j → s.snapshot.number ≡ j
        number_is at = (let two : Some s.snapshot.number ≡ Some j = sym s.snapshot.pinned ∙ (ap (λ (x : KeptChain). pin_at x.chain.pins pin) is ∙ at) in cc)

        seen_then : pin_at k'.chain.pins pin ≡ Some j → IsContinuous None (below (phase_at k.chain.versions j)) (upto k'.chain.versions j)
        seen_then at = subst (λ i. IsContinuous None (below (phase_at k.chain.versions j)) (upto k'.chain.versions i)) (number_is at)
            (subst (λ (x : KeptChain). IsContinuous None (below (phase_at k.chain.versions j)) (upto x.chain.versions s.snapshot.number)) is
            (relabelled None (s.below (phase_at s.snapshot.chain.chain.versions s.snapshot.number)) (below (phase_at k.chain.versions j)) (upto s.snapshot.chain.chain.versions s.snapshot.number) s.source
            (source s.below s.place s.snapshot.chain.chain s.snapshot.number s.form s.continuous (pins-there n id pin s.snapshot))))

      same_phase : phase_at (on_newest (filled_with q) evicted.chain.versions) j ≡ phase_at k.chain.versions j
      same_phase = ap (λ ps. get_or ps j 0) (phases-kept q evicted.chain.versions ∙ laws.phases id room.went k)

      fill_continuous : IsChainContinuous below (at_place pl now.chain)
      fill_continuous = subst (λ (x : KeptChain). IsChainContinuous below (at_place pl x.chain)) (same_some (on_shown (on_newest_of (filled_with q)) evicted) now (sym after ∙ then_there))
          (newest-continuous older (filled_with q) (phases-kept q) below pl evicted.chain j may evicted_form evicted_continuous (below (phase_at k.chain.versions j))
          (seen_then (on_shown (on_newest_of (filled_with q)) evicted) (same_some s.snapshot.chain (on_shown (on_newest_of (filled_with q)) evicted) (sym s.snapshot.there ∙ after)) evicted_pinned)
          (subst (λ p. SameSource (below (phase_at k.chain.versions j)) (below p)) (sym same_phase) (record { head = refl; statics = refl; clustered = λ x. refl })))

  pub done-continuous : IsFillDone S id pin m n → IsChainContinuous below (at_place pl now.chain)
  done-continuous (inl same) = subst (λ (q : KeptChain). IsChainContinuous below (at_place pl q.chain)) (same_some k now (sym e ∙ (sym (ap (λ (x : Memory). chain_at x id) same) ∙ then_there))) on
  done-continuous (inr (mid, q, room, inl filled)) = fill_continuous mid room q filled
  done-continuous (inr (mid, q, room, inr skip)) = skip_continuous mid room (ap (λ (x : Memory). x.chains) skip.1)
