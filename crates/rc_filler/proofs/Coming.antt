-- What came of a fill, by its answer.
use Rattle.std.proofs.Common.{◌≡◌, ◌&&◌, ◌<◌, ℕ, List, [], Option, None, inl, inr, sym, ◌∙◌, subst, arith}
use Rattle.std.specs.Prelude.{IsTrue}
use Rattle.std.specs.Ordering.{is_lt}
use Rattle.rc_cell.specs.Winner.{empty_row}
use Rattle.rc_position.specs.declared.positions.Pos.{Pos}
use Rattle.rc_position.specs.Position.{Place, row_pos}
use Rattle.rc_mutation.specs.declared.mutations.Mutation.{Mutation}
use Rattle.rc_mutation.specs.Source.{source_at}
use Rattle.rc_core.specs.declared.entries.ChainKind.TheVariants.{Cache}
use Rattle.rc_core.specs.Chain.{IsKnown, content, has_flag}
use Rattle.rc_core.specs.Chains.{IsChainContinuous, IsPinned, Shown, at_place, phase_at, upto}
use Rattle.rc_core.specs.Continuity.{IsContinuous, static_states}
use Rattle.rc_core.specs.Steps.{IsChain, on_newest}
use Rattle.rc_memory.specs.Memory.{KeptChain, Memory, chain_at, on_shown}
use Rattle.rc_memory.specs.Recency.{IsRecency}
use Rattle.rc_evict.specs.Evictions.{AreEvicted}
use Rattle.rc_populate.specs.Filling.{MayFill, on_newest_of}
use Rattle.rc_populate.specs.laws.Filled.{may-fill}
use Rattle.rc_stream.specs.declared.fillers.Fill.{Fill}
use Rattle.rc_stream.specs.declared.fillers.Fill.TheVariants.{Filled, Skipped, NotNewest}
use Rattle.rc_stream.specs.Snapshot.{Answers, NoneLost, There, Unlost, most_counted}
use Rattle.rc_cursor.specs.Snapshots.{IsKnownAs, kind_in, versions_in}
use Rattle.rc_filler.specs.declared.fillers.CacheFiller.{CacheFiller}
use Rattle.rc_filler.specs.Stands.{HasCacheSnapshot, StandsForWrites}
use Rattle.rc_filler.specs.Fillers.{FillerKnows, losses}
use Rattle.rc_filler.specs.Fills.{IsFillDone, IsPortionFilled, IsSkipCounted, IsUnfit, OfGap, OfRow, OfStatics, Portion, SayPortion, filled_with}
use Rattle.rc_evict.specs.Evictions.{IsRoomMade}
use Rattle.rc_filler.specs.calls.Coming.{AreCountsInRange, CameOf, KnowsPortion}
use Rattle.rc_filler.proofs.Continued.{newest-length}
use Rattle.rc_filler.proofs.Counted.{filled-losses, room-none, room-range, skip-losses}
use Rattle.rc_filler.proofs.Filling.{FillLaws, filled-chain, filled-content, filled-kept, filled-known, filled-statics, filled-stands, filled-there}
use Rattle.rc_filler.proofs.Leaving.{no-room}
use Rattle.rc_filler.proofs.Seen.{as-seen, knows-said, may-of, of-seen}

-- ---- the answer

pub came-answers : (S id pin : ℕ) (q : Portion) (fill : Fill) (m n : Memory) → AreCountsInRange m.counts → CameOf S fill q id pin m n → Answers fill (MayFill m id pin) (losses m) (losses n)
came-answers S id pin q Filled m n range came = came.0
came-answers S id pin q Skipped m n range came = (came.0, skip-losses S m came.1.0 range came.1.1 n came.1.3)
came-answers S id pin q NotNewest m n range came = came.0

pub came-done : (S id pin : ℕ) (q : Portion) (fill : Fill) (m n : Memory) → CameOf S fill q id pin m n → IsFillDone S id pin m n
came-done S id pin q Filled m n came = inr (came.1.0, q, came.1.1, inl came.1.2)
came-done S id pin q Skipped m n came = inr (came.1.0, q, came.1.1, inr (came.1.2, came.1.3))
came-done S id pin q NotNewest m n came = inl came.1

-- by other names of the same snapshot
pub came-named : (S : ℕ) (q : Portion) (fill : Fill) (id pin chain number : ℕ) (m n : Memory) → id ≡ chain → pin ≡ number → CameOf S fill q id pin m n → CameOf S fill q chain number m n
came-named S q fill id pin chain number m n a b came = subst (λ x. CameOf S fill q x number m n) a (subst (λ y. CameOf S fill q id y m n) b came)

-- a portion that cannot stand in a version is skipped, where nothing else was done
pub came-unfit : (S : ℕ) (q : Portion) (fill : Fill) (id pin : ℕ) (m n : Memory) → fill ≡ Skipped → MayFill m id pin → IsUnfit q → IsSkipCounted m n → CameOf S fill q id pin m n
came-unfit S q fill id pin m n answer may unfit skip = subst (λ a. CameOf S a q id pin m n) (sym answer) (may, (m, no-room S m, inr unfit, skip))

-- ---- a skipped fill that is counted

skipped-there : (id pin : ℕ) (mid n : Memory) → IsSkipCounted mid n → HasCacheSnapshot mid id pin → HasCacheSnapshot n id pin
skipped-there id pin mid n skip h = subst (λ x. HasCacheSnapshot x id pin) (sym skip) (record { chain = h.chain; number = h.number; there = h.there; pinned = h.pinned; cached = h.cached })

skipped-may : (id pin : ℕ) (mid n : Memory) → IsSkipCounted mid n → MayFill mid id pin → MayFill n id pin
skipped-may id pin mid n skip h = subst (λ x. MayFill x id pin) (sym skip) h

skipped-stands : (S id pin : ℕ) (writes : List Mutation) (mid n : Memory) → IsSkipCounted mid n → StandsForWrites S mid id pin writes → StandsForWrites S n id pin writes
skipped-stands S id pin writes mid n skip s = subst (λ x. StandsForWrites S x id pin writes) (sym skip) (record {
  snapshot = record { chain = s.snapshot.chain; number = s.snapshot.number; there = s.snapshot.there; pinned = s.snapshot.pinned; cached = s.snapshot.cached };
  place = s.place;
  below = s.below;
  form = s.form;
  continuous = s.continuous;
  unlisted = s.unlisted;
  source = s.source;
  schema = s.schema;
  limits = s.limits;
  small = s.small;
  changes = s.changes;
  rows = s.rows;
})

module _ (there : (S : ℕ) (old new : Memory) (id pin : ℕ) → IsRoomMade S old new → HasCacheSnapshot old id pin → HasCacheSnapshot new id pin)
    (may : (S : ℕ) (old new : Memory) (id pin : ℕ) → IsRoomMade S old new → MayFill old id pin → MayFill new id pin)
    (stands : (S : ℕ) (old new : Memory) (id pin : ℕ) (writes : List Mutation) → IsRecency old → IsRoomMade S old new → StandsForWrites S old id pin writes → StandsForWrites S new id pin writes)
    (laws : FillLaws) where
  -- ---- what stays

  filled-may : (q : Portion) (id pin : ℕ) (mid n : Memory) → IsPortionFilled q id pin mid n → MayFill mid id pin → MayFill n id pin
  filled-may q id pin mid n f h =
      let w = may-of mid id pin h in
      may-fill n id pin w.1 (on_shown (on_newest_of (filled_with q)) w.0) (filled-chain laws q id pin mid n f w.0 w.2) w.3
      (record { newest = w.4.newest ∙ sym (newest-length (filled_with q) w.0.chain.versions); attached = w.4.attached; settled = w.4.settled })

  pub came-there : (S id pin : ℕ) (q : Portion) (fill : Fill) (m n : Memory) → CameOf S fill q id pin m n → HasCacheSnapshot m id pin → HasCacheSnapshot n id pin
  came-there S id pin q Filled m n came h = filled-there laws q id pin came.1.0 n came.1.2 (there S m came.1.0 id pin came.1.1 h)
  came-there S id pin q Skipped m n came h = skipped-there id pin came.1.0 n came.1.3 (there S m came.1.0 id pin came.1.1 h)
  came-there S id pin q NotNewest m n came h = subst (λ x. HasCacheSnapshot x id pin) (sym came.1) h

  pub came-may : (S id pin : ℕ) (q : Portion) (fill : Fill) (m n : Memory) → CameOf S fill q id pin m n → MayFill m id pin → MayFill n id pin
  came-may S id pin q Filled m n came h = filled-may q id pin came.1.0 n came.1.2 (may S m came.1.0 id pin came.1.1 h)
  came-may S id pin q Skipped m n came h = skipped-may id pin came.1.0 n came.1.3 (may S m came.1.0 id pin came.1.1 h)
  came-may S id pin q NotNewest m n came h = subst (λ x. MayFill x id pin) (sym came.1) h

  pub came-stands : (S id pin : ℕ) (q : Portion) (fill : Fill) (m n : Memory) (writes : List Mutation) → IsRecency m → CameOf S fill q id pin m n → StandsForWrites S m id pin writes → SayPortion writes q → StandsForWrites S n id pin writes
  came-stands S id pin q Filled m n writes rule came s said = filled-stands laws q id pin came.1.0 n came.1.2 S writes (stands S m came.1.0 id pin writes rule came.1.1 s) said
  came-stands S id pin q Skipped m n writes rule came s said = skipped-stands S id pin writes came.1.0 n came.1.3 (stands S m came.1.0 id pin writes rule came.1.1 s)
  came-stands S id pin q NotNewest m n writes rule came s said = subst (λ x. StandsForWrites S x id pin writes) (sym came.1) s

  -- ---- what is known

  module _ (source : (below : ℕ → List Mutation) (p : Place) (c : Shown) (j : ℕ) → IsChain (at_place p c) → IsChainContinuous below (at_place p c) → IsPinned c.pins j → IsContinuous None (below (phase_at c.versions j)) (upto c.versions j))
      (none : (gone : List ℕ) (old new : Memory) (id : ℕ) → AreEvicted [] gone old new → chain_at new id ≡ chain_at old id) where
    module _ (S : ℕ) (f : CacheFiller) (mid n : Memory) (writes : List Mutation) (s : StandsForWrites S mid f.chain f.pin writes) where
      -- what is known then is what the writes say
      known_there : (q : Portion) → SayPortion writes q → IsPortionFilled q f.chain f.pin mid n → (x : Pos) (v : There) → source_at writes x ≡ v → IsKnown Cache (upto (on_newest (filled_with q) s.snapshot.chain.chain.versions) s.snapshot.number) x → FillerKnows n f x v
      known_there q said filled x v says k =
          as-seen n f.chain f.pin (filled-there laws q f.chain f.pin mid n filled s.snapshot) (λ kind vs. IsKnownAs kind vs x v)
          (record { known = k; there = filled-content laws q f.chain f.pin mid n filled S writes s said source x k ∙ says })

      knows_portion : (q : Portion) → SayPortion writes q → IsPortionFilled q f.chain f.pin mid n → KnowsPortion n f q
      knows_portion (OfGap from to tomb) said filled = λ x on before.
          known_there (OfGap from to tomb) said filled x (empty_row, tomb) (said x on before) (filled-known laws (OfGap from to tomb) f.chain f.pin mid n filled S writes s said x (λ i. on i && is_lt (before i)))
      knows_portion (OfRow key row tomb) said filled = known_there (OfRow key row tomb) said filled (row_pos key) (row, tomb) said (filled-known laws (OfRow key row tomb) f.chain f.pin mid n filled S writes s said)
      knows_portion (OfStatics row) said filled =
          let q = OfStatics row in
          let after = filled-there laws q f.chain f.pin mid n filled s.snapshot in
          let known = filled-known laws q f.chain f.pin mid n filled S writes s said in (
            as-seen n f.chain f.pin after (λ kind vs. IsTrue (has_flag kind (static_states vs))) known,
            as-seen n f.chain f.pin after (λ kind vs. (content (static_states vs)).0 ≡ row) (filled-statics laws q f.chain f.pin mid n filled S writes s said source known ∙ said),
          )

      knows_still : (q : Portion) → SayPortion writes q → IsPortionFilled q f.chain f.pin mid n → (x : Pos) (v : There) → FillerKnows mid f x v → FillerKnows n f x v
      knows_still q said filled x v k =
          let was = of-seen mid f.chain f.pin s.snapshot (λ kind vs. IsKnownAs kind vs x v) k in
          known_there q said filled x v (knows-said source S mid f writes s x v k) (filled-kept laws q f.chain f.pin mid n filled S writes s said x was.known)

    skipped_not : (S : ℕ) (m mid n : Memory) (P : Type 0) → AreCountsInRange m.counts → IsRoomMade S m mid → IsSkipCounted mid n → NoneLost (losses m) (losses n) → P
    skipped_not S m mid n P range room skip lost = elim (skip-losses S m mid range room n skip) [ inl less ↦ absurd (omega (arith, less, lost.0)) | inr top ↦ absurd (omega (arith, top, lost.1)) ]

    pub came-known : (S : ℕ) (f : CacheFiller) (q : Portion) (fill : Fill) (m n : Memory) (writes : List Mutation) → AreCountsInRange m.counts → IsRecency m → CameOf S fill q f.chain f.pin m n → StandsForWrites S m f.chain f.pin writes → SayPortion writes q →
        Unlost (MayFill m f.chain f.pin) (losses m) (losses n) (KnowsPortion n f q)
    came-known S f q Filled m n writes range rule came s said = λ may lost. knows_portion S f came.1.0 n writes (stands S m came.1.0 f.chain f.pin writes rule came.1.1 s) q said came.1.2
    came-known S f q Skipped m n writes range rule came s said = λ may lost. skipped_not S m came.1.0 n (KnowsPortion n f q) range came.1.1 came.1.3 lost
    came-known S f q NotNewest m n writes range rule came s said = λ may lost. absurd (came.0 may)

    pub came-keeps : (S : ℕ) (f : CacheFiller) (q : Portion) (fill : Fill) (m n : Memory) (writes : List Mutation) → AreCountsInRange m.counts → IsRecency m → CameOf S fill q f.chain f.pin m n → StandsForWrites S m f.chain f.pin writes → SayPortion writes q →
        Unlost (MayFill m f.chain f.pin) (losses m) (losses n) ((x : Pos) (v : There) → FillerKnows m f x v → FillerKnows n f x v)
    came-keeps S f q Filled m n writes range rule came s said = λ may lost x v k.
        let mid = came.1.0 in
        let room = came.1.1 in
        let filled = came.1.2 in
        let same = filled-losses f.chain (filled_with q) (λ w. w.chain ≡ f.chain) mid n (room-range S m mid range room) filled.filled in
        let went : room.went ≡ [] = room-none S m mid range room (lost.0 ∙ same) (subst (λ a. a < most_counted) same lost.1) in
        let there : chain_at mid f.chain ≡ chain_at m f.chain = none room.gone m mid f.chain (subst (λ ws. AreEvicted ws room.gone m mid) went room.evicted) in
        knows_still S f mid n writes (stands S m mid f.chain f.pin writes rule room s) q said filled x v (subst (λ (o : Option KeptChain). IsKnownAs (kind_in o) (versions_in o f.pin) x v) (sym there) k)
    came-keeps S f q Skipped m n writes range rule came s said = λ may lost. skipped_not S m came.1.0 n ((x : Pos) (v : There) → FillerKnows m f x v → FillerKnows n f x v) range came.1.1 came.1.3 lost
    came-keeps S f q NotNewest m n writes range rule came s said = λ may lost. absurd (came.0 may)
