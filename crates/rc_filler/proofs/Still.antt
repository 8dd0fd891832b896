-- A static row that is known stays known where nothing is lost, and what may be filled still may be.
use Rattle.std.proofs.Common.{◌≡◌, ◌<◌, ℕ, List, [], Option, Some, inl, inr, refl, sym, ◌∙◌, subst, arith}
use Rattle.std.specs.Prelude.{IsTrue}
use Rattle.rc_cell.specs.declared.rows.Row.{Row}
use Rattle.rc_cell.specs.declared.writes.Tomb.{Tomb}
use Rattle.rc_position.specs.declared.positions.Pos.{Pos}
use Rattle.rc_position.specs.Position.{Head, row_pos}
use Rattle.rc_core.specs.declared.entries.ChainKind.TheVariants.{Cache}
use Rattle.rc_core.specs.Chain.{content, has_flag}
use Rattle.rc_core.specs.Chains.{Shown, at_place, upto}
use Rattle.rc_core.specs.Continuity.{fill_statics, static_states}
use Rattle.rc_core.specs.Steps.{MayPopulate, gap_filled, row_filled}
use Rattle.rc_core.specs.Version.{Version}
use Rattle.rc_memory.specs.Memory.{KeptChain, Memory, chain_at, on_chain, on_shown}
use Rattle.rc_evict.specs.Evictions.{AreEvicted}
use Rattle.rc_populate.specs.Filling.{MayFill, filled_statics, on_newest_of}
use Rattle.rc_populate.specs.laws.Filled.{may-fill}
use Rattle.rc_stream.specs.Snapshot.{NoneLost, most_counted}
use Rattle.rc_cursor.specs.Snapshots.{kind_in, versions_in}
use Rattle.rc_filler.specs.declared.fillers.CacheFiller.{CacheFiller}
use Rattle.rc_filler.specs.Stands.{HasCacheSnapshot}
use Rattle.rc_filler.specs.Fillers.{FillerKnowsStatics, losses, versions_filled}
use Rattle.rc_filler.specs.Fills.{IsFillDone, IsPortionFilled, OfGap, OfRow, OfStatics, Portion, filled_with}
use Rattle.rc_evict.specs.Evictions.{IsRoomMade}
use Rattle.rc_filler.specs.calls.Coming.{AreCountsInRange}
use Rattle.rc_filler.proofs.Continued.{newest-length}
use Rattle.rc_filler.proofs.Counted.{filled-losses, room-none, room-range, skip-losses}
use Rattle.rc_filler.proofs.Seen.{as-seen, may-of, may-there, of-seen}

-- what fills leave of the head
pub record HeadLaws : Type 0 where
  pub here : (id : ℕ) (f : Version → Version) (old new : Memory) (k : KeptChain) → new.chains ≡ on_chain id (on_shown (on_newest_of f)) old.chains → chain_at old id ≡ Some k → chain_at new id ≡ Some (on_shown (on_newest_of f) k)
  pub none : (gone : List ℕ) (old new : Memory) (id : ℕ) → AreEvicted [] gone old new → chain_at new id ≡ chain_at old id
  pub room : (S : ℕ) (old new : Memory) (id pin : ℕ) → IsRoomMade S old new → MayFill old id pin → MayFill new id pin
  pub gap : (c : Shown) (j : ℕ) (from to : Pos) (tomb : Option Tomb) → MayPopulate (at_place Head c) j → static_states (upto (on_newest_of (gap_filled from to tomb) c).versions j) ≡ static_states (upto c.versions j)
  pub row : (c : Shown) (j : ℕ) (x : Pos) (row : Row) (tomb : Option Tomb) → MayPopulate (at_place Head c) j → static_states (upto (on_newest_of (row_filled x row tomb) c).versions j) ≡ static_states (upto c.versions j)
  pub statics : (c : Shown) (j : ℕ) (statics : Option Row) → MayPopulate (at_place Head c) j → IsTrue (has_flag Cache (static_states (upto (on_newest_of (fill_statics statics) c).versions j)))

module _ (laws : HeadLaws) where
  portion-statics : (q : Portion) (c : Shown) (j : ℕ) → MayPopulate (at_place Head c) j → IsTrue (has_flag Cache (static_states (upto c.versions j))) → IsTrue (has_flag Cache (static_states (upto (on_newest_of (filled_with q) c).versions j)))
  portion-statics (OfGap from to tomb) c j may k = subst (λ ss. IsTrue (has_flag Cache ss)) (sym (laws.gap c j from to tomb may)) k
  portion-statics (OfRow key row tomb) c j may k = subst (λ ss. IsTrue (has_flag Cache ss)) (sym (laws.row c j (row_pos key) row tomb may)) k
  portion-statics (OfStatics row) c j may k = laws.statics c j (filled_statics row) may

  -- the chain of a snapshot, filled
  module _ (q : Portion) (id pin : ℕ) (mid n : Memory) (f : IsPortionFilled q id pin mid n) where
    abbrev then_there : HasCacheSnapshot n id pin
    then_there = record { chain = on_shown (on_newest_of (filled_with q)) f.snapshot.chain; number = f.snapshot.number; there = laws.here id (filled_with q) mid n f.snapshot.chain f.filled.chains f.snapshot.there; pinned = f.snapshot.pinned; cached = f.snapshot.cached }

    filled-may : MayFill n id pin
    filled-may =
        let w = may-of mid id pin f.may in
        may-fill n id pin w.1 (on_shown (on_newest_of (filled_with q)) w.0) (laws.here id (filled_with q) mid n w.0 f.filled.chains w.2) w.3
        (record { newest = w.4.newest ∙ sym (newest-length (filled_with q) w.0.chain.versions); attached = w.4.attached; settled = w.4.settled })

    filled-static : IsTrue (has_flag (kind_in (chain_at mid id)) (static_states (versions_in (chain_at mid id) pin))) → IsTrue (has_flag (kind_in (chain_at n id)) (static_states (versions_in (chain_at n id) pin)))
    filled-static k = as-seen n id pin then_there (λ kind vs. IsTrue (has_flag kind (static_states vs)))
        (portion-statics q f.snapshot.chain.chain f.snapshot.number (may-there mid id pin f.snapshot f.may) (of-seen mid id pin f.snapshot (λ kind vs. IsTrue (has_flag kind (static_states vs))) k))

  -- what may be filled still may be
  pub done-may : (S id pin : ℕ) (m n : Memory) → IsFillDone S id pin m n → MayFill m id pin → MayFill n id pin
  done-may S id pin m n (inl same) h = subst (λ x. MayFill x id pin) (sym same) h
  done-may S id pin m n (inr (mid, q, room, inl filled)) h = filled-may q id pin mid n filled
  done-may S id pin m n (inr (mid, q, room, inr skip)) h = subst (λ x. MayFill x id pin) (sym skip.1) (laws.room S m mid id pin room h)

  -- a static row that is known still is
  pub done-static : (S : ℕ) (f : CacheFiller) (m n : Memory) → AreCountsInRange m.counts → IsFillDone S f.chain f.pin m n → NoneLost (losses m) (losses n) → (row : Row) → FillerKnowsStatics m f row → (now : Row) × FillerKnowsStatics n f now
  done-static S f m n range (inl same) lost row k = (row, subst (λ x. FillerKnowsStatics x f row) (sym same) k)
  done-static S f m n range (inr (mid, q, room, inl filled)) lost row k =
      let same = filled-losses f.chain (filled_with q) (λ w. w.chain ≡ f.chain) mid n (room-range S m mid range room) filled.filled in
      let went : room.went ≡ [] = room-none S m mid range room (lost.0 ∙ same) (subst (λ a. a < most_counted) same lost.1) in
      let there : chain_at mid f.chain ≡ chain_at m f.chain = laws.none room.gone m mid f.chain (subst (λ ws. AreEvicted ws room.gone m mid) went room.evicted) in
      ((content (static_states (versions_filled n f))).0, (filled-static q f.chain f.pin mid n filled (subst (λ (o : Option KeptChain). IsTrue (has_flag (kind_in o) (static_states (versions_in o f.pin)))) (sym there) k.0), refl))
  done-static S f m n range (inr (mid, q, room, inr skip)) lost row k = elim (skip-losses S m mid range room n skip.1) [ inl less ↦ absurd (omega (arith, less, lost.0)) | inr top ↦ absurd (omega (arith, top, lost.1)) ]
