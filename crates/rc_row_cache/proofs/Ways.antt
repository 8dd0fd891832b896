-- That no chain of the cache is to be dropped, over the calls of a shard and of the row cache.
use Rattle.std.proofs.Common.{inl, inr, ℕ, zero, suc, List, [], Option, refl, sym, ap}
use Rattle.rc_cell.specs.declared.rows.Row.{Row}
use Rattle.rc_cell.specs.declared.writes.Tomb.{Tomb}
use Rattle.rc_memory.specs.Memory.{Memory, with_dropped}
use Rattle.rc_filler.specs.Snap.{Snap}
use Rattle.rc_filler.specs.Evictions.{IsRoomMade}
use Rattle.rc_entries.specs.Filling.{filled_statics}
use Rattle.rc_stream.specs.Did.{StepsInTurn}
use Rattle.rc_filler.specs.Fills.{IsFillDone}
use Rattle.rc_row_cache.specs.Calls.{IsEnterRefused, IsEntered, IsKeptOut}
use Rattle.rc_row_cache.specs.Saying.{AreFillsDone}
use Rattle.rc_row_cache.specs.Footprint.{AreInUse}
use Rattle.rc_row_cache.proofs.Used.{EvictionLaws, used-evicted, used-filled, used-opened, used-same, used-taken}

module _ (laws : EvictionLaws) (S : ℕ) where
  pub used-made : (old new : Memory) → IsRoomMade S old new → AreInUse old → AreInUse new
  used-made old new r used = used-evicted laws r.went r.gone old new r.evicted used

  pub used-entered : (key : List ℕ) (pt : Option Tomb) (statics : Row) (phase : ℕ) (entries : List (List ℕ × ℕ)) (old new : Memory) (s : Snap) → IsEntered S key pt statics phase entries old new s → AreInUse old → AreInUse new
  used-entered key pt statics phase entries old new s e used =
      used-taken s.chain s.pin s.phase e.between new e.taken.taken
      (used-opened s.chain pt (filled_statics statics) phase (with_dropped [] e.made) e.between e.opened (used-same e.made (with_dropped [] e.made) refl refl (used-made old e.made e.room used)))

  pub used-kept-out : (old new : Memory) → IsKeptOut S old new → AreInUse old → AreInUse new
  used-kept-out old new (made, room, full, counted) used = used-same made new (ap (λ (m : Memory). m.chains) counted) (ap (λ (m : Memory). m.recency) counted) (used-made old made room used)

  pub used-enter-refused : (pt : Option Tomb) (statics : Row) (phase : ℕ) (old new : Memory) → IsEnterRefused S pt statics phase old new → AreInUse old → AreInUse new
  used-enter-refused pt statics phase old new (inl same) used = used-same old new (ap (λ (m : Memory). m.chains) same) (ap (λ (m : Memory). m.recency) same) used
  used-enter-refused pt statics phase old new (inr (made, room, inl slots)) used = used-same made new (ap (λ (m : Memory). m.chains) slots.same) (ap (λ (m : Memory). m.recency) slots.same) (used-made old made room used)
  used-enter-refused pt statics phase old new (inr (made, room, inr (id, opened))) used =
      used-opened id pt (filled_statics statics) phase (with_dropped [] made) new opened (used-same made (with_dropped [] made) refl refl (used-made old made room used))

  module _ (id pin : ℕ) where
    used-fill : (old new : Memory) → IsFillDone S id pin old new → AreInUse old → AreInUse new
    used-fill old new (inl same) used = used-same old new (ap (λ (m : Memory). m.chains) same) (ap (λ (m : Memory). m.recency) same) used
    used-fill old new (inr (mid, portion, room, inl filled)) used = used-filled portion id pin mid new filled (used-made old mid room used)
    used-fill old new (inr (mid, portion, room, inr skipped)) used = used-same mid new (ap (λ (m : Memory). m.chains) skipped.1) (ap (λ (m : Memory). m.recency) skipped.1) (used-made old mid room used)

    used-turns : (n : ℕ) (old new : Memory) → StepsInTurn (IsFillDone S id pin) n old new → AreInUse old → AreInUse new
    used-turns zero old new same used = used-same old new (ap (λ (m : Memory). m.chains) (sym same)) (ap (λ (m : Memory). m.recency) (sym same)) used
    used-turns (suc n) old new (mid, one, rest) used = used-turns n mid new rest (used-fill old mid one used)

    pub used-fills : (old new : Memory) → AreFillsDone S id pin old new → AreInUse old → AreInUse new
    used-fills old new (n, turns) used = used-turns n old new turns used
