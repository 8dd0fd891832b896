-- What the calls of the row cache leave of memtables' chains, and of how many versions its own chains have.
use Rattle.std.proofs.Common.{inl, inr, ℕ, zero, suc, List, [], Option, refl, sym, ap}
use Rattle.rc_cell.specs.declared.rows.Row.{Row}
use Rattle.rc_cell.specs.declared.writes.Tomb.{Tomb}
use Rattle.rc_memory.specs.Memory.{Memory, with_dropped}
use Rattle.rc_filler.specs.Snap.{Snap}
use Rattle.rc_entries.specs.Filling.{filled_statics}
use Rattle.rc_stream.specs.Did.{StepsInTurn}
use Rattle.rc_filler.specs.Fills.{IsFillDone}
use Rattle.rc_row_cache.specs.Calls.{IsEnterRefused, IsEntered, IsKeptOut, IsOpenRefused}
use Rattle.rc_row_cache.specs.Saying.{AreFillsDone}
use Rattle.rc_row_cache.proofs.Alike.{alike-leaves, alike-taken}
use Rattle.rc_row_cache.proofs.Calls.{fill-leaves, made-leaves, opened-leaves}
use Rattle.rc_row_cache.proofs.Leaving.{Leaves, UseLaws, leaves-same, leaves-then}

module _ (laws : UseLaws) (S : ℕ) where
  pub entered-leaves : (key : List ℕ) (pt : Option Tomb) (statics : Row) (phase : ℕ) (entries : List (List ℕ × ℕ)) (old new : Memory) (s : Snap) → IsEntered S key pt statics phase entries old new s → Leaves old new
  entered-leaves key pt statics phase entries old new s e =
      leaves-then old e.made new (made-leaves laws S old e.made e.room)
      (leaves-then e.made e.between new (leaves-then e.made (with_dropped [] e.made) e.between (leaves-same e.made (with_dropped [] e.made) refl) (opened-leaves s.chain pt (filled_statics statics) phase (with_dropped [] e.made) e.between e.opened))
      (alike-leaves e.between new (alike-taken s.chain s.pin s.phase e.between new e.taken.taken)))

  pub kept-out-leaves : (old new : Memory) → IsKeptOut S old new → Leaves old new
  kept-out-leaves old new (made, room, full, counted) = leaves-then old made new (made-leaves laws S old made room) (leaves-same made new (ap (λ (m : Memory). m.chains) counted))

  open-refused-leaves : (pt : Option Tomb) (statics : Row) (phase : ℕ) (old new : Memory) → IsOpenRefused pt statics phase old new → Leaves old new
  open-refused-leaves pt statics phase old new (inl slots) = leaves-same old new (ap (λ (m : Memory). m.chains) slots.same)
  open-refused-leaves pt statics phase old new (inr (id, opened)) = opened-leaves id pt (filled_statics statics) phase old new opened

  pub enter-refused-leaves : (pt : Option Tomb) (statics : Row) (phase : ℕ) (old new : Memory) → IsEnterRefused S pt statics phase old new → Leaves old new
  enter-refused-leaves pt statics phase old new (inl same) = leaves-same old new (ap (λ (m : Memory). m.chains) same)
  enter-refused-leaves pt statics phase old new (inr (made, room, refused)) =
      leaves-then old made new (made-leaves laws S old made room)
      (leaves-then made (with_dropped [] made) new (leaves-same made (with_dropped [] made) refl) (open-refused-leaves pt statics phase (with_dropped [] made) new refused))

  module _ (id pin : ℕ) where
    turns-leave : (n : ℕ) (old new : Memory) → StepsInTurn (IsFillDone S id pin) n old new → Leaves old new
    turns-leave zero old new same = leaves-same old new (ap (λ (m : Memory). m.chains) (sym same))
    turns-leave (suc n) old new (mid, one, rest) = leaves-then old mid new (fill-leaves laws S id pin old mid one) (turns-leave n mid new rest)

    pub fills-leave : (old new : Memory) → AreFillsDone S id pin old new → Leaves old new
    fills-leave old new (n, turns) = turns-leave n old new turns
