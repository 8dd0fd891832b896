-- What one fill of a stream's filler did.
use Rattle.std.proofs.Common.{◌+◌, ◌≤◌, ℕ, List, arith}
use Rattle.rc_cell.specs.declared.rows.Row.{Row}
use Rattle.rc_mutation.specs.declared.mutations.Mutation.{Mutation}
use Rattle.rc_position.specs.declared.positions.Pos.{Pos}
use Rattle.rc_memory.specs.Memory.{Memory}
use Rattle.rc_memory.specs.Recency.{IsRecency}
use Rattle.rc_stream.specs.Snapshot.{NoneLost, There, Unlost}
use Rattle.rc_cached.specs.Filling.{MayFill}
use Rattle.rc_cached.specs.Fills.{IsCacheFill}
use Rattle.rc_cached.specs.Stands.{StandsForWrites}
use Rattle.rc_cached.specs.declared.fillers.StreamFiller.{StreamFiller}
use Rattle.rc_row_cache.specs.Fillers.{FillerKnows, FillerKnowsStatics, IsFillerReady, losses}
use Rattle.rc_lookup.specs.calls.Filling.{IsFilledBy}
use Rattle.rc_cached.specs.calls.Parts.{of_its_filler}
use Rattle.rc_lookup.proofs.Fills.{filled-one}

no_less : (a b c d : ℕ) → a ≤ b → c ≤ d → a + c ≤ b + d
no_less a b c d p q = omega (arith, p, q)

module _ (S : ℕ) (f : StreamFiller) (m n : Memory) (fill : IsCacheFill S f.filler m f.filler n) (rule : IsRecency m) (counts : (m.counts.evicted ≤ n.counts.evicted) × (m.counts.skipped ≤ n.counts.skipped)) where
  lost : losses m ≤ losses n
  lost = no_less m.counts.evicted n.counts.evicted m.counts.skipped n.counts.skipped counts.0 counts.1

  pub taken-by : (NoneLost (losses m) (losses n) → (row : Row) → FillerKnowsStatics m f.filler row → (now : Row) × FillerKnowsStatics n f.filler now) → (writes : List Mutation) → StandsForWrites S m f.filler.chain f.filler.pin writes → StandsForWrites S n f.filler.chain f.filler.pin writes →
      (MayFill m f.filler.chain f.filler.pin → MayFill n f.filler.chain f.filler.pin) → Unlost (MayFill m f.filler.chain f.filler.pin) (losses m) (losses n) ((x : Pos) (v : There) → FillerKnows m f.filler x v → FillerKnows n f.filler x v) → IsFillerReady S f.filler n → IsFilledBy (of_its_filler S) f m f n
  taken-by statics writes before after may keeps ready = filled-one (of_its_filler S) f m f n (record { fill = fill; rule = rule; lost = lost; static_row = statics; writes = writes; before = before; after = after }) may lost keeps ready
