-- How what is left to a reader stays.
--     Staying    over other chains the same is left to a reader, and its snapshots stand for the same
use Rattle.std.specs.Prelude.{ℕ, ⊤, All, IsTrue, List}
use Rattle.rc_schema.specs.SchemaValue.{SchemaValue, is_schema}
use Rattle.rc_writes.specs.Allowed.{ChangeFits}
use Rattle.rc_mutation.specs.declared.mutations.Mutation.{Mutation}
use Rattle.rc_mutation.specs.Source.{SameSource}
use Rattle.rc_query.specs.declared.lines.OutLine.{OutLine}
use Rattle.rc_memory.specs.Memory.{Memory}
use Rattle.rc_snapshots.specs.Seeing.{SeeSameChanges}
use Rattle.rc_cached.specs.Stands.{HasCacheSnapshot, StandsForWrites}
use Rattle.rc_lookup.specs.Saying.{Below, CacheSays, phase_pinned}
use Rattle.rc_lookup.specs.Writes.{AreSmall}
use Rattle.rc_paging.specs.declared.forms.PartReader.{PartReader}
use Rattle.rc_paging.specs.declared.layers.HeldSnaps.{HeldSnaps}
use Rattle.rc_paging.specs.Forms.{ByForm, held_by}
use Rattle.rc_paging.specs.Pages.{StandCached, StandFor}

-- Over chains in which its snapshot of the row cache stands for what it stood for, and those of what is written see what the same changes say, the same lines are left to a reader, and its snapshots stand for the same. A snapshot of the row cache stands for what lies below it.
pub record Staying (lines : PartReader → Memory → List Mutation → List OutLine → Type 0) : Type 0 where
  pub left : (r : PartReader) (m n : Memory) (below : List Mutation) (left : List OutLine) → ByForm (λ o. StandCached 131072 below n o.held.cached) (λ _. ⊤) r → SeeSameChanges (held_by r).written m n → lines r m below left → lines r n below left
  pub stand : (held : HeldSnaps) (m n : Memory) (below writes later : List Mutation) → StandCached 131072 below n held.cached → SeeSameChanges held.written m n → StandFor 131072 m held below writes later → StandFor 131072 n held below writes later
  pub below : (schema : SchemaValue) (below : Below) (m : Memory) (id pin : ℕ) (h : HasCacheSnapshot m id pin) (writes : List Mutation) → IsTrue (is_schema schema) → AreSmall 131072 schema → All (ChangeFits schema) writes → CacheSays schema below m → SameSource (below id (phase_pinned h)) writes → StandsForWrites 131072 m id pin writes
