-- What fills through a snapshot leave, and what is left while it is there.
--     IsFilledThrough    any number of fills through a snapshot
--     IsPartlyHeld       the head of its partition is known to a snapshot that may be filled through
use Rattle.std.specs.Prelude.{◌≡◌, ◌⊎◌, ℕ, Contains, Some, None}
use Rattle.rc_core.specs.Version.{end_position}
use Rattle.rc_registry.specs.Registry.{IsNumberIn}
use Rattle.rc_memory.specs.Changes.{member_at}
use Rattle.rc_memory.specs.Memory.{KeptChain, Member, Memory, chain_at}
use Rattle.rc_chain.specs.declared.chains.Snap.{Snap}
use Rattle.rc_cached.specs.Filling.{MayFill}
use Rattle.rc_stream.specs.Snapshot.{NoneLost}
use Rattle.rc_row_cache.specs.Fillers.{losses}
use Rattle.rc_cached.specs.Fills.{IsUsedAsBefore}
use Rattle.rc_row_cache.specs.Saying.{AreFillsDone}
use Rattle.rc_lookup.specs.Known.{KnowsStaticRow}
use Rattle.rc_lookup.specs.Rest.{LeavesRest}

-- Any number of fills through a snapshot. All else is left; each chain is there still and used as before, or it is gone and its number is to be told, and none came to be. Where nothing was lost, a static row that was known still is, nothing went out of the recency list, and each other chain is as it was.
pub record IsFilledThrough (S : ℕ) (s : Snap) (old new : Memory) : Type 0 where
  pub done : AreFillsDone S s.chain s.pin old new
  pub rest : LeavesRest old new
  pub told : (id : ℕ) (k : KeptChain) → chain_at old id ≡ Some k → ((now : KeptChain) × (chain_at new id ≡ Some now) × IsUsedAsBefore k now) ⊎ ((chain_at new id ≡ None) × IsNumberIn new.dropped id)
  pub absent : (id : ℕ) → chain_at old id ≡ None → chain_at new id ≡ None
  pub still : (id : ℕ) → IsNumberIn old.dropped id → IsNumberIn new.dropped id
  pub statics : NoneLost (losses old) (losses new) → KnowsStaticRow old s → KnowsStaticRow new s
  pub listed : NoneLost (losses old) (losses new) → (w : Member) → Contains old.recency w → Contains new.recency w
  pub beside : NoneLost (losses old) (losses new) → (id : ℕ) → (id ≡ s.chain → ⊥) → chain_at new id ≡ chain_at old id

-- a snapshot may be filled through, its static row is known to it, and the end of its partition is listed
pub record IsPartlyHeld (m : Memory) (s : Snap) : Type 0 where
  pub statics : KnowsStaticRow m s
  pub may : MayFill m s.chain s.pin
  pub listed : Contains m.recency (member_at s.chain 0 (Some end_position))
