-- What is said of a snapshot that is read, and then taken back.
--     without_snap    the memory without a snapshot
--     IsLookedUp      what is left where a snapshot was taken and taken back
use Rattle.rc_memory.specs.Memory.{Memory, on_chain, with_chains, without_snapshot}
use Rattle.rc_chain.specs.declared.chains.Snap.{Snap}
use Rattle.rc_snapshots.specs.Seeing.{AreSameSnapshots}
use Rattle.rc_lookup.specs.Looked.{IsStill}

-- the memory without a snapshot
abbrev pub without_snap : Snap → Memory → Memory
without_snap s m = with_chains (on_chain s.chain (without_snapshot s.pin) m.chains) m

-- no object moved, came or went, no chain of a memtable changed, and nothing was counted; the snapshots are those that were there, and see what they saw
pub record IsLookedUp (old new : Memory) : Type 0 where
  pub still : IsStill old new
  pub snapshots : AreSameSnapshots old new
