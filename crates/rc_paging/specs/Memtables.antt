-- The stream of what a memtable has of a partition.
--     IsOfMemtable     it is that of a snapshot of a memtable's chain, which is there
--     DidAsOne         it is still that of each snapshot of which it was
use Rattle.rc_memory.specs.Memory.{Memory}
use Rattle.rc_chain.specs.declared.chains.Snap.{Snap}
use Rattle.rc_snapshots.specs.Seeing.{HasSnap}
use Rattle.rc_snapshots.specs.Streams.{IsOf}
use Rattle.rc_paging.specs.declared.memtables.MemtableStream.{MemtableStream}

-- it is the stream of its snapshot, which is of a memtable's chain, and there
pub record IsOfMemtable (m : Memory) (r : MemtableStream) : Type 0 where
  pub there : HasSnap m r.stream.known.snap
  pub of : IsOf r.stream.known.snap r.stream

-- it is still that of each snapshot of which it was
abbrev pub DidAsOne : MemtableStream → MemtableStream → Type 0
DidAsOne r t = (s : Snap) → IsOf s r.stream → IsOf s t.stream
