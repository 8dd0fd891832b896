-- What stays over other chains.
use Rattle.std.specs.Prelude.{◌≡◌, Option, Some}
use Rattle.rc_memory.specs.Memory.{Memory}
use Rattle.rc_stream.specs.declared.merges.Merge.{Merge}
use Rattle.rc_snapshots.specs.Seeing.{HasSnap, StillSees}
use Rattle.rc_paging.specs.declared.memtables.MemtableStream.{MemtableStream}
use Rattle.rc_paging.specs.declared.optional.Optional.{Optional}

-- what both memtables have
abbrev pub OfMemtables : Type 0
OfMemtables = Merge (Optional MemtableStream) (Optional MemtableStream)

-- the snapshot of a memtable's stream, where there is one and the snapshot was there, sees what it saw
abbrev pub StillSeesIn : Memory → Memory → Option MemtableStream → Type 0
StillSeesIn m n stream = (r : MemtableStream) → stream ≡ Some r → HasSnap m r.stream.known.snap → StillSees r.stream.known.snap m n
