use Rattle.rc_core.specs.laws.Written.{memtable-flagged, memtable-known, row-at-key}
use Rattle.rc_core.proofs.laws.memtables.a_memtable_is_known_everywhere.Goals as goal

pub returns : goal.returns
returns c = record { spot = memtable-flagged; known = memtable-known; row = row-at-key }
