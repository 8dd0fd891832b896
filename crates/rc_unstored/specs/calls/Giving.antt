-- A snapshot that is given back at once.
use Rattle.std.specs.Prelude.{Option, Some, None}
use Rattle.rc_memory.specs.Memory.{Memory}
use Rattle.rc_evict.specs.Snap.{Snap}
use Rattle.rc_unstored.specs.Readers.{taken_back}

-- the memory with a snapshot taken back, where there is one
abbrev pub given_back : Option Snap → Memory → Memory
given_back None m = m
given_back (Some s) m = taken_back s m
