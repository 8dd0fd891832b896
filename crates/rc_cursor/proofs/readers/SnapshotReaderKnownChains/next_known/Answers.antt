use Rattle.std.proofs.Common.{arith}
use Rattle.rc_cursor.proofs.readers.SnapshotReaderKnownChains.next_known.Goals as goal

pub next_part-requires : goal.next_part-requires
next_part-requires g c = (omega arith, (c.requires.ready.0, c.requires.ahead))
