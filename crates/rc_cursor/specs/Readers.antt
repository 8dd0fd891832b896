-- What calls do to a snapshot that is read.
use Rattle.std.specs.Prelude.{◌≡◌}
use Rattle.rc_chain.specs.Memory.{Memory}
use Rattle.rc_cursor.specs.declared.readers.SnapshotReader.{SnapshotReader}

-- nothing but the place: the home is as it was, and the snapshot is the same one
pub record IsOnlyRead (r : SnapshotReader) (m : Memory) (t : SnapshotReader) (n : Memory) : Type 0 where
  pub home : n ≡ m
  pub snap : t.snap ≡ r.snap
