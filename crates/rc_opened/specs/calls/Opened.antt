-- What an open reader reads, as it is made.
--     AreSources    what an open reader reads, as it is made
use Rattle.rc_mutation.specs.declared.mutations.Mutation.{Mutation}
use Rattle.rc_mutation.specs.Fragments.{fragments}
use Rattle.rc_stream.specs.Did.{IsNewMerge}
use Rattle.rc_stream.specs.Stream.{stream_of}
use Rattle.rc_stream.specs.declared.merges.Merge.{Merge}
use Rattle.rc_snapshots.specs.declared.snaps.Snaps.{Snaps}
use Rattle.rc_opened.specs.declared.written.Written.{Written}
use Rattle.rc_opened.specs.Written.{IsNewWritten}
use Rattle.rc_opened.specs.Opened.{OfSources}

-- what an open reader reads, as it is made: the list of what the tables said, and the streams of both snapshots, from the beginning of the partition
pub record AreSources (tables : Mutation) (snaps : Snaps) (s : OfSources) : Type 0 where
  pub inner : Merge Written Written
  pub sealed : Written
  pub active : Written
  pub new_sealed : IsNewWritten snaps.sealed sealed
  pub new_active : IsNewWritten snaps.active active
  pub written : IsNewMerge sealed active inner
  pub all : IsNewMerge (stream_of (fragments tables)) inner s
