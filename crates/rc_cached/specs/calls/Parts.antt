-- The words of a cached stream's parts: what inner functions promise each other.
--     of_snapshot    a snapshot over the chains
--     of_underlying    what lies below it
--     of_its_filler    what fills it
use Rattle.std.specs.Prelude.{⊤, ℕ}
use Rattle.std.specs.Option.{option_or}
use Rattle.rc_memory.specs.Memory.{HasPin, Memory}
use Rattle.rc_populate.specs.Filling.{MayFill}
use Rattle.rc_cursor.specs.declared.readers.SnapshotReader.{SnapshotReader}
use Rattle.rc_cursor.specs.Readers.{IsOnlyRead}
use Rattle.rc_cursor.specs.Snapshots.{IsHeadSeen, IsReadable, Knows}
use Rattle.rc_cacheread.specs.Sharing.{OfBelow, OfFiller, OfKnown}
use Rattle.rc_filler.specs.Fillers.{FillerKnows, FillerKnowsStatics, IsFillerReady, losses}
use Rattle.rc_filler.specs.Stands.{StandsForWrites}
use Rattle.rc_cached.specs.declared.fillers.StreamFiller.{StreamFiller}
use Rattle.rc_cached.specs.declared.readings.Readings.{Readings}
use Rattle.rc_cached.specs.declared.underlying.Underlying.{Underlying}
use Rattle.rc_cached.specs.Below.{DidBelow, LiesBelow, MovesBelow}
use Rattle.rc_cached.specs.Fillers.{IsStreamFill}

-- a snapshot over the chains
abbrev pub of_snapshot : OfKnown SnapshotReader Memory
of_snapshot = record {
  ready = λ r m. HasPin m r.snap.chain r.snap.pin × IsReadable m r.snap;
  place = λ r. r.cursor.last;
  knows = λ r m. Knows m r.snap;
  heads = λ r m. IsHeadSeen m r.snap;
  did = λ r m c ok t n. IsOnlyRead r m t n;
}

-- what lies below it
abbrev pub of_underlying : OfBelow Underlying Memory Readings
of_underlying = record {
  ready = λ _ _ _. ⊤;
  seen = λ u _ w s. LiesBelow (option_or u.list w.list) s;
  ahead = λ _ _. ⊤;
  moves = λ h w g v. MovesBelow h w g v;
  did = λ u h w _ ok t g v. DidBelow ok u h w t g v;
}

-- what fills it
abbrev pub of_its_filler : ℕ → OfFiller StreamFiller Memory
of_its_filler S = record {
  ready = λ f m. IsFillerReady S f.filler m;
  fits = λ _ _. ⊤;
  may = λ f m. MayFill m f.filler.chain f.filler.pin;
  lost = λ m. losses m;
  stands = λ f m writes. StandsForWrites S m f.filler.chain f.filler.pin writes;
  knows = λ f m. FillerKnows m f.filler;
  knows_statics = λ f m. FillerKnowsStatics m f.filler;
  fills = λ f m g n. IsStreamFill S f m g n;
}
