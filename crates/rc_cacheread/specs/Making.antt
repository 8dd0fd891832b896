-- A reader as it is made.
use Rattle.std.specs.Prelude.{◌≡◌, None, true}
use Rattle.rc_position.specs.declared.slices.Slice.{Slice}
use Rattle.rc_cacheread.specs.declared.readers.CacheReader.{CacheReader}
use Rattle.rc_cacheread.specs.declared.readers.Stage.TheVariants.{Away}
use Rattle.rc_cacheread.specs.declared.spots.RowAt.TheVariants.{Unread}

-- a new reader of a slice: nothing was read, and nothing is due
pub record IsNewReader {K F P : Type 0} (k : K) (f : F) (p : P) (slice : Slice) (r : CacheReader K F P) : Type 0 where
  pub known : r.known ≡ k
  pub below : r.below ≡ f
  pub filler : r.filler ≡ p
  pub to : r.to ≡ slice.to
  pub place : r.spot.place ≡ slice.from
  pub row : r.spot.row ≡ Unread
  pub told : r.spot.told ≡ None
  pub again : r.spot.again ≡ None
  pub tomb : r.spot.tomb ≡ None
  pub stage : r.stage ≡ Away
  pub lags : r.lags ≡ true
