-- What came of a fill, by its answer.
use Rattle.std.specs.Prelude.{◌≡◌, ◌≤◌, ℕ}
use Rattle.rc_memory.specs.declared.counts.Counts.{Counts}
use Rattle.rc_memory.specs.Memory.{Memory}
use Rattle.rc_populate.specs.Filling.{MayFill}
use Rattle.rc_stream.specs.declared.fillers.Fill.{Fill}
use Rattle.rc_stream.specs.declared.fillers.Fill.TheVariants.{Filled, Skipped, NotNewest}
use Rattle.rc_stream.specs.Snapshot.{Throughout, most_counted}
use Rattle.rc_cell.specs.Winner.{empty_row}
use Rattle.rc_position.specs.Position.{row_pos}
use Rattle.rc_filler.specs.declared.fillers.CacheFiller.{CacheFiller}
use Rattle.rc_filler.specs.Fillers.{FillerKnows, FillerKnowsStatics}
use Rattle.rc_filler.specs.Fills.{Portion, OfGap, OfRow, OfStatics, IsOutOfRoom, IsPortionFilled, IsSkipCounted, IsSkippedFor}
use Rattle.rc_evict.specs.Evictions.{IsRoomMade}

-- room was made, and the portion filled; or one more skipped fill was counted; or nothing was done, since the snapshot may not be filled
abbrev pub CameOf : ℕ → Fill → Portion → ℕ → ℕ → Memory → Memory → Type 0
CameOf S Filled portion id pin old new = MayFill old id pin × ((mid : Memory) × IsRoomMade S old mid × IsPortionFilled portion id pin mid new)
CameOf S Skipped portion id pin old new = MayFill old id pin × ((mid : Memory) × IsRoomMade S old mid × IsSkippedFor S portion mid × IsSkipCounted mid new)
CameOf S NotNewest portion id pin old new = (MayFill old id pin → ⊥) × (new ≡ old)

-- no room could be made, and one more skipped fill was counted
abbrev pub IsSkipped : ℕ → Memory → Memory → Type 0
IsSkipped S old new = (mid : Memory) × IsRoomMade S old mid × IsOutOfRoom S mid × IsSkipCounted mid new

-- evictions and skipped fills are counted by numbers of 64 bits
pub record AreCountsInRange (c : Counts) : Type 0 where
  pub evicted : c.evicted ≤ most_counted
  pub skipped : c.skipped ≤ most_counted

-- the snapshot knows a portion
abbrev pub KnowsPortion : Memory → CacheFiller → Portion → Type 0
KnowsPortion m f (OfGap from to tomb) = Throughout from to (λ x. FillerKnows m f x (empty_row, tomb))
KnowsPortion m f (OfRow key row tomb) = FillerKnows m f (row_pos key) (row, tomb)
KnowsPortion m f (OfStatics row) = FillerKnowsStatics m f row
