-- What a filler's calls do to a shard's memory.
--     Portion           what is filled at once: a gap, a row or a static row
--     IsOutOfRoom       nothing can be evicted, and nothing moved out of a segment, in a region that is nearly full
--     IsPortionFilled   a portion was filled into the newest version of a cache chain
--     IsSkippedFor      why a portion is skipped
--     IsCacheFill       what a call did
--     IsUsedAsBefore    a chain has the same snapshots, and versions of the same phases
use Rattle.std.specs.Prelude.{◌≡◌, ◌≢◌, ◌⊎◌, ℕ, List, [], Option, Contains, ⊤}
use Rattle.lsa_move.specs.Room.{Tight}
use Rattle.rc_cell.specs.declared.rows.Row.{Row}
use Rattle.rc_cell.specs.declared.writes.Tomb.{Tomb}
use Rattle.rc_cell.specs.Winner.{empty_row}
use Rattle.rc_position.specs.declared.comps.Comp.{Comp}
use Rattle.rc_position.specs.declared.positions.Pos.{Pos}
use Rattle.rc_position.specs.Position.{IsBefore, row_pos}
use Rattle.rc_rowcode.specs.Spelling.{KeyFits}
use Rattle.rc_mutation.specs.declared.mutations.Mutation.{Mutation}
use Rattle.rc_mutation.specs.Source.{source_at_static}
use Rattle.rc_core.specs.Chains.{phases}
use Rattle.rc_core.specs.Continuity.{fill_statics}
use Rattle.rc_core.specs.Steps.{gap_filled, row_filled}
use Rattle.rc_core.specs.Version.{Version}
use Rattle.rc_memory.specs.Memory.{KeptChain, Member, Memory, counts_raised}
use Rattle.rc_evict.specs.Crowding.{IsNearlyFull}
use Rattle.rc_evict.specs.Evictions.{IsRoomMade}
use Rattle.rc_populate.specs.Filling.{IsFilled, MayFill, filled_statics}
use Rattle.rc_stream.specs.Snapshot.{SayThere, Throughout}
use Rattle.rc_filler.specs.declared.fillers.CacheFiller.{CacheFiller}
use Rattle.rc_filler.specs.Stands.{HasCacheSnapshot}

-- what is filled at once: from one position on and before another no row and a range tombstone; a row at its key and the range tombstone there; a static row
pub data Portion : Type 0 where
  OfGap : Pos → Pos → Option Tomb → Portion
  OfRow : List Comp → Row → Option Tomb → Portion
  OfStatics : Row → Portion

-- a version with a portion filled
abbrev pub filled_with : Portion → Version → Version
filled_with (OfGap from to tomb) = gap_filled from to tomb
filled_with (OfRow key row tomb) = row_filled (row_pos key) row tomb
filled_with (OfStatics row) = fill_statics (filled_statics row)

-- a gap has its ends in order, and in a row something is written
abbrev pub IsPortion : Portion → Type 0
IsPortion (OfGap from to tomb) = IsBefore from to
IsPortion (OfRow key row tomb) = row ≢ empty_row
IsPortion (OfStatics row) = ⊤

-- writes say this portion
abbrev pub SayPortion : List Mutation → Portion → Type 0
SayPortion writes (OfGap from to tomb) = Throughout from to (λ x. SayThere writes x (empty_row, tomb))
SayPortion writes (OfRow key row tomb) = SayThere writes (row_pos key) (row, tomb)
SayPortion writes (OfStatics row) = source_at_static writes ≡ row

-- nothing is left that may be evicted, no segment is sparse, and the region is nearly full
abbrev pub IsOutOfRoom : ℕ → Memory → Type 0
IsOutOfRoom S m = (m.recency ≡ []) × Tight S m.region.usages × IsNearlyFull S m

-- a gap ends at a key that cannot be spelled; in a row nothing is written
abbrev pub IsUnfit : Portion → Type 0
IsUnfit (OfGap from to tomb) = KeyFits from.prefix × KeyFits to.prefix → ⊥
IsUnfit (OfRow key row tomb) = row ≡ empty_row
IsUnfit (OfStatics row) = ⊥

-- a portion is skipped for want of room, or since it cannot stand in a version
abbrev pub IsSkippedFor : ℕ → Portion → Memory → Type 0
IsSkippedFor S portion m = IsOutOfRoom S m ⊎ IsUnfit portion

-- a portion was filled into the newest version of a cache chain, which this snapshot pins; in the recency list came nothing but objects of that chain, and nothing went out of it
pub record IsPortionFilled (portion : Portion) (id pin : ℕ) (old new : Memory) : Type 0 where
  pub snapshot : HasCacheSnapshot old id pin
  pub may : MayFill old id pin
  pub whole : IsPortion portion
  pub filled : IsFilled id (filled_with portion) (λ w. w.chain ≡ id) old new
  pub listed : (w : Member) → Contains new.recency w → Contains old.recency w ⊎ (w.chain ≡ id)
  pub stay : (w : Member) → Contains old.recency w → Contains new.recency w

-- one more skipped fill is counted, and nothing else is changed
abbrev pub IsSkipCounted : Memory → Memory → Type 0
IsSkipCounted old new = new ≡ counts_raised 0 1 0 old

-- what was done of a portion: it was filled; or it was skipped, and one more skipped fill counted
abbrev pub IsPortionTaken : ℕ → Portion → ℕ → ℕ → Memory → Memory → Type 0
IsPortionTaken S portion id pin old new = IsPortionFilled portion id pin old new ⊎ (IsSkippedFor S portion old × IsSkipCounted old new)

-- nothing was done; or room was made for some portion, which was filled then, or skipped
abbrev pub IsFillDone : ℕ → ℕ → ℕ → Memory → Memory → Type 0
IsFillDone S id pin old new = (new ≡ old) ⊎ ((mid : Memory) × (portion : Portion) × IsRoomMade S old mid × IsPortionTaken S portion id pin mid new)

-- what a call of a filler did: the filler is the same one
pub record IsCacheFill (S : ℕ) (f : CacheFiller) (m : Memory) (g : CacheFiller) (n : Memory) : Type 0 where
  pub same : g ≡ f
  pub done : IsFillDone S f.chain f.pin m n

-- a chain is used as it was: it is of the same kind, has the same snapshots and versions of the same phases, is found by its key or not, and is under update or not, as it was
pub record IsUsedAsBefore (old new : KeptChain) : Type 0 where
  pub kind : new.chain.kind ≡ old.chain.kind
  pub attached : new.chain.attached ≡ old.chain.attached
  pub updating : new.chain.updating ≡ old.chain.updating
  pub pins : new.chain.pins ≡ old.chain.pins
  pub passed : new.passed ≡ old.passed
  pub phases : phases new.chain.versions ≡ phases old.chain.versions
