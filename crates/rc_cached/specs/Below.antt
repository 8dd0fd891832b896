-- What lies below the row cache of a partition: what was read of its tables, once it was handed in.
--     MayLieUnread      a stream that may lie there while nothing was read
--     LiesBelow         a stream that lies there
--     nothing_read      readings of nothing
--     readings_after    what a call leaves of readings
--     DidBelow          what a call did
use Rattle.std.specs.Prelude.{◌≡◌, Bool, true, false, List, [], ◌∷◌, Option, Some, None, is_some}
use Rattle.std.specs.Option.{option_or}
use Rattle.rc_mutation.specs.declared.fragments.Frag.{Frag}
use Rattle.rc_stream.specs.Merging.{place_of}
use Rattle.rc_stream.specs.Showing.{IsFromStart}
use Rattle.rc_stream.specs.Stream.{Stream}
use Rattle.rc_cacheread.specs.Reading.{AreRowsApart}
use Rattle.rc_snapshots.specs.Streams.{first_position}
use Rattle.rc_cached.specs.declared.readings.Readings.{Readings}
use Rattle.rc_cached.specs.declared.underlying.Underlying.{Underlying}

-- there is a first fragment, and it stands at the first of all positions
abbrev pub BeginsFirst : List Frag → Type 0
BeginsFirst [] = ⊥
BeginsFirst (f ∷ fs) = (place_of f).0 ≡ first_position

-- any stream from the beginning of a partition whose first fragment stands at the first of all positions; so it fits a place only where each stream from a beginning does
pub record MayLieUnread (t : Stream) : Type 0 where
  pub whole : IsFromStart t
  pub apart : AreRowsApart t.left
  pub first : BeginsFirst t.left

-- what was read lies there, and nothing else; while nothing was read any such stream may, since each call is refused that would tell
abbrev pub LiesBelow : Option Stream → Stream → Type 0
LiesBelow (Some read) t = t ≡ read
LiesBelow None t = MayLieUnread t

-- nothing was read, and nothing missed
abbrev pub nothing_read : Readings
nothing_read = record { list = None; missed = false; begun = false }

-- what a call leaves of readings that have this, where that was handed in before: all of it; else what was read is taken out, and where nothing was it is said that it was missed
abbrev pub readings_after : (handed read : Option Stream) → Readings → Readings
readings_after (Some s) read w = w
readings_after None (Some s) w = record w { list = None }
readings_after None None w = record w { missed = true }

-- what a call, answered or refused, did to what lies below, to its home and to readings: the home is as it was; what was read is kept from then on; and where nothing was, the call is refused
pub record DidBelow {H : Type 0} (ok : Bool) (u : Underlying) (h : H) (w : Readings) (t : Underlying) (g : H) (v : Readings) : Type 0 where
  pub home : g ≡ h
  pub readings : v ≡ readings_after u.list w.list w
  pub kept : is_some t.list ≡ is_some (option_or u.list w.list)
  pub refused : option_or u.list w.list ≡ None → ok ≡ false

-- what a call may make of a home and of readings
abbrev pub MovesBelow : {H : Type 0} → H → Readings → H → Readings → Type 0
MovesBelow h w g v = (g ≡ h) × ((handed : Option Stream) × (v ≡ readings_after handed w.list w))
