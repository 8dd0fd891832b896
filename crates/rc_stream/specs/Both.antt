-- The two streams that a merge is of, each with what is held of it, and the seek that is due: what is said of both together.
--     HoldBoth        both stand for streams that merge to this one
--     SoughtBoth      so, once a seek that is due was done
use Rattle.std.specs.Prelude.{◌≡◌, Option, Some, None}
use Rattle.rc_position.specs.declared.positions.Pos.{Pos}
use Rattle.rc_stream.specs.declared.merges.Merge.{Merge}
use Rattle.rc_stream.specs.Moving.{Holds, MaySeek, nothing_held}
use Rattle.rc_stream.specs.Places.{Reaches}
use Rattle.rc_stream.specs.Showing.{EitherSpot, FileSpots, MergesTwo}
use Rattle.rc_stream.specs.Stream.{Stream, sought_stream}

-- ---- both

-- both, each with what is held of it, stand for streams that merge to this one
abbrev pub HoldBoth : {A B H W : Type 0} → (A → H → W → Stream → Type 0) → (B → H → W → Stream → Type 0) → Merge A B → H → W → Stream → Type 0
HoldBoth seen seen' m h w s = MergesTwo (Holds seen m.ours h w) (Holds seen' m.theirs h w) s

-- both may be sought to x
abbrev pub MaySeekBoth : {A B : Type 0} → (A → Pos → Type 0) → (B → Pos → Type 0) → Merge A B → Pos → Type 0
MaySeekBoth ahead ahead' m x = MaySeek ahead m.ours x × MaySeek ahead' m.theirs x

-- both are at their beginning, and nothing was looked at or sought
abbrev pub BothFresh : {A B : Type 0} → (A → Type 0) → (B → Type 0) → Merge A B → Type 0
BothFresh fresh fresh' m = fresh m.ours.stream × fresh' m.theirs.stream × (m.ours.held ≡ nothing_held) × (m.theirs.held ≡ nothing_held) × (m.due ≡ None)

-- streams merge to this one for which both might stand
abbrev pub MightBoth : {A B : Type 0} → (A → Stream → Type 0) → (B → Stream → Type 0) → Merge A B → Stream → Type 0
MightBoth might might' m s = MergesTwo (might m.ours.stream) (might' m.theirs.stream) s

-- what the calls of one of both may name as damaged
abbrev pub SpotsOfBoth : {A B : Type 0} → (A → FileSpots) → (B → FileSpots) → Merge A B → FileSpots
SpotsOfBoth damage damage' m file offset = EitherSpot (damage m.ours.stream) (damage' m.theirs.stream) file offset

-- ---- a seek that is due

-- one of these streams, once a seek that is due, if one is, was done
abbrev pub AfterDue : Option Pos → (Stream → Type 0) → Stream → Type 0
AfterDue None P s = P s
AfterDue (Some x) P s = (t : Stream) × P t × (s ≡ sought_stream x t)

-- one of these positions, or where a seek is due each that is not before it
abbrev pub AheadOfDue : Option Pos → (Pos → Type 0) → Pos → Type 0
AheadOfDue None P x = P x
AheadOfDue (Some y) P x = Reaches y x

-- both stand for streams that merge to this one, once a seek that is due was done
abbrev pub SoughtBoth : {A B H W : Type 0} → (A → H → W → Stream → Type 0) → (B → H → W → Stream → Type 0) → Merge A B → H → W → Stream → Type 0
SoughtBoth seen seen' m h w s = AfterDue m.due (HoldBoth seen seen' m h w) s

-- x is ahead of both, or not before the seek that is due
abbrev pub AheadOfBoth : {A B : Type 0} → (A → Pos → Type 0) → (B → Pos → Type 0) → Merge A B → Pos → Type 0
AheadOfBoth ahead ahead' m x = AheadOfDue m.due (MaySeekBoth ahead ahead' m) x
