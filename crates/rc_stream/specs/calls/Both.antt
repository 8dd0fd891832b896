-- What inner functions of a merge say of both streams once they were looked at.
use Rattle.std.specs.Prelude.{◌≡◌, [], None, IfSome}
use Rattle.rc_position.specs.declared.positions.Pos.{Pos}
use Rattle.rc_stream.specs.declared.holding.Held.{Held}
use Rattle.rc_stream.specs.declared.merges.Merge.{Merge}
use Rattle.rc_stream.specs.Holding.{held_fragments}
use Rattle.rc_stream.specs.Places.{bound_of}
use Rattle.rc_stream.specs.Stream.{Stream, first_upto}
use Rattle.rc_stream.specs.Both.{HoldBoth, MaySeekBoth}
use Rattle.rc_stream.specs.Moving.{Keeps, KeepsSeen}

-- the calls of both may be made
abbrev pub BothReady : {A B H W : Type 0} → (A → H → W → Type 0) → (B → H → W → Type 0) → Merge A B → H → W → Type 0
BothReady ready ready' m h w = ready m.ours.stream h w × ready' m.theirs.stream h w

-- what calls of each may make of home and store leaves the other one ready, and each stream that it stands for
pub record KeepEachOther {A B H W : Type 0} (ready : A → H → W → Type 0) (seen : A → H → W → Stream → Type 0) (moves : H → W → H → W → Type 0) (ready' : B → H → W → Type 0) (seen' : B → H → W → Stream → Type 0) (moves' : H → W → H → W → Type 0) : Type 0 where
  pub ours : Keeps moves' ready
  pub theirs : Keeps moves ready'
  pub ours_seen : KeepsSeen moves' seen
  pub theirs_seen : KeepsSeen moves seen'

-- both may be sought to where a seek is due
abbrev pub IsDueAhead : {A B : Type 0} → (A → Pos → Type 0) → (B → Pos → Type 0) → Merge A B → Type 0
IsDueAhead ahead ahead' m = IfSome m.due (MaySeekBoth ahead ahead' m)

-- ---- both were looked at

-- where nothing is held of a stream, nothing of it stands up to x
abbrev pub IsLookedUpto : Held → Pos → Stream → Type 0
IsLookedUpto h x s = held_fragments h ≡ [] → first_upto x s.left ≡ None

-- both stand for streams that merge to this one; ours was looked at up to x, and theirs up to the nearer of x and the first that is held of ours
abbrev pub LookedBoth : {A B H W : Type 0} → (A → H → W → Stream → Type 0) → (B → H → W → Stream → Type 0) → Merge A B → H → W → Pos → Stream → Type 0
LookedBoth seen seen' m h w x s = (b : HoldBoth seen seen' m h w s) × IsLookedUpto m.ours.held x b.ours × IsLookedUpto m.theirs.held (bound_of x (held_fragments m.ours.held)) b.theirs
