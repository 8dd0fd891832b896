-- What snapshots see over several calls.
use Rattle.std.proofs.Common.{List, Option, Some, None, sym, ◌∙◌, subst}
use Rattle.std.specs.Prelude.{IfSome}
use Rattle.rc_mutation.specs.declared.mutations.Mutation.{Mutation}
use Rattle.rc_core.specs.Chains.{AllInherit}
use Rattle.rc_core.specs.Continuity.{EachOf}
use Rattle.rc_core.specs.StandsFor.{StandsFor}
use Rattle.rc_cursor.specs.Memory.{Memory}
use Rattle.rc_cursor.specs.Snap.{Snap}
use Rattle.rc_cursor.specs.Snapshots.{AreReadable, kind_seen, versions_seen}
use Rattle.rc_snapshots.specs.Seeing.{AllStillSee, AreSameSnapshots, AreThere, HasSnap, NothingIsLost, SeeSameChanges, SeesAllOf, SeesSameChanges, StillSees, StillSeeBoth}
use Rattle.rc_snapshots.specs.Streams.{SeesChanges}
use Rattle.rc_snapshots.specs.declared.snaps.Snaps.{Snaps}

pub snap-then : (m n : Memory) (s : Snap) → HasSnap m s → StillSees s m n → HasSnap n s
snap-then m n s h a = record { pin = a.pin; kind = a.kind ∙ h.kind }

-- a snapshot that sees what it saw, and again what it saw then
one-then : (old mid new : Memory) (s : Snap) → StillSees s old mid → StillSees s mid new → StillSees s old new
one-then old mid new s a b = record { pin = b.pin; versions = b.versions ∙ a.versions; kind = b.kind ∙ a.kind }

pub lost-then : (old mid new : Memory) → NothingIsLost old mid → NothingIsLost mid new → NothingIsLost old new
lost-then old mid new f g s on = let a = f s on in one-then old mid new s a (g s a.pin)

pub seen-then : (old mid new : Memory) → AllStillSee old mid → AllStillSee mid new → AllStillSee old new
seen-then old mid new f g = record {
  see = λ s h. let a = f.see s h in one-then old mid new s a (g.see s (snap-then old mid s h a));
  there = λ s on. g.there s (f.there s on);
}

-- where nothing is lost all see
pub all-see : (old new : Memory) → NothingIsLost old new → AllStillSee old new
all-see old new f = record { see = λ s h. f s h.pin; there = λ s on. (f s on).pin }

pub same-then : (old mid new : Memory) → AreSameSnapshots old mid → AreSameSnapshots mid new → AreSameSnapshots old new
same-then old mid new f g = record { alike = lost-then old mid new f.alike g.alike; none_more = λ s on. f.none_more s (g.none_more s on) }

pub sees-then : (changes : List Mutation) (m n : Memory) (s : Snap) → SeesChanges changes m s → StillSees s m n → SeesChanges changes n s
sees-then changes m n s h a = record {
  pin = a.pin;
  kind = a.kind ∙ h.kind;
  inherit = subst (EachOf AllInherit) (sym a.versions) h.inherit;
  stands = subst (StandsFor changes) (sym a.versions) h.stands;
  readable = subst (λ kind. AreReadable kind (versions_seen n s)) (sym a.kind) (subst (AreReadable (kind_seen m s)) (sym a.versions) h.readable);
}

-- where there is one
some-then : (m n : Memory) (o : Option Snap) → IfSome o (HasSnap m) → IfSome o (λ s. StillSees s m n) → IfSome o (HasSnap n)
some-then m n None h a = tt
some-then m n (Some s) h a = snap-then m n s h a

some-still : (m n : Memory) (o : Option Snap) → AllStillSee m n → IfSome o (HasSnap m) → IfSome o (λ s. StillSees s m n)
some-still m n None f h = tt
some-still m n (Some s) f h = f.see s h

some-seen : (changes : List Mutation) (m : Memory) (o : Option Snap) → SeesAllOf changes m o → IfSome o (HasSnap m)
some-seen changes m None h = tt
some-seen changes m (Some s) h = record { pin = h.pin; kind = h.kind }

pub there-then : (m n : Memory) (snaps : Snaps) → AreThere m snaps → StillSeeBoth snaps m n → AreThere n snaps
there-then m n snaps h a = record { sealed = some-then m n snaps.sealed h.sealed a.sealed; active = some-then m n snaps.active h.active a.active }

pub both-still : (m n : Memory) (snaps : Snaps) → AllStillSee m n → AreThere m snaps → StillSeeBoth snaps m n
both-still m n snaps f h = record { sealed = some-still m n snaps.sealed f h.sealed; active = some-still m n snaps.active f h.active }

pub both-there : (writes later : List Mutation) (m : Memory) (snaps : Snaps) → SeesAllOf writes m snaps.sealed → SeesAllOf later m snaps.active → AreThere m snaps
both-there writes later m snaps h k = record { sealed = some-seen writes m snaps.sealed h; active = some-seen later m snaps.active k }

-- ---- what changes say

-- a snapshot that sees what it saw sees what the same changes say
pub same-changes : (m n : Memory) (s : Snap) → StillSees s m n → SeesSameChanges s m n
same-changes m n s a = λ changes h. sees-then changes m n s h a

some-same : (m n : Memory) (o : Option Snap) → IfSome o (λ s. StillSees s m n) → IfSome o (λ s. SeesSameChanges s m n)
some-same m n None a = tt
some-same m n (Some s) a = same-changes m n s a

pub both-same : (m n : Memory) (snaps : Snaps) → StillSeeBoth snaps m n → SeeSameChanges snaps m n
both-same m n snaps a = record { sealed = some-same m n snaps.sealed a.sealed; active = some-same m n snaps.active a.active }

some-each : (m n : Memory) (o : Option Snap) → ((s : Snap) → SeesSameChanges s m n) → IfSome o (λ s. SeesSameChanges s m n)
some-each m n None f = tt
some-each m n (Some s) f = f s

pub both-each : (m n : Memory) (snaps : Snaps) → ((s : Snap) → SeesSameChanges s m n) → SeeSameChanges snaps m n
both-each m n snaps f = record { sealed = some-each m n snaps.sealed f; active = some-each m n snaps.active f }

pub all-same : (changes : List Mutation) (m n : Memory) (o : Option Snap) → IfSome o (λ s. SeesSameChanges s m n) → SeesAllOf changes m o → SeesAllOf changes n o
all-same changes m n None f h = h
all-same changes m n (Some s) f h = f changes h
