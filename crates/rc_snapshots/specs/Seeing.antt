-- What snapshots see while calls change the chains.
--     HasSnap           a snapshot of a memtable's chain is there
--     AreThere          so are those that there are of two
--     StillSees         a snapshot is there as before, and sees the same
--     NothingIsLost     so does each that was there, of a cache's chain too
--     AllStillSee       so does each of a memtable's chain; others are there still
--     StillSeeBoth      so do those that there are of two
--     SeesSameChanges   a snapshot sees what each changes say of which it saw that
--     SeeSameChanges    so do those that there are of two
--     SeesAllOf         a snapshot sees what changes say; where there is none, there are none
use Rattle.std.specs.Prelude.{◌≡◌, List, [], Option, Some, None, IfSome}
use Rattle.rc_mutation.specs.declared.mutations.Mutation.{Mutation}
use Rattle.rc_core.specs.declared.entries.ChainKind.TheVariants.{Memtable}
use Rattle.rc_cursor.specs.Memory.{HasPin, Memory}
use Rattle.rc_cursor.specs.Snap.{Snap}
use Rattle.rc_cursor.specs.Snapshots.{kind_seen, versions_seen}
use Rattle.rc_snapshots.specs.declared.snaps.Snaps.{Snaps}
use Rattle.rc_snapshots.specs.Streams.{SeesChanges}

-- a snapshot of a memtable's chain is there
pub record HasSnap (m : Memory) (s : Snap) : Type 0 where
  pub pin : HasPin m s.chain s.pin
  pub kind : kind_seen m s ≡ Memtable

-- those are there that there are of two
pub record AreThere (m : Memory) (snaps : Snaps) : Type 0 where
  pub sealed : IfSome snaps.sealed (HasSnap m)
  pub active : IfSome snaps.active (HasSnap m)

-- a snapshot is there, and sees the versions that it saw
pub record StillSees (s : Snap) (old new : Memory) : Type 0 where
  pub pin : HasPin new s.chain s.pin
  pub versions : versions_seen new s ≡ versions_seen old s
  pub kind : kind_seen new s ≡ kind_seen old s

-- so does each snapshot that was there, of a cache's chain too
abbrev pub NothingIsLost : Memory → Memory → Type 0
NothingIsLost old new = (s : Snap) → HasPin old s.chain s.pin → StillSees s old new

-- each snapshot of a memtable's chain that was there sees what it saw; and each other one is there still, though evictions may take from what it sees
pub record AllStillSee (old new : Memory) : Type 0 where
  pub see : (s : Snap) → HasSnap old s → StillSees s old new
  pub there : (s : Snap) → HasPin old s.chain s.pin → HasPin new s.chain s.pin

-- each but one, wherever that is
abbrev pub OthersStillSee : Snap → Memory → Memory → Type 0
OthersStillSee gone old new = (s : Snap) → (s.chain ≡ gone.chain → s.pin ≡ gone.pin → ⊥) → HasPin old s.chain s.pin → StillSees s old new

-- the snapshots are those that were there, and see what they saw
pub record AreSameSnapshots (old new : Memory) : Type 0 where
  pub alike : NothingIsLost old new
  pub none_more : (s : Snap) → HasPin new s.chain s.pin → HasPin old s.chain s.pin

-- those that there are of two are there, and see what they saw
pub record StillSeeBoth (snaps : Snaps) (old new : Memory) : Type 0 where
  pub sealed : IfSome snaps.sealed (λ s. StillSees s old new)
  pub active : IfSome snaps.active (λ s. StillSees s old new)

-- a snapshot sees what each changes say of which it saw that, whatever versions say so
abbrev pub SeesSameChanges : Snap → Memory → Memory → Type 0
SeesSameChanges s old new = (changes : List Mutation) → SeesChanges changes old s → SeesChanges changes new s

-- so do those that there are of two
pub record SeeSameChanges (snaps : Snaps) (old new : Memory) : Type 0 where
  pub sealed : IfSome snaps.sealed (λ s. SeesSameChanges s old new)
  pub active : IfSome snaps.active (λ s. SeesSameChanges s old new)

-- a snapshot sees what these changes say; where there is none, there are none
abbrev pub SeesAllOf : List Mutation → Memory → Option Snap → Type 0
SeesAllOf changes m None = changes ≡ []
SeesAllOf changes m (Some s) = SeesChanges changes m s
