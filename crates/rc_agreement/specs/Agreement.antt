-- Whether versions agree with writes: what they know is what the writes say.
--     IsGapSaid      so is the range tombstone over an open gap that is known
--     AgreesWith     so it is everywhere, of the static row, and of the partition tombstone
use Rattle.std.specs.Prelude.{◌≡◌, IsTrue, List}
use Rattle.rc_position.specs.declared.positions.Pos.{Pos}
use Rattle.rc_position.specs.Position.{IsBefore}
use Rattle.rc_mutation.specs.declared.mutations.Mutation.{Mutation}
use Rattle.rc_mutation.specs.Source.{source_at}
use Rattle.rc_core.specs.Chain.{IsBare, IsKnown, content, has_flag, states_at}
use Rattle.rc_core.specs.declared.entries.ChainKind.{ChainKind}
use Rattle.rc_core.specs.Version.{Behind, Version, end_position}
use Rattle.rc_memory.specs.Memory.{Memory}
use Rattle.rc_chain.specs.declared.chains.Snap.{Snap}
use Rattle.rc_cursor.specs.Snapshots.{kind_seen, versions_seen}
use Rattle.rc_snapshots.specs.Fillers.{AreKnownOf}

-- where the open gap right behind a position is known, its range tombstone is the one that writes have at the position
abbrev pub IsGapSaid : ChainKind → List Version → List Mutation → Pos → Type 0
IsGapSaid kind versions writes x = IsTrue (has_flag kind (states_at (Behind x) versions)) → (content (states_at (Behind x) versions)).1 ≡ (source_at writes x).1

-- versions agree with writes: the partition tombstone is theirs; each position that is known says what they say, and the static row where it is known; and each open gap that is known has their range tombstone
pub record AgreesWith (kind : ChainKind) (versions : List Version) (writes : List Mutation) : Type 0 where
  pub known : AreKnownOf kind versions writes
  pub gaps : (x : Pos) → IsBefore x end_position → IsGapSaid kind versions writes x

-- what a snapshot sees agrees with writes
abbrev pub SnapshotAgrees : Memory → Snap → List Mutation → Type 0
SnapshotAgrees m s = AgreesWith (kind_seen m s) (versions_seen m s)

-- the same of the open gaps alone that are known behind a row, or behind a position that is not known; behind each other position the tombstone is the one at the position
abbrev pub AreOtherGapsSaid : ChainKind → List Version → List Mutation → Type 0
AreOtherGapsSaid kind versions writes = (x : Pos) → IsBefore x end_position → (IsKnown kind versions x → IsBare versions x → ⊥) → IsGapSaid kind versions writes x
