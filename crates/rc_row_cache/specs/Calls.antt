-- What the calls of a row cache do.
--     IsTakenOf      a snapshot was taken of the chain of a key
--     IsEntered      an entry was opened once there was room, and a snapshot taken of its chain
--     IsKeptOut      no room could be made for an entry
--     IsOpenRefused, IsEnterRefused   memory was refused for an entry
--     below_entry    what lies below chains, with the writes of an entry below its own
use Rattle.std.specs.Prelude.{◌≡◌, ◌⊎◌, ℕ, [], List, Option, Some, None}
use Rattle.rc_cell.specs.declared.rows.Row.{Row}
use Rattle.rc_cell.specs.declared.writes.Tomb.{Tomb}
use Rattle.rc_mutation.specs.declared.mutations.Mutation.{Mutation}
use Rattle.rc_memory.specs.Memory.{HasPin, IsSnapshotTaken, Memory, with_dropped}
use Rattle.rc_chain.specs.declared.chains.Snap.{Snap}
use Rattle.rc_chain.specs.Lives.{IsSameButSlots}
use Rattle.rc_filler.specs.Evictions.{IsRoomMade}
use Rattle.rc_entries.specs.Filling.{IsEntryOpened, filled_statics}
use Rattle.rc_entries.specs.Found.{entry_number}
use Rattle.rc_filler.specs.Fills.{IsOutOfRoom, IsSkipCounted}
use Rattle.rc_filler.specs.Stands.{HasCacheSnapshot}
use Rattle.rc_row_cache.specs.Saying.{Below, phase_pinned, with_below}

-- a snapshot was taken of the chain of a key's entry: it was not there before, and pins a version of its phase
pub record IsTakenOf (key : List ℕ) (entries : List (List ℕ × ℕ)) (old new : Memory) (s : Snap) : Type 0 where
  pub entry : entry_number entries key ≡ Some s.chain
  pub taken : IsSnapshotTaken old new s.chain s.pin s.phase
  pub there : (h : HasCacheSnapshot new s.chain s.pin) × (phase_pinned h ≡ s.phase)
  pub fresh : HasPin old s.chain s.pin → ⊥

-- room was made, and numbers of chains that are gone were told; then an entry was opened by a partition tombstone and a static row, and a snapshot taken of its chain
pub record IsEntered (S : ℕ) (key : List ℕ) (pt : Option Tomb) (statics : Row) (phase : ℕ) (entries : List (List ℕ × ℕ)) (old new : Memory) (s : Snap) : Type 0 where
  pub made : Memory
  pub room : IsRoomMade S old made
  pub between : Memory
  pub opened : IsEntryOpened s.chain pt (filled_statics statics) phase (with_dropped [] made) between
  pub taken : IsTakenOf key entries between new s

-- all room was made that could be, which is none, and numbers of chains that are gone were told; one more skipped opening is counted
abbrev pub IsKeptOut : ℕ → Memory → Memory → Type 0
IsKeptOut S old new = (made : Memory) × IsRoomMade S old made × IsOutOfRoom S made × IsSkipCounted (with_dropped [] made) new

-- memory was refused for an entry: none was opened, and the region may have root slots more, at which nothing stands; or one was, and no snapshot of its chain could be taken
abbrev pub IsOpenRefused : Option Tomb → Row → ℕ → Memory → Memory → Type 0
IsOpenRefused pt statics phase old new = IsSameButSlots old new ⊎ ((id : ℕ) × IsEntryOpened id pt (filled_statics statics) phase old new)

-- memory was refused before anything was done, or for an entry, once room was made and numbers of chains that are gone were told
abbrev pub IsEnterRefused : ℕ → Option Tomb → Row → ℕ → Memory → Memory → Type 0
IsEnterRefused S pt statics phase old new = (new ≡ old) ⊎ ((made : Memory) × IsRoomMade S old made × IsOpenRefused pt statics phase (with_dropped [] made) new)

-- what lies below chains, but that these writes lie below that of an entry, where there is one
abbrev pub below_entry : Option ℕ → (ℕ → List Mutation) → Below → Below
below_entry None writes below = below
below_entry (Some id) writes below = with_below id writes below
