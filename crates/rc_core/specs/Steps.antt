-- What is done to a chain as a whole: to its newest version, to its pins, to its place in the cache.
use Rattle.std.specs.Prelude.{◌<◌, ◌≡◌, ◌++◌, ℕ, zero, suc, true, false, List, [], ◌∷◌, Option, Some, None, option_map, take, drop, length, map as list_map}
use Rattle.rc_cell.specs.declared.rows.Row.{Row}
use Rattle.rc_cell.specs.declared.writes.Tomb.{Tomb}
use Rattle.rc_cell.specs.Orders.{tomb_cmp}
use Rattle.rc_cell.specs.Greatest.{greater}
use Rattle.rc_cell.specs.Winner.{greatest, joined_row}
use Rattle.std.specs.Option.{option_to_list}
use Rattle.rc_mutation.specs.declared.mutations.Mutation.{Mutation}
use Rattle.rc_mutation.specs.Source.{source_at, source_at_static}
use Rattle.rc_position.specs.declared.positions.Pos.{Pos}
use Rattle.rc_position.specs.Position.{Place, Head}
use Rattle.rc_core.specs.declared.entries.ChainKind.{ChainKind}
use Rattle.rc_core.specs.declared.entries.Entry.{Entry}
use Rattle.rc_core.specs.declared.entries.Flag.{Flag}
use Rattle.rc_core.specs.declared.entries.Flag.TheVariants.{Known, Unknown}
use Rattle.rc_core.specs.Version.{Version, IsVersion, end_position}
use Rattle.rc_core.specs.Change.{dummy, mark, at_entry, fill_gap, fill_row, join_range, join_row_at}
use Rattle.rc_core.specs.Continuity.{EachOf, with_entries, joined_options}
use Rattle.rc_core.specs.Merge.{new_version}
use Rattle.rc_core.specs.Chains.{Chain, IsPinned, IsUpdating, IsCarried, with_versions}

-- a chain: its versions end with their end dummies, snapshots pin versions that it has, and nobody pins the one under update
pub record IsChain (c : Chain) : Type 0 where
  pub versions : EachOf IsVersion c.versions
  pub pins : (j : ℕ) → IsPinned c.pins j → j < length c.versions
  pub unpinned : IsUpdating c.updating → (j : ℕ) → IsPinned c.pins j → suc j < length c.versions

-- a snapshot that pins the version of this number populates the cache: it is the newest of an attached chain that is not under update
pub record MayPopulate (c : Chain) (pin : ℕ) : Type 0 where
  pub newest : suc pin ≡ length c.versions
  pub attached : c.attached ≡ true
  pub settled : c.updating ≡ None

-- the second writes say at each place no less than the first: these joined into them change nothing
pub record SaysNoLess (writes others : List Mutation) : Type 0 where
  pub statics : joined_row (source_at_static others ∷ source_at_static writes ∷ []) ≡ source_at_static others
  pub rows : (x : Pos) → joined_row ((source_at others x).0 ∷ (source_at writes x).0 ∷ []) ≡ (source_at others x).0
  pub tombs : (x : Pos) → greatest tomb_cmp (option_to_list (source_at others x).1 ++ option_to_list (source_at writes x).1) ≡ (source_at others x).1

-- ---- the newest version

-- something done to the newest version
abbrev pub on_newest : (Version → Version) → List Version → List Version
on_newest f [] = []
on_newest f (v ∷ []) = f v ∷ []
on_newest f (v ∷ w ∷ vs) = v ∷ on_newest f (w ∷ vs)

-- the chain with something done to its newest version
abbrev pub with_newest : (Version → Version) → Chain → Chain
with_newest f c = with_versions (on_newest f c.versions) c

-- something done to the version of a number, counted from the oldest
abbrev pub on_version : ℕ → (Version → Version) → List Version → List Version
on_version j f [] = []
on_version zero f (v ∷ vs) = f v ∷ vs
on_version (suc j) f (v ∷ vs) = v ∷ on_version j f vs

-- the chain with something done to the version of a number
abbrev pub with_version : ℕ → (Version → Version) → Chain → Chain
with_version j f c = with_versions (on_version j f c.versions) c

-- a version with a gap filled
abbrev pub gap_filled : Pos → Pos → Option Tomb → Version → Version
gap_filled from to tomb v = with_entries (fill_gap from to tomb v.entries) v

-- a version with a row filled
abbrev pub row_filled : Pos → Row → Option Tomb → Version → Version
row_filled x row tomb v = with_entries (fill_row x row tomb v.entries) v

-- a version with a row joined
abbrev pub row_joined : Pos → Row → Version → Version
row_joined x row v = with_entries (join_row_at x row v.entries) v

-- a version with a range tombstone joined
abbrev pub range_joined : Pos → Pos → Tomb → Version → Version
range_joined from to tomb v = with_entries (join_range from to tomb v.entries) v

-- a version with a partition tombstone joined
abbrev pub join_pt : Tomb → Version → Version
join_pt tomb v = record { pt = greater tomb_cmp v.pt (Some tomb); statics = v.statics; static_flag = v.static_flag; entries = v.entries; phase = v.phase }

-- a version with a static row joined, whose flag stays
abbrev pub join_statics : Row → Version → Version
join_statics row v = record { pt = v.pt; statics = joined_options v.statics (Some row); static_flag = v.static_flag; entries = v.entries; phase = v.phase }

-- a version with another static row, and another flag of it
abbrev pub set_statics : Option Row → Flag → Version → Version
set_statics row flag v = record { pt = v.pt; statics = row; static_flag = flag; entries = v.entries; phase = v.phase }

-- a version with another flag of its static row
abbrev pub set_static_flag : Flag → Version → Version
set_static_flag flag v = set_statics v.statics flag v

-- a version with a static row joined, which has this flag then
abbrev pub join_flagged_statics : Row → Flag → Version → Version
join_flagged_statics row flag v = set_statics (joined_options v.statics (Some row)) flag v

-- an entry with other flags, or other range tombstones, at its position and over the gap before it
abbrev pub with_flags : Flag → Flag → Entry → Entry
with_flags at gap e = record { position = e.position; row = e.row; at = mark at e.at.tomb; gap = mark gap e.gap.tomb }

-- the same of range tombstones
abbrev pub with_tombs : Option Tomb → Option Tomb → Entry → Entry
with_tombs at gap e = record { position = e.position; row = e.row; at = mark e.at.flag at; gap = mark e.gap.flag gap }

-- a version whose entry at a position has other flags
abbrev pub set_flags : Pos → Flag → Flag → Version → Version
set_flags x at gap v = with_entries (at_entry x (with_flags at gap) v.entries) v

-- a version whose entry at a position has other range tombstones
abbrev pub set_tombs : Pos → Option Tomb → Option Tomb → Version → Version
set_tombs x at gap v = with_entries (at_entry x (with_tombs at gap) v.entries) v

-- a version of its end dummy alone, whose flags are all this one
abbrev pub version_of : Flag → Option Tomb → ℕ → Version
version_of flag pt phase = record { pt = pt; statics = None; static_flag = flag; entries = dummy end_position (mark flag None) ∷ []; phase = phase }

-- a version with another phase
abbrev pub with_phase : ℕ → Version → Version
with_phase phase v = record { pt = v.pt; statics = v.statics; static_flag = v.static_flag; entries = v.entries; phase = phase }

-- a new version over the others
abbrev pub add_version : Option Tomb → ℕ → Chain → Chain
add_version pt phase c = with_versions (c.versions ++ new_version pt phase ∷ []) c

-- ---- a version dropped

-- the number that a version has once the one of number n is gone
abbrev pub number_after_removal : ℕ → ℕ → ℕ
number_after_removal zero zero = zero
number_after_removal zero (suc j) = j
number_after_removal (suc n) zero = zero
number_after_removal (suc n) (suc j) = suc (number_after_removal n j)

-- the versions but the one of number n
abbrev pub all_but : ℕ → List Version → List Version
all_but n versions = take n versions ++ drop (suc n) versions

-- the version of number n dropped: the newer ones, and the pins of these, have numbers less by one
abbrev pub drop_version : ℕ → Chain → Chain
drop_version n c = record { kind = c.kind; versions = all_but n c.versions; attached = c.attached; updating = c.updating; pins = list_map (option_map (number_after_removal n)) c.pins }

-- ---- pins, and the place in the cache

-- the chain with other pins
abbrev pub with_pins : List (Option ℕ) → Chain → Chain
with_pins pins c = record { kind = c.kind; versions = c.versions; attached = c.attached; updating = c.updating; pins = pins }

-- a snapshot pins the newest version, or while the chain is under update the one below it
abbrev pub IsSnapshotOf : Chain → ℕ → Type 0
IsSnapshotOf c pin = (c.updating ≡ None → suc pin ≡ length c.versions) × (IsUpdating c.updating → suc (suc pin) ≡ length c.versions)

-- the version that the snapshot of a number pins; None where the number is free
abbrev pub pin_at : List (Option ℕ) → ℕ → Option ℕ
pin_at [] i = None
pin_at (p ∷ ps) zero = p
pin_at (p ∷ ps) (suc i) = pin_at ps i

-- the least number that is free
abbrev pub free_number : List (Option ℕ) → ℕ
free_number [] = zero
free_number (None ∷ ps) = zero
free_number (Some p ∷ ps) = suc (free_number ps)

-- the pins with one of a version more, at the least number that is free
abbrev pub pins_with : ℕ → List (Option ℕ) → List (Option ℕ)
pins_with version [] = Some version ∷ []
pins_with version (None ∷ ps) = Some version ∷ ps
pins_with version (Some p ∷ ps) = Some p ∷ pins_with version ps

-- the pins with the number i free
abbrev pub pins_without : ℕ → List (Option ℕ) → List (Option ℕ)
pins_without i [] = []
pins_without zero (p ∷ ps) = None ∷ ps
pins_without (suc i) (p ∷ ps) = p ∷ pins_without i ps

-- a snapshot of the version of a number
abbrev pub snapshot : ℕ → Chain → Chain
snapshot version c = with_pins (pins_with version c.pins) c

-- the snapshot of number i is taken back
abbrev pub release : ℕ → Chain → Chain
release i c = with_pins (pins_without i c.pins) c

-- the chain with an update that stands at a place, or with none
abbrev pub with_updating : Option Place → Chain → Chain
with_updating place c = record { kind = c.kind; versions = c.versions; attached = c.attached; updating = place; pins = c.pins }

-- no longer found by its key, and not under update
abbrev pub detach : Chain → Chain
detach c = record { kind = c.kind; versions = c.versions; attached = false; updating = None; pins = c.pins }

-- an update begins: a new version over the others, and the update's place is the head
abbrev pub begin_update : ℕ → Chain → Chain
begin_update phase c = with_updating (Some Head) (add_version None phase c)

-- ---- carried positions

-- the versions but the newest
abbrev pub but_newest : List Version → List Version
but_newest [] = []
but_newest (v ∷ []) = []
but_newest (v ∷ w ∷ vs) = v ∷ but_newest (w ∷ vs)

-- the versions up to the one that a snapshot pins
abbrev pub pinned_by_snapshot : Option Place → List Version → List Version
pinned_by_snapshot None versions = versions
pinned_by_snapshot (Some p) versions = but_newest versions

-- a position is carried in a chain: it is known in the version that a snapshot pins and, before the update's place, in the newest too
abbrev pub IsCarriedIn : Chain → Pos → Type 0
IsCarriedIn c x = IsCarried c.updating (pinned_by_snapshot c.updating c.versions) c.versions x

-- ---- new chains

-- the only version of a new cache chain: its head is given, and all else is Unknown
abbrev pub opened_version : Option Tomb → Option Row → ℕ → Version
opened_version pt statics phase = record { pt = pt; statics = statics; static_flag = Known; entries = dummy end_position (mark Unknown None) ∷ []; phase = phase }

-- a chain of one version, attached and pinned by nobody
abbrev pub new_chain : ChainKind → Version → Chain
new_chain kind v = record { kind = kind; versions = v ∷ []; attached = true; updating = None; pins = [] }
