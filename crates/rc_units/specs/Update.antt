-- A unit of an update: one fragment of the update's mutation goes into the newest version, at the update's place.
--     unit_place             where a fragment stands; the update's place is that of its next fragment
--     force_after          the range tombstone in force behind a fragment
--     fragment_state, ..    what a fragment says at the places from its own on and before the next one's
--     IsFragmentOf         a fragment says there what the mutation says; AreFragmentsOf: each of some fragments does
--     updated_version, updated_by  the newest version after a unit, and after units one after another
--     lost_from            the same without room: from the place on everything is Unknown
use Rattle.std.specs.Prelude.{◌≡◌, ◌&&◌, Bool, List, [], ◌∷◌, Option, Some, None, cond, map as list_map}
use Rattle.std.specs.declared.cmp.Ordering.TheVariants.{Less, Greater}
use Rattle.std.specs.Option.{option_to_list}
use Rattle.std.specs.Ordering.{is_lt, is_le, eq_by_cmp}
use Rattle.rc_cell.specs.declared.rows.Row.{Row}
use Rattle.rc_cell.specs.declared.writes.Tomb.{Tomb}
use Rattle.rc_cell.specs.Greatest.{greater}
use Rattle.rc_cell.specs.Orders.{tomb_cmp}
use Rattle.rc_cell.specs.Winner.{joined_row}
use Rattle.rc_position.specs.declared.positions.Pos.{Pos}
use Rattle.rc_position.specs.Position.{Place, Head, Static, Clustered, End, IsBefore, place_cmp, pos_cmp, row_pos}
use Rattle.rc_mutation.specs.declared.fragments.Frag.{Frag}
use Rattle.rc_mutation.specs.declared.fragments.Frag.TheVariants as frag
use Rattle.rc_mutation.specs.declared.mutations.Mutation.{Mutation}
use Rattle.rc_mutation.specs.Source.{source_at, source_at_head, source_at_static}
use Rattle.rc_core.specs.declared.entries.Entry.{Entry}
use Rattle.rc_core.specs.declared.entries.Flag.TheVariants.{Unknown, Inherit}
use Rattle.rc_core.specs.SpotState.{SpotState, spot_state, joined_state}
use Rattle.rc_core.specs.Version.{Spot, On, Behind, Version, end_position}
use Rattle.rc_core.specs.Change.{change, gap_split, join_row_at, joined_onto, lost_mark, raised_mark}
use Rattle.rc_core.specs.Continuity.{with_entries}
use Rattle.rc_core.specs.Unit.{IsStretch}

-- ---- fragments

-- the place of a fragment: the head, the static row, a clustered position or the end
abbrev pub unit_place : Frag → Place
unit_place (frag.Start pt) = Head
unit_place (frag.Static row) = Static
unit_place (frag.Row key row) = Clustered (row_pos key)
unit_place (frag.Change from next) = Clustered from
unit_place frag.End = End

-- the range tombstone in force behind a fragment: that of the last change, and none behind the start and the static row
abbrev pub force_after : Option Tomb → Frag → Option Tomb
force_after force (frag.Start pt) = None
force_after force (frag.Static row) = None
force_after force (frag.Row key row) = force
force_after force (frag.Change from next) = next
force_after force frag.End = force

-- the partition tombstone, the static row, and the row at a position, where the fragment has one
abbrev pub fragment_head : Frag → Option Tomb
fragment_head (frag.Start pt) = pt
fragment_head (frag.Static row) = None
fragment_head (frag.Row key row) = None
fragment_head (frag.Change from next) = None
fragment_head frag.End = None

-- the static row that a fragment has
abbrev pub fragment_statics : Frag → List Row
fragment_statics (frag.Start pt) = []
fragment_statics (frag.Static row) = row ∷ []
fragment_statics (frag.Row key row) = []
fragment_statics (frag.Change from next) = []
fragment_statics frag.End = []

-- the row that a fragment has at a position
abbrev pub fragment_rows : Frag → Pos → List Row
fragment_rows (frag.Start pt) x = []
fragment_rows (frag.Static row) x = []
fragment_rows (frag.Row key row) x = cond (eq_by_cmp pos_cmp x (row_pos key)) (row ∷ []) []
fragment_rows (frag.Change from next) x = []
fragment_rows frag.End x = []

-- what it says at a position from its own on and before the next fragment's: its row there, and the tombstone in force behind it
abbrev pub fragment_state : Option Tomb → Frag → Pos → SpotState
fragment_state force f x = spot_state Inherit (fragment_rows f x) (option_to_list (force_after force f))

-- the gap behind a position has no row
abbrev pub fragment_state_at : Option Tomb → Frag → Spot → SpotState
fragment_state_at force f (On x) = fragment_state force f x
fragment_state_at force f (Behind x) = spot_state Inherit [] (option_to_list (force_after force f))

-- a fragment stands before a place; a change may stand where a row does, and then before it
abbrev pub Precedes : Frag → Place → Type 0
Precedes (frag.Start pt) p = place_cmp Head p ≡ Less
Precedes (frag.Static row) p = place_cmp Static p ≡ Less
Precedes (frag.Row key row) p = place_cmp (Clustered (row_pos key)) p ≡ Less
Precedes (frag.Change from next) p = place_cmp (Clustered from) p ≡ Greater → ⊥
Precedes frag.End p = ⊥

-- from its own place on and before the next place a fragment says what the mutation says
pub record IsFragmentOf (change : Mutation) (force : Option Tomb) (f : Frag) (next : Place) : Type 0 where
  pub precedes : Precedes f next
  pub head : unit_place f ≡ Head → source_at_head (change ∷ []) ≡ fragment_head f
  pub statics : IsStretch (unit_place f) next Static → joined_row (fragment_statics f) ≡ source_at_static (change ∷ [])
  pub clustered : (x : Pos) → IsBefore x end_position → IsStretch (unit_place f) next (Clustered x) → joined_state (fragment_state force f x) ≡ source_at (change ∷ []) x

-- each of some fragments says so up to the next one
abbrev pub AreFragmentsOf : Mutation → Option Tomb → List Frag → Type 0
AreFragmentsOf change force [] = Unit {0}
AreFragmentsOf change force (f ∷ []) = Unit {0}
AreFragmentsOf change force (f ∷ g ∷ fs) = IsFragmentOf change force f (unit_place g) × AreFragmentsOf change (force_after force f) (g ∷ fs)

-- ---- a unit with room

-- a dummy at the next place, where it is clustered; the end has one
abbrev pub split_at : Place → List Entry → List Entry
split_at Head entries = entries
split_at Static entries = entries
split_at (Clustered x) entries = gap_split x entries
split_at End entries = entries

-- the tombstone in force joined from one position on and before the next place, at which a dummy is left
abbrev pub raise_upto : Option Tomb → Pos → Place → List Entry → List Entry
raise_upto tomb from Head entries = entries
raise_upto tomb from Static entries = entries
raise_upto tomb from (Clustered x) entries = change (raised_mark tomb) from x entries
raise_upto tomb from End entries = change (raised_mark tomb) from end_position entries

-- the entries after the unit of a fragment, with the tombstone in force before it and the next fragment's place
abbrev pub fragment_entries : Option Tomb → Frag → Place → List Entry → List Entry
fragment_entries force (frag.Start pt) next entries = split_at next entries
fragment_entries force (frag.Static row) next entries = split_at next entries
fragment_entries force (frag.Row key row) next entries = raise_upto force (row_pos key) next (join_row_at (row_pos key) row entries)
fragment_entries force (frag.Change from tomb) next entries = raise_upto tomb from next entries
fragment_entries force frag.End next entries = entries

-- the newest version after that unit
abbrev pub updated_version : Option Tomb → Frag → Place → Version → Version
updated_version force (frag.Start pt) next v = record {
  pt = greater tomb_cmp v.pt pt;
  statics = v.statics;
  static_flag = v.static_flag;
  entries = fragment_entries force (frag.Start pt) next v.entries;
  phase = v.phase;
}
updated_version force (frag.Static row) next v = record {
  pt = v.pt;
  statics = Some (joined_onto v.statics row);
  static_flag = v.static_flag;
  entries = fragment_entries force (frag.Static row) next v.entries;
  phase = v.phase;
}
updated_version force (frag.Row key row) next v = with_entries (fragment_entries force (frag.Row key row) next v.entries) v
updated_version force (frag.Change from tomb) next v = with_entries (fragment_entries force (frag.Change from tomb) next v.entries) v
updated_version force frag.End next v = v

-- after the units of fragments, one after another; that of the last one, the end, changes nothing
abbrev pub updated_by : Option Tomb → List Frag → Version → Version
updated_by force [] v = v
updated_by force (f ∷ []) v = v
updated_by force (f ∷ g ∷ fs) v = updated_by (force_after force f) (g ∷ fs) (updated_version force f (unit_place g) v)

-- ---- a unit without room

-- whether a position stands at the place or behind it, and before the end
abbrev pub is_from : Place → Pos → Bool
is_from p x = is_le (place_cmp p (Clustered x)) && is_lt (pos_cmp x end_position)

-- what an entry says itself is lost from the place on and before the end, and what the gap before it says behind the place
abbrev pub lost_behind : Place → Entry → Entry
lost_behind p e = record {
  position = e.position;
  row = cond (is_from p e.position) None e.row;
  at = cond (is_from p e.position) lost_mark e.at;
  gap = cond (is_lt (place_cmp p (Clustered e.position))) lost_mark e.gap;
}

-- the static row is lost where the place is at it
abbrev pub statics_lost : Place → Version → Version
statics_lost p v = cond (is_le (place_cmp p Static)) (record { pt = v.pt; statics = None; static_flag = Unknown; entries = v.entries; phase = v.phase }) v

-- the newest version after everything from the place on was lost: the static row too, where the place is at it
abbrev pub lost_from : Place → Version → Version
lost_from p v = with_entries (list_map (lost_behind p) v.entries) (statics_lost p v)
