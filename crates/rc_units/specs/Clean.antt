-- A unit of the cleaner: a part of a version that nobody reads goes under the next newer version.
--     onto_by                  what an entry of the newer version takes from an entry that is merged, by where it stands against it
--     merge_entry, merge_end_dummy    the newer version's entries, after the first entry, or the end dummy, has gone under them
--     cleaned_versions         the two versions after a unit, or the newer one alone where the older one is dropped
--     cleaned_without_room     the same where there is no room for dummies
--     clean_times              after as many units as are asked for
use Rattle.std.specs.Prelude.{◌<◌, ◌≡◌, ◌+◌, ℕ, zero, suc, List, [], ◌∷◌, Option, Some, None, length, map as list_map}
use Rattle.std.specs.declared.cmp.Ordering.{Ordering}
use Rattle.std.specs.declared.cmp.Ordering.TheVariants.{Less, Equal, Greater}
use Rattle.rc_cell.specs.declared.rows.Row.{Row}
use Rattle.rc_cell.specs.Orders.{tomb_cmp}
use Rattle.rc_cell.specs.Greatest.{greater}
use Rattle.rc_position.specs.Position.{pos_cmp}
use Rattle.rc_core.specs.declared.entries.ChainKind.{ChainKind}
use Rattle.rc_core.specs.declared.entries.ChainKind.TheVariants.{Memtable, Cache}
use Rattle.rc_core.specs.declared.entries.Entry.{Entry}
use Rattle.rc_core.specs.declared.entries.Flag.TheVariants.{Inherit}
use Rattle.rc_core.specs.declared.entries.Mark.{Mark}
use Rattle.rc_core.specs.Version.{Version}
use Rattle.rc_core.specs.Change.{dummy, gap_split, lose_first_gap}
use Rattle.rc_core.specs.Chains.{Chain, IsPinned, IsUpdating}
use Rattle.rc_core.specs.Plain.{flag_under, mark_under, no_mark, row_under}
use Rattle.rc_core.specs.Continuity.{with_entries, without_statics}

-- ---- one entry of the newer version

-- what is said at its own position, and over the gap before it, goes under what it says there
abbrev pub onto_at : Mark → Option Row → Entry → Entry
onto_at m row y = record { position = y.position; row = row_under y.at.flag row y.row; at = mark_under m y.at; gap = y.gap }

-- over the gap before it alone
abbrev pub onto_gap : Mark → Entry → Entry
onto_gap m y = record { position = y.position; row = y.row; at = y.at; gap = mark_under m y.gap }

-- before the merged entry the gap goes under all that the other entry says; at it, its own state and the gap; behind it, what the rest says
abbrev pub onto_by : Ordering → Entry → Entry → Entry → Entry
onto_by Less e y rest = onto_at e.gap None (onto_gap e.gap y)
onto_by Equal e y rest = onto_at e.at e.row (onto_gap e.gap y)
onto_by Greater e y rest = rest

-- before the merged entry's successor its gap goes under all that the other entry says; at it, the gap alone; behind it, nothing
abbrev pub gap_onto_by : Ordering → Entry → Entry → Entry
gap_onto_by Less n y = onto_at n.gap None (onto_gap n.gap y)
gap_onto_by Equal n y = onto_gap n.gap y
gap_onto_by Greater n y = y

-- an entry of the newer version once the first entry e of the older one, followed by n, has gone under it
abbrev pub entry_onto : Entry → Entry → Entry → Entry
entry_onto e n y = onto_by (pos_cmp y.position e.position) e y (gap_onto_by (pos_cmp y.position n.position) n y)

-- the same where e is the end dummy
abbrev pub end_onto : Entry → Entry → Entry
end_onto e y = onto_by (pos_cmp y.position e.position) e y y

-- ---- the two versions

-- the newer version's entries with the first entry of the older one, its gap, and the gap before its successor under them
abbrev pub merge_entry : Entry → Entry → List Entry → List Entry
merge_entry e n newer = list_map (entry_onto e n) (gap_split n.position (gap_split e.position newer))

-- the newer version's entries with the older one's end dummy under them
abbrev pub merge_end_dummy : Entry → List Entry → List Entry
merge_end_dummy e newer = list_map (end_onto e) newer

-- the successor of a merged entry: the gap before it says nothing more
abbrev pub gap_said : Entry → Entry
gap_said n = record { position = n.position; row = n.row; at = n.at; gap = no_mark }

-- the older version once its static row was merged: it has none, and says nothing of it
abbrev pub statics_said : Version → Version
statics_said v = record { pt = v.pt; statics = None; static_flag = Inherit; entries = v.entries; phase = v.phase }

-- the newer version with the static row and its flag under its own
abbrev pub statics_onto : Version → Version → Version
statics_onto v w = record {
  pt = w.pt;
  statics = row_under w.static_flag v.statics w.statics;
  static_flag = flag_under v.static_flag w.static_flag;
  entries = w.entries;
  phase = w.phase;
}

-- the newer version with all under it that an older one says which has an end dummy alone: its partition tombstone, the flag of the static
-- row, the gap before its end dummy and that one's own state
abbrev pub end_merged : Entry → Version → Version → Version
end_merged e v w = record {
  pt = greater tomb_cmp v.pt w.pt;
  statics = row_under w.static_flag v.statics w.statics;
  static_flag = flag_under v.static_flag w.static_flag;
  entries = merge_end_dummy e w.entries;
  phase = w.phase;
}

-- what an older version has left whose end dummy was merged: its partition tombstone
abbrev pub emptied_version : Entry → Version → Version
emptied_version e v = record { pt = v.pt; statics = None; static_flag = Inherit; entries = dummy e.position no_mark ∷ []; phase = v.phase }

-- what follows a merged entry: other entries, or the end dummy alone, with which the older version is dropped in the same unit
abbrev pub entry_cleaned : Entry → Entry → List Entry → Version → Version → List Version
entry_cleaned e n [] v w = end_merged (gap_said n) v (with_entries (merge_entry e n w.entries) w) ∷ []
entry_cleaned e n (b ∷ back) v w = with_entries (gap_said n ∷ b ∷ back) v ∷ with_entries (merge_entry e n w.entries) w ∷ []

-- the static row first, then the first entry, and the end dummy last
abbrev pub cleaned_by : Option Row → List Entry → Version → Version → List Version
cleaned_by (Some row) entries v w = statics_said v ∷ statics_onto v w ∷ []
cleaned_by None [] v w = v ∷ w ∷ []
cleaned_by None (e ∷ []) v w = end_merged e v w ∷ []
cleaned_by None (e ∷ n ∷ back) v w = entry_cleaned e n back v w

-- the versions that a unit makes of two
abbrev pub cleaned_versions : Version → Version → List Version
cleaned_versions v w = cleaned_by v.statics v.entries v w

-- without room a memtable is left unmerged, and of a cache the static row or the first entry is lost; an end dummy needs no room
abbrev pub cache_cleaned_by : Option Row → List Entry → Version → Version → List Version
cache_cleaned_by (Some row) entries v w = without_statics v ∷ w ∷ []
cache_cleaned_by None [] v w = v ∷ w ∷ []
cache_cleaned_by None (e ∷ []) v w = end_merged e v w ∷ []
cache_cleaned_by None (e ∷ n ∷ back) v w = with_entries (lose_first_gap (n ∷ back)) v ∷ w ∷ []

-- by what the chain is of
abbrev pub cleaned_without_room : ChainKind → Version → Version → List Version
cleaned_without_room Memtable v w = v ∷ w ∷ []
cleaned_without_room Cache v w = cache_cleaned_by v.statics v.entries v w

-- ---- which versions, and how often

-- a version that the cleaner may merge: not pinned, not the newest, and not the one below the newest of a chain under update
pub record MayMerge (c : Chain) (j : ℕ) : Type 0 where
  pub older : suc j < length c.versions
  pub unpinned : IsPinned c.pins j → ⊥
  pub settled : IsUpdating c.updating → suc (suc j) ≡ length c.versions → ⊥

-- whether there is a static row to merge
abbrev pub static_units : Option Row → ℕ
static_units None = 0
static_units (Some row) = 1

-- how many units a version takes: one for its static row, one for each entry
abbrev pub units_of : Version → ℕ
units_of v = static_units v.statics + length v.entries

-- a further unit of what one has left: two versions, or one where the older one is dropped already
abbrev pub further : (Version → Version → List Version) → List Version → List Version
further f [] = []
further f (w ∷ []) = w ∷ []
further f (v ∷ w ∷ []) = f v w
further f (v ∷ w ∷ x ∷ more) = v ∷ w ∷ x ∷ more

-- the versions after so many units
abbrev pub clean_times : ℕ → Version → Version → List Version
clean_times zero v w = v ∷ w ∷ []
clean_times (suc k) v w = further (clean_times k) (cleaned_versions v w)
