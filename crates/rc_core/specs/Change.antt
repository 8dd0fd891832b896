-- What is done to the entries of one version.
--     gap_split    a dummy at a position with what the gap there says, where no entry stands
--     change       a function on the flag and tombstone of each spot from one position on and before another
--     join_row_at  a row joined at a position
--     mark_at      the flag and tombstone at a position
--     drop_at      an entry taken out: with it goes what the gap before it and the gap before the next entry said
--     lose_last_gap    the gap before the end dummy lost
use Rattle.std.specs.Prelude.{◌&&◌, List, [], ◌∷◌, Option, Some, None, cond, map as list_map}
use Rattle.std.specs.declared.cmp.Ordering.{Ordering}
use Rattle.std.specs.declared.cmp.Ordering.TheVariants.{Less, Equal, Greater}
use Rattle.std.specs.Ordering.{is_lt, is_le, eq_by_cmp}
use Rattle.rc_cell.specs.declared.rows.Row.{Row}
use Rattle.rc_cell.specs.declared.writes.Tomb.{Tomb}
use Rattle.rc_cell.specs.Orders.{tomb_cmp}
use Rattle.rc_cell.specs.Greatest.{greater}
use Rattle.rc_cell.specs.Winner.{joined_row}
use Rattle.rc_position.specs.declared.positions.Pos.{Pos}
use Rattle.rc_position.specs.Position.{pos_cmp, covers}
use Rattle.rc_core.specs.declared.entries.Entry.{Entry}
use Rattle.rc_core.specs.declared.entries.Flag.{Flag}
use Rattle.rc_core.specs.declared.entries.Flag.TheVariants.{Known, Unknown}
use Rattle.rc_core.specs.declared.entries.Mark.{Mark}
use Rattle.rc_core.specs.Version.{Spot, On, Behind}

-- a mark of these
abbrev pub mark : Flag → Option Tomb → Mark
mark flag tomb = record { flag = flag; tomb = tomb }

-- an entry without a row, with one mark at it and over the gap before it
abbrev pub dummy : Pos → Mark → Entry
dummy x m = record { position = x; row = None; at = m; gap = m }

-- ---- split

-- by where a position stands against the first entry: a dummy before it, nothing to do, or further on
abbrev pub split_by : Ordering → Pos → Entry → List Entry → List Entry → List Entry
split_by Less x e es rest = dummy x e.gap ∷ e ∷ es
split_by Equal x e es rest = e ∷ es
split_by Greater x e es rest = e ∷ rest

-- a dummy at a position, where no entry stands there, with what the gap there says
abbrev pub gap_split : Pos → List Entry → List Entry
gap_split x [] = []
gap_split x (e ∷ es) = split_by (pos_cmp x e.position) x e es (gap_split x es)

-- ---- change

-- the position that a spot is, or is right behind
abbrev pub position_of : Spot → Pos
position_of (On x) = x
position_of (Behind x) = x

-- what an entry says itself changes where it stands from `from` on and before `to`, and what the gap before it says where that gap
-- lies between them
abbrev pub entry_changed : (Mark → Mark) → Pos → Pos → Entry → Entry
entry_changed f from to e = record {
  position = e.position;
  row = e.row;
  at = cond (covers from to e.position) (f e.at) e.at;
  gap = cond (is_lt (pos_cmp from e.position) && is_le (pos_cmp e.position to)) (f e.gap) e.gap;
}

-- a function on the mark of each spot from one position on and before another
abbrev pub change : (Mark → Mark) → Pos → Pos → List Entry → List Entry
change f from to es = list_map (entry_changed f from to) (gap_split to (gap_split from es))

-- the flag stays, and of the tombstones the greater
abbrev pub raised_mark : Option Tomb → Mark → Mark
raised_mark tomb m = mark m.flag (greater tomb_cmp m.tomb tomb)

-- a range tombstone joined
abbrev pub join_range : Pos → Pos → Tomb → List Entry → List Entry
join_range from to tomb es = change (raised_mark (Some tomb)) from to es

-- a gap filled: from `from` on and before `to` it is known that there are no rows, and this tombstone
abbrev pub fill_gap : Pos → Pos → Option Tomb → List Entry → List Entry
fill_gap from to tomb es = change (λ m. mark Known tomb) from to es

-- ---- one position

-- a row joined to the one that is there, if there is one
abbrev pub joined_onto : Option Row → Row → Row
joined_onto None row = row
joined_onto (Some old) row = joined_row (old ∷ row ∷ [])

-- the entry with a row joined
abbrev pub with_row : Row → Entry → Entry
with_row row e = record { position = e.position; row = Some (joined_onto e.row row); at = e.at; gap = e.gap }

-- the entry with a function on the mark at its position
abbrev pub with_mark : (Mark → Mark) → Entry → Entry
with_mark f e = record { position = e.position; row = e.row; at = f e.at; gap = e.gap }

-- the entry with a function on both of its marks
abbrev pub with_marks : (Mark → Mark) → Entry → Entry
with_marks f e = record { position = e.position; row = e.row; at = f e.at; gap = f e.gap }

-- what is done to the entry at a position, where one stands
abbrev pub at_entry : Pos → (Entry → Entry) → List Entry → List Entry
at_entry x f es = list_map (λ e. cond (eq_by_cmp pos_cmp x e.position) (f e) e) es

-- a row joined at its position
abbrev pub join_row_at : Pos → Row → List Entry → List Entry
join_row_at x row es = at_entry x (with_row row) (gap_split x es)

-- a row filled: it is joined, its position is known, and its tombstone joined
abbrev pub known_with : Option Tomb → Mark → Mark
known_with tomb m = mark Known (greater tomb_cmp m.tomb tomb)

-- a row filled at its position
abbrev pub fill_row : Pos → Row → Option Tomb → List Entry → List Entry
fill_row x row tomb es = at_entry x (with_mark (known_with tomb)) (join_row_at x row es)

-- ---- what is taken out

-- the entry with another mark on the gap before it
abbrev pub with_gap : Mark → Entry → Entry
with_gap m e = record { position = e.position; row = e.row; at = e.at; gap = m }

-- entries, with another mark on the gap before the first one
abbrev pub with_first_gap : Mark → List Entry → List Entry
with_first_gap m [] = []
with_first_gap m (e ∷ es) = with_gap m e ∷ es

-- the entry at a position taken out: the gap before the next one has this mark then
abbrev pub take_out : Mark → Pos → List Entry → List Entry
take_out m x [] = []
take_out m x (e ∷ es) = cond (eq_by_cmp pos_cmp x e.position) (with_first_gap m es) (e ∷ take_out m x es)

-- ---- what is lost

-- Unknown, and without a tombstone
abbrev pub lost_mark : Mark
lost_mark = mark Unknown None

-- the gap before an entry lost
abbrev pub without_gap : Entry → Entry
without_gap = with_gap lost_mark

-- the gap before the first entry lost
abbrev pub lose_first_gap : List Entry → List Entry
lose_first_gap = with_first_gap lost_mark

-- the entry at a position taken out, as eviction does: the gap before the next one is Unknown then, and without a tombstone
abbrev pub drop_at : Pos → List Entry → List Entry
drop_at = take_out lost_mark

-- the end dummy evicted: it stays, and the gap before it is lost
abbrev pub lose_last_gap : List Entry → List Entry
lose_last_gap [] = []
lose_last_gap (e ∷ []) = without_gap e ∷ []
lose_last_gap (e ∷ f ∷ es) = e ∷ lose_last_gap (f ∷ es)
