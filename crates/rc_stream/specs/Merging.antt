-- Two streams of one partition as one: by places, what both say there.
--     IsOrdered           rows and changes by strictly ascending place
--     IsTelling           no change is to the tombstone that was in force before it
--     merged_stream       the canonical stream of what two streams say together
use Rattle.std.specs.Prelude.{◌≡◌, ℕ, Bool, true, false, cond, List, [], ◌∷◌, ◌++◌, Option, Some, None, map as list_map}
use Rattle.std.specs.declared.cmp.Ordering.TheVariants.{Less}
use Rattle.std.specs.Ordering.{eq_by_cmp}
use Rattle.std.specs.List.{flat_map}
use Rattle.rc_cell.specs.declared.rows.Row.{Row}
use Rattle.rc_cell.specs.declared.writes.Tomb.{Tomb}
use Rattle.rc_cell.specs.Greatest.{greater}
use Rattle.rc_cell.specs.Orders.{tomb_cmp}
use Rattle.rc_cell.specs.Winner.{joined_row, IsRow}
use Rattle.rc_position.specs.declared.positions.Pos.{Pos}
use Rattle.rc_position.specs.declared.positions.Weight.TheVariants.{Before}
use Rattle.rc_position.specs.Position.{row_pos}
use Rattle.rc_mutation.specs.declared.fragments.Frag.{Frag}
use Rattle.rc_mutation.specs.declared.fragments.Frag.TheVariants as frag
use Rattle.rc_mutation.specs.declared.fragments.Head.{Head}
use Rattle.rc_mutation.specs.Fragments.{in_order, place_order, tomb_after}
use Rattle.rc_stream.specs.Stream.{Stream, force, row_at}

-- where a row or a change stands: by position, and at one position a change before a row. The others stand before them
abbrev pub place_of : Frag → Pos × ℕ
place_of (frag.Row key row) = (row_pos key, 1)
place_of (frag.Change from tomb) = (from, 0)
place_of f = (record { prefix = []; weight = Before }, 0)

-- a fragment at its place
abbrev pub placed_fragment : Frag → (Pos × ℕ) × Frag
placed_fragment f = (place_of f, f)

-- a row whose cells ascend by column, or a change
abbrev pub IsInner : Frag → Type 0
IsInner (frag.Start pt) = ⊥
IsInner (frag.Static row) = ⊥
IsInner (frag.Row key row) = IsRow row
IsInner (frag.Change from tomb) = Unit {0}
IsInner frag.End = ⊥

-- a place comes before that of each fragment
abbrev pub StandsBefore : Pos × ℕ → List Frag → Type 0
StandsBefore p [] = Unit {0}
StandsBefore p (f ∷ fs) = (place_order p (place_of f) ≡ Less) × StandsBefore p fs

-- rows and changes by strictly ascending place
abbrev pub IsOrdered : List Frag → Type 0
IsOrdered [] = Unit {0}
IsOrdered (f ∷ fs) = IsInner f × StandsBefore (place_of f) fs × IsOrdered fs

-- whether two tombstones, or the lack of one, are the same
abbrev pub same_tomb : Option Tomb → Option Tomb → Bool
same_tomb None None = true
same_tomb None (Some t) = false
same_tomb (Some s) None = false
same_tomb (Some s) (Some t) = eq_by_cmp tomb_cmp s t

-- whether a fragment is a change to the tombstone that is in force before it
abbrev pub changes_nothing : Option Tomb → Frag → Bool
changes_nothing tomb (frag.Start pt) = false
changes_nothing tomb (frag.Static row) = false
changes_nothing tomb (frag.Row key row) = false
changes_nothing tomb (frag.Change from next) = same_tomb tomb next
changes_nothing tomb frag.End = false

-- no change is to the tombstone in force before it, where this one is in force before them all
abbrev pub IsTelling : Option Tomb → List Frag → Type 0
IsTelling tomb [] = Unit {0}
IsTelling tomb (f ∷ fs) = (changes_nothing tomb f ≡ false) × IsTelling (tomb_after tomb f) fs

-- fragments without the changes that change nothing
abbrev pub telling : Option Tomb → List Frag → List Frag
telling tomb [] = []
telling tomb (f ∷ fs) = cond (changes_nothing tomb f) (telling tomb fs) (f ∷ telling (tomb_after tomb f) fs)

-- the rows at x among fragments
abbrev pub rows_here : Pos → List Frag → List Row
rows_here x fs = flat_map (row_at x) fs

-- what two streams say together at the place of a fragment: the row of both there, or the change to the greater of the tombstones in force there
abbrev pub both_say : Option Tomb → List Frag → Option Tomb → List Frag → Frag → Frag
both_say tomb fs other gs (frag.Start pt) = frag.Start pt
both_say tomb fs other gs (frag.Static row) = frag.Static row
both_say tomb fs other gs (frag.Row key row) = frag.Row key (joined_row (rows_here (row_pos key) fs ++ rows_here (row_pos key) gs))
both_say tomb fs other gs (frag.Change from next) = frag.Change from (greater tomb_cmp (force from tomb fs) (force from other gs))
both_say tomb fs other gs frag.End = frag.End

-- at each place where one of both has a fragment, in order, what both say there; without the changes that change nothing
abbrev pub merged_left : Option Tomb → List Frag → Option Tomb → List Frag → List Frag
merged_left tomb fs other gs = telling (greater tomb_cmp tomb other) (list_map (both_say tomb fs other gs) (in_order (list_map placed_fragment (fs ++ gs))))

-- the heads of two streams as one: the greater partition tombstone, the static rows as one
abbrev pub joined_head : Head → Head → Head
joined_head h k = record { pt = greater tomb_cmp h.pt k.pt; statics = joined_row (h.statics ∷ k.statics ∷ []) }

-- two streams as one
unfoldable pub merged_stream : Stream → Stream → Stream
merged_stream s t = record { head = joined_head s.head t.head; tomb = greater tomb_cmp s.tomb t.tomb; left = merged_left s.tomb s.left t.tomb t.left }
