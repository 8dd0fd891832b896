-- Rows and changes of a canonical list, taken apart and merged again.
use Rattle.std.proofs.Common.{◌≡◌, ◌≢◌, cond, List, [], ◌∷◌, Option, Some, None, refl, sym, ap, ◌∙◌, T, map as list_map}
use Rattle.std.specs.declared.cmp.Ordering.{Ordering}
use Rattle.std.specs.declared.cmp.Ordering.TheVariants.{Less, Equal, Greater}
use Rattle.std.specs.Ordering.{is_lt, ordering_reverse}
use Rattle.std.specs.FinMap.{is_sorted}
use Rattle.std.specs.FinMap.Entries.{below_all}
use Rattle.rc_cell.specs.declared.rows.Row.{Row}
use Rattle.rc_cell.specs.declared.writes.Tomb.{Tomb}
use Rattle.rc_cell.specs.laws.ByColumn.{both}
use Rattle.rc_position.specs.declared.comps.Comp.{Comp}
use Rattle.rc_position.specs.declared.positions.Pos.{Pos}
use Rattle.rc_position.specs.Position.{key_cmp, pos_cmp, row_pos, IsBefore}
use Rattle.rc_position.specs.laws.Orders.{pos_cmp_total}
use Rattle.rc_mutation.specs.declared.fragments.Frag.{Frag}
use Rattle.rc_mutation.specs.declared.fragments.Frag.TheVariants as frag
use Rattle.rc_mutation.specs.Fragments.{placed_change, placed_row}
use Rattle.rc_mutation.specs.laws.FragMerge.{merge, merge_into, merge-nil, fragment_of}
use Rattle.rc_mutation.specs.Canonical.{ComesNext, IsCanonicalList}

-- a row and its key
abbrev pub Keyed : Type 0
Keyed = List Comp × Row

-- from this position on this tombstone is in force
abbrev pub Change : Type 0
Change = Pos × Option Tomb

-- the rows among fragments
abbrev pub rows_in : List Frag → List Keyed
rows_in [] = []
rows_in (frag.Start pt ∷ fs) = rows_in fs
rows_in (frag.Static row ∷ fs) = rows_in fs
rows_in (frag.Row key row ∷ fs) = (key, row) ∷ rows_in fs
rows_in (frag.Change x next ∷ fs) = rows_in fs
rows_in (frag.End ∷ fs) = rows_in fs

-- the changes among fragments
abbrev pub changes_in : List Frag → List Change
changes_in [] = []
changes_in (frag.Start pt ∷ fs) = changes_in fs
changes_in (frag.Static row ∷ fs) = changes_in fs
changes_in (frag.Row key row ∷ fs) = changes_in fs
changes_in (frag.Change x next ∷ fs) = (x, next) ∷ changes_in fs
changes_in (frag.End ∷ fs) = changes_in fs

-- changes behind a last position: they strictly ascend, each has another tombstone than the one in force, and at the end none is
abbrev pub IsChanges : Option Tomb → Option Pos → List Change → Type 0
IsChanges tomb last [] = tomb ≡ None
IsChanges tomb last (c ∷ cs) = ComesNext last c.0 × (c.1 ≢ tomb) × IsChanges c.1 (Some c.0) cs

-- the first row stands behind x
abbrev pub IsFirstAfter : Pos → List Keyed → Type 0
IsFirstAfter x [] = Unit {0}
IsFirstAfter x (a ∷ os) = IsBefore x (row_pos a.0)

is_less : (r : Ordering) → r ≡ Less → T (is_lt r)
is_less Less e = tt
is_less Equal e = absurd (cc)
is_less Greater e = absurd (cc)

pub turned : (x y : Pos) → IsBefore x y → pos_cmp y x ≡ Greater
turned x y e = pos_cmp_total.antisymm y x ∙ ap ordering_reverse e

pub next_trans : (last : Option Pos) (y z : Pos) → ComesNext last y → IsBefore y z → ComesNext last z
next_trans None y z h e = tt
next_trans (Some x) y z h e = pos_cmp_total.trans x y z h e

-- a list behind a position is one behind each earlier one
pub earlier : (tomb : Option Tomb) (last : Option Pos) (y : Pos) (fs : List Frag) → ComesNext last y → IsCanonicalList tomb (Some y) fs → IsCanonicalList tomb last fs
earlier tomb last y [] p h = h
earlier tomb last y (frag.Start pt ∷ fs) p h = h
earlier tomb last y (frag.Static row ∷ fs) p h = h
earlier tomb last y (frag.Row key row ∷ fs) p h = (next_trans last y (row_pos key) p h.0, h.1, h.2, h.3)
earlier tomb last y (frag.Change x next ∷ fs) p h = (next_trans last y x p h.0, h.1, h.2, h.3)
earlier tomb last y (frag.End ∷ fs) p h = h

earlier_changes : (tomb : Option Tomb) (last : Option Pos) (y : Pos) (cs : List Change) → ComesNext last y → IsChanges tomb (Some y) cs → IsChanges tomb last cs
earlier_changes tomb last y [] p h = h
earlier_changes tomb last y (c ∷ cs) p h = (next_trans last y c.0 p h.0, h.1, h.2)

-- the changes of a canonical list
pub changes-are : (tomb : Option Tomb) (last : Option Pos) (fs : List Frag) → IsCanonicalList tomb last fs → IsChanges tomb last (changes_in fs)
changes-are tomb last [] h = h
changes-are tomb last (frag.Start pt ∷ fs) h = absurd h
changes-are tomb last (frag.Static row ∷ fs) h = absurd h
changes-are tomb last (frag.Row key row ∷ fs) h = earlier_changes tomb last (row_pos key) (changes_in fs) h.0 (changes-are tomb (Some (row_pos key)) fs h.3)
changes-are tomb last (frag.Change x next ∷ fs) h = (h.0, h.2, changes-are next (Some x) fs h.3)
changes-are tomb last (frag.End ∷ fs) h = absurd h

rows-below : (k : List Comp) (tomb : Option Tomb) (fs : List Frag) → IsCanonicalList tomb (Some (row_pos k)) fs → T (below_all key_cmp k (rows_in fs))
rows-below k tomb [] h = tt
rows-below k tomb (frag.Start pt ∷ fs) h = absurd h
rows-below k tomb (frag.Static row ∷ fs) h = absurd h
rows-below k tomb (frag.Row key row ∷ fs) h = both (is_lt (key_cmp k key)) (below_all key_cmp k (rows_in fs)) (is_less (key_cmp k key) h.0) (rows-below k tomb fs (earlier tomb (Some (row_pos k)) (row_pos key) fs h.0 h.3))
rows-below k tomb (frag.Change x next ∷ fs) h = rows-below k next fs (earlier next (Some (row_pos k)) x fs h.0 h.3)
rows-below k tomb (frag.End ∷ fs) h = absurd h

-- the rows of a canonical list ascend by key
pub rows-sorted : (tomb : Option Tomb) (last : Option Pos) (fs : List Frag) → IsCanonicalList tomb last fs → T (is_sorted key_cmp (rows_in fs))
rows-sorted tomb last [] h = tt
rows-sorted tomb last (frag.Start pt ∷ fs) h = absurd h
rows-sorted tomb last (frag.Static row ∷ fs) h = absurd h
rows-sorted tomb last (frag.Row key row ∷ fs) h = both (below_all key_cmp key (rows_in fs)) (is_sorted key_cmp (rows_in fs)) (rows-below key tomb fs h.3) (rows-sorted tomb (Some (row_pos key)) fs h.3)
rows-sorted tomb last (frag.Change x next ∷ fs) h = rows-sorted next (Some x) fs h.3
rows-sorted tomb last (frag.End ∷ fs) h = absurd h

rows-after : (x : Pos) (tomb : Option Tomb) (fs : List Frag) → IsCanonicalList tomb (Some x) fs → IsFirstAfter x (rows_in fs)
rows-after x tomb [] h = tt
rows-after x tomb (frag.Start pt ∷ fs) h = absurd h
rows-after x tomb (frag.Static row ∷ fs) h = absurd h
rows-after x tomb (frag.Row key row ∷ fs) h = h.0
rows-after x tomb (frag.Change y next ∷ fs) h = rows-after x next fs (earlier next (Some x) y fs h.0 h.3)
rows-after x tomb (frag.End ∷ fs) h = absurd h

-- a row before all changes is merged first
pub row_first : (key : List Comp) (row : Row) (os : List Keyed) (tomb : Option Tomb) (bs : List Change) → IsChanges tomb (Some (row_pos key)) bs → list_map fragment_of (merge ((key, row) ∷ os) bs) ≡ frag.Row key row ∷ list_map fragment_of (merge os bs)
row_first key row os tomb [] h = ap (λ es. frag.Row key row ∷ list_map fragment_of es) (sym (merge-nil os))
row_first key row os tomb (b ∷ bs) h =
    ap (λ t. list_map fragment_of (cond t (placed_row (key, row) ∷ merge os (b ∷ bs)) (placed_change b ∷ merge_into (key, row) os (merge os) bs))) (ap is_lt h.0)

-- a change before all rows is merged first
pub change_first : (x : Pos) (next : Option Tomb) (os : List Keyed) (bs : List Change) → IsFirstAfter x os → list_map fragment_of (merge os ((x, next) ∷ bs)) ≡ frag.Change x next ∷ list_map fragment_of (merge os bs)
change_first x next [] bs h = refl
change_first x next (a ∷ os) bs h =
    ap (λ t. list_map fragment_of (cond t (placed_row a ∷ merge os ((x, next) ∷ bs)) (placed_change (x, next) ∷ merge_into a os (merge os) bs))) (ap is_lt (turned x (row_pos a.0) h))

-- a canonical list is its rows and its changes merged
pub merged : (tomb : Option Tomb) (last : Option Pos) (fs : List Frag) → IsCanonicalList tomb last fs → list_map fragment_of (merge (rows_in fs) (changes_in fs)) ≡ fs
merged tomb last [] h = refl
merged tomb last (frag.Start pt ∷ fs) h = absurd h
merged tomb last (frag.Static row ∷ fs) h = absurd h
merged tomb last (frag.Row key row ∷ fs) h =
    row_first key row (rows_in fs) tomb (changes_in fs) (changes-are tomb (Some (row_pos key)) fs h.3)
    ∙ ap (λ rest. frag.Row key row ∷ rest) (merged tomb (Some (row_pos key)) fs h.3)
merged tomb last (frag.Change x next ∷ fs) h =
    change_first x next (rows_in fs) (changes_in fs) (rows-after x next fs h.3)
    ∙ ap (λ rest. frag.Change x next ∷ rest) (merged next (Some x) fs h.3)
merged tomb last (frag.End ∷ fs) h = absurd h
