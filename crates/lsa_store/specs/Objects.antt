-- What stands in segments, by segment and offset.
use Rattle.std.specs.Prelude.{◌≡◌, ℕ, ◌+◌, ◌*◌, ◌<◌, cond, nat_lt, List, [], ◌∷◌, ◌++◌, length, slice_index_or, slice_set, sum_by, Option, Some, None, is_some}
use Rattle.std.specs.Option.{option_map_or}
use Rattle.lsa_kinds.specs.declared.kind.Kind.{Kind}
use Rattle.lsa_kinds.specs.Kinds.{links_of, up8}
use Rattle.lsa_yard.specs.Cells.{Cell, size_of, extent, cell_at, body_at, link_in, IsChangedAt}
use Rattle.lsa_store.specs.declared.place.Ref.{Ref}

-- the cells of segment n
abbrev pub cells_of : List (List Cell) → ℕ → List Cell
cells_of cells n = slice_index_or cells n []

-- the cell that begins at a place; None where none does
abbrev pub cell_in : List (List Cell) → Ref → Option Cell
cell_in cells r = cell_at (cells_of cells r.segment) r.offset

-- the kind of the object that begins at a place, and the bytes that follow its links; None where none does
abbrev pub body_in : List (List Cell) → Ref → Option (Kind × List ℕ)
body_in cells r = body_at (cells_of cells r.segment) r.offset

-- how many links a cell has; a gap has none
abbrev pub link_count : Option Kind → ℕ
link_count None = 0
link_count (Some kind) = links_of kind

-- the number in a link of a cell; 0 where it has no such link
abbrev pub word_of : ℕ → Cell → ℕ
word_of field c = cond (nat_lt field (link_count c.kind)) (link_in field c) 0

-- the number in a link of the object that begins at a place; 0 where there is no such link
abbrev pub word_in : List (List Cell) → Ref → ℕ → ℕ
word_in cells r field = option_map_or (word_of field) (cell_in cells r) 0

-- how many bytes an object of this kind with so many bytes behind its links takes: header, links and bytes, rounded up
abbrev pub rounded_size : Kind → ℕ → ℕ
rounded_size kind len = up8 (8 + 8 * links_of kind + len)

-- how many bytes an object takes; a gap takes none that are live
abbrev pub live_size : Cell → ℕ
live_size c = cond (is_some c.kind) (size_of c) 0

-- 1 for an object, 0 for a gap
abbrev pub one_if_live : Cell → ℕ
one_if_live c = cond (is_some c.kind) 1 0

-- how many bytes the objects among these cells take
abbrev pub live_in : List Cell → ℕ
live_in cells = sum_by live_size cells

-- how many objects are among these cells
abbrev pub live_count : List Cell → ℕ
live_count cells = sum_by one_if_live cells

-- how many objects there are in all segments
abbrev pub object_count : List (List Cell) → ℕ
object_count cells = sum_by live_count cells

-- the cell that begins at a place is changed so; all else is as it was
abbrev pub IsChangedIn : List (List Cell) → List (List Cell) → Ref → (Cell → Cell) → Type 0
IsChangedIn old new r change = IsChangedAt old new r.segment r.offset change

-- one cell more stands behind those of a segment, and begins at a place; all else is as it was
pub record IsPutIn (old new : List (List Cell)) (r : Ref) (c : Cell) : Type 0 where
  pub inside : r.segment < length old
  pub behind : r.offset ≡ extent (cells_of old r.segment)
  pub is : new ≡ slice_set old r.segment (cells_of old r.segment ++ c ∷ [])
