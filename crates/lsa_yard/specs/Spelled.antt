-- How cells are spelled in bytes, and how they are read.
use Rattle.std.specs.Prelude.{◌≡◌, ℕ, zero, suc, ◌+◌, ◌-◌, ◌^◌, ◌<◌, ◌≤◌, List, [], ◌∷◌, ◌++◌, length, take, drop, replicate, slice_index_or, Option, Some, None, All}
use Rattle.lsa_kinds.specs.declared.kind.Kind.{Kind}
use Rattle.lsa_kinds.specs.declared.kind.Kind.TheVariants.{Version, RowEntry, Dummy, Static}
use Rattle.lsa_kinds.specs.Kinds.{kind_code, up8}
use Rattle.lsa_kinds.specs.Fields.{number_at, spelled_number}
use Rattle.lsa_yard.specs.Cells.{Cell, size_of, links_size}

-- the first byte of a cell: the number of its kind, 0 for a gap
abbrev pub mark_of : Option Kind → ℕ
mark_of None = 0
mark_of (Some kind) = kind_code kind

-- the kind with this number; None for a gap
abbrev pub kind_numbered : ℕ → Option Kind
kind_numbered zero = None
kind_numbered (suc zero) = Some Version
kind_numbered (suc (suc zero)) = Some RowEntry
kind_numbered (suc (suc (suc zero))) = Some Dummy
kind_numbered (suc (suc (suc (suc zero)))) = Some Static
kind_numbered (suc (suc (suc (suc (suc n))))) = None

-- the header's last 4 bytes: the size before it is rounded up
unfoldable pub size_field : ℕ → List ℕ
size_field size = spelled_number 4 size

-- the bytes of a cell: the header, of which three bytes are 0, the rest, and zeros up to its size
abbrev pub spell : Cell → List ℕ
spell c = mark_of c.kind ∷ 0 ∷ 0 ∷ 0 ∷ (size_field (8 + length c.rest) ++ (c.rest ++ replicate (size_of c - (8 + length c.rest)) 0))

-- the bytes of cells
abbrev pub spells : List Cell → List ℕ
spells [] = []
spells (c ∷ cells) = spell c ++ spells cells

-- the first n cells in these bytes, each found by the size that the header before it tells
abbrev pub cells_from : ℕ → List ℕ → List Cell
cells_from zero bytes = []
cells_from (suc n) [] = []
cells_from (suc n) (mark ∷ bytes) =
    record { kind = kind_numbered mark; rest = take (number_at 3 4 bytes - 8) (drop 7 bytes) } ∷ cells_from n (drop (up8 (number_at 3 4 bytes) - 1) bytes)

-- the cells in a segment's used bytes
abbrev pub cells_in : List ℕ → List Cell
cells_in bytes = cells_from (length bytes) bytes

-- the size of a cell fits its header, and an object has its links
pub record IsProper (c : Cell) : Type 0 where
  pub short : 8 + length c.rest < 2 ^ 32
  pub linked : links_size c.kind ≤ length c.rest

-- the bytes, of a segment of size bytes, spell cells and nothing else
pub record IsSpelled (size : ℕ) (bytes : List ℕ) : Type 0 where
  pub whole : bytes ≡ spells (cells_in bytes)
  pub proper : All IsProper (cells_in bytes)
  pub within : length bytes ≤ size
  pub small : size ≤ 2 ^ 27

-- the bytes of each segment, of size bytes, spell cells and nothing else
pub record AreSpelled (size : ℕ) (segments : List (List ℕ)) : Type 0 where
  pub each : (n : ℕ) → IsSpelled size (slice_index_or segments n [])
