-- The byte codes: one spelling for each value, as a function of the value.
--     stamp_code, tomb_code, comp_code, key_code, pos_code, cell_code, row_code     the spellings
--     KeyFits, PosFits, RowFits                                                     within the limits: what can be spelt
--     IsTomb, IsKey, IsPos, IsCodedRow                                              the values that spellings stand for
--     IsCode                                                                        some value has this spelling
--     ReadsPrefix                                                                         what reading the front of bytes must answer
use Rattle.std.specs.Prelude.{◌≡◌, ℕ, ◌<◌, ◌≤◌, ◌^◌, ℤ, List, [], ◌∷◌, ◌++◌, length, take, Option, Some, None, IfSome, FitsSigned, ⊤}
use Rattle.std.specs.Int.{w16, w32, w64, to_le_bytes, cast_unsigned}
use Rattle.std.specs.List.{flat_map, AllByRecursion, All}
use Rattle.rc_cell.specs.declared.writes.Cell.{Cell}
use Rattle.rc_cell.specs.declared.writes.Cell.TheVariants.{Live, Dead}
use Rattle.rc_cell.specs.declared.writes.Tomb.{Tomb}
use Rattle.rc_cell.specs.declared.rows.Row.{Row}
use Rattle.rc_cell.specs.Winner.{IsRow}
use Rattle.rc_position.specs.declared.comps.Comp.{Comp}
use Rattle.rc_position.specs.declared.comps.Comp.TheVariants.{Int, Text}
use Rattle.rc_position.specs.declared.positions.Pos.{Pos}
use Rattle.rc_position.specs.Position.{weight_number, longest_text}

-- ---- numbers, little-endian: a timestamp in 8 bytes (two's complement), a deletion time in 4, a length in 2

-- a timestamp: 8 bytes, little endian, two's complement
unfoldable pub stamp_code : ℤ → List ℕ
stamp_code z = to_le_bytes w64 (cast_unsigned w64 z)

-- a deletion time: 4 bytes, little endian
unfoldable pub time_code : ℕ → List ℕ
time_code n = to_le_bytes w32 n

-- a length: 2 bytes, little endian
unfoldable pub length_code : ℕ → List ℕ
length_code n = to_le_bytes w16 n

-- ---- spellings

-- the byte 0, or the byte 1 and the value
abbrev pub optional_code : {X : Type 0} → (X → List ℕ) → Option X → List ℕ
optional_code code None = 0 ∷ []
optional_code code (Some x) = 1 ∷ code x

-- a tombstone: its timestamp, then its deletion time
abbrev pub tomb_code : Tomb → List ℕ
tomb_code t = stamp_code t.ts ++ time_code t.dt

-- a component: 0 and the number, or 1, the length in a byte and the text
abbrev pub comp_code : Comp → List ℕ
comp_code (Int number) = 0 ∷ stamp_code number
comp_code (Text bytes) = 1 ∷ length bytes ∷ bytes

-- a key: the number of its components, then these
abbrev pub key_code : List Comp → List ℕ
key_code key = length key ∷ flat_map comp_code key

-- a position: the number of its weight, then its prefix
abbrev pub pos_code : Pos → List ℕ
pos_code x = weight_number x.weight ∷ key_code x.prefix

-- a cell: 0, timestamp, length and value, or 1, timestamp and deletion time
abbrev pub cell_code : Cell → List ℕ
cell_code (Live ts value) = 0 ∷ (stamp_code ts ++ (length_code (length value) ++ value))
cell_code (Dead ts dt) = 1 ∷ (stamp_code ts ++ time_code dt)

-- a cell behind its column
abbrev pub entry_code : ℕ × Cell → List ℕ
entry_code e = e.0 ∷ cell_code e.1

-- the cells of a row: their number, then each with its column
abbrev pub cells_code : List (ℕ × Cell) → List ℕ
cells_code cells = length cells ∷ flat_map entry_code cells

-- a row: marker, tombstone, cells
abbrev pub row_code : Row → List ℕ
row_code row = optional_code stamp_code row.marker ++ (optional_code tomb_code row.tomb ++ cells_code row.cells)

-- ---- limits: what can be spelt

-- the component keeps the limit on a text's length
abbrev pub CompFits : Comp → Type 0
CompFits (Int number) = ⊤
CompFits (Text bytes) = length bytes ≤ longest_text

-- at most 4 components, each within the limit
abbrev pub KeyFits : List Comp → Type 0
KeyFits key = (length key ≤ 4) × All CompFits key

-- the cell keeps the limit on a value's length
abbrev pub CellFits : Cell → Type 0
CellFits (Live ts value) = length value ≤ 256
CellFits (Dead ts dt) = ⊤

-- the column is one of 32, and its cell keeps the limit
abbrev pub EntryFits : ℕ × Cell → Type 0
EntryFits e = (e.0 < 32) × CellFits e.1

-- columns below 32, values of at most 256 bytes
abbrev pub RowFits : Row → Type 0
RowFits row = All EntryFits row.cells

-- ---- the values that spellings stand for: within the limits, and each number within its type

-- both numbers of the tombstone are in range
abbrev pub IsTomb : Tomb → Type 0
IsTomb t = FitsSigned w64 t.ts × (t.dt < 2 ^ 32)

-- the component's number is in range, its text within the limit
abbrev pub IsComp : Comp → Type 0
IsComp (Int number) = FitsSigned w64 number
IsComp (Text bytes) = length bytes ≤ longest_text

-- four components at most, each in range
abbrev pub IsKey : List Comp → Type 0
IsKey key = (length key ≤ 4) × AllByRecursion IsComp key

-- the prefix is that of a key
abbrev pub IsPos : Pos → Type 0
IsPos x = IsKey x.prefix

-- the cell's numbers are in range, its value within the limit
abbrev pub IsCell : Cell → Type 0
IsCell (Live ts value) = FitsSigned w64 ts × (length value ≤ 256)
IsCell (Dead ts dt) = FitsSigned w64 ts × (dt < 2 ^ 32)

-- the column is one of 32, and its cell is in range
abbrev pub IsEntry : ℕ × Cell → Type 0
IsEntry e = (e.0 < 32) × IsCell e.1

-- columns strictly ascend
pub record IsCodedRow (row : Row) : Type 0 where
  pub marker : IfSome row.marker (λ ts. FitsSigned w64 ts)
  pub tomb : IfSome row.tomb IsTomb
  pub ascending : IsRow row
  pub cells : AllByRecursion IsEntry row.cells

-- some value has this spelling
abbrev pub IsCode : {X : Type 0} → (X → List ℕ) → (X → Type 0) → List ℕ → Type 0
IsCode {X} code is bytes = (x : X) × is x × (bytes ≡ code x)

-- ---- reading: the value and the length of the prefix that is a spelling, and none exactly where no prefix is one
abbrev pub ReadsPrefix : {X : Type 0} → (X → List ℕ) → (X → Type 0) → List ℕ → Option (X × ℕ) → Type 0
ReadsPrefix {X} code is bytes None = (x : X) (n : ℕ) → is x → take n bytes ≡ code x → ⊥
ReadsPrefix code is bytes (Some found) = is found.0 × (take found.1 bytes ≡ code found.0) × (found.1 ≡ length (code found.0))
