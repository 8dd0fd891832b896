-- Reading from left to right: the value at the front of bytes, and the bytes behind it. The readers within the crate are stated by these;
-- that they agree with the spellings is proved (proofs/Codecs.antt).
use Rattle.std.specs.Prelude.{ℕ, zero, suc, ◌+◌, ℤ, nat_lt, List, [], ◌∷◌, length, take, drop, Option, Some, None, if◌then◌else◌}
use Rattle.std.specs.Int.{w16, w32, w64, from_le_bytes, cast_signed}
use Rattle.std.specs.Option.{option_map, option_and_then}
use Rattle.rc_cell.specs.declared.writes.Cell.{Cell}
use Rattle.rc_cell.specs.declared.writes.Cell.TheVariants.{Live, Dead}
use Rattle.rc_cell.specs.declared.writes.Tomb.{Tomb}
use Rattle.rc_cell.specs.declared.rows.Row.{Row}
use Rattle.rc_position.specs.declared.comps.Comp.{Comp}
use Rattle.rc_position.specs.declared.comps.Comp.TheVariants.{Int, Text}
use Rattle.rc_position.specs.declared.positions.Weight.TheVariants.{Before, At, After}
use Rattle.rc_position.specs.declared.positions.Pos.{Pos}
use Rattle.rc_position.specs.Position.{longest_text}

-- takes a spelling from the front of bytes: its value and the bytes behind, or none
abbrev pub Parser : Type 0 → Type 0
Parser X = List ℕ → Option (X × List ℕ)

-- a timestamp: 8 bytes, little endian, two's complement
unfoldable pub parse_stamp : Parser ℤ
parse_stamp bytes = if nat_lt (length bytes) 8 then None else Some (cast_signed w64 (from_le_bytes w64 (take 8 bytes)), drop 8 bytes)

-- a deletion time: 4 bytes, little endian
unfoldable pub parse_time : Parser ℕ
parse_time bytes = if nat_lt (length bytes) 4 then None else Some (from_le_bytes w32 (take 4 bytes), drop 4 bytes)

-- a length: 2 bytes, little endian
unfoldable pub parse_length : Parser ℕ
parse_length bytes = if nat_lt (length bytes) 2 then None else Some (from_le_bytes w16 (take 2 bytes), drop 2 bytes)

-- so many bytes, if there are as many, and no more than the limit
unfoldable pub parse_bytes : ℕ → ℕ → Parser (List ℕ)
parse_bytes most n bytes = if nat_lt most n then None else if nat_lt (length bytes) n then None else Some (take n bytes, drop n bytes)

-- a flag, and the value behind a 1
unfoldable pub parse_optional : {X : Type 0} → Parser X → Parser (Option X)
parse_optional read [] = None
parse_optional read (zero ∷ rest) = Some (None, rest)
parse_optional read (suc zero ∷ rest) = option_map (λ x. (Some x.0, x.1)) (read rest)
parse_optional read (suc (suc b) ∷ rest) = None

-- a tombstone: its timestamp, then its deletion time
unfoldable pub parse_tomb : Parser Tomb
parse_tomb bytes = option_and_then (λ ts. option_map (λ dt. (record { ts = ts.0; dt = dt.0 }, dt.1)) (parse_time ts.1)) (parse_stamp bytes)

-- a length in one byte, and so many bytes
unfoldable pub parse_text : Parser Comp
parse_text [] = None
parse_text (n ∷ rest) = option_map (λ t. (Text t.0, t.1)) (parse_bytes longest_text n rest)

-- a component: 0 and a number, or 1 and a text
unfoldable pub parse_component : Parser Comp
parse_component [] = None
parse_component (zero ∷ rest) = option_map (λ n. (Int n.0, n.1)) (parse_stamp rest)
parse_component (suc zero ∷ rest) = parse_text rest
parse_component (suc (suc b) ∷ rest) = None

-- that many components
unfoldable pub parse_components : ℕ → Parser (List Comp)
parse_components zero bytes = Some ([], bytes)
parse_components (suc n) bytes = option_and_then (λ c. option_map (λ cs. (c.0 ∷ cs.0, cs.1)) (parse_components n c.1)) (parse_component bytes)

-- a key: the number of its components, 4 at most, then these
unfoldable pub parse_key : Parser (List Comp)
parse_key [] = None
parse_key (n ∷ rest) = if nat_lt 4 n then None else parse_components n rest

-- a position: its weight in a byte, then its prefix
unfoldable pub parse_position : Parser Pos
parse_position [] = None
parse_position (zero ∷ rest) = option_map (λ k. (record { prefix = k.0; weight = Before }, k.1)) (parse_key rest)
parse_position (suc zero ∷ rest) = option_map (λ k. (record { prefix = k.0; weight = At }, k.1)) (parse_key rest)
parse_position (suc (suc zero) ∷ rest) = option_map (λ k. (record { prefix = k.0; weight = After }, k.1)) (parse_key rest)
parse_position (suc (suc (suc b)) ∷ rest) = None

-- a live cell after its kind: timestamp, length, value
unfoldable pub parse_live : Parser Cell
parse_live bytes = option_and_then (λ ts. option_and_then (λ n. option_map (λ v. (Live ts.0 v.0, v.1)) (parse_bytes 256 n.0 n.1)) (parse_length ts.1)) (parse_stamp bytes)

-- a dead cell after its kind: timestamp, deletion time
unfoldable pub parse_dead : Parser Cell
parse_dead bytes = option_map (λ t. (Dead t.0.ts t.0.dt, t.1)) (parse_tomb bytes)

-- a cell: 0 and a live one, or 1 and a dead one
unfoldable pub parse_cell : Parser Cell
parse_cell [] = None
parse_cell (zero ∷ rest) = parse_live rest
parse_cell (suc zero ∷ rest) = parse_dead rest
parse_cell (suc (suc b) ∷ rest) = None

-- a column from the least one on, and its cell
unfoldable pub parse_entry : ℕ → Parser (ℕ × Cell)
parse_entry least [] = None
parse_entry least (column ∷ rest) =
    if nat_lt column least then None else if nat_lt 31 column then None else option_map (λ c. ((column, c.0), c.1)) (parse_cell rest)

-- so many cells by ascending column
unfoldable pub parse_entries : ℕ → ℕ → Parser (List (ℕ × Cell))
parse_entries zero least bytes = Some ([], bytes)
parse_entries (suc n) least bytes = option_and_then (λ e. option_map (λ es. (e.0 ∷ es.0, es.1)) (parse_entries n (e.0.0 + 1) e.1)) (parse_entry least bytes)

-- the cells of a row: their number, then these, by ascending column
unfoldable pub parse_cells : Parser (List (ℕ × Cell))
parse_cells [] = None
parse_cells (n ∷ rest) = parse_entries n 0 rest

-- a row: marker, tombstone, cells
unfoldable pub parse_row : Parser Row
parse_row bytes =
    option_and_then (λ m. option_and_then (λ t. option_map (λ cs. (record { marker = m.0; tomb = t.0; cells = cs.0 }, cs.1)) (parse_cells t.1)) (parse_optional parse_tomb m.1)) (parse_optional parse_stamp bytes)
