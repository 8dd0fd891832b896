-- How many bytes an object of the engine takes that holds codes: its fixed bytes, then the codes, rounded up to a multiple of 8.
use Rattle.std.specs.Prelude.{ℕ, ◌+◌, List, length}
use Rattle.lsa_kinds.specs.Kinds.{up8}
use Rattle.rc_cell.specs.declared.rows.Row.{Row}
use Rattle.rc_position.specs.declared.comps.Comp.{Comp}
use Rattle.rc_position.specs.declared.positions.Pos.{Pos}
use Rattle.rc_position.specs.Position.{row_pos}
use Rattle.rc_rowcode.specs.Spelling.{pos_code, row_code}

-- a version
abbrev pub version_size : ℕ
version_size = 64

-- a dummy at a position
abbrev pub dummy_size : Pos → ℕ
dummy_size x = up8 (80 + length (pos_code x))

-- the entry of a row at a key
abbrev pub entry_size : List Comp → Row → ℕ
entry_size k row = up8 (80 + (length (pos_code (row_pos k)) + length (row_code row)))

-- a static row
abbrev pub static_size : Row → ℕ
static_size row = up8 (32 + length (row_code row))
