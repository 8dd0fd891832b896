-- There is room for an entry, or for a static row, as its sizes were compared.
use Rattle.std.proofs.Common.{◌≡◌, ℕ, ◌+◌, ◌≤◌, length, Some, ap, ◌∙◌, arith}
use Rattle.rc_cell.specs.declared.rows.Row.{Row}
use Rattle.rc_position.specs.declared.positions.Pos.{Pos}
use Rattle.rc_rowcode.specs.Objects.{entry_size, static_size}
use Rattle.rc_rowcode.specs.Spelling.{pos_code, row_code}
use Rattle.lsa_kinds.specs.Kinds.{up8}
use Rattle.lsa_pool.specs.Room.{spare_of}
use Rattle.lsa_region.specs.Region.{View}
use Rattle.rc_object.specs.Objects.{HasRoomFor, entry_length}

-- sizes that were computed and compared
pub record IsMeasured (v : View) (fixed row size spare space : ℕ) : Type 0 where
  pub is : size ≡ up8 (fixed + row)
  pub small : size ≤ 512
  pub there : size ≤ spare
  pub spares : spare ≡ spare_of 4096 v.usages
  pub short : row ≤ 400
  pub whole : space ≡ 1000

pub entry_room : (v : View) (x : Pos) (row : Row) (position size spare space : ℕ) → position ≡ length (pos_code x) → position ≤ 300 → IsMeasured v (80 + position) (length (row_code row)) size spare space
    → HasRoomFor 4096 v (entry_size x.prefix row) space (entry_length x (Some row))
entry_room v x row position size spare space at less m =
    let same : 80 + position + length (row_code row) ≡ 80 + (length (pos_code x) + length (row_code row)) = omega (arith, at) in
    let takes : size ≡ entry_size x.prefix row = m.is ∙ ap up8 same in record {
      fits = omega (arith, takes, m.small);
      spare = omega (arith, takes, m.there, m.spares);
      inside = omega (arith, at, less, m.short, m.whole);
    }

pub static_room : (v : View) (row : Row) (size spare space : ℕ) → IsMeasured v 32 (length (row_code row)) size spare space → HasRoomFor 4096 v (static_size row) space (length (row_code row))
static_room v row size spare space m = record {
  fits = omega (arith, m.is, m.small);
  spare = omega (arith, m.is, m.there, m.spares);
  inside = omega (arith, m.short, m.whole);
}
