-- Writes to one place: a row, the static row, a range, or the whole partition.
use Rattle.std.specs.Prelude.{◌≡◌, ◌⊎◌, Bool, true, false, not, ◌&&◌, ◌||◌, nat_le, List, [], ◌∷◌, length, Some, None, is_some, IsTrue}
use Rattle.rc_cell.specs.declared.rows.Row.{Row}
use Rattle.rc_cell.specs.declared.writes.Tomb.{Tomb}
use Rattle.rc_cell.specs.Winner.{empty_row}
use Rattle.rc_position.specs.declared.comps.Comp.{Comp}
use Rattle.rc_ranges.specs.declared.pieces.Piece.{Piece}
use Rattle.rc_mutation.specs.declared.mutations.Mutation.{Mutation}
use Rattle.rc_mutation.specs.Fragments.{has_any, is_written}

-- a row is written, and nothing else
abbrev pub row_alone : List Comp → Row → Mutation
row_alone key row = record { pt = None; statics = empty_row; rows = (key, row) ∷ []; ranges = [] }

-- the static row is written, and nothing else
abbrev pub static_alone : Row → Mutation
static_alone row = record { pt = None; statics = row; rows = []; ranges = [] }

-- a range tombstone is written, and nothing else
abbrev pub range_alone : Piece → Mutation
range_alone piece = record { pt = None; statics = empty_row; rows = []; ranges = piece ∷ [] }

-- the partition tombstone is written, and nothing else
abbrev pub partition_alone : Tomb → Mutation
partition_alone tomb = record { pt = Some tomb; statics = empty_row; rows = []; ranges = [] }

-- whether just one of four holds
abbrev pub just_one : Bool → Bool → Bool → Bool → Bool
just_one true b c d = not (b || (c || d))
just_one false true c d = not (c || d)
just_one false false true d = not d
just_one false false false d = d

-- whether a write is single: just one of the partition tombstone, the static row, the rows and the ranges is not empty, and there are at
-- most one row and one piece
abbrev pub is_single : Mutation → Bool
is_single m = just_one (is_some m.pt) (is_written m.statics) (has_any m.rows) (has_any m.ranges) && (nat_le (length m.rows) 1 && nat_le (length m.ranges) 1)

-- a write to one place
abbrev pub IsSingle : Mutation → Type 0
IsSingle m = IsTrue (is_single m)

-- one row, the static row, one range or the whole partition, and nothing else
abbrev pub IsOnePlace : Mutation → Type 0
IsOnePlace m =
    ((key : List Comp) × (row : Row) × (m ≡ row_alone key row))
    ⊎ ((row : Row) × (m ≡ static_alone row))
    ⊎ ((piece : Piece) × (m ≡ range_alone piece))
    ⊎ ((tomb : Tomb) × (m ≡ partition_alone tomb))
