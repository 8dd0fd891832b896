-- What is left of rows and range tombstones from a place on.
--     onward_rows, onward_pieces    without those that are passed
--     first_row_at, first_tomb_at   what the first of them say at the place
--     rows_behind, is_rowless_to, is_even_to    whether there is neither row nor change behind the place and before another
use Rattle.std.specs.Prelude.{Bool, true, not, cond, List, [], ◌∷◌, Option, Some, None}
use Rattle.std.specs.Ordering.{is_eq, is_lt}
use Rattle.rc_cell.specs.declared.rows.Row.{Row}
use Rattle.rc_cell.specs.declared.writes.Tomb.{Tomb}
use Rattle.rc_cell.specs.Winner.{empty_row}
use Rattle.rc_position.specs.declared.comps.Comp.{Comp}
use Rattle.rc_position.specs.declared.positions.Pos.{Pos}
use Rattle.rc_position.specs.Position.{pos_cmp, row_pos}
use Rattle.rc_ranges.specs.declared.pieces.Piece.{Piece}

-- rows without those before a place
abbrev pub onward_rows : Pos → List (List Comp × Row) → List (List Comp × Row)
onward_rows x [] = []
onward_rows x (e ∷ es) = cond (is_lt (pos_cmp (row_pos e.0) x)) (onward_rows x es) (e ∷ es)

-- pieces without those that end before a place or there
abbrev pub onward_pieces : Pos → List Piece → List Piece
onward_pieces x [] = []
onward_pieces x (p ∷ ps) = cond (is_lt (pos_cmp x p.to)) (p ∷ ps) (onward_pieces x ps)

-- the row of the first of rows, if it stands at a place; else the empty row
abbrev pub first_row_at : Pos → List (List Comp × Row) → Row
first_row_at x [] = empty_row
first_row_at x (e ∷ es) = cond (is_eq (pos_cmp (row_pos e.0) x)) e.1 empty_row

-- rows without the first one, if it stands at a place
abbrev pub rows_behind : Pos → List (List Comp × Row) → List (List Comp × Row)
rows_behind x [] = []
rows_behind x (e ∷ es) = cond (is_eq (pos_cmp (row_pos e.0) x)) es (e ∷ es)

-- the first of rows, if there is one, does not stand before a place
abbrev pub is_rowless_to : Pos → List (List Comp × Row) → Bool
is_rowless_to to [] = true
is_rowless_to to (e ∷ es) = not (is_lt (pos_cmp (row_pos e.0) to))

-- the tombstone of the first of pieces, if that begins at a place or before it
abbrev pub first_tomb_at : Pos → List Piece → Option Tomb
first_tomb_at x [] = None
first_tomb_at x (p ∷ ps) = cond (is_lt (pos_cmp x p.from)) None (Some p.tomb)

-- the first of pieces, if there is one, does not end before a place; where it has not begun at x it does not begin before that place
abbrev pub is_even_to : Pos → Pos → List Piece → Bool
is_even_to x to [] = true
is_even_to x to (p ∷ ps) = cond (is_lt (pos_cmp x p.from)) (not (is_lt (pos_cmp p.from to))) (not (is_lt (pos_cmp p.to to)))
