-- What stands in a slice of a partition: its rows, and the changes of the range tombstone in force.
use Rattle.std.specs.Prelude.{Bool, ◌&&◌, List, ◌++◌, Option, Some, filter, map as list_map}
use Rattle.std.specs.Ordering.{is_lt}
use Rattle.std.specs.Option.{option_map, option_to_list}
use Rattle.rc_cell.specs.declared.writes.Tomb.{Tomb}
use Rattle.rc_position.specs.declared.comps.Comp.{Comp}
use Rattle.rc_position.specs.declared.positions.Pos.{Pos}
use Rattle.rc_position.specs.declared.slices.Slice.{Slice}
use Rattle.rc_position.specs.Position.{covers, pos_cmp, row_pos}
use Rattle.rc_ranges.specs.declared.pieces.Piece.{Piece}
use Rattle.rc_ranges.specs.Cover.{cover as range_tomb}
use Rattle.rc_mutation.specs.declared.fragments.Frag.{Frag}
use Rattle.rc_mutation.specs.declared.mutations.Mutation.{Mutation}
use Rattle.rc_mutation.specs.Fragments.{changes_of, in_order, placed_change, placed_row}

-- whether the row of a key stands in a slice
abbrev pub in_slice : Slice → List Comp → Bool
in_slice slice key = covers slice.from slice.to (row_pos key)

-- where a range tombstone is in force at the start of a slice, a change to it there
abbrev pub opening_change : Slice → List Piece → List (Pos × Option Tomb)
opening_change slice ranges = option_to_list (option_map (λ tomb. (slice.from, Some tomb)) (range_tomb ranges slice.from))

-- whether a position stands behind the start of a slice and before its end
abbrev pub is_between : Slice → Pos → Bool
is_between slice x = is_lt (pos_cmp slice.from x) && is_lt (pos_cmp x slice.to)

-- the fragments of a mutation in a slice: the change in force at its start, and the rows and later changes in it, by place
abbrev pub fragments_in : Slice → Mutation → List Frag
fragments_in slice m =
    in_order (list_map placed_row (filter (λ e. in_slice slice e.0) m.rows)
    ++ list_map placed_change (opening_change slice m.ranges ++ filter (λ c. is_between slice c.0) (changes_of m.ranges)))
