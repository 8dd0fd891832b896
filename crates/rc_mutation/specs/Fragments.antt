-- The canonical fragments of a mutation, as which a partition is read; the parts of writes, and their units.
use Rattle.std.specs.Prelude.{◌≡◌, All, ℕ, Bool, true, false, cond, ◌||◌, is_some, List, [], ◌∷◌, ◌++◌, Option, Some, None, length, map as list_map, sum_by}
use Rattle.std.specs.declared.cmp.Ordering.{Ordering}
use Rattle.std.specs.Ordering.{nat_cmp, eq_by_cmp, on, then_cmp}
use Rattle.std.specs.FinMap as map
use Rattle.rc_cell.specs.declared.rows.Row.{Row}
use Rattle.rc_cell.specs.declared.writes.Tomb.{Tomb}
use Rattle.rc_position.specs.declared.comps.Comp.{Comp}
use Rattle.rc_position.specs.declared.positions.Pos.{Pos}
use Rattle.rc_position.specs.Position.{bytes_cmp, pos_cmp, row_pos}
use Rattle.rc_ranges.specs.declared.pieces.Piece.{Piece}
use Rattle.rc_mutation.specs.declared.fragments.Frag.{Frag}
use Rattle.rc_mutation.specs.declared.fragments.Frag.TheVariants as frag
use Rattle.rc_mutation.specs.declared.mutations.Mutation.{Mutation}
use Rattle.rc_mutation.specs.declared.mutations.Partition.{Partition}
use Rattle.rc_mutation.specs.declared.mutations.Write.{Write}
use Rattle.rc_mutation.specs.Source.{changes_to, IsMutation, SameSource}

-- whether the first of some pieces begins at x
abbrev pub begins_at : Pos → List Piece → Bool
begins_at x [] = false
begins_at x (p ∷ ps) = eq_by_cmp pos_cmp p.from x

-- the changes of the tombstone in force at a piece: at its start to its tombstone, and at its end, where the next does not begin, to none
abbrev pub piece_changes : Piece → List Piece → List (Pos × Option Tomb)
piece_changes p next = (p.from, Some p.tomb) ∷ cond (begins_at p.to next) [] ((p.to, None) ∷ [])

-- the changes at all pieces, in their order
abbrev pub changes_of : List Piece → List (Pos × Option Tomb)
changes_of [] = []
changes_of (p ∷ ps) = piece_changes p ps ++ changes_of ps

-- where a fragment stands: by position, and at one position a change before a row
abbrev pub place_order : (Pos × ℕ) → (Pos × ℕ) → Ordering
place_order = then_cmp (on (λ p. p.0) pos_cmp) (on (λ p. p.1) nat_cmp)

-- a change at its place
abbrev pub placed_change : Pos × Option Tomb → (Pos × ℕ) × Frag
placed_change c = ((c.0, 0), frag.Change c.0 c.1)

-- a row at its place
abbrev pub placed_row : List Comp × Row → (Pos × ℕ) × Frag
placed_row e = ((row_pos e.0, 1), frag.Row e.0 e.1)

-- the fragments by ascending place
abbrev pub in_order : List ((Pos × ℕ) × Frag) → List Frag
in_order placed = map.values (map.from_entries {R = place_order} placed)

-- whether a list has an element
abbrev pub has_any : {X : Type 0} → List X → Bool
has_any [] = false
has_any (x ∷ xs) = true

-- whether something was written of a row
abbrev pub is_written : Row → Bool
is_written row = is_some row.marker || (is_some row.tomb || has_any row.cells)

-- the static row's fragment, where it is not empty
abbrev pub static_fragment : Row → List Frag
static_fragment row = cond (is_written row) (frag.Static row ∷ []) []

-- the rows and changes of a mutation, by position
abbrev pub rows_and_changes : Mutation → List Frag
rows_and_changes m = in_order (list_map placed_row m.rows ++ list_map placed_change (changes_of m.ranges))

-- the start, the static row, rows and changes by position, the end
unfoldable pub fragments : Mutation → List Frag
fragments m = (frag.Start m.pt ∷ static_fragment m.statics) ++ rows_and_changes m ++ frag.End ∷ []

-- the parts of writes: the keys that occur, ascending, each once, each with the mutation that says at each place what its writes say
pub record IsParts (parts : List Partition) (writes : List Write) : Type 0 where
  pub keys : list_map (λ p. p.key) parts ≡ map.keys (map.from_entries {R = bytes_cmp} (list_map (λ w. (w.key, w.change)) writes))
  pub mutations : All (λ p. IsMutation p.change) parts
  pub changes : All (λ p. SameSource (p.change ∷ []) (changes_to p.key writes)) parts

-- the units of parts: how many fragments they have
abbrev pub units : List Partition → ℕ
units parts = sum_by (λ p. length (fragments p.change)) parts

-- the range tombstone in force behind a fragment
abbrev pub tomb_after : Option Tomb → Frag → Option Tomb
tomb_after tomb (frag.Change from next) = next
tomb_after tomb f = tomb
