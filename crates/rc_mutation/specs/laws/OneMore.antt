-- The source of writes and one more, by what each says.
use Rattle.std.specs.Prelude.{◌≡◌, List, [], ◌∷◌, ◌++◌, map as list_map}
use Rattle.std.proofs.Common.{ap, ◌∙◌}
use Rattle.std.proofs.lemmas.List as lists
use Rattle.std.proofs.lemmas.List.Elements.{filter-append}
use Rattle.std.specs.Ordering.{eq_by_cmp}
use Rattle.std.specs.List.{filter}
use Rattle.rc_cell.specs.declared.rows.Row.{Row}
use Rattle.rc_cell.specs.Orders.{tomb_cmp}
use Rattle.rc_cell.specs.Winner.{greatest, joined_row}
use Rattle.rc_position.specs.declared.comps.Comp.{Comp}
use Rattle.rc_position.specs.declared.positions.Pos.{Pos}
use Rattle.rc_position.specs.Position.{pos_cmp, row_pos}
use Rattle.rc_ranges.specs.Cover.{cover, tombs_over}
use Rattle.rc_ranges.specs.laws.Covering.{over-append}
use Rattle.rc_mutation.specs.declared.mutations.Mutation.{Mutation}
use Rattle.rc_mutation.specs.Source.{all_pieces, all_rows, rows_in, source_at}
use Rattle.rc_mutation.specs.laws.Sources.{all_pieces-append, all_rows-append}

-- the rows at a position of two lists together
pub rows_in-append : (x : Pos) (xs ys : List (List Comp × Row)) → rows_in x (xs ++ ys) ≡ rows_in x xs ++ rows_in x ys
rows_in-append x xs ys =
    ap (list_map (λ e. e.1)) (filter-append (λ e. eq_by_cmp pos_cmp x (row_pos e.0)) xs ys)
    ∙ lists.map-append (λ e. e.1) (filter (λ e. eq_by_cmp pos_cmp x (row_pos e.0)) xs) (filter (λ e. eq_by_cmp pos_cmp x (row_pos e.0)) ys)

-- the source of writes and one more: the rows of both as one, and the greatest of the tombstones of both
pub source-more : (writes : List Mutation) (change : Mutation) (x : Pos) → source_at (writes ++ change ∷ []) x ≡
    (joined_row (rows_in x (all_rows writes) ++ rows_in x (all_rows (change ∷ []))), greatest tomb_cmp (tombs_over (all_pieces writes) x ++ tombs_over (all_pieces (change ∷ [])) x))
unfolding cover
source-more writes change x = λ i. (
  joined_row ((ap (rows_in x) (all_rows-append writes (change ∷ [])) ∙ rows_in-append x (all_rows writes) (all_rows (change ∷ []))) i),
  greatest tomb_cmp ((ap (λ ps. tombs_over ps x) (all_pieces-append writes (change ∷ [])) ∙ over-append (all_pieces writes) (all_pieces (change ∷ [])) x) i),
)
