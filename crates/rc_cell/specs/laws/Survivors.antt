-- What survives a tombstone, for crates above to cite: it ascends by column, and has at each column what survives of its cell.
use Rattle.std.specs.Prelude.{ℕ, Bool, true, false, List, [], ◌∷◌, Option, Some, None, cond, IsTrue, ◌≡◌, if◌then◌else◌}
use Rattle.std.proofs.Common.{refl, ap, ◌∙◌, T}
use Rattle.std.specs.Ordering.{nat_cmp, is_lt, eq_by_cmp}
use Rattle.std.specs.List.{filter}
use Rattle.std.specs.FinMap.{find, is_sorted}
use Rattle.std.specs.FinMap.Entries.{below_all}
use Rattle.rc_cell.specs.declared.writes.Cell.{Cell}
use Rattle.rc_cell.specs.declared.writes.Tomb.{Tomb}
use Rattle.rc_cell.specs.declared.rows.Row.{Row}
use Rattle.rc_cell.specs.Orders.{timestamp_of, tomb_cmp, tomb_cmp_total}
use Rattle.rc_cell.specs.Columns.{ascending}
use Rattle.rc_cell.specs.Winner.{IsRow}
use Rattle.rc_cell.specs.Deletion.{survives, in_force, surviving_cells, shadowed_row}
use Rattle.rc_cell.specs.calls.Deletion.{surviving_cell}
use Rattle.rc_cell.specs.Greatest.{greater}
use Rattle.rc_cell.specs.laws.Greatest.{greatest-two}
use Rattle.rc_cell.specs.laws.Beats.{tomb_cmp-IsAntisymmetric}
use Rattle.rc_cell.specs.laws.ByColumn.{holds, test_of, both, first, second, same_column, find-below}

below-filter : (x : ℕ) (p : ℕ × Cell → Bool) (es : List (ℕ × Cell)) → T (below_all nat_cmp x es) → T (below_all nat_cmp x (filter p es))
below-filter x p [] h = tt
below-filter x p (e ∷ es) h =
    let rest = below-filter x p es (second (is_lt (nat_cmp x e.0)) (below_all nat_cmp x es) h) in
    elim (p e) as (λ b. T (below_all nat_cmp x (cond b (e ∷ filter p es) (filter p es)))) [
      | true ↦ both (is_lt (nat_cmp x e.0)) (below_all nat_cmp x (filter p es)) (first (is_lt (nat_cmp x e.0)) (below_all nat_cmp x es) h) rest
      | false ↦ rest
    ]

sorted-filter : (p : ℕ × Cell → Bool) (es : List (ℕ × Cell)) → T (is_sorted nat_cmp es) → T (is_sorted nat_cmp (filter p es))
sorted-filter p [] h = tt
sorted-filter p (e ∷ es) h =
    let rest = sorted-filter p es (second (below_all nat_cmp e.0 es) (is_sorted nat_cmp es) h) in
    elim (p e) as (λ b. T (is_sorted nat_cmp (cond b (e ∷ filter p es) (filter p es)))) [
      | true ↦ both (below_all nat_cmp e.0 (filter p es)) (is_sorted nat_cmp (filter p es)) (below-filter e.0 p es (first (below_all nat_cmp e.0 es) (is_sorted nat_cmp es) h)) rest
      | false ↦ rest
    ]

-- the cells that survive ascend, as all of them do
pub ascending-surviving_cells : (tomb : Option Tomb) (es : List (ℕ × Cell)) → IsTrue (ascending es) → IsTrue (ascending (surviving_cells tomb es))
ascending-surviving_cells tomb es h = holds _ (sorted-filter (λ e. survives tomb (timestamp_of e.1)) es (test_of _ h))

-- the tombstone in force is the greater of the two
pub in_force-greater : (cover : Option Tomb) (row : Row) → in_force cover row ≡ greater tomb_cmp cover row.tomb
in_force-greater cover row = greatest-two tomb_cmp_total tomb_cmp-IsAntisymmetric cover row.tomb

-- at each column the cell, if it survives
found_first : (q : ℕ) (e : ℕ × Cell) (es : List (ℕ × Cell)) (p : ℕ × Cell → Bool) → eq_by_cmp nat_cmp q e.0 ≡ true → T (below_all nat_cmp e.0 es) → find nat_cmp q (cond (p e) (e ∷ filter p es) (filter p es)) ≡ (if p e then Some e.1 else None)
found_first q e es p t h =
    elim (p e) as (λ b. find nat_cmp q (cond b (e ∷ filter p es) (filter p es)) ≡ (if b then Some e.1 else None)) [
      | true ↦ ap (λ b. cond b (Some e.1) (find nat_cmp q (filter p es))) t
      | false ↦ ap (λ x. find nat_cmp x (filter p es)) (same_column q e.0 t) ∙ find-below e.0 (filter p es) (below-filter e.0 p es h)
    ]

passed_first : (q : ℕ) (e : ℕ × Cell) (es : List (ℕ × Cell)) (p : ℕ × Cell → Bool) → eq_by_cmp nat_cmp q e.0 ≡ false → find nat_cmp q (cond (p e) (e ∷ filter p es) (filter p es)) ≡ find nat_cmp q (filter p es)
passed_first q e es p t =
    elim (p e) as (λ b. find nat_cmp q (cond b (e ∷ filter p es) (filter p es)) ≡ find nat_cmp q (filter p es)) [
      | true ↦ ap (λ b. cond b (Some e.1) (find nat_cmp q (filter p es))) t
      | false ↦ refl
    ]

find-survivors : (q : ℕ) (tomb : Option Tomb) (es : List (ℕ × Cell)) → T (is_sorted nat_cmp es) → find nat_cmp q (surviving_cells tomb es) ≡ surviving_cell tomb (find nat_cmp q es)
find-survivors q tomb [] h = refl
find-survivors q tomb (e ∷ es) h =
    elim (eq_by_cmp nat_cmp q e.0) as (λ b. eq_by_cmp nat_cmp q e.0 ≡ b → find nat_cmp q (surviving_cells tomb (e ∷ es)) ≡ surviving_cell tomb (cond b (Some e.1) (find nat_cmp q es))) [
      | true ↦ λ t. found_first q e es (λ e. survives tomb (timestamp_of e.1)) t (first (below_all nat_cmp e.0 es) (is_sorted nat_cmp es) h)
      | false ↦ λ t. passed_first q e es (λ e. survives tomb (timestamp_of e.1)) t ∙ find-survivors q tomb es (second (below_all nat_cmp e.0 es) (is_sorted nat_cmp es) h)
    ] refl

pub find-surviving_cells : (q : ℕ) (tomb : Option Tomb) (es : List (ℕ × Cell)) → IsTrue (ascending es) → find nat_cmp q (surviving_cells tomb es) ≡ surviving_cell tomb (find nat_cmp q es)
find-surviving_cells q tomb es h = find-survivors q tomb es (test_of _ h)

-- a shadowed row holds together
pub IsRow-shadowed_row : (cover : Option Tomb) (row : Row) → IsRow row → IsRow (shadowed_row cover row)
unfolding shadowed_row
IsRow-shadowed_row cover row h = ascending-surviving_cells (in_force cover row) row.cells h
