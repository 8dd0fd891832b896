-- A row has a line exactly where it has life under its cover.
use Rattle.std.specs.Prelude.{◌≡◌, ℕ, ℤ, Bool, true, false, ◌||◌, cond, List, [], ◌∷◌, ◌++◌, Option, Some, None, is_some, IsTrue, if◌then◌else◌}
use Rattle.std.proofs.Common.{refl, sym, ap, ◌∙◌, append-nil}
use Rattle.std.specs.Option.{option_map}
use Rattle.std.specs.List.{list_any, cons_option}
use Rattle.rc_cell.specs.declared.rows.Row.{Row}
use Rattle.rc_cell.specs.declared.writes.Cell.{Cell}
use Rattle.rc_cell.specs.declared.writes.Cell.TheVariants.{Live, Dead}
use Rattle.rc_cell.specs.declared.writes.Tomb.{Tomb}
use Rattle.rc_cell.specs.laws.ByColumn.{winners-ascending}
use Rattle.rc_cell.specs.Columns.{ascending}
use Rattle.rc_cell.specs.Deletion.{has_life, in_force, shadowed_row, surviving_cells, surviving_marker, survives}
use Rattle.rc_cell.specs.Orders.{is_live_cell}
use Rattle.rc_cell.specs.Winner.{winners}
use Rattle.rc_position.specs.declared.comps.Comp.{Comp}
use Rattle.rc_mutation.specs.Fragments.{has_any}
use Rattle.rc_query.specs.Answer.{live_values}
use Rattle.rc_query.specs.laws.Answers.{row_line}

or_turned : (a b : Bool) → (a || b) ≡ (b || a)
or_turned true true = refl
or_turned true false = refl
or_turned false true = refl
or_turned false false = refl

or_false : (a : Bool) → (a || false) ≡ a
or_false true = refl
or_false false = refl

is_there : {X : Type 0} (b : Bool) (x : X) → is_some (if b then Some x else None) ≡ b
is_there true x = refl
is_there false x = refl

one_cell : (cover : Option Tomb) (n : ℕ) (cell : Cell) (es : List (ℕ × Cell)) → has_any (live_values cover es) ≡ list_any (λ e. is_live_cell e.1) (surviving_cells cover es) → has_any (live_values cover ((n, cell) ∷ es)) ≡ list_any (λ e. is_live_cell e.1) (surviving_cells cover ((n, cell) ∷ es))
one_cell cover n (Live ts value) es h =
    elim (survives cover ts) as (λ b. has_any (cons_option (option_map (λ (v : List ℕ). (n, v)) (if b then Some value else None)) (live_values cover es)) ≡ list_any (λ (e : ℕ × Cell). is_live_cell e.1) (cond b ((n, Live ts value) ∷ surviving_cells cover es) (surviving_cells cover es))) [
      | true ↦ refl
      | false ↦ h
    ]
one_cell cover n (Dead ts dt) es h =
    h ∙ elim (survives cover ts) as (λ b. list_any (λ (e : ℕ × Cell). is_live_cell e.1) (surviving_cells cover es) ≡ list_any (λ (e : ℕ × Cell). is_live_cell e.1) (cond b ((n, Dead ts dt) ∷ surviving_cells cover es) (surviving_cells cover es))) [
      | true ↦ refl
      | false ↦ refl
    ]

-- there is a live value exactly where a live cell survives
some_alive : (cover : Option Tomb) (es : List (ℕ × Cell)) → has_any (live_values cover es) ≡ list_any (λ e. is_live_cell e.1) (surviving_cells cover es)
some_alive cover [] = refl
some_alive cover (e ∷ es) = one_cell cover e.0 e.1 es (some_alive cover es)

marker_alive : (cover : Option Tomb) (marker : Option ℤ) → list_any (survives cover) (cons_option marker []) ≡ is_some (surviving_marker cover marker)
marker_alive cover None = refl
marker_alive cover (Some ts) = or_false (survives cover ts) ∙ sym (is_there (survives cover ts) ts)

-- the line of a row is there exactly where the row has life under its cover
pub line-alive : (outer : Option Tomb) (key : List Comp) (row : Row) → IsTrue (ascending row.cells) → is_some (row_line outer key row) ≡ has_life (shadowed_row outer row)
unfolding shadowed_row
line-alive outer key row is =
    let cover = in_force outer row in
    let cells : winners (row.cells ++ []) ≡ row.cells = ap winners (append-nil row.cells) ∙ winners-ascending row.cells is in
    is_there (has_any (live_values cover (winners (row.cells ++ []))) || list_any (survives cover) (cons_option row.marker [])) _
    ∙ (λ i. (ap (λ cs. has_any (live_values cover cs)) cells ∙ some_alive cover row.cells) i || marker_alive cover row.marker i)
    ∙ or_turned (list_any (λ e. is_live_cell e.1) (surviving_cells cover row.cells)) (is_some (surviving_marker cover row.marker))
