-- Something is written of a row exactly where it is not the empty row.
use Rattle.std.proofs.Common.{◌≡◌, ◌≢◌, ℕ, ℤ, true, ◌||◌, List, [], ◌∷◌, ◌∙◌, refl, subst, sym, IfOk}
use Rattle.std.specs.Prelude.{Result, Ok, Err}
use Rattle.std.specs.declared.alloc.AllocError.{AllocError}
use Rattle.std.specs.declared.option.Option.{Option}
use Rattle.std.specs.declared.option.Option.TheVariants.{Some, None}
use Rattle.std.specs.Option.{is_some}
use Rattle.rc_cell.specs.declared.rows.Row.{Row}
use Rattle.rc_cell.specs.declared.writes.Cell.{Cell}
use Rattle.rc_cell.specs.declared.writes.Tomb.{Tomb}
use Rattle.rc_cell.specs.Winner.{empty_row}
use Rattle.rc_position.specs.declared.comps.Comp.{Comp}
use Rattle.rc_mutation.specs.Fragments.{has_any, is_written}
use Rattle.rc_lines.specs.calls.ShapeMeaning.{rows_said}
use Rattle.rc_lines.proofs.meaning.rows.Goals as goal

parts_written : (marker : Option ℤ) (tomb : Option Tomb) (cells : List (ℕ × Cell)) → ◌≢◌ {A = Row} (record { marker = marker; tomb = tomb; cells = cells }) empty_row
    → is_some marker || (is_some tomb || has_any cells) ≡ true
parts_written (Some ts) tomb cells h = refl
parts_written None (Some t) cells h = refl
parts_written None None (cell ∷ cells) h = refl
parts_written None None [] h = absurd (h refl)

written : (key : List Comp) (row : Row) → row ≢ empty_row → rows_said key row ≡ (key, row) ∷ []
written key row h = let e : is_written row ≡ true = parts_written row.marker row.tomb row.cells h in rw e refl

unwritten : (key : List Comp) (row : Row) → row ≡ empty_row → [] ≡ rows_said key row
unwritten key row e = subst (λ (r : Row). [] ≡ rows_said key r) (sym e) refl

same : (r : Result (List (List Comp × Row)) AllocError) (rows other : List (List Comp × Row)) → IfOk r (λ made. made ≡ rows) → other ≡ rows → IfOk r (λ made. made ≡ other)
same (Ok made) rows other h e = h ∙ sym e
same (Err error) rows other h e = tt

pub returns-then-is_empty : goal.returns-then-is_empty
returns-then-is_empty c = c.empty.ensures ∙ unwritten c.args.key c.args.row (c.is_empty.ensures.0 c.if-is_empty.true)

pub returns : goal.returns
returns c = same c.of_one.result ((c.args.key, c.args.row) ∷ []) (rows_said c.args.key c.args.row) c.of_one.ensures (written c.args.key c.args.row (λ e. let f = c.is_empty.ensures.1 e in cc))
