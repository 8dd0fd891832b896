-- The columns of a line are the schema's.
use Rattle.std.proofs.Common.{◌≡◌, ℕ, List, subst, sym, nat_lt, IsTrue, rules}
use Rattle.std.specs.List.{list_all}
use Rattle.rc_cell.specs.declared.writes.Cell.{Cell}
use Rattle.rc_schema.specs.Checks.{column_count}
use Rattle.rc_lines.specs.calls.ShapeMeaning.{by_column, columns_said}
use Rattle.rc_lines.specs.laws.Fitting.{columns_are_known}
use Rattle.rc_lines.proofs.columns.cells_by_column.Goals as goal

pub returns-clause-known : goal.returns-clause-known
returns-clause-known c =
    let made : c.from_vec.result ≡ by_column (columns_said c.args.is_static c.args.schema.now) c.args.cells.now = search rules in
    subst (λ (cells : List (ℕ × Cell)). IsTrue (list_all (λ e. nat_lt e.0 (column_count c.args.is_static c.args.schema.now)) cells)) (sym made) (columns_are_known c.args.is_static c.args.schema.now c.args.cells.now)
