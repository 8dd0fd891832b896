-- After the last column nothing is left.
use Rattle.std.proofs.Common.{◌≡◌, ℕ, ◌∙◌, List, [], ◌++◌, drop, sym, ap, arith, append-nil}
use Rattle.std.proofs.Math.ListN.{drop_of_length-le}
use Rattle.rc_cell.specs.declared.writes.Cell.{Cell}
use Rattle.rc_lines.specs.calls.ShapeMeaning.{columns_from, by_column}
use Rattle.rc_lines.proofs.columns.by_column.Goals as goal

done : (made : List (ℕ × Cell)) (column : ℕ) (names left : List (List ℕ)) (cells : List (List ℕ × Cell)) → left ≡ []
    → made ++ columns_from column left cells ≡ columns_from 0 names cells → made ≡ by_column names cells
unfolding by_column
done made column names left cells e h = sym (append-nil made) ∙ ap (λ (l : List (List ℕ)). made ++ columns_from column l cells) (sym e) ∙ h

pub returns : goal.returns
returns c = done c.loop-column.made.items c.loop-column.column c.args.names.now (drop c.loop-column.column c.args.names.now) c.args.cells.now (drop_of_length-le c.args.names.now (omega arith)) c.loop-column.invariant
