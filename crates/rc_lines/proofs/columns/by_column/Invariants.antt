use Rattle.std.proofs.Common.{◌≡◌, ◌++◌, drop}
use Rattle.rc_lines.specs.calls.ShapeMeaning.{columns_from}
use Rattle.rc_lines.proofs.columns.by_column.Given as goal

-- what was made, and what the columns that are left give
abbrev pub invariant-loop-column : goal.invariant-loop-column
invariant-loop-column l = l.made.items ++ columns_from l.column (drop l.column l.names) l.cells ≡ columns_from 0 l.names l.cells
