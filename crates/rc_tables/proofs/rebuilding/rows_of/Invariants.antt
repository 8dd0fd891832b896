-- The rows so far and those that are left are those of all.
use Rattle.std.proofs.Common.{◌≡◌, ◌++◌, length}
use Rattle.rc_mutation.specs.Rows.{joined_rows}
use Rattle.rc_tables.specs.calls.Rebuilt.{NoRowIsEmpty, rows_among}
use Rattle.rc_tables.proofs.rebuilding.rows_of.Given as goal

abbrev pub invariant-loop-left : goal.invariant-loop-left
invariant-loop-left l = (joined_rows (l.rows ++ rows_among l.left) ≡ joined_rows (rows_among l.fn.frags)) × (NoRowIsEmpty (rows_among l.fn.frags) → NoRowIsEmpty (rows_among l.left))

abbrev pub decreases-loop-left : goal.decreases-loop-left
decreases-loop-left l = length l.left
