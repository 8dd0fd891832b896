-- The pairs before the index have been copied, and their cells ascend.
use Rattle.std.proofs.Common.{◌≡◌, take}
use Rattle.std.specs.Prelude.{All, IsTrue}
use Rattle.rc_cell.specs.Columns.{ascending}
use Rattle.rc_mutation.proofs.rows.copied.Given as goal

abbrev pub invariant-loop-item : goal.invariant-loop-item
invariant-loop-item l = record { value : l.made.items ≡ take l.item-index l.items; by_column : All (λ e. IsTrue (ascending e.1.cells)) l.made.items }
