use Rattle.std.proofs.Common.{◌≡◌, length}
use Rattle.rc_lines.specs.calls.ShapeMeaning.{cell_named}
use Rattle.rc_lines.proofs.columns.cell_named.Given as goal

-- what is left decides for the whole
abbrev pub invariant-loop-left : goal.invariant-loop-left
invariant-loop-left l = cell_named l.name l.cells ≡ cell_named l.name l.left

abbrev pub decreases-loop-left : goal.decreases-loop-left
decreases-loop-left l = length l.left
