use Rattle.std.proofs.Common.{◌≡◌, ◌++◌, length, map}
use Rattle.std.specs.Option.{option_map}
use Rattle.rc_lines.specs.calls.ShapeParts.{each_cell_of}
use Rattle.rc_lines.proofs.cells.each_cell.Given as goal

-- what was made, and what the words that are left say
abbrev pub invariant-loop-left : goal.invariant-loop-left
invariant-loop-left l =
    each_cell_of l.stamp (map (λ word. word.now) l.words) ≡ option_map (λ rest. l.made.items ++ rest) (each_cell_of l.stamp (map (λ word. word.now) l.left))

abbrev pub decreases-loop-left : goal.decreases-loop-left
decreases-loop-left l = length l.left
