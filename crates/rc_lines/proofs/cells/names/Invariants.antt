use Rattle.std.proofs.Common.{◌≡◌, take, map}
use Rattle.rc_lines.proofs.cells.names.Given as goal

abbrev pub invariant-loop-cell : goal.invariant-loop-cell
invariant-loop-cell l = map (λ name. name.now) l.found.items ≡ map (λ e. e.0) (take l.cell-index l.cells)
