-- The live values of the cells before the index.
use Rattle.std.proofs.Common.{◌≡◌, take}
use Rattle.rc_query.specs.Answer.{live_values}
use Rattle.rc_query.proofs.answers.values_of.Given as goal

abbrev pub invariant-loop-cell : goal.invariant-loop-cell
invariant-loop-cell l = l.values.items ≡ live_values l.fn.tomb (take l.cell-index l.cells)
