-- The lines before the first schema line are taken from the front, one at a time.
use Rattle.std.proofs.Common.{length}
use Rattle.direct.proofs.early.schema_of.Given as goal

abbrev pub decreases-loop-line : goal.decreases-loop-line
decreases-loop-line g l = length l.rest
