-- Once the lines that are left are done all are.
use Rattle.std.proofs.Common.{length}
use Rattle.rc_lookup.proofs.Given.{IsGiving}
use Rattle.rc_lookup.proofs.keeping.touch_lines.Given as goal

abbrev pub invariant-loop-line : goal.invariant-loop-line
invariant-loop-line g l = IsGiving l.fn.id l.fn.lines l.left l.fn.chains l.chains

abbrev pub decreases-loop-line : goal.decreases-loop-line
decreases-loop-line g l = length l.left
