-- Each half is shorter.
use Rattle.std.proofs.Common.{length}
use Rattle.rc_plain.proofs.joining.+joined.Given as goal

abbrev pub decreases-joined : goal.decreases-joined
decreases-joined l = length l.numbers.now
