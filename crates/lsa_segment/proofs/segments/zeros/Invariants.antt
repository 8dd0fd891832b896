use Rattle.std.proofs.Common.{◌≡◌, replicate}
use Rattle.lsa_segment.proofs.segments.zeros.Given as goal

abbrev pub invariant-loop-made : goal.invariant-loop-made
invariant-loop-made l = l.used.items ≡ replicate l.made 0
