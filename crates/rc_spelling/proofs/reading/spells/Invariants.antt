use Rattle.std.proofs.Common.{◌≡◌, length}
use Rattle.std.specs.Option.{is_some}
use Rattle.rc_spelling.specs.Spelling.{bytes_spelled}
use Rattle.rc_spelling.proofs.reading.spells.Given as goal

abbrev pub invariant-loop-byte : goal.invariant-loop-byte
invariant-loop-byte l = is_some (bytes_spelled l.left) ≡ is_some (bytes_spelled l.word)

abbrev pub decreases-loop-byte : goal.decreases-loop-byte
decreases-loop-byte l = length l.left
