use Rattle.std.proofs.Common.{◌≡◌, ◌++◌, List, length, ℕ}
use Rattle.std.specs.Io.KnownBytes.{Appends}
use Rattle.rc_outside.proofs.standard.write_whole.Given as goal

-- a front of the piece is written, and the rest is what is left of it
abbrev pub invariant-loop-rest : goal.invariant-loop-rest
invariant-loop-rest g l =
    (front : List ℕ) × (l.fn.piece ≡ front ++ l.rest) × Appends (g.W.Write.contents l.fn.writer) (g.W.Write.contents l.writer) front

abbrev pub decreases-loop-rest : goal.decreases-loop-rest
decreases-loop-rest g l = length l.rest
