use Rattle.std.proofs.Common.{◌≡◌, map, length}
use Rattle.std.specs.Option.{is_some}
use Rattle.rc_spelling.specs.Spelling.{component_spelled}
use Rattle.rc_spelling.specs.Words.{each_of}
use Rattle.rc_spelling.proofs.reading.are_components.Given as goal

abbrev pub invariant-loop-left : goal.invariant-loop-left
invariant-loop-left l = is_some (each_of component_spelled (map (λ piece. piece.now) l.left)) ≡ is_some (each_of component_spelled (map (λ piece. piece.now) l.pieces))

abbrev pub decreases-loop-left : goal.decreases-loop-left
decreases-loop-left l = length l.left
