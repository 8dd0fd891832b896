use Rattle.std.proofs.Common.{◌≡◌, ◌++◌, map, drop}
use Rattle.std.specs.Option.{option_map}
use Rattle.rc_spelling.specs.Spelling.{component_spelled}
use Rattle.rc_spelling.specs.Words.{each_of}
use Rattle.rc_spelling.proofs.reading.read_pieces.Given as goal

abbrev pub invariant-loop-piece : goal.invariant-loop-piece
invariant-loop-piece l =
    option_map (λ more. map (λ bytes. bytes.items) l.components.items ++ more) (each_of component_spelled (map (λ piece. piece.now) (drop l.piece-index l.pieces)))
    ≡ each_of component_spelled (map (λ piece. piece.now) l.pieces)
