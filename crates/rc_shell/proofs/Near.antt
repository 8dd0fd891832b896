-- At most a piece is taken ahead of the line that is answered next.
use Rattle.std.proofs.Common.{◌≡◌, ℕ, ◌<◌, ◌≤◌, List, [], ◌∷◌, ◌++◌, length, sym, ap, ◌∙◌, append_assoc, append-nil, arith, length-append}
use Rattle.rc_shell.proofs.Cuts.{joined_lines}
use Rattle.rc_shell.specs.Lines.{IsLine, BeginsWithLines}
use Rattle.rc_shell.specs.Run.{piece_size, IsNear}

-- a newline behind bytes that have none stands in what follows them
behind_newline : (rest bytes front back : List ℕ) → IsLine rest → rest ++ bytes ≡ front ++ 10 ∷ back → length back < length bytes
behind_newline [] bytes front back line e = omega (arith, ap length e, length-append front (10 ∷ back))
behind_newline (x ∷ rest) bytes [] back line e = absurd (line.0 (cc))
behind_newline (x ∷ rest) bytes (y ∷ front) back line e = behind_newline rest bytes front back line.1 (cc)

pub near_line : (rest : List ℕ) → IsLine rest → IsNear rest
near_line rest line front back e = absurd (omega (arith, behind_newline rest [] front back line (append-nil rest ∙ e)))

pub near_cut : (rest bytes : List ℕ) (lines : List (List ℕ)) (more : List ℕ) → IsLine rest → length bytes ≤ piece_size → BeginsWithLines (rest ++ bytes) lines more → IsNear more
near_cut rest bytes lines more line small cut front back e =
    let stands = behind_newline rest bytes (joined_lines lines ++ front) back line (cut.0 ∙ ap (λ t. joined_lines lines ++ t) e ∙ sym (append_assoc (joined_lines lines) front (10 ∷ back))) in
    omega (arith, small, stands)
