-- What taking from the front of a list leaves.
use Rattle.std.proofs.Common.{◌≡◌, ℕ, ◌+◌, ◌-◌, ◌<◌, List, [], ◌++◌, min, length, take, drop, sym, arith, length-drop, append_assoc}
use Rattle.std.proofs.lemmas.List.{drop-drop, take-append-drop, take_rest}
use Rattle.std.proofs.Math.ListN.{drop_of_length-le}

-- what was left is what was copied, and then what is left
pub drop-as_front : (whole into : List ℕ) (from count : ℕ) → take count into ≡ take count (drop from whole)
    → drop from whole ≡ take count into ++ drop (from + count) whole
drop-as_front whole into from count same =
    rw (same, ← drop-drop count from whole) (sym (take-append-drop count (drop from whole)))

-- where there is room and nothing was copied, nothing is left
pub drop-is_nil : (whole : List ℕ) (from count room : ℕ) → count ≡ min room (length (drop from whole)) → count ≡ 0 → 0 < room
    → drop (from + count) whole ≡ []
drop-is_nil whole from count room is none some = drop_of_length-le whole (omega (arith, length-drop from whole))

-- what went out and what is left make the piece, after some more of it went out
pub front-grown : (piece front rest : List ℕ) (count : ℕ) → piece ≡ front ++ rest
    → piece ≡ (front ++ take count rest) ++ take (length rest - count) (drop count rest)
front-grown piece front rest count whole =
    rw (take_rest rest count, append_assoc front (take count rest) (drop count rest), take-append-drop count rest) whole
