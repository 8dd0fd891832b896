-- One byte of a slice.
use Rattle.std.proofs.Common.{◌≡◌, ℕ, ◌<◌, List, [], ◌∷◌, length, take, get_or, set, refl, arith}

pub take_one : (xs : List ℕ) → length xs ≡ 1 → take 1 xs ≡ get_or xs 0 0 ∷ []
take_one [] e = absurd (omega arith)
take_one (x ∷ []) e = refl
take_one (x ∷ y ∷ ys) e = absurd (omega arith)

pub take_written : (xs : List ℕ) (b : ℕ) → 0 < length xs → take 1 (set xs 0 b) ≡ b ∷ []
take_written [] b h = absurd (omega arith)
take_written (x ∷ xs) b h = refl
