-- Reading from left to right: the first byte that a word spells, and what is behind its spelling. The readers within the crate are stated by
-- these; that they agree with the spelling of a word is proved (proofs/Steps.antt).
use Rattle.std.specs.Prelude.{ℕ, ◌==◌, List, [], ◌∷◌, Option, Some, None, if◌then◌else◌}
use Rattle.std.specs.Option.{option_map}
use Rattle.rc_spelling.specs.Spelling.{stands_alone, escaped_byte}

-- a byte that stands for itself, and what is behind it
abbrev pub first_alone : ℕ → List ℕ → Option (ℕ × List ℕ)
first_alone byte rest = if stands_alone byte then Some (byte, rest) else None

-- the byte that two digits stand for, and what is behind them
abbrev pub first_escaped : ℕ → ℕ → List ℕ → Option (ℕ × List ℕ)
first_escaped high low rest = option_map (λ byte. (byte, rest)) (escaped_byte high low)

-- the first byte and what is behind it, or none of the empty word and where the front spells no byte
abbrev pub first_spelled : List ℕ → Option (ℕ × List ℕ)
first_spelled [] = None
first_spelled (byte ∷ []) = first_alone byte []
first_spelled (byte ∷ next ∷ []) = first_alone byte (next ∷ [])
first_spelled (byte ∷ next ∷ other ∷ rest) = if byte == 37 then first_escaped next other rest else first_alone byte (next ∷ other ∷ rest)
