-- Numbers as a line has them.
use Rattle.std.specs.Prelude.{ℕ, ℤ, pos, neg_ℤ, Bool, false, ◌^◌, ◌-◌, ◌&&◌, ◌==◌, nat_le, option_and_then, List, [], ◌∷◌, Option, Some, None, if◌then◌else◌, length}
use Rattle.std.specs.List.{list_all}
use Rattle.std.specs.Option.{option_map}
use Rattle.std.specs.Char.{is_ascii_digit}
use Rattle.std.specs.Str.Parse.{digits_value}

-- `0`, or a digit from 1 on and more digits behind it
abbrev pub is_numeral : List ℕ → Bool
is_numeral [] = false
is_numeral (first ∷ rest) = if first == 48 then length rest == 0 else list_all is_ascii_digit (first ∷ rest)

-- a number of at most `most`
unfoldable pub number_of : ℕ → List ℕ → Option ℕ
number_of most word = if is_numeral word && nat_le (digits_value 10 word) most then Some (digits_value 10 word) else None

-- a number from 1 to `most`
unfoldable pub count_of : ℕ → List ℕ → Option ℕ
count_of most word = option_and_then (λ value. if value == 0 then None else Some value) (number_of most word)

-- a number within 64 bits that may have a minus before it; `-0` is no number
abbrev pub signed_of : List ℕ → Option ℤ
signed_of [] = None
signed_of (first ∷ rest) = if first == 45 then option_map (λ n. neg_ℤ (pos n)) (count_of (2 ^ 63) rest) else option_map pos (number_of (2 ^ 63 - 1) (first ∷ rest))
