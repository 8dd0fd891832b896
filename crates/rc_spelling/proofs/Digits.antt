-- Digits and the numbers that they write.
use Rattle.std.proofs.Common.{◌≡◌, ℕ, ◌+◌, ◌*◌, ◌<◌, ◌≤◌, ◌^◌, true, false, cond, ◌==◌, List, [], ◌∷◌, length, take, get_or, Option, Some, None, refl, ap, ◌∙◌, arith}
use Rattle.std.specs.Char.{digit_value, is_ascii_digit}
use Rattle.std.specs.List.{list_all}
use Rattle.std.specs.Str.Parse.{digits_value}
use Rattle.std.proofs.lemmas.List.Folds.{list_all_at}
use Rattle.std.proofs.lemmas.Int.Digits.{digits_value_more}
use Rattle.std.proofs.lemmas.Str.Parse.{digits_value-take-le}
use Rattle.std.proofs.lemmas.Bool.Decides.{nat_tests}
use Rattle.std.specs.Option.{SomeIff}
use Rattle.std.specs.Int.RustNames.{FitsSigned}
use Rattle.std.proofs.lemmas.Int.{ints}
use lib.IntN.{ℤ, pos, neg_ℤ, ◌-ℤ◌}
use mir.Syntax.{w64}
use Rattle.rc_spelling.specs.Numbers.{is_numeral, number_of}
use Rattle.rc_spelling.specs.laws.Numerals.{number_some}

-- each of them is a digit
pub digit_at : (ds : List ℕ) (i : ℕ) → list_all is_ascii_digit ds ≡ true → i < length ds → is_ascii_digit (get_or ds i 0) ≡ true
digit_at ds i all within =
    elim (is_ascii_digit (get_or ds i 0)) as (λ b. is_ascii_digit (get_or ds i 0) ≡ b → b ≡ true) [
      | true ↦ λ e. refl
      | false ↦ λ e. (let no : list_all is_ascii_digit ds ≡ false = list_all_at is_ascii_digit ds i 0 within e in cc)
    ] refl

-- a front of the digits, with one more, writes no more than all of them
pub value_grows : (ds : List ℕ) (i : ℕ) → i < length ds → digits_value 10 (take i ds) * 10 + digit_value (get_or ds i 0) ≤ digits_value 10 ds
value_grows ds i within = omega (arith, digits_value_more 10 ds i within, digits_value-take-le 10 ds (i + 1) (omega arith))

-- a `0` alone is a digit
zero_alone : (first : ℕ) (rest : List ℕ) → first ≡ 48 → length rest ≡ 0 → list_all is_ascii_digit (first ∷ rest) ≡ true
zero_alone first [] e n = rw e refl
zero_alone first (x ∷ xs) e n = absurd (omega arith)

-- a numeral is digits
pub numeral_digits : (ds : List ℕ) → is_numeral ds ≡ true → list_all is_ascii_digit ds ≡ true
numeral_digits [] e = refl
numeral_digits (first ∷ rest) e =
    elim (first == 48) as (λ b. first == 48 ≡ b → cond b (length rest == 0) (list_all is_ascii_digit (first ∷ rest)) ≡ true → list_all is_ascii_digit (first ∷ rest) ≡ true) [
      | true ↦ λ s h. zero_alone first rest (grind (arith, nat_tests)) (grind (arith, nat_tests))
      | false ↦ λ s h. h
    ] refl e

pub number_none : (most : ℕ) (word : List ℕ) → is_numeral word ≡ false → number_of most word ≡ None
unfolding number_of
number_none most word e = rw e refl

pub number_large : (most : ℕ) (word : List ℕ) → most < digits_value 10 word → number_of most word ≡ None
unfolding number_of
number_large most word large = grind (arith, nat_tests)

pub ruleset numbers = (numeral_digits, number_none, number_large, number_some)

-- one more digit
pub value_more : (ds : List ℕ) (i : ℕ) → i < length ds → digits_value 10 (take (i + 1) ds) ≡ digits_value 10 (take i ds) * 10 + digit_value (get_or ds i 0)
value_more ds i within = digits_value_more 10 ds i within

-- a number from 1 to 2^63 taken from 0
pub below_zero : (r : Option ℤ) (value : ℕ) → SomeIff r (FitsSigned w64 (pos 0 -ℤ pos value)) (pos 0 -ℤ pos value) → 0 < value → value ≤ 2 ^ 63 → r ≡ Some (neg_ℤ (pos value))
below_zero None value h above few = absurd (h (omega (arith, ints)))
below_zero (Some x) value h above few = ap Some (h.1 ∙ omega (arith, ints))
