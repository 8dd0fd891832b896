-- Laws of numbers: a printed number is a numeral, and is read as the number.
use Rattle.std.proofs.Common.{◌≡◌, ℕ, ◌<◌, ◌≤◌, ◌^◌, ◌-◌, zero, suc, if◌then◌else◌, true, false, cond, ◌==◌, List, [], ◌∷◌, length, get_or, Some, None, refl, ap, ◌∙◌, arith}
use Rattle.std.specs.Char.{is_ascii_digit, digit_value}
use Rattle.std.specs.Fmt.{decimal, signed_decimal}
use Rattle.std.specs.Int.{w64}
use Rattle.std.specs.Int.RustNames.{FitsSigned}
use Rattle.std.specs.List.{list_all}
use Rattle.std.specs.Option.{option_map, option_and_then}
use Rattle.std.specs.Str.Parse.{AllDigits, digits_value}
use Rattle.std.proofs.lemmas.Bool.Decides.{nat_tests}
use Rattle.std.proofs.lemmas.Int.{ints}
use Rattle.std.proofs.lemmas.Fmt.{decimal_is_IsNumeral, decimal_digit, first_decimal}
use Rattle.std.proofs.lemmas.Str.Parse.{digit_from_value}
use lib.IntN.{ℤ, pos, negsuc, neg_ℤ}
use Rattle.rc_spelling.specs.Numbers.{is_numeral, number_of, count_of, signed_of}

-- a numeral of at most `most` is a number
pub number_some : (most : ℕ) (word : List ℕ) → is_numeral word ≡ true → digits_value 10 word ≤ most → number_of most word ≡ Some (digits_value 10 word)
unfolding number_of
number_some most word e few = grind (arith, nat_tests)

digit_is : (byte : ℕ) → digit_value byte < 10 → is_ascii_digit byte ≡ true
digit_is byte h = let within = digit_from_value byte h in grind (arith, nat_tests)

digits_are : (ds : List ℕ) → AllDigits 10 ds → list_all is_ascii_digit ds ≡ true
digits_are [] d = refl
digits_are (c ∷ cs) d = rw (digit_is c d.0) (digits_are cs d.1)

-- digits whose first is no 0, or `0` alone
numeral_is : (ds : List ℕ) → 0 < length ds → AllDigits 10 ds → (get_or ds 0 0 ≡ 48 → length ds ≡ 1) → is_numeral ds ≡ true
numeral_is [] some d lead = absurd (omega arith)
numeral_is (first ∷ rest) some d lead =
    elim (first == 48) as (λ b. first == 48 ≡ b → cond b (length rest == 0) (list_all is_ascii_digit (first ∷ rest)) ≡ true) [
      | true ↦ λ e. (let alone : length rest ≡ 0 = (let zero : first ≡ 48 = grind (arith, nat_tests) in omega (arith, lead zero)) in grind (arith, nat_tests))
      | false ↦ λ e. digits_are (first ∷ rest) d
    ] refl

leads : (n : ℕ) → n < 2 ^ 64 → get_or (decimal n) 0 0 ≡ 48 → length (decimal n) ≡ 1
leads zero small e = ap length (decimal_digit 0 (omega arith))
leads (suc n) small e = absurd (omega (arith, first_decimal (suc n) (omega arith) small))

pub decimal_numeral : (n : ℕ) → n < 2 ^ 64 → is_numeral (decimal n) ≡ true
decimal_numeral n small = let k = decimal_is_IsNumeral n small in numeral_is (decimal n) k.0.0 k.0.1 (leads n small)

pub decimal_number : (most n : ℕ) → n < 2 ^ 64 → n ≤ most → number_of most (decimal n) ≡ Some n
decimal_number most n small few =
    let k = decimal_is_IsNumeral n small in
    number_some most (decimal n) (decimal_numeral n small) (omega (arith, k.1)) ∙ ap Some k.1

no_minus : (ds : List ℕ) → 0 < length ds → AllDigits 10 ds → signed_of ds ≡ option_map pos (number_of (2 ^ 63 - 1) ds)
no_minus [] some d = absurd (omega arith)
no_minus (first ∷ rest) some d =
    let within = digit_from_value first d.0 in
    let e : first == 45 ≡ false = grind (arith, nat_tests) in
    ap (λ b. cond b (option_map (λ n. neg_ℤ (pos n)) (count_of (2 ^ 63) rest)) (option_map pos (number_of (2 ^ 63 - 1) (first ∷ rest)))) e

pub positive_back : (n : ℕ) → n < 2 ^ 63 → signed_of (decimal n) ≡ Some (pos n)
positive_back n small =
    let k = decimal_is_IsNumeral n (omega arith) in
    no_minus (decimal n) k.0.0 k.0.1 ∙ ap (option_map pos) (decimal_number (2 ^ 63 - 1) n (omega arith) (omega arith))

pub negative_back : (n : ℕ) → n < 2 ^ 63 → signed_of (45 ∷ decimal (suc n)) ≡ Some (negsuc n)
unfolding count_of
negative_back n small =
    let some : suc n == 0 ≡ false = grind (arith, nat_tests) in
    ap (λ o. option_map (λ m. neg_ℤ (pos m)) (option_and_then (λ value. if value == 0 then None else Some value) o)) (decimal_number (2 ^ 63) (suc n) (omega arith) (omega arith))
    ∙ ap (λ b. option_map (λ m. neg_ℤ (pos m)) (cond b None (Some (suc n)))) some

pub signed_back : (number : ℤ) → FitsSigned w64 number → signed_of (signed_decimal number) ≡ Some number
signed_back (pos n) fits = positive_back n (omega (arith, ints))
signed_back (negsuc n) fits = negative_back n (omega (arith, ints))
