-- Numbers from 1 on, in decimal, as they are read.
use Rattle.std.proofs.Common.{◌≡◌, ◌≢◌, ℕ, ◌^◌, ◌<◌, ◌≤◌, zero, suc, true, List, get_or, None, Result, Ok, Err, sym, ap, subst, ◌∙◌, arith, decimal, lit<}
use Rattle.std.specs.Result.{result_ok}
use Rattle.std.specs.Str.{all_ascii_digits}
use Rattle.std.specs.Str.Parse.{ParsesUnsigned, digits_value}
use Rattle.std.proofs.lemmas.Str.Parse.{IsNumeralModel, numerals_by_value, tells_all_ascii_digits, parse_plain, digit_at}
use Rattle.std.proofs.lemmas.Fmt.{first_decimal, decimal-digits_value, decimal_digit, parse-decimal}
use Rattle.rc_outside.specs.calls.TableNames.{ReadsNumber}

own : IsNumeralModel (λ ds. all_ascii_digits ds ≡ true) (digits_value 10)
own = numerals_by_value _ tells_all_ascii_digits

positive : (n : ℕ) (text : List ℕ) → text ≡ decimal n → 49 ≤ get_or text 0 0 → 0 < n
positive zero text same low =
    let first : get_or text 0 0 ≡ 48 = ap (λ t. get_or t 0 0) (same ∙ decimal_digit 0 (lit< tt)) in absurd (omega (arith, first, low))
positive (suc n) text same low = omega arith

-- a text that begins with a zero or a sign is that of no such number
pub no_number : (text : List ℕ) → get_or text 0 0 ≤ 48 → ReadsNumber text None
no_number text out n some fits same =
    let wide : n < 2 ^ 64 = omega arith in
    let low : 48 < get_or text 0 0 = subst (λ t. 48 < get_or t 0 0) (sym same) (first_decimal n some wide) in
    omega (arith, low, out)

-- another text is that of the number that it is parsed as, and of none where it is not parsed
pub parsed_number : {E : Type 0} (text : List ℕ) (r : Result ℕ E) → ParsesUnsigned 32 10 text r → get_or text 0 0 ≢ 48 → get_or text 0 0 ≢ 43 → ReadsNumber text (result_ok r)
parsed_number {E = E} text (Ok n) parses no_zero plus =
    let is = parse_plain own {E = E} 32 text (Ok n) parses plus in
    let range = digit_at text 0 (own.to text is.0.0) is.0.1 in
    let same : text ≡ decimal n = sym (ap decimal is.1 ∙ decimal-digits_value own text is.0.0 is.0.1 (λ e. absurd (no_zero e)) (omega (arith, is.0.2))) in
    (positive n text same (omega (arith, range.0, no_zero)), same)
parsed_number {E = E} text (Err e) parses no_zero plus = λ n some fits same.
    let wide : n < 2 ^ 64 = omega arith in
    let is : ◌≡◌ {A = Result ℕ _} (Err e) (Ok n) = parse-decimal {E = E} 32 n text (Err e) fits wide same parses in cc
