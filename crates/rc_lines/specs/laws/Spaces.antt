-- Words joined by one space are the words of the line, where none of them has a space.
use Rattle.std.proofs.Common.{◌≡◌, ℕ, ℤ, pos, negsuc, ◌<◌, ◌^◌, ◌/◌, ◌%◌, suc, true, false, cond, ◌==◌, List, [], ◌∷◌, ◌++◌, refl, ap, ◌∙◌, arith}
use Rattle.std.specs.Prelude.{All}
use Rattle.std.specs.Char.{is_ascii_lowercase}
use Rattle.std.specs.Fmt.{decimal, signed_decimal}
use Rattle.std.specs.Int.{w64}
use Rattle.std.specs.Int.RustNames.{FitsSigned}
use Rattle.std.specs.List.{AllByRecursion, list_all, join_with_byte}
use Rattle.std.specs.Str.Parse.{AllDigits}
use Rattle.std.proofs.lemmas.Bool.Decides.{nat_tests}
use Rattle.std.proofs.lemmas.Fmt.{decimal_is_IsNumeral}
use Rattle.std.proofs.lemmas.Int.{ints}
use Rattle.std.proofs.lemmas.List.Elements.{All-from_recursion, All-nil, All-cons, All-append}
use Rattle.std.proofs.lemmas.List.Splits.{slice_split_none, slice_split_at}
use Rattle.std.proofs.lemmas.Str.Parse.{digit_from_value}
use Rattle.rc_position.specs.declared.comps.Comp.TheVariants.{Text}
use Rattle.rc_schema.specs.SchemaValue.{is_name, is_name_byte}
use Rattle.rc_spelling.specs.Printed.{stands_for_itself, hexadecimal, printed_bytes, component_text, spelled_byte}
use Rattle.rc_spelling.specs.Words.{words}
use Rattle.rc_lines.specs.Sayable.{prefix_word}
use Rattle.rc_lines.specs.laws.Halves.{both}

-- no byte of the word is a space
abbrev pub IsSpaceless : List ℕ → Type 0
IsSpaceless word = All (λ byte. (byte == 32) ≡ false) word

-- the words of such words joined are these
pub words_back : (word : List ℕ) (rest : List (List ℕ)) → AllByRecursion IsSpaceless (word ∷ rest) → words (join_with_byte 32 (word ∷ rest)) ≡ word ∷ rest
words_back word [] are = slice_split_none (λ byte. byte == 32) word are.0
words_back word (next ∷ rest) are =
    slice_split_at (λ byte. byte == 32) word 32 (join_with_byte 32 (next ∷ rest)) are.0 refl ∙ ap (λ ws. word ∷ ws) (words_back next rest are.1)

-- such words before and behind others
pub both_spaceless : (ws others : List (List ℕ)) → AllByRecursion IsSpaceless ws → AllByRecursion IsSpaceless others → AllByRecursion IsSpaceless (ws ++ others)
both_spaceless [] others p q = q
both_spaceless (w ∷ ws) others p q = (p.0, both_spaceless ws others p.1 q)

-- ---- numbers

digits_spaceless : (ds : List ℕ) → AllDigits 10 ds → IsSpaceless ds
digits_spaceless [] d = All-nil (λ byte. (byte == 32) ≡ false)
digits_spaceless (c ∷ cs) d =
    All-cons (λ byte. (byte == 32) ≡ false) c cs (let within = digit_from_value c d.0 in grind (arith, nat_tests)) (digits_spaceless cs d.1)

pub number_spaceless : (n : ℕ) → n < 2 ^ 64 → IsSpaceless (decimal n)
number_spaceless n small = digits_spaceless (decimal n) (decimal_is_IsNumeral n small).0.1

pub signed_spaceless : (number : ℤ) → FitsSigned w64 number → IsSpaceless (signed_decimal number)
signed_spaceless (pos n) fits = number_spaceless n (omega (arith, ints))
signed_spaceless (negsuc n) fits = All-cons (λ byte. (byte == 32) ≡ false) 45 (decimal (suc n)) refl (number_spaceless (suc n) (omega (arith, ints)))

-- ---- spelled bytes and components

itself_spaceless : (byte : ℕ) → stands_for_itself byte ≡ true → (byte == 32) ≡ false
itself_spaceless byte h = grind (arith, nat_tests)

digit_spaceless : (n : ℕ) → (hexadecimal n == 32) ≡ false
digit_spaceless n = grind (arith, nat_tests)

byte_spaceless : (byte : ℕ) → IsSpaceless (spelled_byte byte)
byte_spaceless byte =
    elim (stands_for_itself byte) as (λ b. stands_for_itself byte ≡ b → IsSpaceless (cond b (byte ∷ []) (37 ∷ hexadecimal (byte / 16) ∷ hexadecimal (byte % 16) ∷ []))) [
      | true ↦ λ e. All-from_recursion (λ x. (x == 32) ≡ false) (byte ∷ []) (itself_spaceless byte e, tt)
      | false ↦ λ e. All-from_recursion (λ x. (x == 32) ≡ false) (37 ∷ hexadecimal (byte / 16) ∷ hexadecimal (byte % 16) ∷ []) (refl, (digit_spaceless (byte / 16), (digit_spaceless (byte % 16), tt)))
    ] refl

pub spelled_spaceless : (bytes : List ℕ) → IsSpaceless (printed_bytes bytes)
spelled_spaceless [] = All-nil (λ byte. (byte == 32) ≡ false)
spelled_spaceless (byte ∷ bytes) = All-append (λ x. (x == 32) ≡ false) (spelled_byte byte) (printed_bytes bytes) (byte_spaceless byte) (spelled_spaceless bytes)

component_spaceless : (piece : List ℕ) → IsSpaceless (component_text (Text piece))
component_spaceless [] = All-from_recursion (λ x. (x == 32) ≡ false) (39 ∷ 39 ∷ []) (refl, (refl, tt))
component_spaceless (byte ∷ piece) = spelled_spaceless (byte ∷ piece)

pub prefix_spaceless : (pieces : List (List ℕ)) → IsSpaceless (prefix_word pieces)
prefix_spaceless [] = All-nil (λ byte. (byte == 32) ≡ false)
prefix_spaceless (piece ∷ []) = component_spaceless piece
prefix_spaceless (piece ∷ next ∷ pieces) =
    All-append (λ byte. (byte == 32) ≡ false) (component_text (Text piece)) (44 ∷ prefix_word (next ∷ pieces)) (component_spaceless piece)
    (All-cons (λ byte. (byte == 32) ≡ false) 44 (prefix_word (next ∷ pieces)) refl (prefix_spaceless (next ∷ pieces)))

-- ---- names

name_byte : (byte : ℕ) → is_name_byte byte ≡ true → ((byte == 32) ≡ false) × ((byte == 61) ≡ false)
name_byte byte h = (grind (arith, nat_tests), grind (arith, nat_tests))

first_byte : (byte : ℕ) → is_ascii_lowercase byte ≡ true → ((byte == 32) ≡ false) × ((byte == 61) ≡ false)
first_byte byte h = (grind (arith, nat_tests), grind (arith, nat_tests))

-- neither a space nor `=`
abbrev pub IsPlainByte : ℕ → Type 0
IsPlainByte byte = ((byte == 32) ≡ false) × ((byte == 61) ≡ false)

name_bytes : (rest : List ℕ) → list_all is_name_byte rest ≡ true → AllByRecursion IsPlainByte rest
name_bytes [] h = tt
name_bytes (byte ∷ rest) h = let p = both (is_name_byte byte) (list_all is_name_byte rest) h in (name_byte byte p.0, name_bytes rest p.1)

-- no byte of a name is a space or `=`
pub name_plain : (name : List ℕ) → is_name name ≡ true → AllByRecursion IsPlainByte name
name_plain [] h = tt
name_plain (first ∷ rest) h = let p = both (is_ascii_lowercase first) _ h in (first_byte first p.0, name_bytes rest (both _ (list_all is_name_byte rest) p.1).1)

plain_spaceless : (name : List ℕ) → AllByRecursion IsPlainByte name → IsSpaceless name
plain_spaceless [] h = All-nil (λ byte. (byte == 32) ≡ false)
plain_spaceless (byte ∷ name) h = All-cons (λ x. (x == 32) ≡ false) byte name h.0.0 (plain_spaceless name h.1)

pub name_spaceless : (name : List ℕ) → is_name name ≡ true → IsSpaceless name
name_spaceless name h = plain_spaceless name (name_plain name h)
