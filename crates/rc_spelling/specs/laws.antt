-- Laws of spellings, for crates above to cite.
pub mod Numerals
use Rattle.std.specs.Prelude.{ℕ, suc, ◌+◌, ◌*◌, ◌/◌, ◌%◌, ◌<◌, ℤ, pos, negsuc, Bool, true, false, cond, ◌&&◌, ◌==◌, List, [], ◌∷◌, ◌++◌, length, map, codes, Option, Some, None, ◌≡◌}
use Rattle.std.proofs.Common.{refl, ap, sym, ◌∙◌, arith, append-nil}
use Rattle.std.proofs.lemmas.Bool.Decides.{nat_tests}
use Rattle.std.proofs.lemmas.List.Elements.{All-from_recursion, All-nil, All-cons, All-append}
use Rattle.std.proofs.lemmas.List.Splits.{slice_split_none, slice_split_at}
use Rattle.std.proofs.lemmas.Fmt.{decimal_is_IsNumeral}
use Rattle.std.proofs.lemmas.Int.{ints}
use Rattle.std.proofs.lemmas.Str.Parse.{digit_from_value}
use Rattle.std.specs.Str.Parse.{AllDigits}
use Rattle.rc_spelling.specs.laws.Numerals.{signed_back}
use Rattle.std.specs.Cmp.Lexicographic.{same_text}
use Rattle.std.specs.Option.{option_map, option_and_then}
use Rattle.std.specs.Char.{is_ascii_alphanumeric, is_ascii_hexdigit, digit_value}
use Rattle.std.specs.Fmt.{decimal, signed_decimal}
use Rattle.std.specs.Int.{w64}
use Rattle.std.specs.Int.RustNames.{FitsSigned}
use Rattle.std.specs.List.{list_all, All, AllByRecursion, slice_split}
use Rattle.rc_position.specs.declared.comps.Comp.{Comp}
use Rattle.rc_position.specs.declared.comps.Comp.TheVariants.{Int, Text}
use Rattle.rc_spelling.specs.Numbers.{signed_of}
use Rattle.rc_spelling.specs.Printed.{AreBytes, IsComponent, stands_for_itself, hexadecimal, printed_bytes, component_text, key_text, bytes_of_component, spelled_byte}
use Rattle.rc_spelling.specs.Spelling.{stands_alone, escaped_byte, lone_byte, escape, bytes_spelled, component_spelled, components_spelled}
use Rattle.rc_spelling.specs.Words.{is_word, each_of}

both : (b c : Bool) → b && c ≡ true → (b ≡ true) × (c ≡ true)
both true c h = (refl, h)
both false c h = cc

plain_byte : (byte : ℕ) → is_ascii_alphanumeric byte ≡ true → spelled_byte byte ≡ byte ∷ []
plain_byte byte plain = rw plain refl

-- letters and digits are printed as themselves
pub plain_values_stay : (value : List ℕ) → list_all is_ascii_alphanumeric value ≡ true → printed_bytes value ≡ value
plain_values_stay [] plain = refl
plain_values_stay (byte ∷ value) plain =
    let parts = both (is_ascii_alphanumeric byte) (list_all is_ascii_alphanumeric value) plain in
    rw (plain_byte byte parts.0) (ap (λ rest. byte ∷ rest) (plain_values_stay value parts.1))

-- a byte that stands for itself, before a word

no_percent : (byte : ℕ) → stands_alone byte ≡ true → byte == 37 ≡ false
no_percent byte h = grind (arith, nat_tests)

is_alone : (byte : ℕ) (more : Option (List ℕ)) → stands_alone byte ≡ true → lone_byte byte more ≡ option_map (λ bytes. byte ∷ bytes) more
is_alone byte more h = ap (λ b. cond b (option_map (λ bytes. byte ∷ bytes) more) None) h

pub not_alone : (byte : ℕ) (more : Option (List ℕ)) → stands_alone byte ≡ false → lone_byte byte more ≡ None
not_alone byte more h = ap (λ b. cond b (option_map (λ bytes. byte ∷ bytes) more) None) h

pub alone_ahead : (byte : ℕ) (text : List ℕ) → stands_alone byte ≡ true → bytes_spelled (byte ∷ text) ≡ option_map (λ bytes. byte ∷ bytes) (bytes_spelled text)
alone_ahead byte [] h = is_alone byte (Some []) h
alone_ahead byte (next ∷ []) h = is_alone byte (bytes_spelled (next ∷ [])) h
alone_ahead byte (next ∷ other ∷ rest) h =
    ap (λ b. cond b (escape next other (bytes_spelled rest)) (lone_byte byte (bytes_spelled (next ∷ other ∷ rest)))) (no_percent byte h)
    ∙ is_alone byte (bytes_spelled (next ∷ other ∷ rest)) h

-- `%` and two digits, before a word
pub escape_ahead : (high low byte : ℕ) (text : List ℕ) → escaped_byte high low ≡ Some byte → bytes_spelled (37 ∷ high ∷ low ∷ text) ≡ option_map (λ bytes. byte ∷ bytes) (bytes_spelled text)
escape_ahead high low byte text h = ap (λ (o : Option ℕ). option_and_then (λ first. option_map (λ bytes. first ∷ bytes) (bytes_spelled text)) o) h

-- a printed byte

digit_back : (n : ℕ) → n < 16 → (is_ascii_hexdigit (hexadecimal n) ≡ true) × (digit_value (hexadecimal n) ≡ n)
digit_back n small = (grind (arith, nat_tests), grind (arith, nat_tests))

if_both : (b c : Bool) (x y : ℕ) → b ≡ true → c ≡ true → x ≡ y → cond (b && c) (Some x) None ≡ Some y
if_both b c x y p q r = rw (p, q, r) refl

digits_back : (byte : ℕ) → byte < 256 → escaped_byte (hexadecimal (byte / 16)) (hexadecimal (byte % 16)) ≡ Some byte
digits_back byte small =
    let high = digit_back (byte / 16) (omega arith) in
    let low = digit_back (byte % 16) (omega arith) in
    if_both (is_ascii_hexdigit (hexadecimal (byte / 16))) (is_ascii_hexdigit (hexadecimal (byte % 16))) (digit_value (hexadecimal (byte / 16)) * 16 + digit_value (hexadecimal (byte % 16))) byte high.0 low.0 (omega arith)

itself_alone : (byte : ℕ) → stands_for_itself byte ≡ true → stands_alone byte ≡ true
itself_alone byte h = grind (arith, nat_tests)

byte_back : (byte : ℕ) (text : List ℕ) → byte < 256 → bytes_spelled (spelled_byte byte ++ text) ≡ option_map (λ bytes. byte ∷ bytes) (bytes_spelled text)
byte_back byte text small =
    elim (stands_for_itself byte) as (λ b. stands_for_itself byte ≡ b → bytes_spelled (cond b (byte ∷ []) (37 ∷ hexadecimal (byte / 16) ∷ hexadecimal (byte % 16) ∷ []) ++ text) ≡ option_map (λ bytes. byte ∷ bytes) (bytes_spelled text)) [
      | true ↦ λ e. alone_ahead byte text (itself_alone byte e)
      | false ↦ λ e. escape_ahead (hexadecimal (byte / 16)) (hexadecimal (byte % 16)) byte text (digits_back byte small)
    ] refl

-- printed bytes spell the bytes
pub printed_bytes_read_back : (bytes : List ℕ) → AreBytes bytes → bytes_spelled (printed_bytes bytes) ≡ Some bytes
printed_bytes_read_back [] small = refl
printed_bytes_read_back (byte ∷ bytes) small = byte_back byte (printed_bytes bytes) small.0 ∙ ap (option_map (λ more. byte ∷ more)) (printed_bytes_read_back bytes small.1)

-- a printed number is read as the number
pub printed_numbers_read_back : (number : ℤ) → FitsSigned w64 number → signed_of (signed_decimal number) ≡ Some number
printed_numbers_read_back number fits = signed_back number fits

-- a printed component

-- a spelling that is not empty is a component
is_component : (word bytes : List ℕ) → bytes_spelled word ≡ Some bytes → 0 < length bytes → component_spelled word ≡ Some bytes
is_component [] [] h some = absurd (omega arith)
is_component [] (byte ∷ bytes) h some = cc
is_component (first ∷ rest) bytes h some =
    elim (is_word (first ∷ rest) (codes "''")) as (λ b. is_word (first ∷ rest) (codes "''") ≡ b → cond b (Some []) (bytes_spelled (first ∷ rest)) ≡ Some bytes) [
      | true ↦ λ e. (let quotes : first ∷ rest ≡ codes "''" = same_text (first ∷ rest) (codes "''") (sym e) in
          let no : ◌≡◌ {A = Option (List ℕ)} None (Some bytes) = ap bytes_spelled (sym quotes) ∙ h in
          cc)
      | false ↦ λ e. h
    ] refl

digit_alone : (byte : ℕ) → digit_value byte < 10 → stands_alone byte ≡ true
digit_alone byte h = let within = digit_from_value byte h in grind (arith, nat_tests)

digits_back_alone : (ds : List ℕ) → AllDigits 10 ds → bytes_spelled ds ≡ Some ds
digits_back_alone [] d = refl
digits_back_alone (c ∷ cs) d = alone_ahead c cs (digit_alone c d.0) ∙ ap (option_map (λ more. c ∷ more)) (digits_back_alone cs d.1)

int_back : (number : ℤ) → FitsSigned w64 number → component_spelled (signed_decimal number) ≡ Some (signed_decimal number)
int_back (pos n) fits =
    let k = decimal_is_IsNumeral n (omega (arith, ints)) in
    is_component (decimal n) (decimal n) (digits_back_alone (decimal n) k.0.1) k.0.0
int_back (negsuc n) fits =
    let k = decimal_is_IsNumeral (suc n) (omega (arith, ints)) in
    is_component (45 ∷ decimal (suc n)) (45 ∷ decimal (suc n)) (alone_ahead 45 (decimal (suc n)) refl ∙ ap (option_map (λ more. 45 ∷ more)) (digits_back_alone (decimal (suc n)) k.0.1)) (omega arith)

text_back : (bytes : List ℕ) → AreBytes bytes → component_spelled (component_text (Text bytes)) ≡ Some bytes
text_back [] small = refl
text_back (byte ∷ bytes) small = is_component (printed_bytes (byte ∷ bytes)) (byte ∷ bytes) (printed_bytes_read_back (byte ∷ bytes) small) (omega arith)

component_back : (component : Comp) → IsComponent component → component_spelled (component_text component) ≡ Some (bytes_of_component component)
component_back (Int number) fits = int_back number fits
component_back (Text bytes) small = text_back bytes small

-- a printed component has no comma

-- the byte that stands between components
abbrev is_comma : ℕ → Bool
is_comma byte = byte == 44

-- no byte of the word is a comma
abbrev Lacks : List ℕ → Type 0
Lacks word = All (λ byte. is_comma byte ≡ false) word

no_comma : (byte : ℕ) → stands_alone byte ≡ true → is_comma byte ≡ false
no_comma byte h = grind (arith, nat_tests)

digits_lack : (ds : List ℕ) → AllDigits 10 ds → Lacks ds
digits_lack [] d = All-nil (λ byte. is_comma byte ≡ false)
digits_lack (c ∷ cs) d = All-cons (λ byte. is_comma byte ≡ false) c cs (no_comma c (digit_alone c d.0)) (digits_lack cs d.1)

int_lacks : (number : ℤ) → FitsSigned w64 number → Lacks (signed_decimal number)
int_lacks (pos n) fits = digits_lack (decimal n) (decimal_is_IsNumeral n (omega (arith, ints))).0.1
int_lacks (negsuc n) fits = All-cons (λ byte. is_comma byte ≡ false) 45 (decimal (suc n)) refl (digits_lack (decimal (suc n)) (decimal_is_IsNumeral (suc n) (omega (arith, ints))).0.1)

glyph_lacks : (n : ℕ) → is_comma (hexadecimal n) ≡ false
glyph_lacks n = grind (arith, nat_tests)

byte_lacks : (byte : ℕ) → Lacks (spelled_byte byte)
byte_lacks byte =
    elim (stands_for_itself byte) as (λ b. stands_for_itself byte ≡ b → Lacks (cond b (byte ∷ []) (37 ∷ hexadecimal (byte / 16) ∷ hexadecimal (byte % 16) ∷ []))) [
      | true ↦ λ e. All-from_recursion (λ x. is_comma x ≡ false) (byte ∷ []) (no_comma byte (itself_alone byte e), tt)
      | false ↦ λ e. All-from_recursion (λ x. is_comma x ≡ false) (37 ∷ hexadecimal (byte / 16) ∷ hexadecimal (byte % 16) ∷ []) (refl, (glyph_lacks (byte / 16), (glyph_lacks (byte % 16), tt)))
    ] refl

spelled_lacks : (bytes : List ℕ) → Lacks (printed_bytes bytes)
spelled_lacks [] = All-nil (λ byte. is_comma byte ≡ false)
spelled_lacks (byte ∷ bytes) = All-append (λ x. is_comma x ≡ false) (spelled_byte byte) (printed_bytes bytes) (byte_lacks byte) (spelled_lacks bytes)

text_lacks : (bytes : List ℕ) → Lacks (component_text (Text bytes))
text_lacks [] = All-from_recursion (λ x. is_comma x ≡ false) (39 ∷ 39 ∷ []) (refl, (refl, tt))
text_lacks (byte ∷ bytes) = spelled_lacks (byte ∷ bytes)

component_lacks : (component : Comp) → IsComponent component → Lacks (component_text component)
component_lacks (Int number) fits = int_lacks number fits
component_lacks (Text bytes) small = text_lacks bytes

-- a printed key

-- it is cut at its commas into its components
cut : (first : Comp) (rest : List Comp) → AllByRecursion IsComponent (first ∷ rest) → slice_split is_comma (key_text (first ∷ rest)) ≡ map component_text (first ∷ rest)
cut first [] are = slice_split_none is_comma (component_text first) (component_lacks first are.0)
cut first (next ∷ rest) are =
    slice_split_at is_comma (component_text first) 44 (key_text (next ∷ rest)) (component_lacks first are.0) refl
    ∙ ap (λ words. component_text first ∷ words) (cut next rest are.1)

both_some : (one : Option (List ℕ)) (others : Option (List (List ℕ))) (bytes : List ℕ) (more : List (List ℕ)) → one ≡ Some bytes → others ≡ Some more
    → option_and_then (λ component. option_map (λ components. component ∷ components) others) one ≡ Some (bytes ∷ more)
both_some one others bytes more p q = rw (p, q) refl

pieces_back : (key : List Comp) → AllByRecursion IsComponent key → each_of component_spelled (map component_text key) ≡ Some (map bytes_of_component key)
pieces_back [] are = refl
pieces_back (first ∷ rest) are =
    both_some (component_spelled (component_text first)) (each_of component_spelled (map component_text rest)) (bytes_of_component first) (map bytes_of_component rest) (component_back first are.0) (pieces_back rest are.1)

-- a printed key spells the bytes of its components
pub printed_keys_read_back : (first : Comp) (rest : List Comp) → AllByRecursion IsComponent (first ∷ rest) → components_spelled (key_text (first ∷ rest)) ≡ Some (map bytes_of_component (first ∷ rest))
unfolding components_spelled
printed_keys_read_back first rest are = ap (each_of component_spelled) (cut first rest are) ∙ pieces_back (first ∷ rest) are
