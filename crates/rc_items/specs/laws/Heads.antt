-- A schema's text behind its length.
use Rattle.std.proofs.Common.{◌≡◌, ◌<◌, ◌≤◌, ℕ, ◌+◌, List, ◌++◌, length, take, drop, Some, None, refl, sym, ap, ◌∙◌, arith, append_assoc}
use Rattle.std.proofs.lemmas.Option.{none-some, some_pair_parts}
use Rattle.std.proofs.lemmas.List.{take_at, drop_at, take-append-drop, length-append, length-take-le}
use Rattle.rc_rowcode.specs.Spelling.{length_code}
use Rattle.rc_rowcode.specs.calls.Reading.{parse_length}
use Rattle.rc_rowcode.specs.laws.Fields.{IsBytes, length_codec}
use Rattle.rc_schema.specs.SchemaValue.{SchemaValue}
use Rattle.rc_schema.specs.SchemaText.{schema_text, schema_of}
use Rattle.rc_schema.specs.laws.SchemaTexts.{text_reads_back, read_is_the_text, read_is_within}
use Rattle.rc_items.specs.Reading.{Starts}
use Rattle.rc_items.specs.calls.Reading.{text_code, HasText}

pub length_of_length : (n : ℕ) → length (length_code n) ≡ 2
unfolding length_code
length_of_length n = refl

-- what bytes that begin with a schema's text are read as
read_length : (bytes : List ℕ) (z : SchemaValue) (more : List ℕ) → HasText z → bytes ≡ text_code z ++ more → parse_length bytes ≡ Some (length (schema_text z), schema_text z ++ more)
read_length bytes z more h e =
    ap parse_length (e ∙ append_assoc (length_code (length (schema_text z))) (schema_text z) more) ∙ length_codec.again (length (schema_text z)) (schema_text z ++ more) h.1

pub no_length : (bytes : List ℕ) → parse_length bytes ≡ None → Starts text_code HasText bytes None
no_length bytes h = λ z more is e. none-some _ (sym h ∙ read_length bytes z more is e)

pub too_short : (bytes rest : List ℕ) (len : ℕ) → parse_length bytes ≡ Some (len, rest) → length rest < len → Starts text_code HasText bytes None
too_short bytes rest len h short = λ z more is e.
    let same = some_pair_parts _ _ _ _ (sym h ∙ read_length bytes z more is e) in
    absurd (let r : length rest ≡ length (schema_text z) + length more = ap length same.1 ∙ length-append (schema_text z) more in omega (arith, same.0, r, short))

pub no_schema : (bytes rest : List ℕ) (len : ℕ) → parse_length bytes ≡ Some (len, rest) → schema_of (take len rest) ≡ None → Starts text_code HasText bytes None
no_schema bytes rest len h none = λ z more is e.
    let same = some_pair_parts _ _ _ _ (sym h ∙ read_length bytes z more is e) in
    let front : take len rest ≡ schema_text z = (λ i. take (same.0 i) (same.1 i)) ∙ take_at (schema_text z) more (length (schema_text z)) refl in
    none-some z (sym none ∙ ap schema_of front ∙ text_reads_back z is.0)

pub schema_there : (bytes rest : List ℕ) (len : ℕ) (z : SchemaValue) → IsBytes bytes → parse_length bytes ≡ Some (len, rest) → len ≤ length rest → schema_of (take len rest) ≡ Some z → Starts text_code HasText bytes (Some (z, 2 + len))
schema_there bytes rest len z fits h enough is =
    let t = length_codec.took bytes (len, rest) fits h in
    let front : schema_text z ≡ take len rest = read_is_the_text (take len rest) z is in
    let size : length (schema_text z) ≡ len = ap length front ∙ length-take-le len rest enough in
    let code : length_code (length (schema_text z)) ≡ length_code len = ap length_code size in
    let two : length (length_code len) ≡ 2 = length_of_length len in
    let parts : bytes ≡ text_code z ++ drop len rest =
    t.parts ∙ ap (λ r. length_code len ++ r) (sym (take-append-drop len rest)) ∙ sym (append_assoc (length_code len) (take len rest) (drop len rest))
    ∙ (λ i. (sym code i ++ sym front i) ++ drop len rest) in
    let whole : 2 + len ≡ length (text_code z) = omega (arith, two, size, ap length code, length-append (length_code (length (schema_text z))) (schema_text z)) in
    ((read_is_within (take len rest) z is, omega (arith, size, t.fits)), parts ∙ ap (λ d. text_code z ++ d) (sym (drop_at (text_code z) (drop len rest) (2 + len) (sym whole)) ∙ ap (drop (2 + len)) (sym parts)), whole)

pub text_within : (bytes rest : List ℕ) (len : ℕ) → IsBytes bytes → parse_length bytes ≡ Some (len, rest) → len ≤ length rest → 2 + len ≤ length bytes
text_within bytes rest len fits h enough =
    let t = length_codec.took bytes (len, rest) fits h in
    omega (arith, ap length t.parts, length-append (length_code len) rest, length_of_length len, enough)

-- a schema's text with its length decides the schema
pub one_schema : (z o : SchemaValue) (m k : List ℕ) → HasText z → HasText o → text_code z ++ m ≡ text_code o ++ k → z ≡ o
one_schema z o m k hz ho e =
    let same = some_pair_parts _ _ _ _ (sym (read_length (text_code z ++ m) z m hz refl) ∙ read_length (text_code z ++ m) o k ho e) in
    let text : schema_text z ≡ schema_text o = sym (take_at (schema_text z) m (length (schema_text z)) refl) ∙ (λ i. take (same.0 i) (same.1 i)) ∙ take_at (schema_text o) k (length (schema_text o)) refl in
    let back : Some z ≡ Some o = sym (text_reads_back z hz.0) ∙ ap schema_of text ∙ text_reads_back o ho.0 in
    cc
