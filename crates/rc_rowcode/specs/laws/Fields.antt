-- What a reader and a spelling owe each other, and that of numbers and runs of bytes.
use Rattle.std.proofs.Common.{◌≡◌, ℕ, suc, ◌+◌, ◌^◌, ◌<◌, ◌≤◌, Bool, true, false, cond, ltb, List, ◌∷◌, ◌++◌, length, get_or, take, drop, Option, Some, None, refl, sym, ap, subst, ◌∙◌, arith, inl, inr, ℤ, FitsSigned, w64}
use Rattle.std.specs.Option.{option_map, option_and_then}
use Rattle.std.specs.Int.{w16, w32, to_le_bytes, from_le_bytes, cast_signed, cast_unsigned}
use Rattle.std.proofs.Math.Facts.{sfits_to_z, Fits-of_z}
use Rattle.std.proofs.lemmas.Int.{to_z-of_z, of_z-to_z}
use Rattle.std.proofs.lemmas.Bool.{cases_lt, ltb-false, le-ltb}
use Rattle.std.proofs.lemmas.List.{take_at, drop_at, take-append-drop, length-append, length-take, get_or-drop, get_or-take, get_or_past}
use Rattle.std.proofs.lemmas.Nat.{le_bytes_2, le_bytes_4, le_bytes_8, from_le_bytes-to_le_bytes_2, from_le_bytes-to_le_bytes_4, from_le_bytes-to_le_bytes_8}
use Rattle.rc_rowcode.specs.Spelling.{stamp_code, time_code, length_code}
use Rattle.rc_rowcode.specs.calls.Reading.{Parser, parse_stamp, parse_time, parse_length, parse_bytes}

-- each element is a byte
pub record IsBytes (bytes : List ℕ) : Type 0 where
  pub byte : (i : ℕ) → get_or bytes i 0 < 256

pub bytes_behind : (n : ℕ) (bytes : List ℕ) → IsBytes bytes → IsBytes (drop n bytes)
bytes_behind n bytes h = record { byte = λ i. rw get_or-drop (h.byte (n + i)) }

pub bytes_before : (n : ℕ) (bytes : List ℕ) → IsBytes bytes → IsBytes (take n bytes)
bytes_before n bytes h = record {
  byte = λ i.
      elim (cases_lt i n) [
        | inl lt ↦ rw (get_or-take n bytes i 0 lt) (h.byte i)
        | inr le ↦ rw (get_or_past (take n bytes) i 0 (omega (arith, length-take n bytes))) (omega arith)
      ];
}

pub bytes_rest : (b : ℕ) (bytes : List ℕ) → IsBytes (b ∷ bytes) → IsBytes bytes
bytes_rest b bytes h = record { byte = λ i. h.byte (suc i) }

-- a value was taken from the front, and nothing else
pub record Took {X : Type 0} (code : X → List ℕ) (is : X → Type 0) (bytes : List ℕ) (x : X) (rest : List ℕ) : Type 0 where
  pub parts : bytes ≡ code x ++ rest
  pub left : IsBytes rest
  pub fits : is x

-- a reader reads the spellings and nothing else
pub record Codec {X : Type 0} (code : X → List ℕ) (is : X → Type 0) (read : Parser X) : Type 0 where
  pub took : (bytes : List ℕ) (x : X × List ℕ) → IsBytes bytes → read bytes ≡ Some x → Took code is bytes x.0 x.1
  pub again : (x : X) (rest : List ℕ) → is x → read (code x ++ rest) ≡ Some (x, rest)

pub bind_some : {A B : Type 0} (o : Option A) (f : A → Option B) (y : B) → option_and_then f o ≡ Some y → (x : A) × (o ≡ Some x) × (f x ≡ Some y)
bind_some (Some x) f y e = (x, refl, e)
bind_some None f y e = absurd cc

pub map_some : {A B : Type 0} (o : Option A) (f : A → B) (y : B) → option_map f o ≡ Some y → (x : A) × (o ≡ Some x) × (f x ≡ y)
map_some (Some x) f y e = (x, refl, cc)
map_some None f y e = absurd cc

pub guard_some : {A : Type 0} (b : Bool) (o : Option A) (y : A) → cond b None o ≡ Some y → (b ≡ false) × (o ≡ Some y)
guard_some true o y e = absurd cc
guard_some false o y e = (refl, e)

pub some_is : {A : Type 0} (x y : A) → Some x ≡ Some y → x ≡ y
some_is x y e = cc

-- ---- numbers

-- a time in seconds that four bytes hold
abbrev IsTime : ℕ → Type 0
IsTime n = n < 2 ^ 32

-- a length that two bytes hold
abbrev IsLength : ℕ → Type 0
IsLength n = n < 2 ^ 16

-- a timestamp that eight bytes hold
abbrev IsStamp : ℤ → Type 0
IsStamp z = FitsSigned w64 z

time_took : (bytes : List ℕ) (x : ℕ × List ℕ) → IsBytes bytes → parse_time bytes ≡ Some x → Took time_code IsTime bytes x.0 x.1
unfolding parse_time time_code
time_took bytes x fits e =
    let g = guard_some (ltb (length bytes) 4) (Some (from_le_bytes w32 (take 4 bytes), drop 4 bytes)) x e in
    let long : 4 ≤ length bytes = ltb-false _ _ g.0 in
    let front = bytes_before 4 bytes fits in
    let same : to_le_bytes w32 (from_le_bytes w32 (take 4 bytes)) ≡ take 4 bytes = le_bytes_4 (take 4 bytes) _ (omega (arith, length-take 4 bytes)) front.byte refl in
    subst (λ (y : ℕ × List ℕ). Took time_code IsTime bytes y.0 y.1) (some_is _ _ g.1)
    (record { parts = sym (take-append-drop 4 bytes) ∙ ap (λ (t : List ℕ). t ++ drop 4 bytes) (sym same); left = bytes_behind 4 bytes fits; fits = omega (arith, front.byte 0, front.byte 1, front.byte 2, front.byte 3) })

time_again : (n : ℕ) (rest : List ℕ) → n < 2 ^ 32 → parse_time (time_code n ++ rest) ≡ Some (n, rest)
unfolding parse_time time_code
time_again n rest lt = grind (arith, from_le_bytes-to_le_bytes_4 n lt)

pub time_codec : Codec time_code IsTime parse_time
time_codec = record { took = time_took; again = time_again }

length_took : (bytes : List ℕ) (x : ℕ × List ℕ) → IsBytes bytes → parse_length bytes ≡ Some x → Took length_code IsLength bytes x.0 x.1
unfolding parse_length length_code
length_took bytes x fits e =
    let g = guard_some (ltb (length bytes) 2) (Some (from_le_bytes w16 (take 2 bytes), drop 2 bytes)) x e in
    let long : 2 ≤ length bytes = ltb-false _ _ g.0 in
    let front = bytes_before 2 bytes fits in
    let same : to_le_bytes w16 (from_le_bytes w16 (take 2 bytes)) ≡ take 2 bytes = le_bytes_2 (take 2 bytes) _ (omega (arith, length-take 2 bytes)) front.byte refl in
    subst (λ (y : ℕ × List ℕ). Took length_code IsLength bytes y.0 y.1) (some_is _ _ g.1)
    (record { parts = sym (take-append-drop 2 bytes) ∙ ap (λ (t : List ℕ). t ++ drop 2 bytes) (sym same); left = bytes_behind 2 bytes fits; fits = omega (arith, front.byte 0, front.byte 1) })

length_again : (n : ℕ) (rest : List ℕ) → n < 2 ^ 16 → parse_length (length_code n ++ rest) ≡ Some (n, rest)
unfolding parse_length length_code
length_again n rest lt = grind (arith, from_le_bytes-to_le_bytes_2 n lt)

pub length_codec : Codec length_code IsLength parse_length
length_codec = record { took = length_took; again = length_again }

stamp_took : (bytes : List ℕ) (x : ℤ × List ℕ) → IsBytes bytes → parse_stamp bytes ≡ Some x → Took stamp_code IsStamp bytes x.0 x.1
unfolding parse_stamp stamp_code
stamp_took bytes x fits e =
    let n = from_le_bytes w64 (take 8 bytes) in
    let g = guard_some (ltb (length bytes) 8) (Some (cast_signed w64 n, drop 8 bytes)) x e in
    let long : 8 ≤ length bytes = ltb-false _ _ g.0 in
    let front = bytes_before 8 bytes fits in
    let below : n < 2 ^ 64 = omega (arith, front.byte 0, front.byte 1, front.byte 2, front.byte 3, front.byte 4, front.byte 5, front.byte 6, front.byte 7) in
    let same : to_le_bytes w64 n ≡ take 8 bytes = le_bytes_8 (take 8 bytes) n (omega (arith, length-take 8 bytes)) front.byte refl in
    let back : stamp_code (cast_signed w64 n) ≡ take 8 bytes = ap (to_le_bytes w64) (of_z-to_z w64 n below) ∙ same in
    subst (λ (y : ℤ × List ℕ). Took stamp_code IsStamp bytes y.0 y.1) (some_is _ _ g.1)
    (record { parts = sym (take-append-drop 8 bytes) ∙ ap (λ (t : List ℕ). t ++ drop 8 bytes) (sym back); left = bytes_behind 8 bytes fits; fits = sfits_to_z (record { fits = below }) })

-- what is read of the eight bytes that have this number, before the rest
abbrev read_as : List ℕ → ℕ → Option (ℤ × List ℕ)
read_as rest k = Some (cast_signed w64 k, rest)

stamp_front : (front rest : List ℕ) → length front ≡ 8 → parse_stamp (front ++ rest) ≡ read_as rest (from_le_bytes w64 front)
unfolding parse_stamp
stamp_front front rest len =
    let long : ltb (length (front ++ rest)) 8 ≡ false = le-ltb _ _ (omega (arith, length-append front rest)) in
    rw (long, take_at front rest 8 len, drop_at front rest 8 len) refl

stamp_number : (n : ℕ) (rest : List ℕ) → n < 2 ^ 64 → parse_stamp (to_le_bytes w64 n ++ rest) ≡ Some (cast_signed w64 n, rest)
stamp_number n rest lt = stamp_front (to_le_bytes w64 n) rest refl ∙ ap (read_as rest) (from_le_bytes-to_le_bytes_8 n lt)

stamp_again : (z : ℤ) (rest : List ℕ) → FitsSigned w64 z → parse_stamp (stamp_code z ++ rest) ≡ Some (z, rest)
unfolding stamp_code
stamp_again z rest fits = stamp_number (cast_unsigned w64 z) rest (Fits-of_z fits).fits ∙ ap (λ (y : ℤ). Some (y, rest)) (to_z-of_z w64 z fits)

pub stamp_codec : Codec stamp_code IsStamp parse_stamp
stamp_codec = record { took = stamp_took; again = stamp_again }

-- ---- so many bytes

pub bytes_took : (most n : ℕ) (bytes : List ℕ) (x : List ℕ × List ℕ) → IsBytes bytes → parse_bytes most n bytes ≡ Some x → (bytes ≡ x.0 ++ x.1) × IsBytes x.1 × (length x.0 ≡ n) × (n ≤ most)
unfolding parse_bytes
bytes_took most n bytes x fits e =
    let g = guard_some (ltb most n) (cond (ltb (length bytes) n) None (Some (take n bytes, drop n bytes))) x e in
    let h = guard_some (ltb (length bytes) n) (Some (take n bytes, drop n bytes)) x g.1 in
    let low : n ≤ most = ltb-false _ _ g.0 in
    let long : n ≤ length bytes = ltb-false _ _ h.0 in
    subst (λ (y : List ℕ × List ℕ). (bytes ≡ y.0 ++ y.1) × IsBytes y.1 × (length y.0 ≡ n) × (n ≤ most)) (some_is _ _ h.1)
    (sym (take-append-drop n bytes), bytes_behind n bytes fits, omega (arith, length-take n bytes), low)

pub bytes_again : (most : ℕ) (text rest : List ℕ) → length text ≤ most → parse_bytes most (length text) (text ++ rest) ≡ Some (text, rest)
unfolding parse_bytes
bytes_again most text rest le =
    let low : ltb most (length text) ≡ false = le-ltb _ _ le in
    let long : ltb (length (text ++ rest)) (length text) ≡ false = le-ltb _ _ (omega (arith, length-append text rest)) in
    rw (low, long, take_at text rest (length text) refl, drop_at text rest (length text) refl) refl
