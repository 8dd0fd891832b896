-- The text of a schema is short: at most 8 and 32 names of at most 32 bytes.
use Rattle.std.proofs.Common.{◌≡◌, ℕ, ◌+◌, ◌*◌, ◌≤◌, ◌<◌, ◌^◌, Bool, true, false, refl, ◌&&◌, nat_le, List, [], ◌∷◌, ◌++◌, length, map, codes, arith, length-append}
use Rattle.std.specs.List.{AllByRecursion, list_all, join_with_byte}
use Rattle.std.proofs.lemmas.Bool.{leb-true}
use Rattle.rc_schema.specs.declared.kinds.CkKind.{CkKind}
use Rattle.rc_schema.specs.declared.kinds.CkKind.TheVariants.{Int, Text}
use Rattle.rc_schema.specs.SchemaValue.{SchemaValue, is_name, is_schema, are_few}
use Rattle.rc_schema.specs.SchemaText.{kind_text, names_text, schema_text}

-- words of at most 32 bytes
abbrev AreShort : List (List ℕ) → Type 0
AreShort words = AllByRecursion (λ word. length word ≤ 32) words

left_of : (a b : Bool) → a && b ≡ true → a ≡ true
left_of true b h = refl
left_of false b h = h

right_of : (a b : Bool) → a && b ≡ true → b ≡ true
right_of true b h = h
right_of false b h = cc

length-join : (c : ℕ) (words : List (List ℕ)) → AreShort words → length (join_with_byte c words) ≤ 33 * length words
length-join c [] h = omega arith
length-join c (word ∷ []) h = omega (arith, h.0)
length-join c (word ∷ next ∷ words) h =
    omega (arith, h.0, length-join c (next ∷ words) h.1, length-append word (c ∷ join_with_byte c (next ∷ words)))

short_name : (name : List ℕ) → is_name name ≡ true → length name ≤ 32
short_name [] h = omega arith
short_name (first ∷ rest) h = omega (arith, leb-true (length rest) 31 (left_of _ _ (right_of _ _ h)))

short_names : (names : List (List ℕ)) → list_all is_name names ≡ true → AreShort names
short_names [] h = tt
short_names (name ∷ names) h = (short_name name (left_of _ _ h), short_names names (right_of _ _ h))

names_in : (front back : List (List ℕ)) → list_all is_name (front ++ back) ≡ true → (list_all is_name front ≡ true) × (list_all is_name back ≡ true)
names_in [] back h = (refl, h)
names_in (name ∷ front) back h =
    let rest = names_in front back (right_of _ _ h) in
    let first = left_of (is_name name) _ h in (rw (first, rest.0) refl, rest.1)

length-names : (names : List (List ℕ)) → list_all is_name names ≡ true → length (names_text names) ≤ 1 + 33 * length names
length-names [] h = omega arith
length-names (name ∷ names) h = omega (arith, length-join 44 (name ∷ names) (short_names (name ∷ names) h))

short_kinds : (kinds : List CkKind) → AreShort (map kind_text kinds)
short_kinds [] = tt
short_kinds (Int ∷ kinds) = (omega arith, short_kinds kinds)
short_kinds (Text ∷ kinds) = (omega arith, short_kinds kinds)

length-map : (kinds : List CkKind) → length (map kind_text kinds) ≡ length kinds
length-map [] = refl
length-map (kind ∷ kinds) = omega (arith, length-map kinds)

length-text : (s : SchemaValue) → length s.ck ≤ 4 → length s.statics ≤ 8 → length s.cols ≤ 32
    → (list_all is_name s.statics ≡ true) × (list_all is_name s.cols ≡ true) → length (schema_text s) < 2 ^ 16
unfolding schema_text
length-text s ck statics cols names =
    omega (
      arith,
      ck,
      statics,
      cols,
      length-map s.ck,
      length-join 44 (map kind_text s.ck) (short_kinds s.ck),
      length-names s.statics names.0,
      length-names s.cols names.1,
      length-append (codes "ck=") (join_with_byte 44 (map kind_text s.ck)),
      length-append (codes "static=") (names_text s.statics),
      length-append (codes "cols=") (names_text s.cols),
      length-append (codes "ck=" ++ join_with_byte 44 (map kind_text s.ck)) (32 ∷ (codes "static=" ++ names_text s.statics) ++ 32 ∷ (codes "cols=" ++ names_text s.cols)),
      length-append (codes "static=" ++ names_text s.statics) (32 ∷ (codes "cols=" ++ names_text s.cols)),
    )

-- the text of a schema within the limits has a length in 16 bits
pub schema_text-is_short : (s : SchemaValue) → is_schema s ≡ true → length (schema_text s) < 2 ^ 16
schema_text-is_short s h =
    let few = left_of (are_few (length s.ck) (length s.statics) (length s.cols)) _ h in
    let names = names_in s.statics s.cols (left_of (list_all is_name (s.statics ++ s.cols)) _ (right_of (are_few (length s.ck) (length s.statics) (length s.cols)) _ h)) in
    let others = right_of (nat_le 1 (length s.ck) && nat_le (length s.ck) 4) _ few in
    length-text s (leb-true _ _ (right_of (nat_le 1 (length s.ck)) _ (left_of _ _ few))) (leb-true _ _ (left_of _ _ others)) (leb-true _ _ (right_of (nat_le (length s.statics) 8) _ others)) names
