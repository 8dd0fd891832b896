-- Places that are written.
use Rattle.std.proofs.Common.{◌≡◌, ℕ, ◌+◌, ◌-◌, ◌<◌, ◌≤◌, ◌⊎◌, inl, inr, List, [], ◌∷◌, ◌++◌, length, get_or, set, take, drop, map, Option, Some, None, refl, sym, ap, ◌∙◌, arith, length-append, length-take, length-drop}
use Rattle.std.proofs.lemmas.List.{length-map, map-append, append_assoc, take-append-le, drop-append-le, take_at, drop_at, set_at, drop_more, take_more, drop-drop, drop-take, take-take, take-map, drop-map, length-take-le}
use Rattle.circular_buffer.specs.Places.{somes, IsRun}
use Rattle.lsa_segment.specs.calls.Places.{written_places}

abbrev pub some : ℕ → Option ℕ
some x = Some x

pub somes-map : (xs : List ℕ) → somes (map some xs) ≡ xs
somes-map [] = refl
somes-map (x ∷ xs) = ap (λ l. x ∷ l) (somes-map xs)

pub map-some : (xs ys : List ℕ) → map some xs ≡ map some ys → xs ≡ ys
map-some xs ys e = sym (somes-map xs) ∙ ap somes e ∙ somes-map ys

pub length-written : (places : List (Option ℕ)) (from : ℕ) (bytes : List ℕ) → from + length bytes ≤ length places → length (written_places places from bytes) ≡ length places
length-written places from bytes inside =
    let rest = drop (from + length bytes) places in
    omega (arith, length-append (take from places) (map some bytes ++ rest), length-append (map some bytes) rest, length-map bytes some, length-take from places, length-drop (from + length bytes) places)

-- one byte more
pub one_more : (places : List (Option ℕ)) (from : ℕ) (bytes : List ℕ) (byte at : ℕ) → at ≡ from + length bytes → at < length places
    → set (written_places places from bytes) at (Some byte) ≡ written_places places from (bytes ++ byte ∷ [])
one_more places from bytes byte at e less =
    let front = take from places in let middle : List (Option ℕ) = map some bytes in let behind = drop (at + 1) places in let there = get_or places at None in
    let long : length (front ++ middle) ≡ at = omega (arith, length-append front middle, length-map bytes some, length-take from places) in
    let next : at + 1 ≡ from + length (bytes ++ byte ∷ []) = omega (arith, length-append bytes (byte ∷ [])) in
    let is : written_places places from bytes ≡ (front ++ middle) ++ there ∷ behind =
    ap (λ k. front ++ (middle ++ drop k places)) (sym e) ∙ ap (λ l. front ++ (middle ++ l)) (drop_more places at None less) ∙ sym (append_assoc front middle (there ∷ behind)) in
    ap (λ l. set l at (Some byte)) is ∙ set_at (front ++ middle) there behind (Some byte) at long ∙ append_assoc front middle (Some byte ∷ behind)
    ∙ ap (λ l. front ++ l) (sym (append_assoc middle (Some byte ∷ []) behind)) ∙ ap (λ l. front ++ (l ++ behind)) (sym (map-append some bytes (byte ∷ [])))
    ∙ ap (λ k. front ++ (map some (bytes ++ byte ∷ []) ++ drop k places)) next

-- the next byte of those that are to be written
pub next_byte : (places : List (Option ℕ)) (from : ℕ) (bytes : List ℕ) (i byte : ℕ) → from + length bytes ≤ length places → i < length bytes → byte ≡ get_or bytes i 0
    → set (written_places places from (take i bytes)) (from + i) (Some byte) ≡ written_places places from (take (i + 1) bytes)
next_byte places from bytes i byte inside more e =
    let long : from + i ≡ from + length (take i bytes) = omega (arith, length-take i bytes) in
    one_more places from (take i bytes) byte (from + i) long (omega arith) ∙ ap (λ b. written_places places from (take i bytes ++ b ∷ [])) e ∙ ap (written_places places from) (sym (take_more bytes i 0 more))

-- what lies apart from the written places
pub outside : (places : List (Option ℕ)) (at : ℕ) (bytes : List ℕ) (from len : ℕ) → at + length bytes ≤ length places → (from + len ≤ at) ⊎ (at + length bytes ≤ from)
    → take len (drop from (written_places places at bytes)) ≡ take len (drop from places)
outside places at bytes from len inside (inl le) =
    let front = take at places in let rest = map some bytes ++ drop (at + length bytes) places in let more = at - from in
    let long : length front ≡ at = length-take-le at places (omega arith) in
    let whole : at ≡ from + more = omega arith in
    let part : drop from front ≡ take more (drop from places) = ap (λ k. drop from (take k places)) whole ∙ drop-take from more places in
    ap (take len) (drop-append-le from front rest (omega (arith, long))) ∙ take-append-le len (drop from front) rest (omega (arith, long, length-drop from front))
    ∙ ap (take len) part ∙ take-take len more (drop from places) (omega arith)
outside places at bytes from len inside (inr le) =
    let front = take at places in let middle : List (Option ℕ) = map some bytes in let end = at + length bytes in let rest = drop end places in let more = from - end in
    let whole : from ≡ end + more = omega arith in
    let long : length (front ++ middle) ≡ end = omega (arith, length-append front middle, length-map bytes some, length-take at places) in
    let behind : drop end (written_places places at bytes) ≡ rest = ap (drop end) (sym (append_assoc front middle rest)) ∙ drop_at (front ++ middle) rest end long in
    ap (λ k. take len (drop k (written_places places at bytes))) whole ∙ ap (take len) (sym (drop-drop more end (written_places places at bytes))) ∙ ap (λ l. take len (drop more l)) behind
    ∙ ap (take len) (drop-drop more end places) ∙ ap (λ k. take len (drop k places)) (sym whole)

pub middle-written : (places : List (Option ℕ)) (at : ℕ) (bytes : List ℕ) → at ≤ length places → take (length bytes) (drop at (written_places places at bytes)) ≡ map some bytes
middle-written places at bytes le =
    let rest = drop (at + length bytes) places in
    ap (take (length bytes)) (drop_at (take at places) (map some bytes ++ rest) at (length-take-le at places le)) ∙ take_at (map some bytes) rest (length bytes) (length-map bytes some)

-- a part of set places
pub run-part : (places : List (Option ℕ)) (from len : ℕ) (xs : List ℕ) (i n : ℕ) → take len (drop from places) ≡ map some xs → i + n ≤ len
    → take n (drop (from + i) places) ≡ map some (take n (drop i xs))
run-part places from len xs i n is inside =
    ap (take n) (sym (drop-drop i from places)) ∙ sym (drop-take i n (drop from places)) ∙ ap (drop i) (sym (take-take (i + n) len (drop from places) inside))
    ∙ ap (λ l. drop i (take (i + n) l)) is ∙ ap (drop i) (take-map some (i + n) xs) ∙ drop-map some i (take (i + n) xs) ∙ ap (map some) (drop-take i n xs)

pub run-long : (places : List (Option ℕ)) (from len : ℕ) (xs : List ℕ) → take len (drop from places) ≡ map some xs → from + len ≤ length places → length xs ≡ len
run-long places from len xs is inside = omega (arith, ap length is, length-map xs some, length-take len (drop from places), length-drop from places)

-- ---- a copy within the places

pub record IsCopying (old now : List (Option ℕ)) (from to i : ℕ) (xs : List ℕ) : Type 0 where
  pub near : from + i + 1 ≤ length now
  pub read : take 1 (drop (from + i) now) ≡ map some (get_or xs i 0 ∷ [])
  pub far : to + i < length now
  pub less : i < length xs
  pub fits : to + length xs ≤ length old

pub copying : (old now : List (Option ℕ)) (from len to i : ℕ) → IsRun old from len → to + len ≤ length old → (from + len ≤ to) ⊎ (to + len ≤ from) → i < len
    → now ≡ written_places old to (take i (somes (take len (drop from old)))) → IsCopying old now from to i (somes (take len (drop from old)))
copying old now from len to i run fits clear more e =
    let xs = somes (take len (drop from old)) in let is : take len (drop from old) ≡ map some xs = run.1.1 ∙ ap (map some) (sym (ap somes run.1.1 ∙ somes-map run.1.0)) in
    let long = run-long old from len xs is run.0 in let done = take i xs in let count : length done ≡ i = omega (arith, length-take i xs, long) in
    let inside : to + length done ≤ length old = omega (arith, count) in let same : length now ≡ length old = ap length e ∙ length-written old to done inside in
    let beside : (from + i + 1 ≤ to) ⊎ (to + length done ≤ from + i) = elim clear [ inl le ↦ inl (omega arith) | inr le ↦ inr (omega (arith, count)) ] in
    record {
      near = omega (arith, same, run.0);
      read = ap (λ l. take 1 (drop (from + i) l)) e ∙ outside old to done (from + i) 1 inside beside ∙ run-part old from len xs i 1 is (omega arith)
          ∙ ap (λ l. map some (take 1 l)) (drop_more xs i 0 (omega (arith, long)));
      far = omega (arith, same);
      less = omega (arith, long);
      fits = omega (arith, long);
    }

pub run-count : (places : List (Option ℕ)) (from len : ℕ) → IsRun places from len → length (somes (take len (drop from places))) ≡ len
run-count places from len run = ap (λ l. length (somes l)) run.1.1 ∙ ap length (somes-map run.1.0) ∙ run-long places from len run.1.0 run.1.1 run.0
