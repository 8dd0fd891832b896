-- The used bytes of equal parts of a block.
use Rattle.std.proofs.Common.{◌≡◌, ◌≢◌, ℕ, zero, suc, ◌+◌, ◌-◌, ◌*◌, ◌^◌, ◌<◌, ◌≤◌, ◌⊎◌, inl, inr, List, [], ◌∷◌, ◌++◌, length, get_or, set, take, drop, map, replicate, Option, refl, sym, ap, subst, ◌∙◌, arith, length-append, length-drop, length-set}
use Rattle.std.proofs.Math.Seq.{take-add}
use Rattle.std.proofs.lemmas.Bool.{cases_eq, cases_lt}
use Rattle.std.proofs.lemmas.Nat.{row_fits, mul-le}
use Rattle.std.proofs.lemmas.List.{length-map, length-replicate, map-append, append_assoc, take_at, take_all, drop-append-le, drop-drop, drop-take, take-take, take-map, get_or-set_same, get_or-set_other, get_or-replicate, get_or_past, set-get_or, ext_get_or, length-take-le, get_or_read}
use Rattle.circular_buffer.specs.Places.{somes}
use Rattle.lsa_segment.specs.Bytes.{part, overwritten}
use Rattle.lsa_segment.specs.Places.{used_places, used_bytes, AreLaid}
use Rattle.lsa_segment.specs.calls.Places.{written_places}
use Rattle.lsa_segment.proofs.Written.{some, somes-map, length-written, outside, middle-written, run-part, run-long}

pub length-used_bytes : (size : ℕ) (used : List ℕ) (places : List (Option ℕ)) → length (used_bytes size used places) ≡ length used
length-used_bytes size [] places = refl
length-used_bytes size (count ∷ more) places = ap (λ k. suc k) (length-used_bytes size more (drop size places))

pub bytes_at : (size : ℕ) (used : List ℕ) (places : List (Option ℕ)) (n : ℕ) → get_or (used_bytes size used places) n [] ≡ somes (used_places size used places n)
bytes_at size [] places n = refl
bytes_at size (count ∷ more) places zero = let none : 0 * size ≡ 0 = omega arith in ap (λ k. somes (take count (drop k places))) (sym none)
bytes_at size (count ∷ more) places (suc n) =
    let next : size + n * size ≡ suc n * size = omega arith in
    bytes_at size more (drop size places) n ∙ ap (λ l. somes (take (get_or more n 0) l)) (drop-drop (n * size) size places ∙ ap (λ k. drop k places) next)

-- ---- what is known of a segment

pub record IsSegment (size : ℕ) (places : List (Option ℕ)) (n count : ℕ) (bytes : List ℕ) : Type 0 where
  pub set : take count (drop (n * size) places) ≡ map some bytes
  pub long : length bytes ≡ count
  pub most : count ≤ size
  pub inside : n * size + size ≤ length places
  pub far : length places ≤ 2 ^ 39

-- how far a block of so many segments reaches
pub reach : (size count : ℕ) → count ≤ 4096 → size ≤ 2 ^ 27 → count * size ≤ 2 ^ 39
reach size count few small = let all : count * size ≤ 4096 * size = omega (arith, mul-le count size 4096 size few (omega arith)) in omega arith

pub segment : (size : ℕ) (used : List ℕ) (places : List (Option ℕ)) (all : List (List ℕ)) (n : ℕ) → AreLaid size used places → used_bytes size used places ≡ all → n < length all
    → IsSegment size places n (get_or used n 0) (get_or all n [])
segment size used places all n h e less =
    let count = get_or used n 0 in let there : n < length used = omega (arith, ap length e, length-used_bytes size used places) in
    let inside : n * size + size ≤ length places = omega (arith, row_fits n size (length used) size there (omega arith), h.total) in
    let is : get_or all n [] ≡ somes (used_places size used places n) = ap (λ l. get_or l n []) (sym e) ∙ bytes_at size used places n in
    let set : take count (drop (n * size) places) ≡ map some (get_or all n []) = h.set n ∙ ap (map some) (sym is) in
    record {
      set = set;
      long = run-long places (n * size) count (get_or all n []) set (omega (arith, h.most n));
      most = h.most n;
      inside = inside;
      far = omega (arith, h.total, reach size (length used) h.few h.small);
    }

pub known-used : (size : ℕ) (used : List ℕ) (places : List (Option ℕ)) (all : List (List ℕ)) → used_bytes size used places ≡ all → length used ≡ length all
known-used size used places all e = sym (length-used_bytes size used places) ∙ ap length e

pub lent : (size : ℕ) (places : List (Option ℕ)) (n count : ℕ) (bytes : List ℕ) (offset len : ℕ) → IsSegment size places n count bytes → offset + len ≤ length bytes
    → (n * size + offset + len ≤ length places) × (take len (drop (n * size + offset) places) ≡ map some (part offset len bytes))
lent size places n count bytes offset len s inside =
    (omega (arith, s.long, s.most, s.inside), run-part places (n * size) count bytes offset len s.set (omega (arith, s.long)))

-- ---- changes

-- the places of the other segments are as they were
abbrev pub AreApart : ℕ → List (Option ℕ) → List (Option ℕ) → ℕ → Type 0
AreApart size places places' n = (m : ℕ) → m ≢ n → (count : ℕ) → count ≤ size → take count (drop (m * size) places') ≡ take count (drop (m * size) places)

pub apart : (size : ℕ) (places : List (Option ℕ)) (n k : ℕ) (new : List ℕ) → n * size + size ≤ length places → k + length new ≤ size → AreApart size places (written_places places (n * size + k) new) n
apart size places n k new inside fits m ne count most =
    outside places (n * size + k) new (m * size) count (omega arith)
    (elim (cases_lt m n) [ inl lt ↦ inl (omega (arith, row_fits m size n size lt (omega arith))) | inr le ↦ let lt : n < m = omega (arith, ne) in inr (omega (arith, row_fits n size m size lt (omega arith))) ])

places-now : (size : ℕ) (used : List ℕ) (places places' : List (Option ℕ)) (n count : ℕ) (bytes : List ℕ) (m : ℕ) → AreLaid size used places → n < length used → AreApart size places places' n
    → take count (drop (n * size) places') ≡ map some bytes → used_places size (set used n count) places' m ≡ map some (get_or (set (used_bytes size used places) n bytes) m [])
places-now size used places places' n count bytes m h less others is =
    elim (cases_eq m n) [
      | inl same ↦
          let counted : get_or (set used n count) m 0 ≡ count = ap (λ k. get_or (set used n count) k 0) same ∙ get_or-set_same used n count 0 less in
          let there : n < length (used_bytes size used places) = omega (arith, length-used_bytes size used places) in
          let now : get_or (set (used_bytes size used places) n bytes) m [] ≡ bytes = ap (λ k. get_or (set (used_bytes size used places) n bytes) k []) same ∙ get_or-set_same (used_bytes size used places) n bytes [] there in
          ap (λ k. take k (drop (m * size) places')) counted ∙ ap (λ k. take count (drop (k * size) places')) same ∙ is ∙ ap (map some) (sym now)
      | inr ne ↦
          ap (λ k. take k (drop (m * size) places')) (get_or-set_other used n m count 0 ne) ∙ others m ne (get_or used m 0) (h.most m) ∙ h.set m
          ∙ ap (map some) (sym (bytes_at size used places m)) ∙ ap (map some) (sym (get_or-set_other (used_bytes size used places) n m bytes [] ne))
    ]

most-now : (size : ℕ) (used : List ℕ) (n count m : ℕ) → ((k : ℕ) → get_or used k 0 ≤ size) → n < length used → count ≤ size → get_or (set used n count) m 0 ≤ size
most-now size used n count m most less fits =
    elim (cases_eq m n) [
      | inl same ↦ let e : get_or (set used n count) m 0 ≡ count = ap (λ k. get_or (set used n count) k 0) same ∙ get_or-set_same used n count 0 less in omega (arith, e)
      | inr ne ↦ omega (arith, get_or-set_other used n m count 0 ne, most m)
    ]

pub changed : (size : ℕ) (used : List ℕ) (places places' : List (Option ℕ)) (all : List (List ℕ)) (n count : ℕ) (bytes : List ℕ) → AreLaid size used places → used_bytes size used places ≡ all → n < length all
    → length places' ≡ length places → AreApart size places places' n → count ≤ size → take count (drop (n * size) places') ≡ map some bytes
    → AreLaid size (set used n count) places' × (used_bytes size (set used n count) places' ≡ set all n bytes)
changed size used places places' all n count bytes h e less long others fits is =
    let there : n < length used = omega (arith, known-used size used places all e) in
    let now = λ (m : ℕ). places-now size used places places' n count bytes m h there others is in
    let seen = λ (m : ℕ). now m ∙ ap (map some) (sym (somes-map (get_or (set (used_bytes size used places) n bytes) m []))) in
    let same = λ (m : ℕ). bytes_at size (set used n count) places' m ∙ ap somes (now m) ∙ somes-map (get_or (set (used_bytes size used places) n bytes) m []) in (
      record {
        total = long ∙ h.total ∙ ap (λ k. k * size) (sym (length-set used n count));
        most = λ m. most-now size used n count m h.most there fits;
        set = λ m. now m ∙ ap (map some) (sym (ap somes (now m) ∙ somes-map (get_or (set (used_bytes size used places) n bytes) m [])));
        few = omega (arith, h.few, length-set used n count);
        small = h.small;
      },
      ext_get_or [] (used_bytes size (set used n count) places') (set (used_bytes size used places) n bytes)
          (length-used_bytes size (set used n count) places' ∙ length-set used n count ∙ sym (length-set (used_bytes size used places) n bytes ∙ length-used_bytes size used places)) (λ m lt. same m)
          ∙ ap (λ l. set l n bytes) e,
    )

-- bytes behind those of a segment
pub appended : (size : ℕ) (used : List ℕ) (places : List (Option ℕ)) (all : List (List ℕ)) (n : ℕ) (new : List ℕ) → AreLaid size used places → used_bytes size used places ≡ all → n < length all
    → length (get_or all n []) + length new ≤ size
    → let count = get_or used n 0 in AreLaid size (set used n (count + length new)) (written_places places (n * size + count) new)
    × (used_bytes size (set used n (count + length new)) (written_places places (n * size + count) new) ≡ set all n (get_or all n [] ++ new))
appended size used places all n new h e less fits =
    let count = get_or used n 0 in let bytes = get_or all n [] in let s = segment size used places all n h e less in let at = n * size + count in
    let front = take at places in let middle : List (Option ℕ) = map some new in let rest = drop (at + length new) places in
    let inside : at + length new ≤ length places = omega (arith, s.long, s.inside) in
    let long : length (take at places) ≡ at = length-take-le at places (omega arith) in
    let start : drop (n * size) front ≡ map some bytes = drop-take (n * size) count places ∙ s.set in
    let total : length (map some bytes ++ middle) ≡ count + length new = omega (arith, length-append (map some bytes) middle, length-map bytes some, length-map new some, s.long) in
    let is : take (count + length new) (drop (n * size) (written_places places at new)) ≡ map some (bytes ++ new) =
    ap (take (count + length new)) (drop-append-le (n * size) front (middle ++ rest) (omega (arith, long)) ∙ ap (λ l. l ++ (middle ++ rest)) start ∙ sym (append_assoc (map some bytes) middle rest))
    ∙ take_at (map some bytes ++ middle) rest (count + length new) total ∙ sym (map-append some bytes new) in
    changed size used places (written_places places at new) all n (count + length new) (bytes ++ new) h e less (length-written places at new inside)
    (apart size places n count new s.inside (omega (arith, s.long))) (omega (arith, s.long)) is

-- bytes over those of a segment
pub replaced : (size : ℕ) (used : List ℕ) (places : List (Option ℕ)) (all : List (List ℕ)) (n offset : ℕ) (new : List ℕ) → AreLaid size used places → used_bytes size used places ≡ all → n < length all
    → offset + length new ≤ length (get_or all n [])
    → AreLaid size used (written_places places (n * size + offset) new) × (used_bytes size used (written_places places (n * size + offset) new) ≡ set all n (overwritten (get_or all n []) offset new))
replaced size used places all n offset new h e less fits =
    let count = get_or used n 0 in let bytes = get_or all n [] in let s = segment size used places all n h e less in let base = n * size in let at = base + offset in
    let l = length new in let r = count - (offset + l) in let places' = written_places places at new in
    let inside : at + l ≤ length places = omega (arith, s.long, s.most, s.inside) in
    let whole : count ≡ offset + (l + r) = omega (arith, s.long) in
    let far : at + l ≡ base + (offset + l) = omega arith in let all_of : take r (drop (offset + l) bytes) ≡ drop (offset + l) bytes = take_all r (drop (offset + l) bytes) (omega (arith, length-drop (offset + l) bytes, s.long)) in
    let start : take offset (drop base places') ≡ map some (take offset bytes) =
    outside places at new base offset inside (inl (omega arith)) ∙ sym (take-take offset count (drop base places) (omega (arith, s.long))) ∙ ap (take offset) s.set ∙ take-map some offset bytes in
    let end : take r (drop (at + l) places') ≡ map some (drop (offset + l) bytes) =
    outside places at new (at + l) r inside (inr (omega arith)) ∙ ap (λ k. take r (drop k places)) far ∙ run-part places base count bytes (offset + l) r s.set (omega arith) ∙ ap (map some) all_of in
    let middle = middle-written places at new (omega arith) in
    let is : take count (drop base places') ≡ map some (overwritten bytes offset new) =
    ap (λ k. take k (drop base places')) whole ∙ take-add offset (l + r) (drop base places') ∙ ap (λ x. take offset (drop base places') ++ take (l + r) x) (drop-drop offset base places')
    ∙ ap (λ x. take offset (drop base places') ++ x) (take-add l r (drop at places') ∙ ap (λ x. take l (drop at places') ++ take r x) (drop-drop l at places'))
    ∙ ap (λ x. x ++ (take l (drop at places') ++ take r (drop (at + l) places'))) start ∙ ap (λ x. map some (take offset bytes) ++ (x ++ take r (drop (at + l) places'))) middle
    ∙ ap (λ x. map some (take offset bytes) ++ (map some new ++ x)) end
    ∙ sym (map-append some (take offset bytes) (new ++ drop (offset + l) bytes) ∙ ap (λ x. map some (take offset bytes) ++ x) (map-append some new (drop (offset + l) bytes))) in
    let c = changed size used places places' all n count (overwritten bytes offset new) h e less (length-written places at new inside) (apart size places n offset new s.inside (omega (arith, s.long, s.most))) s.most is in
    let same : set used n count ≡ used = set-get_or used n 0 in
    (subst (λ u. AreLaid size u places') same c.0, sym (ap (λ u. used_bytes size u places') same) ∙ c.1)

-- no byte of a segment
pub cleared : (size : ℕ) (used : List ℕ) (places : List (Option ℕ)) (all : List (List ℕ)) (n : ℕ) → AreLaid size used places → used_bytes size used places ≡ all → n < length all
    → AreLaid size (set used n 0) places × (used_bytes size (set used n 0) places ≡ set all n [])
cleared size used places all n h e less = changed size used places places all n 0 [] h e less refl (λ m ne count most. refl) (omega arith) refl

-- at first none is used
unused : (size count : ℕ) (places : List (Option ℕ)) → used_bytes size (replicate count 0) places ≡ replicate count []
unused size zero places = refl
unused size (suc count) places = ap (λ l. [] ∷ l) (unused size count (drop size places))

none-used : (count n : ℕ) → ◌≡◌ {A = ℕ} (get_or (replicate count 0) n 0) 0
none-used count n = elim (cases_lt n count) [ inl lt ↦ get_or-replicate count n 0 0 lt | inr le ↦ get_or_past (replicate count 0) n 0 (omega (arith, length-replicate {A = ℕ} count 0)) ]

pub none_held : (size count : ℕ) (used : List ℕ) (places : List (Option ℕ)) → used ≡ replicate count 0 → length places ≡ count * size → count ≤ 4096 → size ≤ 2 ^ 27
    → AreLaid size used places × (used_bytes size used places ≡ replicate count [])
none_held size count used places e long few small =
    let none = λ (n : ℕ). ap (λ l. get_or l n 0) e ∙ none-used count n in (
      record {
        total = long ∙ ap (λ k. k * size) (sym (ap length e ∙ length-replicate {A = ℕ} count 0));
        most = λ n. omega (arith, none n);
        set = λ n. ap (λ k. take k (drop (n * size) places)) (none n) ∙ ap (λ k. map some (somes (take k (drop (n * size) places)))) (sym (none n));
        few = omega (arith, ap length e, length-replicate {A = ℕ} count 0);
        small = small;
      },
      ap (λ l. used_bytes size l places) e ∙ unused size count places,
    )

-- ---- what calls ask

pub counted : (size : ℕ) (used : List ℕ) (places : List (Option ℕ)) (all : List (List ℕ)) (n len end : ℕ) → AreLaid size used places → used_bytes size used places ≡ all → n < length all
    → len ≡ length used → end ≡ get_or used n end → (end ≡ get_or used n 0) × (end ≡ length (get_or all n [])) × (n < len)
counted size used places all n len end h e less long is =
    let s = segment size used places all n h e less in let there : n < length used = omega (arith, known-used size used places all e) in
    let at = get_or_read used n end there is 0 in (at, at ∙ sym s.long, omega (arith, long))

pub ends_apart : (size : ℕ) (places : List (Option ℕ)) (from to : ℕ) (k len end : ℕ) → from ≢ to → k + len ≤ size → end + len ≤ size → from * size + size ≤ length places → to * size + size ≤ length places
    → (from * size + k + len ≤ to * size + end) ⊎ (to * size + end + len ≤ from * size + k)
ends_apart size places from to k len end ne inside fits here there =
    elim (cases_lt from to) [
      | inl lt ↦ inl (omega (arith, row_fits from size to size lt (omega arith)))
      | inr le ↦ let lt : to < from = omega (arith, ne) in inr (omega (arith, row_fits to size from size lt (omega arith)))
    ]
