-- The cells of each segment, as those of the one that a call names.
use Rattle.std.proofs.Common.{◌≡◌, ℕ, zero, suc, ◌<◌, ◌≤◌, ◌^◌, ◌+◌, ◌*◌, ◌-◌, ◌++◌, drop, inl, inr, List, [], ◌∷◌, length, get_or, set, map, replicate, Option, Some, None, refl, sym, ap, subst, ◌∙◌, arith, length-append, length-set}
use Rattle.std.specs.Prelude.{IsSome, IsSomeAnd}
use Rattle.std.proofs.lemmas.Bool.{cases_eq, cases_lt}
use Rattle.std.proofs.lemmas.List.{length-map, map-set, length-replicate, set-set, append_assoc, get_or-replicate, get_or-set_same, get_or-set_other, get_or_past}
use Rattle.lsa_kinds.specs.declared.kind.Kind.{Kind}
use Rattle.lsa_kinds.specs.Kinds.{links_of, up8}
use Rattle.lsa_segment.specs.Bytes.{overwritten}
use Rattle.lsa_yard.specs.Cells.{Cell, size_of, cell_at, body_at, extent, fresh, gap_of, IsChangedAt, IsReplaced}
use Rattle.lsa_yard.specs.Spelled.{size_field, spell, cells_in, IsSpelled, AreSpelled}
use Rattle.lsa_yard.specs.calls.Spelled.{head_of}
use Rattle.lsa_yard.specs.laws.Reading.{length-size_field}
use Rattle.lsa_yard.proofs.Readings.{IsObject, IsSeen, object-of, seen, seen-cell, linked-in, written, killed, pushed, fresh-spelling, and_some, none-stand, yard-long}

map-get : (segments : List (List ℕ)) (n : ℕ) → cells_in (get_or segments n []) ≡ get_or (map cells_in segments) n []
map-get [] n = refl
map-get (bytes ∷ more) zero = refl
map-get (bytes ∷ more) (suc n) = map-get more n

pub seen-at : (segments : List (List ℕ)) (all : List (List Cell)) (n : ℕ) → map cells_in segments ≡ all → cells_in (get_or segments n []) ≡ get_or all n []
seen-at segments all n e = map-get segments n ∙ ap (λ l. get_or l n []) e

pub counted : (segments : List (List ℕ)) (all : List (List Cell)) → map cells_in segments ≡ all → length segments ≡ length all
counted segments all e = sym (length-map segments cells_in) ∙ ap length e

-- a cell stands only in a segment that is there
pub there-at : (segments : List (List ℕ)) (all : List (List Cell)) (n offset : ℕ) → map cells_in segments ≡ all → IsSome (cell_at (get_or all n []) offset) → n < length segments
there-at segments all n offset e some =
    elim (cases_lt n (length segments)) [
      | inl lt ↦ lt
      | inr le ↦ let none : get_or all n [] ≡ [] = get_or_past all n [] (omega (arith, counted segments all e)) in let bad = subst (λ l. IsSome (cell_at l offset)) none some in cc
    ]

pub some-here : (o : Option Cell) (c : Cell) → o ≡ Some c → IsSome o
some-here o c e = subst IsSome (sym e) refl

pub spelled-now : (size : ℕ) (segments : List (List ℕ)) (n : ℕ) (bytes : List ℕ) → AreSpelled size segments → n < length segments → IsSpelled size bytes → AreSpelled size (set segments n bytes)
spelled-now size segments n bytes w less s = record {
  each = λ m. elim (cases_eq m n) [
    | inl same ↦ subst (IsSpelled size) (sym (ap (λ k. get_or (set segments n bytes) k []) same ∙ get_or-set_same segments n bytes [] less)) s
    | inr ne ↦ subst (IsSpelled size) (sym (get_or-set_other segments n m bytes [] ne)) (w.each m)
  ];
}

-- one segment has other bytes, which spell cells
pub kept : (size : ℕ) (segments segments' : List (List ℕ)) (all : List (List Cell)) (n : ℕ) (bytes : List ℕ) → AreSpelled size segments → map cells_in segments ≡ all → n < length segments
    → segments' ≡ set segments n bytes → IsSpelled size bytes → AreSpelled size segments' × (map cells_in segments' ≡ set all n (cells_in bytes))
kept size segments segments' all n bytes w e less is s = (
  subst (AreSpelled size) (sym is) (spelled-now size segments n bytes w less s),
  ap (map cells_in) is ∙ map-set cells_in segments n bytes ∙ ap (λ l. set l n (cells_in bytes)) e,
)

none-at : (count n : ℕ) → ◌≡◌ {A = List ℕ} (get_or (replicate count []) n []) []
none-at count n = elim (cases_lt n count) [ inl lt ↦ get_or-replicate {A = List ℕ} count n [] [] lt | inr le ↦ get_or_past {X = List ℕ} (replicate count []) n [] (omega (arith, length-replicate {A = List ℕ} count [])) ]

none-seen : (count : ℕ) → map cells_in (replicate count []) ≡ replicate count []
none-seen zero = refl
none-seen (suc count) = ap (λ l. [] ∷ l) (none-seen count)

pub none-stands : (size count : ℕ) (segments : List (List ℕ)) → segments ≡ replicate count [] → size ≤ 2 ^ 27 → AreSpelled size segments × (map cells_in segments ≡ replicate count [])
none-stands size count segments e small = (
  record { each = λ n. let none = ap (λ l. get_or l n []) e ∙ none-at count n in (none-stand size (get_or segments n []) none small).0 },
  ap (map cells_in) e ∙ none-seen count,
)

-- ---- what a call knows of the object or the cell that it names

pub record IsFound (segments : List (List ℕ)) (all : List (List Cell)) (n offset : ℕ) (P : Kind × List ℕ → Type 0) : Type 0 where
  pub object : IsObject (get_or all n []) offset
  pub holds : P (object.kind, drop (8 * links_of object.kind) object.cell.rest)
  pub seen : IsSeen (get_or segments n []) (get_or all n []) offset object.cell
  pub linked : 8 * links_of object.kind ≤ length object.cell.rest
  pub less : n < length segments

pub found : (size : ℕ) (segments : List (List ℕ)) (all : List (List Cell)) (n offset : ℕ) (P : Kind × List ℕ → Type 0) → AreSpelled size segments → map cells_in segments ≡ all
    → IsSomeAnd (body_at (get_or all n []) offset) P → IsFound segments all n offset P
found size segments all n offset P w e p =
    let x = object-of (get_or all n []) offset P p in let s = seen size (get_or segments n []) (get_or all n []) offset x.0.cell (w.each n) (seen-at segments all n e) x.0.here in
    record {
      object = x.0;
      holds = x.1;
      seen = s;
      linked = linked-in (get_or segments n []) (get_or all n []) offset x.0 s;
      less = there-at segments all n offset e (some-here (cell_at (get_or all n []) offset) x.0.cell x.0.here);
    }

pub some_and : (o : Option (Kind × List ℕ)) → IsSome o → IsSomeAnd o (λ b. Unit {0})
some_and None s = cc
some_and (Some b) s = tt

pub record IsCell (segments : List (List ℕ)) (all : List (List Cell)) (n offset : ℕ) : Type 0 where
  pub cell : Cell
  pub seen : IsSeen (get_or segments n []) (get_or all n []) offset cell
  pub less : n < length segments

pub found-cell : (size : ℕ) (segments : List (List ℕ)) (all : List (List Cell)) (n offset : ℕ) → AreSpelled size segments → map cells_in segments ≡ all → IsSome (cell_at (get_or all n []) offset)
    → IsCell segments all n offset
found-cell size segments all n offset w e some =
    let s = seen-cell size (get_or segments n []) (get_or all n []) offset (w.each n) (seen-at segments all n e) some in
    record { cell = s.0; seen = s.1; less = there-at segments all n offset e some }

pub long-at : (size : ℕ) (segments : List (List ℕ)) (all : List (List Cell)) (n : ℕ) → AreSpelled size segments → map cells_in segments ≡ all → length (get_or segments n []) ≡ extent (get_or all n [])
long-at size segments all n w e = yard-long size (get_or segments n []) (w.each n) ∙ ap extent (seen-at segments all n e)

-- ---- changes of one cell

pub rewritten : (size : ℕ) (segments segments' : List (List ℕ)) (all : List (List Cell)) (n offset : ℕ) (P : Kind × List ℕ → Type 0) (f : IsFound segments all n offset P) (p k : ℕ) (new : List ℕ) (change : Cell → Cell)
    → AreSpelled size segments → map cells_in segments ≡ all → p ≡ offset + (8 + k) → k + length new ≤ length f.object.cell.rest
    → change f.object.cell ≡ record f.object.cell { rest = overwritten f.object.cell.rest k new } → segments' ≡ set segments n (overwritten (get_or segments n []) p new)
    → AreSpelled size segments' × IsChangedAt all (map cells_in segments') n offset change
rewritten size segments segments' all n offset P f p k new change w e place inside same is =
    let c = f.object.cell in let cells = get_or all n [] in let bytes = get_or segments n [] in let now = overwritten bytes p new in
    let r = written size bytes now cells offset c p k new (w.each n) (seen-at segments all n e) f.object.here place inside refl in
    let whole = kept size segments segments' all n now w e f.less is r.0 in
    let replaced : IsReplaced cells (cells_in now) offset c (change c) = subst (IsReplaced cells (cells_in now) offset c) (sym same) r.1 in (
      whole.0,
      record { after = cells_in now; is = whole.1; changed = and_some (cell_at cells offset) c (λ (d : Cell). IsReplaced cells (cells_in now) offset d (change d)) f.object.here replaced },
    )

pub killed-at : (size : ℕ) (segments segments' : List (List ℕ)) (all : List (List Cell)) (n offset : ℕ) (P : Kind × List ℕ → Type 0) (f : IsFound segments all n offset P) → AreSpelled size segments → map cells_in segments ≡ all
    → segments' ≡ set segments n (overwritten (get_or segments n []) offset (0 ∷ [])) → AreSpelled size segments' × IsChangedAt all (map cells_in segments') n offset gap_of
killed-at size segments segments' all n offset P f w e is =
    let c = f.object.cell in let cells = get_or all n [] in let bytes = get_or segments n [] in let now = overwritten bytes offset (0 ∷ []) in
    let r = killed size bytes now cells offset c (w.each n) (seen-at segments all n e) f.object.here refl in
    let whole = kept size segments segments' all n now w e f.less is r.0 in (
      whole.0,
      record { after = cells_in now; is = whole.1; changed = and_some (cell_at cells offset) c (λ (d : Cell). IsReplaced cells (cells_in now) offset d (gap_of d)) f.object.here r.1 },
    )

-- ---- one cell more

-- bytes behind those of a segment that was changed before
pub more_bytes : (old mid new : List (List ℕ)) (n : ℕ) (bytes more : List ℕ) → n < length old → mid ≡ set old n bytes → new ≡ set mid n (get_or mid n [] ++ more)
    → (new ≡ set old n (bytes ++ more)) × (get_or mid n [] ≡ bytes)
more_bytes old mid new n bytes more less e is =
    let there : get_or mid n [] ≡ bytes = ap (λ l. get_or l n []) e ∙ get_or-set_same old n bytes [] less in
    (is ∙ ap (λ l. set mid n (l ++ more)) there ∙ ap (λ l. set l n (bytes ++ more)) e ∙ set-set old n bytes (bytes ++ more), there)

-- bytes behind those of a segment
pub grown : (old new : List (List ℕ)) (n : ℕ) (more : List ℕ) → n < length old → new ≡ set old n (get_or old n [] ++ more) → (n < length new) × (length (get_or new n []) ≡ length (get_or old n []) + length more)
grown old new n more less is =
    let there : get_or new n [] ≡ get_or old n [] ++ more = ap (λ l. get_or l n []) is ∙ get_or-set_same old n (get_or old n [] ++ more) [] less in
    (omega (arith, ap length is, length-set old n (get_or old n [] ++ more)), ap length there ∙ length-append (get_or old n []) more)

pub length-head : (kind : Kind) (len : ℕ) → length (head_of kind len) ≡ 8 + 8 * links_of kind
length-head kind len =
    let size = 8 + 8 * links_of kind + len in
    omega (arith, length-append (size_field size) (replicate (8 * links_of kind) 0), length-size_field size, length-replicate {A = ℕ} (8 * links_of kind) 0)

-- the three pieces of a new object: its header and links, its own bytes, and zeros
pub whole-cell : (size : ℕ) (old first second last : List (List ℕ)) (all : List (List Cell)) (n : ℕ) (kind : Kind) (bytes : List ℕ) (len : ℕ) → AreSpelled size old → map cells_in old ≡ all → n < length old
    → extent (get_or all n []) + size_of (fresh kind bytes) ≤ size → len ≡ 8 + 8 * links_of kind + length bytes
    → first ≡ set old n (get_or old n [] ++ head_of kind (length bytes)) → second ≡ set first n (get_or first n [] ++ bytes) → last ≡ set second n (get_or second n [] ++ replicate (up8 len - len) 0)
    → AreSpelled size last × (map cells_in last ≡ set all n (get_or all n [] ++ fresh kind bytes ∷ []))
whole-cell size old first second last all n kind bytes len w e less fits long a b c =
    let was = get_or old n [] in let head = head_of kind (length bytes) in let pad : List ℕ = replicate (up8 len - len) 0 in
    let two = more_bytes old first second n (was ++ head) bytes less a b in let three = more_bytes old second last n ((was ++ head) ++ bytes) pad less two.0 c in
    let now = was ++ spell (fresh kind bytes) in
    let joined : ((was ++ head) ++ bytes) ++ pad ≡ now =
    ap (λ l. l ++ pad) (append_assoc was head bytes) ∙ append_assoc was (head ++ bytes) pad ∙ ap (λ l. was ++ l) (fresh-spelling kind bytes len long) in
    let r = pushed size was now (get_or all n []) kind bytes (w.each n) (seen-at old all n e) fits refl in
    let whole = kept size old last all n now w e less (three.0 ∙ ap (set old n) joined) r.0 in (whole.0, whole.1 ∙ ap (set all n) r.1)
