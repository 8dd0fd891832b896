-- What cells spell reads back, and where their bytes lie.
use Rattle.std.proofs.Common.{◌≡◌, ℕ, zero, suc, ◌+◌, ◌-◌, ◌^◌, ◌<◌, ◌≤◌, List, [], ◌∷◌, ◌++◌, length, take, drop, replicate, Option, Some, None, refl, sym, ap, subst, ◌∙◌, arith, length-append}
use Rattle.std.specs.List.{All}
use Rattle.std.proofs.lemmas.List.{append_assoc, length-replicate, take_at, drop_at}
use Rattle.std.proofs.lemmas.List.Elements.{All-head, All-tail}
use Rattle.lsa_kinds.specs.declared.kind.Kind.{Kind}
use Rattle.lsa_kinds.specs.declared.kind.Kind.TheVariants.{Version, RowEntry, Dummy, Static}
use Rattle.lsa_kinds.specs.Fields.{number, number_at}
use Rattle.lsa_kinds.specs.laws.Fields.{number-spelled, length-spelled}
use Rattle.lsa_yard.specs.Cells.{Cell, size_of, extent}
use Rattle.lsa_kinds.specs.Kinds.{up8}
use Rattle.lsa_yard.specs.Spelled.{mark_of, kind_numbered, size_field, spell, spells, cells_from, cells_in, IsProper, IsSpelled}

-- ---- sizes

pub size-least : (c : Cell) → 8 + length c.rest ≤ size_of c
size-least c = omega arith

pub length-size_field : (n : ℕ) → length (size_field n) ≡ 4
unfolding size_field
length-size_field n = length-spelled 4 n

pub number-size_field : (n : ℕ) → n < 2 ^ 32 → number (size_field n) ≡ n
unfolding size_field
number-size_field n short = number-spelled 4 n short

pub length-spell : (c : Cell) → length (spell c) ≡ size_of c
length-spell c =
    let zeros : List ℕ = replicate (size_of c - (8 + length c.rest)) 0 in
    omega (
      arith,
      size-least c,
      length-append (size_field (8 + length c.rest)) (c.rest ++ zeros),
      length-size_field (8 + length c.rest),
      length-append c.rest zeros,
      length-replicate {A = ℕ} (size_of c - (8 + length c.rest)) 0,
    )

pub length-spells : (cells : List Cell) → length (spells cells) ≡ extent cells
length-spells [] = refl
length-spells (c ∷ cells) = omega (arith, length-append (spell c) (spells cells), length-spell c, length-spells cells)

pub spells-append : (front back : List Cell) → spells (front ++ back) ≡ spells front ++ spells back
spells-append [] back = refl
spells-append (c ∷ front) back = ap (λ l. spell c ++ l) (spells-append front back) ∙ sym (append_assoc (spell c) (spells front) (spells back))

pub extent-append : (front back : List Cell) → extent (front ++ back) ≡ extent front + extent back
extent-append [] back = omega arith
extent-append (c ∷ front) back = omega (arith, extent-append front back)

-- ---- reading

pub kind-mark : (kind : Option Kind) → kind_numbered (mark_of kind) ≡ kind
kind-mark None = refl
kind-mark (Some Version) = refl
kind-mark (Some RowEntry) = refl
kind-mark (Some Dummy) = refl
kind-mark (Some Static) = refl

-- a header's size, and what stands behind the header
pub size-read : (len : ℕ) (rest : List ℕ) → len < 2 ^ 32 → number (take 4 (size_field len ++ rest)) ≡ len
size-read len rest short = ap number (take_at (size_field len) rest 4 (length-size_field len)) ∙ number-size_field len short

-- a cell that is read from its spelling, whatever stands behind it
cell-read : (c : Cell) (more : List ℕ) (size : ℕ) → size ≡ 8 + length c.rest → take (size - 8) (drop 4 (size_field (8 + length c.rest) ++ (c.rest ++ more))) ≡ c.rest
cell-read c more size e =
    ap (take (size - 8)) (drop_at (size_field (8 + length c.rest)) (c.rest ++ more) 4 (length-size_field (8 + length c.rest))) ∙ take_at c.rest more (size - 8) (omega arith)

pub cells_from-spells : (cells : List Cell) (n : ℕ) → length (spells cells) ≤ n → All IsProper cells → cells_from n (spells cells) ≡ cells
cells_from-spells [] zero enough proper = refl
cells_from-spells [] (suc n) enough proper = refl
cells_from-spells (c ∷ cells) zero enough proper = absurd (omega (arith, length-append (spell c) (spells cells), length-spell c, size-least c))
cells_from-spells (c ∷ cells) (suc n) enough proper =
    let p = All-head IsProper c cells proper in let len = 8 + length c.rest in
    let pad : List ℕ = replicate (size_of c - len) 0 in let more : List ℕ = spells cells in let field : List ℕ = size_field len in
    let tail : List ℕ = 0 ∷ 0 ∷ 0 ∷ ((field ++ (c.rest ++ pad)) ++ more) in
    let joined : (field ++ (c.rest ++ pad)) ++ more ≡ field ++ (c.rest ++ (pad ++ more)) =
    append_assoc field (c.rest ++ pad) more ∙ ap (λ l. field ++ l) (append_assoc c.rest pad more) in
    let told : number_at 3 4 tail ≡ len = ap (λ l. number (take 4 l)) joined ∙ size-read len (c.rest ++ (pad ++ more)) p.short in
    let rest : take (number_at 3 4 tail - 8) (drop 7 tail) ≡ c.rest = ap (λ l. take (number_at 3 4 tail - 8) (drop 4 l)) joined ∙ cell-read c (pad ++ more) (number_at 3 4 tail) told in
    let next : suc (up8 (number_at 3 4 tail) - 1) ≡ size_of c = omega (arith, told, size-least c) in
    let behind : drop (up8 (number_at 3 4 tail) - 1) tail ≡ more = ap (λ k. drop k (spell c ++ more)) next ∙ drop_at (spell c) more (size_of c) (length-spell c) in
    let left : length more ≤ n = omega (arith, length-append (spell c) more, length-spell c, size-least c) in
    let head : ◌≡◌ {A = Cell} (record { kind = kind_numbered (mark_of c.kind); rest = take (number_at 3 4 tail - 8) (drop 7 tail) }) c =
    ap (λ k. record { kind = k; rest = take (number_at 3 4 tail - 8) (drop 7 tail) }) (kind-mark c.kind) ∙ ap (λ r. record { kind = c.kind; rest = r }) rest in
    ap (λ d. d ∷ cells_from n (drop (up8 (number_at 3 4 tail) - 1) tail)) head
    ∙ ap (λ l. c ∷ cells_from n l) behind ∙ ap (λ l. c ∷ l) (cells_from-spells cells n left (All-tail IsProper c cells proper))

-- what cells spell reads back
pub cells_in-spells : (cells : List Cell) → All IsProper cells → cells_in (spells cells) ≡ cells
cells_in-spells cells proper = cells_from-spells cells (length (spells cells)) (omega arith) proper

-- bytes that cells spell are those of a yard, in which these cells stand
pub spelled_by : (size : ℕ) (bytes : List ℕ) (cells : List Cell) → bytes ≡ spells cells → All IsProper cells → extent cells ≤ size → size ≤ 2 ^ 27
    → IsSpelled size bytes × (cells_in bytes ≡ cells)
spelled_by size bytes cells e proper within small =
    let seen : cells_in bytes ≡ cells = ap cells_in e ∙ cells_in-spells cells proper in (
      record {
        whole = e ∙ ap spells (sym seen);
        proper = subst (All IsProper) (sym seen) proper;
        within = omega (arith, ap length e, length-spells cells);
        small = small;
      },
      seen,
    )
