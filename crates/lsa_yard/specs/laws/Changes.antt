-- Where cells begin, and what a change of one of them leaves.
use Rattle.std.proofs.Common.{◌≡◌, ◌≢◌, ℕ, zero, suc, ◌+◌, ◌-◌, ◌%◌, ◌<◌, ◌≤◌, ◌⊎◌, inl, inr, List, [], ◌∷◌, ◌++◌, cond, Some, None, refl, sym, ap, ◌∙◌, arith}
use Rattle.std.specs.Prelude.{nat_lt, sum_by, is_some, IsSome}
use Rattle.std.proofs.lemmas.List.{append_assoc}
use Rattle.std.proofs.lemmas.List.Sums.{sum_by-cons, sum_by-append}
use Rattle.std.proofs.lemmas.Bool.{lt-ltb, le-ltb, cases_lt}
use Rattle.lsa_yard.specs.Cells.{Cell, size_of, extent, cell_at, IsReplaced}
use Rattle.lsa_yard.specs.laws.Reading.{size-least, extent-append}

-- ---- where cells begin

-- nothing begins inside a cell
pub at-inside : (c : Cell) (cells : List Cell) (offset : ℕ) → 0 < offset → offset < size_of c → cell_at (c ∷ cells) offset ≡ None
at-inside c cells zero some inside = absurd (omega arith)
at-inside c cells (suc offset) some inside = ap (λ b. cond b None (cell_at cells (suc offset - size_of c))) (lt-ltb (suc offset) (size_of c) inside)

-- behind the first cell the others begin
pub at-behind : (c : Cell) (cells : List Cell) (offset : ℕ) → size_of c ≤ offset → cell_at (c ∷ cells) offset ≡ cell_at cells (offset - size_of c)
at-behind c cells zero far = absurd (omega (arith, size-least c))
at-behind c cells (suc offset) far = ap (λ b. cond b None (cell_at cells (suc offset - size_of c))) (le-ltb (suc offset) (size_of c) far)

-- a list of cells, taken apart where one begins
pub record IsSplit (cells : List Cell) (offset : ℕ) (c : Cell) : Type 0 where
  pub before : List Cell
  pub behind : List Cell
  pub is : cells ≡ before ++ c ∷ behind
  pub here : extent before ≡ offset

pub split : (cells : List Cell) (offset : ℕ) (c : Cell) → cell_at cells offset ≡ Some c → IsSplit cells offset c
split [] offset c e = cc
split (d ∷ cells) zero c e = let same : d ≡ c = cc in record { before = []; behind = cells; is = ap (λ x. x ∷ cells) same; here = refl }
split (d ∷ cells) (suc offset) c e = elim (cases_lt (suc offset) (size_of d)) [
  | inl inside ↦ let none = at-inside d cells (suc offset) (omega arith) inside in cc
  | inr far ↦
      let s = split cells (suc offset - size_of d) c (sym (at-behind d cells (suc offset) far) ∙ e) in
      record { before = d ∷ s.before; behind = s.behind; is = ap (λ l. d ∷ l) s.is; here = omega (arith, s.here) }
]

pub at-middle : (before : List Cell) (c : Cell) (behind : List Cell) → cell_at (before ++ c ∷ behind) (extent before) ≡ Some c
at-middle [] c behind = refl
at-middle (d ∷ before) c behind =
    let less : size_of d + extent before - size_of d ≡ extent before = omega arith in
    at-behind d (before ++ c ∷ behind) (size_of d + extent before) (omega arith) ∙ ap (cell_at (before ++ c ∷ behind)) less ∙ at-middle before c behind

-- ---- a change of one cell

others-first : (was is : Cell) (behind : List Cell) (offset : ℕ) → size_of is ≡ size_of was → offset ≢ 0 → cell_at (is ∷ behind) offset ≡ cell_at (was ∷ behind) offset
others-first was is behind zero same ne = absurd (ne refl)
others-first was is behind (suc offset) same ne = ap (λ k. cond (nat_lt (suc offset) k) None (cell_at behind (suc offset - k))) same

pub at-others : (before : List Cell) (was is : Cell) (behind : List Cell) (offset : ℕ) → size_of is ≡ size_of was → offset ≢ extent before
    → cell_at (before ++ is ∷ behind) offset ≡ cell_at (before ++ was ∷ behind) offset
at-others [] was is behind offset same ne = others-first was is behind offset same ne
at-others (d ∷ before) was is behind zero same ne = refl
at-others (d ∷ before) was is behind (suc offset) same ne = elim (cases_lt (suc offset) (size_of d)) [
  | inl inside ↦ at-inside d (before ++ is ∷ behind) (suc offset) (omega arith) inside ∙ sym (at-inside d (before ++ was ∷ behind) (suc offset) (omega arith) inside)
  | inr far ↦
      let ne' : suc offset - size_of d ≢ extent before = λ e. ne (omega (arith, e)) in
      at-behind d (before ++ is ∷ behind) (suc offset) far ∙ at-others before was is behind (suc offset - size_of d) same ne' ∙ sym (at-behind d (before ++ was ∷ behind) (suc offset) far)
]

sum_by-middle : (g : Cell → ℕ) (before : List Cell) (c : Cell) (behind : List Cell) → sum_by g (before ++ c ∷ behind) ≡ sum_by g before + g c + sum_by g behind
sum_by-middle g before c behind = omega (arith, sum_by-append g before (c ∷ behind), sum_by-cons g c behind)

pub replaced-here : (old new : List Cell) (offset : ℕ) (was is : Cell) → IsReplaced old new offset was is → (cell_at old offset ≡ Some was) × (cell_at new offset ≡ Some is)
replaced-here old new offset was is r = (
  ap (cell_at old) (sym r.here) ∙ ap (λ l. cell_at l (extent r.before)) r.old_is ∙ at-middle r.before was r.behind,
  ap (cell_at new) (sym r.here) ∙ ap (λ l. cell_at l (extent r.before)) r.new_is ∙ at-middle r.before is r.behind,
)

pub replaced-others : (old new : List Cell) (offset : ℕ) (was is : Cell) → IsReplaced old new offset was is → (other : ℕ) → other ≢ offset → cell_at new other ≡ cell_at old other
replaced-others old new offset was is r other ne =
    ap (λ l. cell_at l other) r.new_is ∙ at-others r.before was is r.behind other r.size (λ e. ne (e ∙ r.here)) ∙ sym (ap (λ l. cell_at l other) r.old_is)

pub replaced-extent : (old new : List Cell) (offset : ℕ) (was is : Cell) → IsReplaced old new offset was is → extent new ≡ extent old
replaced-extent old new offset was is r =
    omega (arith, ap extent r.new_is, ap extent r.old_is, extent-append r.before (is ∷ r.behind), extent-append r.before (was ∷ r.behind), r.size)

pub replaced-sums : (old new : List Cell) (offset : ℕ) (was is : Cell) → IsReplaced old new offset was is → (g : Cell → ℕ) → sum_by g new + g was ≡ sum_by g old + g is
replaced-sums old new offset was is r g =
    omega (arith, ap (sum_by g) r.new_is, ap (sum_by g) r.old_is, sum_by-middle g r.before is r.behind, sum_by-middle g r.before was r.behind)

-- ---- one cell more

pub at-pushed : (cells : List Cell) (c : Cell) (offset : ℕ) → offset ≢ extent cells → cell_at (cells ++ c ∷ []) offset ≡ cell_at cells offset
at-pushed [] c zero ne = absurd (ne refl)
at-pushed [] c (suc offset) ne = elim (cases_lt (suc offset) (size_of c)) [
  | inl inside ↦ at-inside c [] (suc offset) (omega arith) inside
  | inr far ↦ at-behind c [] (suc offset) far
]
at-pushed (d ∷ cells) c zero ne = refl
at-pushed (d ∷ cells) c (suc offset) ne = elim (cases_lt (suc offset) (size_of d)) [
  | inl inside ↦ at-inside d (cells ++ c ∷ []) (suc offset) (omega arith) inside ∙ sym (at-inside d cells (suc offset) (omega arith) inside)
  | inr far ↦
      let ne' : suc offset - size_of d ≢ extent cells = λ e. ne (omega (arith, e)) in
      at-behind d (cells ++ c ∷ []) (suc offset) far ∙ at-pushed cells c (suc offset - size_of d) ne' ∙ sym (at-behind d cells (suc offset) far)
]

-- ---- cells are apart, and each but the last is followed by one

pub at-within : (cells : List Cell) (offset : ℕ) (c : Cell) → cell_at cells offset ≡ Some c → offset + size_of c ≤ extent cells
at-within cells offset c e = let s = split cells offset c e in omega (arith, ap extent s.is, extent-append s.before (c ∷ s.behind), s.here)

pub at-next : (cells : List Cell) (offset : ℕ) (c : Cell) → cell_at cells offset ≡ Some c → (offset + size_of c ≡ extent cells) ⊎ IsSome (cell_at cells (offset + size_of c))
at-next cells offset c e =
    let s = split cells offset c e in
    let end : extent s.before + size_of c ≡ offset + size_of c = omega (arith, s.here) in
    elim s.behind as (λ behind. cells ≡ s.before ++ c ∷ behind → (offset + size_of c ≡ extent cells) ⊎ IsSome (cell_at cells (offset + size_of c))) [
      | [] ↦ λ is. inl (omega (arith, ap extent is, extent-append s.before (c ∷ []), s.here))
      | d ∷ more ↦ λ is.
          let far : extent (s.before ++ c ∷ []) ≡ offset + size_of c = omega (arith, extent-append s.before (c ∷ []), s.here) in
          inr (ap is_some (ap (λ l. cell_at l (offset + size_of c)) (is ∙ sym (append_assoc s.before (c ∷ []) (d ∷ more))) ∙ ap (cell_at ((s.before ++ c ∷ []) ++ d ∷ more)) (sym far) ∙ at-middle (s.before ++ c ∷ []) d more))
    ] s.is

pub at-apart : (cells : List Cell) (offset other : ℕ) (c d : Cell) → cell_at cells offset ≡ Some c → cell_at cells other ≡ Some d → offset < other → offset + size_of c ≤ other
at-apart [] offset other c d e f lt = cc
at-apart (x ∷ cells) zero other c d e f lt = elim (cases_lt other (size_of x)) [
  | inl inside ↦ let none = at-inside x cells other lt inside in cc
  | inr far ↦ let same : x ≡ c = cc in omega (arith, ap size_of same)
]
at-apart (x ∷ cells) (suc offset) other c d e f lt = elim (cases_lt (suc offset) (size_of x)) [
  | inl inside ↦ let none = at-inside x cells (suc offset) (omega arith) inside in cc
  | inr far ↦
      let farther : size_of x ≤ other = omega arith in
      let less : suc offset - size_of x < other - size_of x = omega arith in
      omega (arith, at-apart cells (suc offset - size_of x) (other - size_of x) c d (sym (at-behind x cells (suc offset) far) ∙ e) (sym (at-behind x cells other farther) ∙ f) less)
]

extent-even : (cells : List Cell) → extent cells % 8 ≡ 0
extent-even [] = refl
extent-even (c ∷ cells) = omega (arith, extent-even cells)

-- each cell begins at a multiple of 8
pub at-even : (cells : List Cell) (offset : ℕ) (c : Cell) → cell_at cells offset ≡ Some c → offset % 8 ≡ 0
at-even cells offset c e = let s = split cells offset c e in ap (λ n. n % 8) (sym s.here) ∙ extent-even s.before
