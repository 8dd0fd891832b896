-- The code of a joined row is at most as long as both codes together.
use Rattle.std.proofs.Common.{◌≡◌, ℕ, suc, ◌+◌, ◌≤◌, Bool, true, false, cond, List, [], ◌∷◌, ◌++◌, length, Option, Some, None, refl, subst, arith, length-append}
use Rattle.std.specs.Prelude.{IsTrue}
use Rattle.std.specs.declared.cmp.Ordering.{Ordering}
use Rattle.std.specs.declared.cmp.Ordering.TheVariants.{Less, Equal, Greater}
use Rattle.std.specs.Ordering.{nat_cmp, int_cmp, is_lt, match_ordering}
use Rattle.std.specs.List.{flat_map}
use Rattle.rc_cell.specs.declared.writes.Cell.{Cell}
use Rattle.rc_cell.specs.declared.rows.Row.{Row}
use Rattle.rc_cell.specs.Columns.{ascending}
use Rattle.rc_cell.specs.Orders.{cell_cmp, tomb_cmp}
use Rattle.rc_cell.specs.Winner.{winners, joined_row, IsRow}
use Rattle.rc_cell.specs.Greatest.{greater}
use Rattle.rc_cell.specs.laws.Joined.{joined_of}
use Rattle.rc_cell.specs.laws.Merge.{pick, merge, merge_into, merge-winners}
use Rattle.rc_rowcode.specs.Spelling.{stamp_code, tomb_code, optional_code, cell_code, entry_code, row_code}
use Rattle.rc_rowcode.specs.laws.Sizes.{length-row_code}

-- cells with their columns
abbrev Cells : Type 0
Cells = List (ℕ × Cell)

-- the length of the codes of all cells
abbrev size : Cells → ℕ
size es = length (flat_map entry_code es)

size-cons : (e : ℕ × Cell) (es : Cells) → size (e ∷ es) ≡ suc (length (cell_code e.1)) + size es
size-cons e es = length-append (entry_code e) (flat_map entry_code es)

picked_short : (b : Bool) (c d : Cell) → length (cell_code (cond b d c)) ≤ length (cell_code c) + length (cell_code d)
picked_short true c d = omega arith
picked_short false c d = omega arith

into_short : (a : ℕ × Cell) (os : Cells) (rest : Cells → Cells) → ((bs : Cells) → size (rest bs) ≤ size os + size bs) → (bs : Cells) → size (merge_into a os rest bs) ≤ size (a ∷ os) + size bs
into_short a os rest ih [] = omega arith
into_short a os rest ih (b ∷ bs) =
    elim (nat_cmp a.0 b.0) as (λ r. size (match_ordering r (a ∷ rest (b ∷ bs)) ((a.0, pick a.1 b.1) ∷ rest bs) (b ∷ merge_into a os rest bs)) ≤ size (a ∷ os) + size (b ∷ bs)) [
      | Less ↦ omega (arith, size-cons a (rest (b ∷ bs)), size-cons a os, ih (b ∷ bs))
      | Equal ↦ omega (arith, size-cons (a.0, pick a.1 b.1) (rest bs), size-cons a os, size-cons b bs, picked_short (is_lt (cell_cmp a.1 b.1)) a.1 b.1, ih bs)
      | Greater ↦ omega (arith, size-cons b (merge_into a os rest bs), size-cons b bs, into_short a os rest ih bs)
    ]

merge_short : (os bs : Cells) → size (merge os bs) ≤ size os + size bs
merge_short [] bs = omega arith
merge_short (a ∷ os) bs = into_short a os (merge os) (λ cs. merge_short os cs) bs

pub winners_short : (os bs : Cells) → IsTrue (ascending os) → IsTrue (ascending bs) → length (flat_map entry_code (winners (os ++ bs))) ≤ length (flat_map entry_code os) + length (flat_map entry_code bs)
winners_short os bs g h = subst (λ (es : Cells). size es ≤ size os + size bs) (merge-winners os bs g h) (merge_short os bs)

either_short : {K : Type 0} (code : K → List ℕ) (b : Bool) (x y : K) → length (code (cond b y x)) ≤ length (code x) + length (code y)
either_short code true x y = omega arith
either_short code false x y = omega arith

pub greater_short : {K : Type 0} (R : K → K → Ordering) (code : K → List ℕ) (s t : Option K) → length (optional_code code (greater R s t)) ≤ length (optional_code code s) + length (optional_code code t)
greater_short R code None t = omega arith
greater_short R code (Some x) None = omega arith
greater_short R code (Some x) (Some y) = omega (arith, either_short code (is_lt (R x y)) x y)

pub joined_code_short : (r q : Row) → IsRow r → IsRow q → length (row_code (joined_row (r ∷ q ∷ []))) ≤ length (row_code r) + length (row_code q)
joined_code_short r q g h =
    let joined : Row = record { marker = greater int_cmp r.marker q.marker; tomb = greater tomb_cmp r.tomb q.tomb; cells = winners (r.cells ++ q.cells) } in
    subst (λ (j : Row). length (row_code j) ≤ length (row_code r) + length (row_code q)) (joined_of r q refl refl refl)
    (omega (
      arith,
      length-row_code joined,
      length-row_code r,
      length-row_code q,
      greater_short int_cmp stamp_code r.marker q.marker,
      greater_short tomb_cmp tomb_code r.tomb q.tomb,
      winners_short r.cells q.cells g h,
    ))
