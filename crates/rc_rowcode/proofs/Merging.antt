-- The winners among two ascending lists of cells, one by one.
use Rattle.std.proofs.Common.{◌≡◌, ℕ, zero, suc, ◌-◌, ◌<◌, cond, List, [], ◌∷◌, ◌++◌, Some, None, refl, sym, ap, subst, ◌∙◌, append-nil, arith}
use Rattle.std.specs.Prelude.{IsTrue}
use Rattle.std.specs.declared.cmp.Ordering.{Ordering}
use Rattle.std.specs.declared.cmp.Ordering.TheVariants.{Less, Equal, Greater}
use Rattle.std.specs.Ordering.{nat_cmp, is_lt, match_ordering}
use Rattle.std.specs.FinMap.{is_sorted}
use Rattle.std.specs.FinMap.Entries.{below_all}
use Rattle.rc_cell.specs.declared.writes.Cell.{Cell}
use Rattle.rc_cell.specs.Columns.{ascending}
use Rattle.rc_cell.specs.Winner.{winner, winners}
use Rattle.rc_cell.specs.laws.ByColumn.{holds, test_of, second, winners-ascending}
use Rattle.rc_cell.specs.laws.Merge.{pick, merge, merge-winners, picked, winner-pair}
use Rattle.rc_cell.specs.Orders.{cell_cmp}
use Rattle.rc_rowcode.specs.calls.Reading.{parse_entry}
use Rattle.rc_rowcode.specs.calls.Joining.{listed_cells}

abbrev Cells : Type 0
Cells = List (ℕ × Cell)

abbrev Ascends : Cells → Type 0
Ascends l = IsTrue (ascending l)

-- ---- reading one by one

pub listed_end : (n : ℕ) (bytes : List ℕ) → n ≡ 0 → listed_cells n bytes ≡ []
unfolding listed_cells
listed_end n bytes e = ap (λ k. listed_cells k bytes) e

pub listed_stuck : (n : ℕ) (bytes : List ℕ) → parse_entry 0 bytes ≡ None → listed_cells n bytes ≡ []
unfolding listed_cells
listed_stuck zero bytes e = refl
listed_stuck (suc n) bytes e = rw e refl

pub listed_step : (n : ℕ) (bytes : List ℕ) (x : ℕ × Cell) (rest : List ℕ) → 0 < n → parse_entry 0 bytes ≡ Some (x, rest) → listed_cells n bytes ≡ x ∷ listed_cells (n - 1) rest
unfolding listed_cells
listed_step zero bytes x rest lt e = absurd (omega arith)
listed_step (suc n) bytes x rest lt e =
    let k : suc n - 1 ≡ n = omega arith in
    rw (e, k) refl

-- ---- one step of a merge

tail_sorted : (x : ℕ × Cell) (os : Cells) → Ascends (x ∷ os) → Ascends os
tail_sorted x os h = holds (is_sorted nat_cmp os) (second (below_all nat_cmp x.0 os) (is_sorted nat_cmp os) (test_of (is_sorted nat_cmp (x ∷ os)) h))

pub rest_sorted : (os : Cells) (x : ℕ × Cell) (rest : Cells) → os ≡ x ∷ rest → Ascends os → Ascends rest
rest_sorted os x rest e h = tail_sorted x rest (subst Ascends e h)

pub none_left : (os bs : Cells) → os ≡ [] → bs ≡ [] → winners (os ++ bs) ≡ []
none_left os bs e f = ap winners (λ i. e i ++ f i) ∙ winners-ascending [] refl

pub ours_left : (os bs : Cells) (x : ℕ × Cell) (rest : Cells) → os ≡ x ∷ rest → bs ≡ [] → Ascends os → winners (os ++ bs) ≡ x ∷ winners (rest ++ bs)
ours_left os bs x rest e f h =
    let all : winners (os ++ bs) ≡ x ∷ rest = ap winners (λ i. e i ++ f i) ∙ ap winners (append-nil (x ∷ rest)) ∙ winners-ascending (x ∷ rest) (subst Ascends e h) in
    let less : winners (rest ++ bs) ≡ rest = ap winners (λ i. rest ++ f i) ∙ ap winners (append-nil rest) ∙ winners-ascending rest (rest_sorted os x rest e h) in
    all ∙ ap (λ (l : Cells). x ∷ l) (sym less)

pub theirs_left : (os bs : Cells) (y : ℕ × Cell) (rest : Cells) → os ≡ [] → bs ≡ y ∷ rest → Ascends bs → winners (os ++ bs) ≡ y ∷ winners (os ++ rest)
theirs_left os bs y rest e f h =
    let all : winners (os ++ bs) ≡ y ∷ rest = ap winners (λ i. e i ++ f i) ∙ winners-ascending (y ∷ rest) (subst Ascends f h) in
    let less : winners (os ++ rest) ≡ rest = ap winners (λ i. e i ++ rest) ∙ winners-ascending rest (rest_sorted bs y rest f h) in
    all ∙ ap (λ (l : Cells). y ∷ l) (sym less)

step_of : (x y : ℕ × Cell) (os bs : Cells) (r : Ordering) → nat_cmp x.0 y.0 ≡ r → merge (x ∷ os) (y ∷ bs) ≡ match_ordering r (x ∷ merge os (y ∷ bs)) ((x.0, pick x.1 y.1) ∷ merge os bs) (y ∷ merge (x ∷ os) bs)
step_of x y os bs r e = ap (λ s. match_ordering s (x ∷ merge os (y ∷ bs)) ((x.0, pick x.1 y.1) ∷ merge os bs) (y ∷ merge (x ∷ os) bs)) e

less_plain : (x y : ℕ × Cell) (os bs : Cells) → nat_cmp x.0 y.0 ≡ Less → Ascends (x ∷ os) → Ascends (y ∷ bs) → winners ((x ∷ os) ++ (y ∷ bs)) ≡ x ∷ winners (os ++ (y ∷ bs))
less_plain x y os bs e g h =
    sym (merge-winners (x ∷ os) (y ∷ bs) g h) ∙ step_of x y os bs Less e ∙ ap (λ (l : Cells). x ∷ l) (merge-winners os (y ∷ bs) (tail_sorted x os g) h)

pub ours_first : (os bs : Cells) (x y : ℕ × Cell) (behind beside : Cells) → os ≡ x ∷ behind → bs ≡ y ∷ beside → nat_cmp x.0 y.0 ≡ Less → Ascends os → Ascends bs → winners (os ++ bs) ≡ x ∷ winners (behind ++ bs)
ours_first os bs x y behind beside e f c g h =
    ap winners (λ i. e i ++ f i)
    ∙ less_plain x y behind beside c (subst Ascends e g) (subst Ascends f h)
    ∙ ap (λ (l : Cells). x ∷ winners (behind ++ l)) (sym f)

greater_plain : (x y : ℕ × Cell) (os bs : Cells) → nat_cmp x.0 y.0 ≡ Greater → Ascends (x ∷ os) → Ascends (y ∷ bs) → winners ((x ∷ os) ++ (y ∷ bs)) ≡ y ∷ winners ((x ∷ os) ++ bs)
greater_plain x y os bs e g h =
    sym (merge-winners (x ∷ os) (y ∷ bs) g h) ∙ step_of x y os bs Greater e ∙ ap (λ (l : Cells). y ∷ l) (merge-winners (x ∷ os) bs g (tail_sorted y bs h))

pub theirs_first : (os bs : Cells) (x y : ℕ × Cell) (behind beside : Cells) → os ≡ x ∷ behind → bs ≡ y ∷ beside → nat_cmp x.0 y.0 ≡ Greater → Ascends os → Ascends bs → winners (os ++ bs) ≡ y ∷ winners (os ++ beside)
theirs_first os bs x y behind beside e f c g h =
    ap winners (λ i. e i ++ f i)
    ∙ greater_plain x y behind beside c (subst Ascends e g) (subst Ascends f h)
    ∙ ap (λ (l : Cells). y ∷ winners (l ++ beside)) (sym e)

equal_plain : (x y : ℕ × Cell) (os bs : Cells) → nat_cmp x.0 y.0 ≡ Equal → Ascends (x ∷ os) → Ascends (y ∷ bs) → winners ((x ∷ os) ++ (y ∷ bs)) ≡ (x.0, pick x.1 y.1) ∷ winners (os ++ bs)
equal_plain x y os bs e g h =
    sym (merge-winners (x ∷ os) (y ∷ bs) g h) ∙ step_of x y os bs Equal e ∙ ap (λ (l : Cells). (x.0, pick x.1 y.1) ∷ l) (merge-winners os bs (tail_sorted x os g) (tail_sorted y bs h))

pub both_first : (os bs : Cells) (x y : ℕ × Cell) (behind beside : Cells) (won : Cell) → os ≡ x ∷ behind → bs ≡ y ∷ beside → nat_cmp x.0 y.0 ≡ Equal → Some won ≡ winner (x.1 ∷ y.1 ∷ []) → Ascends os → Ascends bs
    → winners (os ++ bs) ≡ (x.0, won) ∷ winners (behind ++ beside)
both_first os bs x y behind beside won e f c w g h =
    ap winners (λ i. e i ++ f i)
    ∙ equal_plain x y behind beside c (subst Ascends e g) (subst Ascends f h)
    ∙ ap (λ (d : Cell). (x.0, d) ∷ winners (behind ++ beside)) (sym (picked x.1 y.1 won w))

pub picked_by : (c d : Cell) (r : Ordering) → r ≡ cell_cmp c d → Some (cond (is_lt r) d c) ≡ winner (c ∷ d ∷ [])
picked_by c d r e = ap (λ s. Some (cond (is_lt s) d c)) e ∙ sym (winner-pair c d)
