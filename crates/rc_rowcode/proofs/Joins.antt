-- The row that two heads make is the joined row, and it can be spelt.
use Rattle.std.proofs.Common.{◌≡◌, ℕ, ◌+◌, ◌≤◌, Bool, true, false, cond, List, [], ◌∷◌, ◌++◌, length, Option, Some, None, refl, sym, subst, ◌∙◌, arith, ℤ, length-append}
use Rattle.std.specs.Prelude.{IsTrue, IfSome, FitsSigned}
use Rattle.std.specs.Int.{w64}
use Rattle.std.specs.declared.cmp.Ordering.{Ordering}
use Rattle.std.specs.declared.cmp.Ordering.TheVariants.{Less, Equal, Greater}
use Rattle.std.specs.Ordering.{nat_cmp, int_cmp, is_lt, match_ordering}
use Rattle.std.specs.List.{flat_map, AllByRecursion}
use Rattle.rc_cell.specs.declared.writes.Cell.{Cell}
use Rattle.rc_cell.specs.declared.writes.Tomb.{Tomb}
use Rattle.rc_cell.specs.declared.rows.Row.{Row}
use Rattle.rc_cell.specs.Columns.{ascending}
use Rattle.rc_cell.specs.Orders.{cell_cmp, tomb_cmp}
use Rattle.rc_cell.specs.Winner.{winners, joined_row}
use Rattle.rc_cell.specs.Greatest.{greater}
use Rattle.rc_cell.specs.laws.ByColumn.{ascending-winners}
use Rattle.rc_cell.specs.laws.Joined.{joined_of}
use Rattle.rc_cell.specs.laws.Merge.{pick, merge, merge_into, merge-winners}
use Rattle.rc_rowcode.specs.Spelling.{stamp_code, tomb_code, optional_code, entry_code, cells_code, row_code, IsTomb, IsCell, IsEntry, IsCodedRow}
use Rattle.rc_rowcode.specs.calls.Joining.{seen_entries, seen_row}
use Rattle.rc_rowcode.specs.declared.join.Head.{Head}
use Rattle.rc_rowcode.specs.laws.Limits.{entries_limits}
use Rattle.rc_rowcode.specs.laws.Sizes.{few_columns, entries_small}

picked_is : (b : Bool) (c d : Cell) → IsCell c → IsCell d → IsCell (cond b d c)
picked_is true c d p q = q
picked_is false c d p q = p

into_is : (a : ℕ × Cell) (os : List (ℕ × Cell)) (rest : List (ℕ × Cell) → List (ℕ × Cell)) → AllByRecursion IsEntry (a ∷ os) → ((bs : List (ℕ × Cell)) → AllByRecursion IsEntry bs → AllByRecursion IsEntry (rest bs))
    → (bs : List (ℕ × Cell)) → AllByRecursion IsEntry bs → AllByRecursion IsEntry (merge_into a os rest bs)
into_is a os rest g ih [] h = g
into_is a os rest g ih (b ∷ bs) h =
    elim (nat_cmp a.0 b.0) as (λ r. AllByRecursion IsEntry (match_ordering r (a ∷ rest (b ∷ bs)) ((a.0, pick a.1 b.1) ∷ rest bs) (b ∷ merge_into a os rest bs))) [
      | Less ↦ (g.0, ih (b ∷ bs) h)
      | Equal ↦ ((g.0.0, picked_is (is_lt (cell_cmp a.1 b.1)) a.1 b.1 g.0.1 h.0.1), ih bs h.1)
      | Greater ↦ (h.0, into_is a os rest g ih bs h.1)
    ]

merge_is : (os bs : List (ℕ × Cell)) → AllByRecursion IsEntry os → AllByRecursion IsEntry bs → AllByRecursion IsEntry (merge os bs)
merge_is [] bs g h = h
merge_is (a ∷ os) bs g h = into_is a os (merge os) g (λ cs k. merge_is os cs g.1 k) bs h

winners_are : (os bs : List (ℕ × Cell)) → IsTrue (ascending os) → IsTrue (ascending bs) → AllByRecursion IsEntry os → AllByRecursion IsEntry bs → AllByRecursion IsEntry (winners (os ++ bs))
winners_are os bs s t g h = subst (AllByRecursion IsEntry) (merge-winners os bs s t) (merge_is os bs g h)

pub joined_few : (os bs : List (ℕ × Cell)) → IsTrue (ascending os) → IsTrue (ascending bs) → AllByRecursion IsEntry os → AllByRecursion IsEntry bs → length (winners (os ++ bs)) ≤ 32
joined_few os bs s t g h = few_columns (winners (os ++ bs)) (ascending-winners (os ++ bs)) (entries_limits (winners (os ++ bs)) (winners_are os bs s t g h))

pub joined_small : (os bs : List (ℕ × Cell)) → IsTrue (ascending os) → IsTrue (ascending bs) → AllByRecursion IsEntry os → AllByRecursion IsEntry bs → length (flat_map entry_code (winners (os ++ bs))) ≤ 8576
joined_small os bs s t g h =
    omega (arith, joined_few os bs s t g h, entries_small (winners (os ++ bs)) (entries_limits (winners (os ++ bs)) (winners_are os bs s t g h)))

pub seen_coded : (h : Head) (r : Row) → seen_row h ≡ r → IsCodedRow r → IsCodedRow (seen_row h)
seen_coded h r e fits = subst IsCodedRow (sym e) fits

-- the row of the greater marker, the greater tombstone and the winners of two heads is the joined row of the rows that they are
pub joined_parts : (h k : Head) (r q : Row) {m : Option ℤ} {t : Option Tomb} → m ≡ greater int_cmp h.marker k.marker → t ≡ greater tomb_cmp h.tomb k.tomb → seen_row h ≡ r → seen_row k ≡ q
    → ◌≡◌ {A = Row} (record { marker = m; tomb = t; cells = winners (seen_entries h.cells ++ seen_entries k.cells) }) (joined_row (r ∷ q ∷ []))
joined_parts h k r q a b e f = joined_of (seen_row h) (seen_row k) a b refl ∙ (λ i. joined_row (e i ∷ f i ∷ []))

-- two heads of coded rows
pub few_of_heads : (h k : Head) → IsCodedRow (seen_row h) → IsCodedRow (seen_row k) → length (winners (seen_entries h.cells ++ seen_entries k.cells)) ≤ 32
few_of_heads h k f g = joined_few (seen_entries h.cells) (seen_entries k.cells) f.ascending g.ascending f.cells g.cells

pub small_of_heads : (h k : Head) → IsCodedRow (seen_row h) → IsCodedRow (seen_row k) → length (flat_map entry_code (winners (seen_entries h.cells ++ seen_entries k.cells))) ≤ 8576
small_of_heads h k f g = joined_small (seen_entries h.cells) (seen_entries k.cells) f.ascending g.ascending f.cells g.cells

pub size_of_parts : (m : Option ℤ) (t : Option Tomb) (es : List (ℕ × Cell)) (x y z : ℕ) → x ≡ length (optional_code stamp_code m) → y ≡ length (optional_code tomb_code t) → z ≡ length (flat_map entry_code es)
    → x + y + 1 + z ≡ length (row_code (record { marker = m; tomb = t; cells = es }))
size_of_parts m t es x y z e f g =
    omega (arith, length-append (optional_code stamp_code m) (optional_code tomb_code t ++ cells_code es), length-append (optional_code tomb_code t) (cells_code es))

either_is : {K : Type 0} (P : K → Type 0) (b : Bool) (x y : K) → P x → P y → P (cond b y x)
either_is P true x y p q = q
either_is P false x y p q = p

greater_is : {K : Type 0} (R : K → K → Ordering) (P : K → Type 0) (s t : Option K) → IfSome s P → IfSome t P → IfSome (greater R s t) P
greater_is R P None t h k = k
greater_is R P (Some x) None h k = h
greater_is R P (Some x) (Some y) h k = either_is P (is_lt (R x y)) x y h k

-- what is joined of coded rows is a coded row
pub joined_coded : (r q : Row) → IsCodedRow r → IsCodedRow q → IsCodedRow (joined_row (r ∷ q ∷ []))
joined_coded r q f g =
    subst IsCodedRow (joined_of r q refl refl refl)
    (record {
      marker = greater_is int_cmp (λ ts. FitsSigned w64 ts) r.marker q.marker f.marker g.marker;
      tomb = greater_is tomb_cmp IsTomb r.tomb q.tomb f.tomb g.tomb;
      ascending = ascending-winners (r.cells ++ q.cells);
      cells = winners_are r.cells q.cells f.ascending g.ascending f.cells g.cells;
    })
