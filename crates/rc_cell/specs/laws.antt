-- The laws of joining rows, for crates above to cite: any split of the rows may be joined first, in either order, and again.
pub mod Each
pub mod Joined
pub mod Merge
pub mod ByColumn
pub mod Beats
pub mod Survivors
pub mod Greatest
pub mod Winner
use Rattle.std.specs.Prelude.{ℕ, ℤ, List, [], ◌∷◌, ◌++◌, Option, Some, None, ◌≡◌}
use Rattle.std.proofs.Common.{refl, sym, ap, ◌∙◌, append-nil}
use Rattle.std.specs.Ordering.{nat_cmp, int_cmp}
use Rattle.std.specs.Option.{option_to_list}
use Rattle.std.specs.List.{cons_option}
use Rattle.std.specs.Cmp.{int_cmp_total}
use Rattle.std.specs.FinMap.{find, int_cmp-IsAntisymmetric}
use Rattle.std.proofs.lemmas.List.Elements.{filter_map-append}
use Rattle.std.proofs.lemmas.Grind.{flat_map-append}
use Rattle.rc_cell.specs.declared.writes.Cell.{Cell}
use Rattle.rc_cell.specs.declared.writes.Tomb.{Tomb}
use Rattle.rc_cell.specs.declared.rows.Row.{Row}
use Rattle.rc_cell.specs.Orders.{tomb_cmp, tomb_cmp_total}
use Rattle.rc_cell.specs.Winner.{greatest, markers, tombs, all_cells, at_column, winner, winners, joined_row, empty_row, IsRow}
use Rattle.rc_cell.specs.laws.Winner.{cells_at, SaysNoMore}
use Rattle.rc_cell.specs.laws.Greatest.{greatest-none, greatest-append, greatest-swap, greatest-twice, greatest-one}
use Rattle.rc_cell.specs.laws.Beats.{tomb_cmp-IsAntisymmetric}
use Rattle.rc_cell.specs.laws.ByColumn.{ascending-winners, at_column-winners, find-winners, winners-append, winners-swap, winners-twice, winners-ascending}

pub same_row : {m n : Option ℤ} {s t : Option Tomb} {es fs : List (ℕ × Cell)} → m ≡ n → s ≡ t → es ≡ fs → ◌≡◌ {A = Row} (record { marker = m; tomb = s; cells = es }) (record { marker = n; tomb = t; cells = fs })
same_row e f g = λ i. record { marker = e i; tomb = f i; cells = g i }

markers-append : (xs ys : List Row) → markers (xs ++ ys) ≡ markers xs ++ markers ys
markers-append xs ys = filter_map-append (λ row. row.marker) xs ys

tombs-append : (xs ys : List Row) → tombs (xs ++ ys) ≡ tombs xs ++ tombs ys
tombs-append xs ys = filter_map-append (λ row. row.tomb) xs ys

all_cells-append : (xs ys : List Row) → all_cells (xs ++ ys) ≡ all_cells xs ++ all_cells ys
all_cells-append xs ys = flat_map-append (λ row. row.cells) xs ys

cons_two : {X : Type 0} (s t : Option X) → cons_option s (cons_option t []) ≡ option_to_list s ++ option_to_list t
cons_two None None = refl
cons_two None (Some y) = refl
cons_two (Some x) None = refl
cons_two (Some x) (Some y) = refl

cons_one : {X : Type 0} (s : Option X) → cons_option s [] ≡ option_to_list s
cons_one None = refl
cons_one (Some x) = refl

-- two rows joined, part by part
pub joined_row-two : (r q : Row) → joined_row (r ∷ q ∷ []) ≡ record {
  marker = greatest int_cmp (option_to_list r.marker ++ option_to_list q.marker);
  tomb = greatest tomb_cmp (option_to_list r.tomb ++ option_to_list q.tomb);
  cells = winners (r.cells ++ q.cells);
}
unfolding joined_row
joined_row-two r q =
    same_row (ap (greatest int_cmp) (cons_two r.marker q.marker)) (ap (greatest tomb_cmp) (cons_two r.tomb q.tomb)) (ap (λ es. winners (r.cells ++ es)) (append-nil q.cells))

-- the joined row holds together, and has at each column the winner among the cells of all rows
pub IsRow-joined_row : (rows : List Row) → IsRow (joined_row rows)
unfolding joined_row
IsRow-joined_row rows = ascending-winners (all_cells rows)

pub find-joined_row : (column : ℕ) (rows : List Row) → find nat_cmp column (joined_row rows).cells ≡ winner (cells_at column rows)
unfolding joined_row
find-joined_row column rows = find-winners column (all_cells rows)

pub at_column-joined_row : (column : ℕ) (rows : List Row) → at_column column (joined_row rows).cells ≡ option_to_list (winner (cells_at column rows))
unfolding joined_row
at_column-joined_row column rows = at_column-winners column (all_cells rows)

-- no rows join to the empty row, and one row to itself
pub joined_row-none : joined_row [] ≡ empty_row
unfolding joined_row
joined_row-none = same_row (greatest-none int_cmp) (greatest-none tomb_cmp) (winners-ascending [] refl)

pub joined_row-one : (r : Row) → IsRow r → joined_row (r ∷ []) ≡ r
unfolding joined_row
joined_row-one r h =
    same_row
    (ap (greatest int_cmp) (cons_one r.marker) ∙ greatest-one int_cmp_total int_cmp-IsAntisymmetric r.marker)
    (ap (greatest tomb_cmp) (cons_one r.tomb) ∙ greatest-one tomb_cmp_total tomb_cmp-IsAntisymmetric r.tomb)
    (ap winners (append-nil r.cells) ∙ winners-ascending r.cells h)

-- rows together join to what their two parts joined join to
pub joined_row-append : (xs ys : List Row) → joined_row (xs ++ ys) ≡ joined_row (joined_row xs ∷ joined_row ys ∷ [])
unfolding joined_row
joined_row-append xs ys =
    same_row
    (ap (greatest int_cmp) (markers-append xs ys) ∙ greatest-append int_cmp_total int_cmp-IsAntisymmetric (markers xs) (markers ys) ∙ sym (ap (greatest int_cmp) (cons_two (greatest int_cmp (markers xs)) (greatest int_cmp (markers ys)))))
    (ap (greatest tomb_cmp) (tombs-append xs ys) ∙ greatest-append tomb_cmp_total tomb_cmp-IsAntisymmetric (tombs xs) (tombs ys) ∙ sym (ap (greatest tomb_cmp) (cons_two (greatest tomb_cmp (tombs xs)) (greatest tomb_cmp (tombs ys)))))
    (ap winners (all_cells-append xs ys) ∙ winners-append (all_cells xs) (all_cells ys) ∙ sym (ap (λ es. winners (winners (all_cells xs) ++ es)) (append-nil (winners (all_cells ys)))))

-- in either order
pub joined_row-swap : (xs ys : List Row) → joined_row (xs ++ ys) ≡ joined_row (ys ++ xs)
unfolding joined_row
joined_row-swap xs ys =
    same_row
    (ap (greatest int_cmp) (markers-append xs ys) ∙ greatest-swap int_cmp_total int_cmp-IsAntisymmetric (markers xs) (markers ys) ∙ sym (ap (greatest int_cmp) (markers-append ys xs)))
    (ap (greatest tomb_cmp) (tombs-append xs ys) ∙ greatest-swap tomb_cmp_total tomb_cmp-IsAntisymmetric (tombs xs) (tombs ys) ∙ sym (ap (greatest tomb_cmp) (tombs-append ys xs)))
    (ap winners (all_cells-append xs ys) ∙ winners-swap (all_cells xs) (all_cells ys) ∙ sym (ap winners (all_cells-append ys xs)))

-- and the same rows again change nothing
pub joined_row-twice : (xs : List Row) → joined_row (xs ++ xs) ≡ joined_row xs
unfolding joined_row
joined_row-twice xs =
    same_row
    (ap (greatest int_cmp) (markers-append xs xs) ∙ greatest-twice int_cmp_total int_cmp-IsAntisymmetric (markers xs))
    (ap (greatest tomb_cmp) (tombs-append xs xs) ∙ greatest-twice tomb_cmp_total tomb_cmp-IsAntisymmetric (tombs xs))
    (ap winners (all_cells-append xs xs) ∙ winners-twice (all_cells xs))

-- of two rows: commutative, idempotent and, of three, associative
pub joined_row-comm : (r q : Row) → joined_row (r ∷ q ∷ []) ≡ joined_row (q ∷ r ∷ [])
joined_row-comm r q = joined_row-swap (r ∷ []) (q ∷ [])

pub joined_row-same : (r : Row) → IsRow r → joined_row (r ∷ r ∷ []) ≡ r
joined_row-same r h = joined_row-twice (r ∷ []) ∙ joined_row-one r h

pub joined_row-assoc : (r q p : Row) → IsRow r → IsRow p → joined_row (joined_row (r ∷ q ∷ []) ∷ p ∷ []) ≡ joined_row (r ∷ joined_row (q ∷ p ∷ []) ∷ [])
joined_row-assoc r q p g h =
    ap (λ x. joined_row (joined_row (r ∷ q ∷ []) ∷ x ∷ [])) (sym (joined_row-one p h))
    ∙ sym (joined_row-append (r ∷ q ∷ []) (p ∷ []))
    ∙ joined_row-append (r ∷ []) (q ∷ p ∷ [])
    ∙ ap (λ x. joined_row (x ∷ joined_row (q ∷ p ∷ []) ∷ [])) (joined_row-one r g)

-- one more row is joined to what the others joined to
pub joined_row-push : (xs : List Row) (r : Row) → IsRow r → joined_row (xs ++ r ∷ []) ≡ joined_row (joined_row xs ∷ r ∷ [])
joined_row-push xs r h = joined_row-append xs (r ∷ []) ∙ ap (λ x. joined_row (joined_row xs ∷ x ∷ [])) (joined_row-one r h)

pub joined_row-cons : (r : Row) (xs : List Row) → IsRow r → joined_row (r ∷ xs) ≡ joined_row (r ∷ joined_row xs ∷ [])
joined_row-cons r xs h = joined_row-append (r ∷ []) xs ∙ ap (λ x. joined_row (x ∷ joined_row xs ∷ [])) (joined_row-one r h)

-- `SaysNoMore` is an order of rows, in which two rows joined are the least row that neither says more than
pub SaysNoMore-refl : (r : Row) → IsRow r → SaysNoMore r r
SaysNoMore-refl r h = joined_row-same r h

pub SaysNoMore-antisymm : (r q : Row) → SaysNoMore r q → SaysNoMore q r → r ≡ q
SaysNoMore-antisymm r q e f = sym f ∙ joined_row-comm q r ∙ e

pub SaysNoMore-trans : (r q p : Row) → IsRow r → IsRow p → SaysNoMore r q → SaysNoMore q p → SaysNoMore r p
SaysNoMore-trans r q p g h e f =
    ap (λ x. joined_row (r ∷ x ∷ [])) (sym f) ∙ sym (joined_row-assoc r q p g h) ∙ ap (λ x. joined_row (x ∷ p ∷ [])) e ∙ f

pub SaysNoMore-joined_row : (r q : Row) → IsRow r → IsRow q → SaysNoMore r (joined_row (r ∷ q ∷ []))
SaysNoMore-joined_row r q g h = sym (joined_row-assoc r r q g h) ∙ ap (λ x. joined_row (x ∷ q ∷ [])) (joined_row-same r g)

pub joined_row-SaysNoMore : (r q p : Row) → IsRow r → IsRow p → SaysNoMore r p → SaysNoMore q p → SaysNoMore (joined_row (r ∷ q ∷ [])) p
joined_row-SaysNoMore r q p g h e f = joined_row-assoc r q p g h ∙ ap (λ x. joined_row (r ∷ x ∷ [])) f ∙ e
