-- Two ascending lists of cells merged: what the merging loop goes by, and that it gives the winners of both.
use Rattle.std.proofs.Common.{◌⊎◌, ⊎_elim, length, ◌<◌, arith, append_assoc, ◌≡◌, ℕ, Bool, true, false, List, [], ◌∷◌, ◌++◌, Option, Some, None, cond, refl, sym, ap, ◌∙◌, subst, T, append-nil}
use Rattle.std.specs.Prelude.{IsTrue}
use Rattle.std.specs.declared.cmp.Ordering.{Ordering}
use Rattle.std.specs.declared.cmp.Ordering.TheVariants.{Less, Equal, Greater}
use Rattle.std.specs.Ordering.{nat_cmp, is_lt, eq_by_cmp, match_ordering, ordering_reverse}
use Rattle.std.specs.Cmp.{nat_cmp_total}
use Rattle.std.specs.FinMap.{find, is_sorted, nat_cmp-IsAntisymmetric}
use Rattle.std.specs.FinMap.Entries.{below_all}
use Rattle.rc_cell.specs.declared.writes.Cell.{Cell}
use Rattle.rc_cell.specs.Orders.{cell_cmp}
use Rattle.rc_cell.specs.Columns.{ascending}
use Rattle.rc_cell.specs.Winner.{winner, winners}
use Rattle.rc_cell.specs.Greatest.{greater}
use Rattle.rc_cell.specs.laws.Beats.{winner-two}
use Rattle.rc_cell.specs.laws.ByColumn.{holds, test_of, both, first, second, less, find-below, same_column, at_column-append, at_column-ascending, find-winners, ascending-winners, same_cells}

-- the winner of two
abbrev pub pick : Cell → Cell → Cell
pick c d = cond (is_lt (cell_cmp c d)) d c

-- the first of ours, and the rest of ours merged with what `rest` is given, among theirs
abbrev pub merge_into : ℕ × Cell → List (ℕ × Cell) → (List (ℕ × Cell) → List (ℕ × Cell)) → List (ℕ × Cell) → List (ℕ × Cell)
merge_into a os rest [] = a ∷ os
merge_into a os rest (b ∷ bs) = match_ordering (nat_cmp a.0 b.0) (a ∷ rest (b ∷ bs)) ((a.0, pick a.1 b.1) ∷ rest bs) (b ∷ merge_into a os rest bs)

-- ours and theirs by ascending column, and the winner where both have the column
abbrev pub merge : List (ℕ × Cell) → List (ℕ × Cell) → List (ℕ × Cell)
merge [] bs = bs
merge (a ∷ os) bs = merge_into a os (merge os) bs

pub merge-nil : (os : List (ℕ × Cell)) → merge os [] ≡ os
merge-nil [] = refl
merge-nil (a ∷ os) = refl

is_less : (r : Ordering) → r ≡ Less → T (is_lt r)
is_less Less e = tt
is_less Equal e = absurd (cc)
is_less Greater e = absurd (cc)

below_less : (x y : ℕ) (es : List (ℕ × Cell)) → nat_cmp x y ≡ Less → T (below_all nat_cmp y es) → T (below_all nat_cmp x es)
below_less x y [] p h = tt
below_less x y (e ∷ es) p h =
    both (is_lt (nat_cmp x e.0)) (below_all nat_cmp x es)
    (is_less _ (nat_cmp_total.trans x y e.0 p (less (nat_cmp y e.0) (first (is_lt (nat_cmp y e.0)) (below_all nat_cmp y es) h))))
    (below_less x y es p (second (is_lt (nat_cmp y e.0)) (below_all nat_cmp y es) h))

-- a column below the first of an ascending list is below all of it
below_first : (x : ℕ) (e : ℕ × Cell) (es : List (ℕ × Cell)) → nat_cmp x e.0 ≡ Less → T (is_sorted nat_cmp (e ∷ es)) → T (below_all nat_cmp x (e ∷ es))
below_first x e es p h = both (is_lt (nat_cmp x e.0)) (below_all nat_cmp x es) (is_less _ p) (below_less x e.0 es p (first (below_all nat_cmp e.0 es) (is_sorted nat_cmp es) h))

greater_none : (s : Option Cell) → s ≡ greater cell_cmp s None
greater_none None = refl
greater_none (Some x) = refl

turned : (x y : ℕ) → nat_cmp x y ≡ Greater → nat_cmp y x ≡ Less
turned x y e = nat_cmp_total.antisymm y x ∙ ap ordering_reverse e

-- a column that is found first on one side, and is not on the other
found_ours : (b : Bool) (x : Cell) (s t : Option Cell) → (b ≡ true → t ≡ None) → cond b (Some x) (greater cell_cmp s t) ≡ greater cell_cmp (cond b (Some x) s) t
found_ours true x s t h = ap (greater cell_cmp (Some x)) (sym (h refl))
found_ours false x s t h = refl

found_theirs : (b : Bool) (x : Cell) (s t : Option Cell) → (b ≡ true → s ≡ None) → cond b (Some x) (greater cell_cmp s t) ≡ greater cell_cmp s (cond b (Some x) t)
found_theirs true x s t h = ap (λ r. greater cell_cmp r (Some x)) (sym (h refl))
found_theirs false x s t h = refl

found_both : (b : Bool) (x y : Cell) (s t : Option Cell) → cond b (Some (pick x y)) (greater cell_cmp s t) ≡ greater cell_cmp (cond b (Some x) s) (cond b (Some y) t)
found_both true x y s t = refl
found_both false x y s t = refl

-- a column has what the greater of the two sides is
abbrev Finds : ℕ → List (ℕ × Cell) → List (ℕ × Cell) → List (ℕ × Cell) → Type 0
Finds q os bs ms = find nat_cmp q ms ≡ greater cell_cmp (find nat_cmp q os) (find nat_cmp q bs)

find-merge_into : (q : ℕ) (a : ℕ × Cell) (os : List (ℕ × Cell)) (rest : List (ℕ × Cell) → List (ℕ × Cell)) → T (is_sorted nat_cmp (a ∷ os)) → ((bs : List (ℕ × Cell)) → T (is_sorted nat_cmp bs) → Finds q os bs (rest bs)) → (bs : List (ℕ × Cell)) → T (is_sorted nat_cmp bs) → Finds q (a ∷ os) bs (merge_into a os rest bs)
find-merge_into q a os rest g ih [] h = greater_none (find nat_cmp q (a ∷ os))
find-merge_into q a os rest g ih (b ∷ bs) h =
    let later = second (below_all nat_cmp b.0 bs) (is_sorted nat_cmp bs) h in
    elim (nat_cmp a.0 b.0) as (λ r. nat_cmp a.0 b.0 ≡ r → Finds q (a ∷ os) (b ∷ bs) (match_ordering r (a ∷ rest (b ∷ bs)) ((a.0, pick a.1 b.1) ∷ rest bs) (b ∷ merge_into a os rest bs))) [
      | Less ↦ λ p.
          ap (cond (eq_by_cmp nat_cmp q a.0) (Some a.1)) (ih (b ∷ bs) h)
          ∙ found_ours (eq_by_cmp nat_cmp q a.0) a.1 (find nat_cmp q os) (find nat_cmp q (b ∷ bs)) (λ k. ap (λ x. find nat_cmp x (b ∷ bs)) (same_column q a.0 k) ∙ find-below a.0 (b ∷ bs) (below_first a.0 b bs p h))
      | Equal ↦ λ p.
          ap (cond (eq_by_cmp nat_cmp q a.0) (Some (pick a.1 b.1))) (ih bs later)
          ∙ found_both (eq_by_cmp nat_cmp q a.0) a.1 b.1 (find nat_cmp q os) (find nat_cmp q bs)
          ∙ ap (λ x. greater cell_cmp (find nat_cmp q (a ∷ os)) (cond (eq_by_cmp nat_cmp q x) (Some b.1) (find nat_cmp q bs))) (nat_cmp-IsAntisymmetric a.0 b.0 p)
      | Greater ↦ λ p.
          ap (cond (eq_by_cmp nat_cmp q b.0) (Some b.1)) (find-merge_into q a os rest g ih bs later)
          ∙ found_theirs (eq_by_cmp nat_cmp q b.0) b.1 (find nat_cmp q (a ∷ os)) (find nat_cmp q bs) (λ k. ap (λ x. find nat_cmp x (a ∷ os)) (same_column q b.0 k) ∙ find-below b.0 (a ∷ os) (below_first b.0 a os (turned a.0 b.0 p) g))
    ] refl

find-merge : (q : ℕ) (os bs : List (ℕ × Cell)) → T (is_sorted nat_cmp os) → T (is_sorted nat_cmp bs) → Finds q os bs (merge os bs)
find-merge q [] bs g h = refl
find-merge q (a ∷ os) bs g h = find-merge_into q a os (merge os) g (λ cs k. find-merge q os cs (second (below_all nat_cmp a.0 os) (is_sorted nat_cmp os) g) k) bs h

-- what stands below both stands below them merged
abbrev KeepsBelow : ℕ → List (ℕ × Cell) → List (ℕ × Cell) → List (ℕ × Cell) → Type 0
KeepsBelow x os bs ms = T (below_all nat_cmp x os) → T (below_all nat_cmp x bs) → T (below_all nat_cmp x ms)

below-merge_into : (x : ℕ) (a : ℕ × Cell) (os : List (ℕ × Cell)) (rest : List (ℕ × Cell) → List (ℕ × Cell)) → ((bs : List (ℕ × Cell)) → KeepsBelow x os bs (rest bs)) → (bs : List (ℕ × Cell)) → KeepsBelow x (a ∷ os) bs (merge_into a os rest bs)
below-merge_into x a os rest ih [] g h = g
below-merge_into x a os rest ih (b ∷ bs) g h =
    let under_a = first (is_lt (nat_cmp x a.0)) (below_all nat_cmp x os) g in
    let ours = second (is_lt (nat_cmp x a.0)) (below_all nat_cmp x os) g in
    let under_b = first (is_lt (nat_cmp x b.0)) (below_all nat_cmp x bs) h in
    let theirs = second (is_lt (nat_cmp x b.0)) (below_all nat_cmp x bs) h in
    elim (nat_cmp a.0 b.0) as (λ r. T (below_all nat_cmp x (match_ordering r (a ∷ rest (b ∷ bs)) ((a.0, pick a.1 b.1) ∷ rest bs) (b ∷ merge_into a os rest bs)))) [
      | Less ↦ both (is_lt (nat_cmp x a.0)) _ under_a (ih (b ∷ bs) ours h)
      | Equal ↦ both (is_lt (nat_cmp x a.0)) _ under_a (ih bs ours theirs)
      | Greater ↦ both (is_lt (nat_cmp x b.0)) _ under_b (below-merge_into x a os rest ih bs g theirs)
    ]

below-merge : (x : ℕ) (os bs : List (ℕ × Cell)) → KeepsBelow x os bs (merge os bs)
below-merge x [] bs g h = h
below-merge x (a ∷ os) bs g h = below-merge_into x a os (merge os) (λ cs. below-merge x os cs) bs g h

sorted-merge_into : (a : ℕ × Cell) (os : List (ℕ × Cell)) → T (is_sorted nat_cmp (a ∷ os)) → ((bs : List (ℕ × Cell)) → T (is_sorted nat_cmp bs) → T (is_sorted nat_cmp (merge os bs))) → (bs : List (ℕ × Cell)) → T (is_sorted nat_cmp bs) → T (is_sorted nat_cmp (merge_into a os (merge os) bs))
sorted-merge_into a os g ih [] h = g
sorted-merge_into a os g ih (b ∷ bs) h =
    let over_a = first (below_all nat_cmp a.0 os) (is_sorted nat_cmp os) g in
    let over_b = first (below_all nat_cmp b.0 bs) (is_sorted nat_cmp bs) h in
    let later = second (below_all nat_cmp b.0 bs) (is_sorted nat_cmp bs) h in
    elim (nat_cmp a.0 b.0) as (λ r. nat_cmp a.0 b.0 ≡ r → T (is_sorted nat_cmp (match_ordering r (a ∷ merge os (b ∷ bs)) ((a.0, pick a.1 b.1) ∷ merge os bs) (b ∷ merge_into a os (merge os) bs)))) [
      | Less ↦ λ p. both (below_all nat_cmp a.0 (merge os (b ∷ bs))) _ (below-merge a.0 os (b ∷ bs) over_a (below_first a.0 b bs p h)) (ih (b ∷ bs) h)
      | Equal ↦ λ p. both (below_all nat_cmp a.0 (merge os bs)) _ (below-merge a.0 os bs over_a (subst (λ x. T (below_all nat_cmp x bs)) (sym (nat_cmp-IsAntisymmetric a.0 b.0 p)) over_b)) (ih bs later)
      | Greater ↦ λ p. both (below_all nat_cmp b.0 (merge_into a os (merge os) bs)) _ (below-merge b.0 (a ∷ os) bs (below_first b.0 a os (turned a.0 b.0 p) g) over_b) (sorted-merge_into a os g ih bs later)
    ] refl

sorted-merge : (os bs : List (ℕ × Cell)) → T (is_sorted nat_cmp os) → T (is_sorted nat_cmp bs) → T (is_sorted nat_cmp (merge os bs))
sorted-merge [] bs g h = h
sorted-merge (a ∷ os) bs g h = sorted-merge_into a os g (λ cs k. sorted-merge os cs (second (below_all nat_cmp a.0 os) (is_sorted nat_cmp os) g) k) bs h

-- two ascending lists merged are the winners of both
pub merge-winners : (os bs : List (ℕ × Cell)) → IsTrue (ascending os) → IsTrue (ascending bs) → merge os bs ≡ winners (os ++ bs)
merge-winners os bs g h =
    same_cells (merge os bs) (winners (os ++ bs)) (holds _ (sorted-merge os bs (test_of _ g) (test_of _ h))) (ascending-winners (os ++ bs)) (λ q.
    find-merge q os bs (test_of _ g) (test_of _ h)
    ∙ sym (winner-two (find nat_cmp q os) (find nat_cmp q bs))
    ∙ sym (
    find-winners q (os ++ bs)
    ∙ ap winner (at_column-append q os bs)
    ∙ (λ i. winner (at_column-ascending q os (test_of _ g) i ++ at_column-ascending q bs (test_of _ h) i))
    ))

pub winner-pair : (c d : Cell) → winner (c ∷ d ∷ []) ≡ Some (pick c d)
winner-pair c d = winner-two (Some c) (Some d)

-- what wins over the other of two is the one picked
pub picked : (c d x : Cell) → Some x ≡ winner (c ∷ d ∷ []) → x ≡ pick c d
picked c d x e = let h : Some x ≡ Some (pick c d) = e ∙ winner-pair c d in cc

-- with nothing left on one side, what is left on both is what is left on the other
merge-ends : (os bs : List (ℕ × Cell)) → (length os < 1) ⊎ (length bs < 1) → merge os bs ≡ os ++ bs
merge-ends [] bs h = refl
merge-ends (a ∷ os) [] h = sym (append-nil (a ∷ os))
merge-ends (a ∷ os) (b ∷ bs) h = ⊎_elim (λ e. absurd (omega arith)) (λ e. absurd (omega arith)) h

-- what the loop made, with what it left, is the winners
pub made-winners : (made ours theirs os bs : List (ℕ × Cell)) → IsTrue (ascending ours) → IsTrue (ascending theirs) → made ++ merge os bs ≡ merge ours theirs → (length os < 1) ⊎ (length bs < 1) → (made ++ os) ++ bs ≡ winners (ours ++ theirs)
made-winners made ours theirs os bs g h e ended =
    append_assoc made os bs ∙ ap (λ ms. made ++ ms) (sym (merge-ends os bs ended)) ∙ e ∙ merge-winners ours theirs g h
