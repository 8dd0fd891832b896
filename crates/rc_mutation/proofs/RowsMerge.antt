-- Two lists of rows by ascending key merged: what the merging loop goes by, and that it gives the joined rows of both.
use Rattle.std.proofs.Common.{◌⊎◌, ⊎_elim, length, ◌<◌, arith, append_assoc, ◌≡◌, Bool, true, false, List, [], ◌∷◌, ◌++◌, Option, Some, None, cond, refl, sym, ap, ◌∙◌, subst, T, append-nil}
use Rattle.std.specs.Prelude.{IsTrue, All, ◌≢◌, zero, suc}
use Rattle.std.specs.declared.cmp.Ordering.{Ordering}
use Rattle.std.specs.declared.cmp.Ordering.TheVariants.{Less, Equal, Greater}
use Rattle.std.specs.Ordering.{is_lt, is_eq, eq_by_cmp, match_ordering, ordering_reverse}
use Rattle.std.specs.Option.{option_to_list}
use Rattle.std.specs.FinMap.{find, is_sorted}
use Rattle.std.specs.FinMap.Entries.{below_all}
use Rattle.rc_cell.specs.declared.rows.Row.{Row}
use Rattle.rc_cell.specs.Columns.{ascending}
use Rattle.rc_cell.specs.laws.ByColumn.{test_of, both, first, second}
use Rattle.rc_cell.specs.laws.{joined_row-one}
use Rattle.rc_cell.specs.Winner.{empty_row, joined_row}
use Rattle.rc_position.specs.declared.comps.Comp.{Comp}
use Rattle.rc_position.specs.Position.{key_cmp}
use Rattle.rc_position.specs.laws.Orders.{key_cmp_total, key_cmp_same}
use Rattle.rc_mutation.specs.Rows.{joined_rows, IsRows}
use Rattle.rc_mutation.specs.laws.ByKey.{KeyedRows, same_key, rows_at-append, rows_at-ascending, same_rows, joined_if_any, find-joined_rows, sorted-joined_rows}
use Rattle.rc_mutation.specs.laws.JoinedRows.{found, IsRows-joined_rows}

-- what two rows at one key join to
abbrev pub pair : Row → Row → Row
pair r q = joined_row (r ∷ q ∷ [])

-- the rows of two sides at one key as one, where there are any
abbrev pub either : Option Row → Option Row → Option Row
either None y = y
either (Some x) None = Some x
either (Some x) (Some y) = Some (pair x y)

-- the first of ours, and the rest of ours merged with what `rest` is given, among theirs
abbrev pub merge_into : List Comp × Row → List (List Comp × Row) → (List (List Comp × Row) → List (List Comp × Row)) → List (List Comp × Row) → List (List Comp × Row)
merge_into a os rest [] = a ∷ os
merge_into a os rest (b ∷ bs) = match_ordering (key_cmp a.0 b.0) (a ∷ rest (b ∷ bs)) ((a.0, pair a.1 b.1) ∷ rest bs) (b ∷ merge_into a os rest bs)

-- ours and theirs by ascending key, and their join where both have the key
abbrev pub merge : List (List Comp × Row) → List (List Comp × Row) → List (List Comp × Row)
merge [] bs = bs
merge (a ∷ os) bs = merge_into a os (merge os) bs

pub merge-nil : (os : List (List Comp × Row)) → merge os [] ≡ os
merge-nil [] = refl
merge-nil (a ∷ os) = refl

is_less : (r : Ordering) → r ≡ Less → T (is_lt r)
is_less Less e = tt
is_less Equal e = absurd (cc)
is_less Greater e = absurd (cc)

less : (r : Ordering) → T (is_lt r) → r ≡ Less
less Less h = refl
less Equal h = absurd h
less Greater h = absurd h

below_less : (x y : List Comp) (es : List (List Comp × Row)) → key_cmp x y ≡ Less → T (below_all key_cmp y es) → T (below_all key_cmp x es)
below_less x y [] p h = tt
below_less x y (e ∷ es) p h =
    both (is_lt (key_cmp x e.0)) (below_all key_cmp x es)
    (is_less _ (key_cmp_total.trans x y e.0 p (less (key_cmp y e.0) (first (is_lt (key_cmp y e.0)) (below_all key_cmp y es) h))))
    (below_less x y es p (second (is_lt (key_cmp y e.0)) (below_all key_cmp y es) h))

-- a key below the first of an ascending list is below all of it
below_first : (x : List Comp) (e : List Comp × Row) (es : List (List Comp × Row)) → key_cmp x e.0 ≡ Less → T (is_sorted key_cmp (e ∷ es)) → T (below_all key_cmp x (e ∷ es))
below_first x e es p h = both (is_lt (key_cmp x e.0)) (below_all key_cmp x es) (is_less _ p) (below_less x e.0 es p (first (below_all key_cmp e.0 es) (is_sorted key_cmp es) h))

not_level : (r : Ordering) → r ≡ Less → is_eq r ≡ false
not_level Less e = refl
not_level Equal e = absurd (cc)
not_level Greater e = absurd (cc)

find-below : (q : List Comp) (es : List (List Comp × Row)) → T (below_all key_cmp q es) → find key_cmp q es ≡ None
find-below q [] h = refl
find-below q (e ∷ es) h =
    ap (λ b. cond b (Some e.1) (find key_cmp q es)) (not_level (key_cmp q e.0) (less (key_cmp q e.0) (first (is_lt (key_cmp q e.0)) (below_all key_cmp q es) h)))
    ∙ find-below q es (second (is_lt (key_cmp q e.0)) (below_all key_cmp q es) h)

either_none : (s : Option Row) → s ≡ either s None
either_none None = refl
either_none (Some x) = refl

turned : (x y : List Comp) → key_cmp x y ≡ Greater → key_cmp y x ≡ Less
turned x y e = key_cmp_total.antisymm y x ∙ ap ordering_reverse e

-- a key that is found first on one side, and is not on the other
found_ours : (b : Bool) (x : Row) (s t : Option Row) → (b ≡ true → t ≡ None) → cond b (Some x) (either s t) ≡ either (cond b (Some x) s) t
found_ours true x s t h = ap (either (Some x)) (sym (h refl))
found_ours false x s t h = refl

found_theirs : (b : Bool) (x : Row) (s t : Option Row) → (b ≡ true → s ≡ None) → cond b (Some x) (either s t) ≡ either s (cond b (Some x) t)
found_theirs true x s t h = ap (λ r. either r (Some x)) (sym (h refl))
found_theirs false x s t h = refl

found_both : (b : Bool) (x y : Row) (s t : Option Row) → cond b (Some (pair x y)) (either s t) ≡ either (cond b (Some x) s) (cond b (Some y) t)
found_both true x y s t = refl
found_both false x y s t = refl

-- a key has what the greater of the two sides is
abbrev Finds : List Comp → List (List Comp × Row) → List (List Comp × Row) → List (List Comp × Row) → Type 0
Finds q os bs ms = find key_cmp q ms ≡ either (find key_cmp q os) (find key_cmp q bs)

find-merge_into : (q : List Comp) (a : List Comp × Row) (os : List (List Comp × Row)) (rest : List (List Comp × Row) → List (List Comp × Row)) → T (is_sorted key_cmp (a ∷ os)) → ((bs : List (List Comp × Row)) → T (is_sorted key_cmp bs) → Finds q os bs (rest bs)) → (bs : List (List Comp × Row)) → T (is_sorted key_cmp bs) → Finds q (a ∷ os) bs (merge_into a os rest bs)
find-merge_into q a os rest g ih [] h = either_none (find key_cmp q (a ∷ os))
find-merge_into q a os rest g ih (b ∷ bs) h =
    let later = second (below_all key_cmp b.0 bs) (is_sorted key_cmp bs) h in
    elim (key_cmp a.0 b.0) as (λ r. key_cmp a.0 b.0 ≡ r → Finds q (a ∷ os) (b ∷ bs) (match_ordering r (a ∷ rest (b ∷ bs)) ((a.0, pair a.1 b.1) ∷ rest bs) (b ∷ merge_into a os rest bs))) [
      | Less ↦ λ p.
          ap (cond (eq_by_cmp key_cmp q a.0) (Some a.1)) (ih (b ∷ bs) h)
          ∙ found_ours (eq_by_cmp key_cmp q a.0) a.1 (find key_cmp q os) (find key_cmp q (b ∷ bs)) (λ k. ap (λ x. find key_cmp x (b ∷ bs)) (same_key q a.0 k) ∙ find-below a.0 (b ∷ bs) (below_first a.0 b bs p h))
      | Equal ↦ λ p.
          ap (cond (eq_by_cmp key_cmp q a.0) (Some (pair a.1 b.1))) (ih bs later)
          ∙ found_both (eq_by_cmp key_cmp q a.0) a.1 b.1 (find key_cmp q os) (find key_cmp q bs)
          ∙ ap (λ x. either (find key_cmp q (a ∷ os)) (cond (eq_by_cmp key_cmp q x) (Some b.1) (find key_cmp q bs))) (key_cmp_same a.0 b.0 p)
      | Greater ↦ λ p.
          ap (cond (eq_by_cmp key_cmp q b.0) (Some b.1)) (find-merge_into q a os rest g ih bs later)
          ∙ found_theirs (eq_by_cmp key_cmp q b.0) b.1 (find key_cmp q (a ∷ os)) (find key_cmp q bs) (λ k. ap (λ x. find key_cmp x (a ∷ os)) (same_key q b.0 k) ∙ find-below b.0 (a ∷ os) (below_first b.0 a os (turned a.0 b.0 p) g))
    ] refl

find-merge : (q : List Comp) (os bs : List (List Comp × Row)) → T (is_sorted key_cmp os) → T (is_sorted key_cmp bs) → Finds q os bs (merge os bs)
find-merge q [] bs g h = refl
find-merge q (a ∷ os) bs g h = find-merge_into q a os (merge os) g (λ cs k. find-merge q os cs (second (below_all key_cmp a.0 os) (is_sorted key_cmp os) g) k) bs h

-- what stands below both stands below them merged
abbrev KeepsBelow : List Comp → List (List Comp × Row) → List (List Comp × Row) → List (List Comp × Row) → Type 0
KeepsBelow x os bs ms = T (below_all key_cmp x os) → T (below_all key_cmp x bs) → T (below_all key_cmp x ms)

below-merge_into : (x : List Comp) (a : List Comp × Row) (os : List (List Comp × Row)) (rest : List (List Comp × Row) → List (List Comp × Row)) → ((bs : List (List Comp × Row)) → KeepsBelow x os bs (rest bs)) → (bs : List (List Comp × Row)) → KeepsBelow x (a ∷ os) bs (merge_into a os rest bs)
below-merge_into x a os rest ih [] g h = g
below-merge_into x a os rest ih (b ∷ bs) g h =
    let under_a = first (is_lt (key_cmp x a.0)) (below_all key_cmp x os) g in
    let ours = second (is_lt (key_cmp x a.0)) (below_all key_cmp x os) g in
    let under_b = first (is_lt (key_cmp x b.0)) (below_all key_cmp x bs) h in
    let theirs = second (is_lt (key_cmp x b.0)) (below_all key_cmp x bs) h in
    elim (key_cmp a.0 b.0) as (λ r. T (below_all key_cmp x (match_ordering r (a ∷ rest (b ∷ bs)) ((a.0, pair a.1 b.1) ∷ rest bs) (b ∷ merge_into a os rest bs)))) [
      | Less ↦ both (is_lt (key_cmp x a.0)) _ under_a (ih (b ∷ bs) ours h)
      | Equal ↦ both (is_lt (key_cmp x a.0)) _ under_a (ih bs ours theirs)
      | Greater ↦ both (is_lt (key_cmp x b.0)) _ under_b (below-merge_into x a os rest ih bs g theirs)
    ]

below-merge : (x : List Comp) (os bs : List (List Comp × Row)) → KeepsBelow x os bs (merge os bs)
below-merge x [] bs g h = h
below-merge x (a ∷ os) bs g h = below-merge_into x a os (merge os) (λ cs. below-merge x os cs) bs g h

sorted-merge_into : (a : List Comp × Row) (os : List (List Comp × Row)) → T (is_sorted key_cmp (a ∷ os)) → ((bs : List (List Comp × Row)) → T (is_sorted key_cmp bs) → T (is_sorted key_cmp (merge os bs))) → (bs : List (List Comp × Row)) → T (is_sorted key_cmp bs) → T (is_sorted key_cmp (merge_into a os (merge os) bs))
sorted-merge_into a os g ih [] h = g
sorted-merge_into a os g ih (b ∷ bs) h =
    let over_a = first (below_all key_cmp a.0 os) (is_sorted key_cmp os) g in
    let over_b = first (below_all key_cmp b.0 bs) (is_sorted key_cmp bs) h in
    let later = second (below_all key_cmp b.0 bs) (is_sorted key_cmp bs) h in
    elim (key_cmp a.0 b.0) as (λ r. key_cmp a.0 b.0 ≡ r → T (is_sorted key_cmp (match_ordering r (a ∷ merge os (b ∷ bs)) ((a.0, pair a.1 b.1) ∷ merge os bs) (b ∷ merge_into a os (merge os) bs)))) [
      | Less ↦ λ p. both (below_all key_cmp a.0 (merge os (b ∷ bs))) _ (below-merge a.0 os (b ∷ bs) over_a (below_first a.0 b bs p h)) (ih (b ∷ bs) h)
      | Equal ↦ λ p. both (below_all key_cmp a.0 (merge os bs)) _ (below-merge a.0 os bs over_a (subst (λ x. T (below_all key_cmp x bs)) (sym (key_cmp_same a.0 b.0 p)) over_b)) (ih bs later)
      | Greater ↦ λ p. both (below_all key_cmp b.0 (merge_into a os (merge os) bs)) _ (below-merge b.0 (a ∷ os) bs (below_first b.0 a os (turned a.0 b.0 p) g) over_b) (sorted-merge_into a os g ih bs later)
    ] refl

sorted-merge : (os bs : List (List Comp × Row)) → T (is_sorted key_cmp os) → T (is_sorted key_cmp bs) → T (is_sorted key_cmp (merge os bs))
sorted-merge [] bs g h = h
sorted-merge (a ∷ os) bs g h = sorted-merge_into a os g (λ cs k. sorted-merge os cs (second (below_all key_cmp a.0 os) (is_sorted key_cmp os) g) k) bs h

-- rows found on two sides, as one
either-joined : (s t : Option Row) → ((x : Row) → s ≡ Some x → IsTrue (ascending x.cells)) → ((x : Row) → t ≡ Some x → IsTrue (ascending x.cells)) → joined_if_any (option_to_list s ++ option_to_list t) ≡ either s t
either-joined None None g h = refl
either-joined None (Some y) g h = ap Some (joined_row-one y (h y refl))
either-joined (Some x) None g h = ap Some (joined_row-one x (g x refl))
either-joined (Some x) (Some y) g h = refl

-- two lists by ascending key merged are the joined rows of both
pub merge-joined : (os bs : KeyedRows) → IsRows os → IsRows bs → merge os bs ≡ joined_rows (os ++ bs)
merge-joined os bs g h =
    let ours : T (is_sorted key_cmp os) = test_of _ g.ascend in
    let theirs : T (is_sorted key_cmp bs) = test_of _ h.ascend in
    same_rows (merge os bs) (joined_rows (os ++ bs)) (sorted-merge os bs ours theirs) (sorted-joined_rows (os ++ bs)) (λ q.
    find-merge q os bs ours theirs
    ∙ sym (either-joined (find key_cmp q os) (find key_cmp q bs) (found (λ r. IsTrue (ascending r.cells)) q os g.by_column) (found (λ r. IsTrue (ascending r.cells)) q bs h.by_column))
    ∙ sym (
    find-joined_rows q (os ++ bs)
    ∙ ap joined_if_any (rows_at-append q os bs)
    ∙ (λ i. joined_if_any (rows_at-ascending q os ours i ++ rows_at-ascending q bs theirs i))
    ))

-- with nothing left on one side, what is left on both is what is left on the other
merge-ends : (os bs : KeyedRows) → (length os < 1) ⊎ (length bs < 1) → merge os bs ≡ os ++ bs
merge-ends [] bs h = refl
merge-ends (a ∷ os) [] h = sym (append-nil (a ∷ os))
merge-ends (a ∷ os) (b ∷ bs) h = ⊎_elim (λ e. absurd (omega arith)) (λ e. absurd (omega arith)) h

-- what the loop made, with what it left, is what was there before, with the joined rows
pub made-joined : (before made ours theirs os bs : KeyedRows) → IsRows ours → IsRows theirs → made ++ merge os bs ≡ before ++ merge ours theirs → (length os < 1) ⊎ (length bs < 1) → (made ++ os) ++ bs ≡ before ++ joined_rows (ours ++ theirs)
made-joined before made ours theirs os bs g h e ended =
    append_assoc made os bs ∙ ap (λ ms. made ++ ms) (sym (merge-ends os bs ended)) ∙ e ∙ ap (λ ms. before ++ ms) (merge-joined ours theirs g h)

all-append : (P : List Comp × Row → Type 0) (xs ys : KeyedRows) → All P xs → All P ys → All P (xs ++ ys)
all-append P [] ys g h k d lt = h k d lt
all-append P (x ∷ xs) ys g h zero d lt = g 0 x (omega arith)
all-append P (x ∷ xs) ys g h (suc k) d lt = all-append P xs ys (λ k d lt. g (suc k) d (omega arith)) h k d (omega arith)

-- they ascend, and something was written of each
pub joined-rows : (os bs : KeyedRows) → IsRows os → IsRows bs → IsRows (joined_rows (os ++ bs))
joined-rows os bs g h =
    IsRows-joined_rows (os ++ bs) (all-append (λ e. IsTrue (ascending e.1.cells)) os bs g.by_column h.by_column) (all-append (λ e. e.1 ≢ empty_row) os bs g.written h.written)
