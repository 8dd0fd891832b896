-- Rows and changes merged by position: what the merging loop goes by, and that it gives them in order.
use Rattle.std.proofs.Common.{◌⊎◌, ⊎_elim, length, ◌<◌, arith, append_assoc, ◌≡◌, ℕ, Bool, true, false, List, [], ◌∷◌, ◌++◌, Option, Some, None, cond, refl, sym, ap, ◌∙◌, subst, T, append-nil, map as list_map}
use Rattle.std.specs.Prelude.{IsTrue}
use Rattle.std.specs.declared.cmp.Ordering.{Ordering}
use Rattle.std.specs.declared.cmp.Ordering.TheVariants.{Less, Equal, Greater}
use Rattle.std.specs.Ordering.{is_lt, is_gt, is_eq, eq_by_cmp, nat_cmp, ordering_then, ordering_reverse}
use Rattle.std.specs.Cmp.{IsTotalOrder, on_total, then_total, nat_cmp_total}
use Rattle.std.specs.FinMap as map
use Rattle.std.specs.FinMap.{find, is_sorted, IsAntisymmetric, nat_cmp-IsAntisymmetric}
use Rattle.std.specs.FinMap.Entries.{below_all, same_entries}
use Rattle.rc_cell.specs.declared.rows.Row.{Row}
use Rattle.rc_cell.specs.declared.writes.Tomb.{Tomb}
use Rattle.rc_cell.specs.laws.ByColumn.{holds, test_of, both, first, second}
use Rattle.rc_position.specs.declared.comps.Comp.{Comp}
use Rattle.rc_position.specs.declared.positions.Pos.{Pos}
use Rattle.rc_position.specs.Position.{key_cmp, pos_cmp, row_pos, IsBefore}
use Rattle.rc_position.specs.laws.Orders.{pos_cmp_total, pos_cmp_same}
use Rattle.rc_ranges.specs.declared.pieces.Piece.{Piece}
use Rattle.rc_ranges.specs.Cover.{IsCanonical, MayFollow}
use Rattle.rc_mutation.specs.declared.fragments.Frag.{Frag}
use Rattle.rc_mutation.specs.declared.fragments.Frag.TheVariants as frag
use Rattle.rc_mutation.specs.Fragments.{begins_at, changes_of, place_order, placed_change, placed_row, in_order}

-- a fragment with where it stands
abbrev Placed : Type 0
Placed = (Pos × ℕ) × Frag

-- a position, and the tombstone in force from it on
abbrev Change : Type 0
Change = Pos × Option Tomb

-- a row with its clustering key
abbrev Keyed : Type 0
Keyed = List Comp × Row

-- the fragment, without where it stands
abbrev pub fragment_of : (Pos × ℕ) × Frag → Frag
fragment_of e = e.1

-- the first row, and the rest of the rows merged with what `rest` is given, among the changes
abbrev pub merge_into : List Comp × Row → List (List Comp × Row) → (List (Pos × Option Tomb) → List ((Pos × ℕ) × Frag)) → List (Pos × Option Tomb) → List ((Pos × ℕ) × Frag)
merge_into a os rest [] = placed_row a ∷ list_map placed_row os
merge_into a os rest (b ∷ bs) = cond (is_lt (pos_cmp (row_pos a.0) b.0)) (placed_row a ∷ rest (b ∷ bs)) (placed_change b ∷ merge_into a os rest bs)

-- rows and changes by position, at one position the change first
abbrev pub merge : List (List Comp × Row) → List (Pos × Option Tomb) → List ((Pos × ℕ) × Frag)
merge [] bs = list_map placed_change bs
merge (a ∷ os) bs = merge_into a os (merge os) bs

pub merge-nil : (os : List Keyed) → merge os [] ≡ list_map placed_row os
merge-nil [] = refl
merge-nil (a ∷ os) = refl

-- ---- the order of places

place_total : IsTotalOrder place_order
place_total = then_total (on_total (λ (p : Pos × ℕ). p.0) pos_cmp_total) (on_total (λ (p : Pos × ℕ). p.1) nat_cmp_total)

then_first : (r s : Ordering) → ordering_then r s ≡ Equal → r ≡ Equal
then_first Less s e = e
then_first Equal s e = refl
then_first Greater s e = e

then_second : (r s : Ordering) → ordering_then r s ≡ Equal → s ≡ Equal
then_second Less s e = absurd (cc)
then_second Equal s e = e
then_second Greater s e = absurd (cc)

place_same : IsAntisymmetric place_order
place_same x y e =
    let positions : x.0 ≡ y.0 = pos_cmp_same x.0 y.0 (then_first (pos_cmp x.0 y.0) (nat_cmp x.1 y.1) e) in
    let ranks : x.1 ≡ y.1 = nat_cmp-IsAntisymmetric x.1 y.1 (then_second (pos_cmp x.0 y.0) (nat_cmp x.1 y.1) e) in
    λ i. (positions i, ranks i)

less : (r : Ordering) → T (is_lt r) → r ≡ Less
less Less h = refl
less Equal h = absurd h
less Greater h = absurd h

is_less : (r : Ordering) → r ≡ Less → T (is_lt r)
is_less Less e = tt
is_less Equal e = absurd (cc)
is_less Greater e = absurd (cc)

-- a row before a change, or else behind it
row_first : (x y : Pos) → is_lt (pos_cmp x y) ≡ true → place_order (x, 1) (y, 0) ≡ Less
row_first x y h = ap (λ r. ordering_then r Greater) (less (pos_cmp x y) (test_of _ h))

change_first : (x y : Pos) → is_lt (pos_cmp x y) ≡ false → place_order (y, 0) (x, 1) ≡ Less
change_first x y h =
    ap (λ r. ordering_then r Less) (pos_cmp_total.antisymm y x)
    ∙ elim (pos_cmp x y) as (λ r. is_lt r ≡ false → ordering_then (ordering_reverse r) Less ≡ Less) [ Less ↦ λ e. absurd (cc) | Equal ↦ λ _. refl | Greater ↦ λ _. refl ] h

below_less : (x y : Pos × ℕ) (es : List Placed) → place_order x y ≡ Less → T (below_all place_order y es) → T (below_all place_order x es)
below_less x y [] p h = tt
below_less x y (e ∷ es) p h =
    both (is_lt (place_order x e.0)) (below_all place_order x es)
    (is_less _ (place_total.trans x y e.0 p (less (place_order y e.0) (first (is_lt (place_order y e.0)) (below_all place_order y es) h))))
    (below_less x y es p (second (is_lt (place_order y e.0)) (below_all place_order y es) h))

below_first : (x : Pos × ℕ) (e : Placed) (es : List Placed) → place_order x e.0 ≡ Less → T (is_sorted place_order (e ∷ es)) → T (below_all place_order x (e ∷ es))
below_first x e es p h = both (is_lt (place_order x e.0)) (below_all place_order x es) (is_less _ p) (below_less x e.0 es p (first (below_all place_order e.0 es) (is_sorted place_order es) h))

not_level : (r : Ordering) → r ≡ Less → is_eq r ≡ false
not_level Less e = refl
not_level Equal e = absurd (cc)
not_level Greater e = absurd (cc)

find-below : (q : Pos × ℕ) (es : List Placed) → T (below_all place_order q es) → find place_order q es ≡ None
find-below q [] h = refl
find-below q (e ∷ es) h =
    ap (λ b. cond b (Some e.1) (find place_order q es)) (not_level (place_order q e.0) (less (place_order q e.0) (first (is_lt (place_order q e.0)) (below_all place_order q es) h)))
    ∙ find-below q es (second (is_lt (place_order q e.0)) (below_all place_order q es) h)

tie : (r : Ordering) → is_eq r ≡ true → r ≡ Equal
tie Less e = absurd (cc)
tie Equal e = refl
tie Greater e = absurd (cc)

same_place : (q k : Pos × ℕ) → eq_by_cmp place_order q k ≡ true → q ≡ k
same_place q k e = place_same q k (tie (place_order q k) e)

-- ---- what is found in rows and changes merged

-- the first of two, else the second
abbrev or_else : Option Frag → Option Frag → Option Frag
or_else None y = y
or_else (Some x) y = Some x

or_none : (s : Option Frag) → s ≡ or_else s None
or_none None = refl
or_none (Some x) = refl

found_row : (b : Bool) (x : Frag) (s t : Option Frag) → cond b (Some x) (or_else s t) ≡ or_else (cond b (Some x) s) t
found_row true x s t = refl
found_row false x s t = refl

found_change : (b : Bool) (x : Frag) (s t : Option Frag) → (b ≡ true → s ≡ None) → cond b (Some x) (or_else s t) ≡ or_else s (cond b (Some x) t)
found_change true x s t h = ap (λ r. or_else r (Some x)) (sym (h refl))
found_change false x s t h = refl

find-both : (q : Pos × ℕ) (xs ys : List Placed) → find place_order q (xs ++ ys) ≡ or_else (find place_order q xs) (find place_order q ys)
find-both q [] ys = refl
find-both q (x ∷ xs) ys = ap (cond (eq_by_cmp place_order q x.0) (Some x.1)) (find-both q xs ys) ∙ found_row (eq_by_cmp place_order q x.0) x.1 (find place_order q xs) (find place_order q ys)

-- the rows strictly ascend by where they stand
abbrev SortedRows : List Keyed → Type 0
SortedRows os = T (is_sorted place_order (list_map placed_row os))

-- the changes strictly ascend by where they stand
abbrev SortedChanges : List Change → Type 0
SortedChanges bs = T (is_sorted place_order (list_map placed_change bs))

-- at one place the list has what the rows have there, else what the changes have
abbrev Finds : Pos × ℕ → List Keyed → List Change → List Placed → Type 0
Finds q os bs ms = find place_order q ms ≡ or_else (find place_order q (list_map placed_row os)) (find place_order q (list_map placed_change bs))

find-merge_into : (q : Pos × ℕ) (a : Keyed) (os : List Keyed) (rest : List Change → List Placed) → SortedRows (a ∷ os) → ((bs : List Change) → Finds q os bs (rest bs)) → (bs : List Change) → Finds q (a ∷ os) bs (merge_into a os rest bs)
find-merge_into q a os rest g ih [] = or_none (find place_order q (list_map placed_row (a ∷ os)))
find-merge_into q a os rest g ih (b ∷ bs) =
    elim (is_lt (pos_cmp (row_pos a.0) b.0)) as (λ r. is_lt (pos_cmp (row_pos a.0) b.0) ≡ r → Finds q (a ∷ os) (b ∷ bs) (cond r (placed_row a ∷ rest (b ∷ bs)) (placed_change b ∷ merge_into a os rest bs))) [
      | true ↦ λ p.
          ap (cond (eq_by_cmp place_order q (row_pos a.0, 1)) (Some (frag.Row a.0 a.1))) (ih (b ∷ bs))
          ∙ found_row (eq_by_cmp place_order q (row_pos a.0, 1)) (frag.Row a.0 a.1) (find place_order q (list_map placed_row os)) (find place_order q (list_map placed_change (b ∷ bs)))
      | false ↦ λ p.
          ap (cond (eq_by_cmp place_order q (b.0, 0)) (Some (frag.Change b.0 b.1))) (find-merge_into q a os rest g ih bs)
          ∙ found_change (eq_by_cmp place_order q (b.0, 0)) (frag.Change b.0 b.1) (find place_order q (list_map placed_row (a ∷ os))) (find place_order q (list_map placed_change bs))
          (λ k. ap (λ x. find place_order x (list_map placed_row (a ∷ os))) (same_place q (b.0, 0) k) ∙ find-below (b.0, 0) (list_map placed_row (a ∷ os)) (below_first (b.0, 0) (placed_row a) (list_map placed_row os) (change_first (row_pos a.0) b.0 p) g))
    ] refl

find-merge : (q : Pos × ℕ) (os : List Keyed) (bs : List Change) → SortedRows os → Finds q os bs (merge os bs)
find-merge q [] bs g = refl
find-merge q (a ∷ os) bs g = find-merge_into q a os (merge os) g (λ cs. find-merge q os cs (second (below_all place_order (row_pos a.0, 1) (list_map placed_row os)) (is_sorted place_order (list_map placed_row os)) g)) bs

-- ---- and it ascends

-- where all rows and changes stand behind a place, so does the whole list
abbrev KeepsBelow : Pos × ℕ → List Keyed → List Change → List Placed → Type 0
KeepsBelow x os bs ms = T (below_all place_order x (list_map placed_row os)) → T (below_all place_order x (list_map placed_change bs)) → T (below_all place_order x ms)

below-merge_into : (x : Pos × ℕ) (a : Keyed) (os : List Keyed) (rest : List Change → List Placed) → ((bs : List Change) → KeepsBelow x os bs (rest bs)) → (bs : List Change) → KeepsBelow x (a ∷ os) bs (merge_into a os rest bs)
below-merge_into x a os rest ih [] g h = g
below-merge_into x a os rest ih (b ∷ bs) g h =
    let under_a = first (is_lt (place_order x (row_pos a.0, 1))) (below_all place_order x (list_map placed_row os)) g in
    let ours = second (is_lt (place_order x (row_pos a.0, 1))) (below_all place_order x (list_map placed_row os)) g in
    let under_b = first (is_lt (place_order x (b.0, 0))) (below_all place_order x (list_map placed_change bs)) h in
    let theirs = second (is_lt (place_order x (b.0, 0))) (below_all place_order x (list_map placed_change bs)) h in
    elim (is_lt (pos_cmp (row_pos a.0) b.0)) as (λ r. T (below_all place_order x (cond r (placed_row a ∷ rest (b ∷ bs)) (placed_change b ∷ merge_into a os rest bs)))) [
      | true ↦ both (is_lt (place_order x (row_pos a.0, 1))) _ under_a (ih (b ∷ bs) ours h)
      | false ↦ both (is_lt (place_order x (b.0, 0))) _ under_b (below-merge_into x a os rest ih bs g theirs)
    ]

below-merge : (x : Pos × ℕ) (os : List Keyed) (bs : List Change) → KeepsBelow x os bs (merge os bs)
below-merge x [] bs g h = h
below-merge x (a ∷ os) bs g h = below-merge_into x a os (merge os) (λ cs. below-merge x os cs) bs g h

sorted-merge_into : (a : Keyed) (os : List Keyed) → SortedRows (a ∷ os) → ((bs : List Change) → SortedChanges bs → T (is_sorted place_order (merge os bs))) → (bs : List Change) → SortedChanges bs → T (is_sorted place_order (merge_into a os (merge os) bs))
sorted-merge_into a os g ih [] h = g
sorted-merge_into a os g ih (b ∷ bs) h =
    let over_a = first (below_all place_order (row_pos a.0, 1) (list_map placed_row os)) (is_sorted place_order (list_map placed_row os)) g in
    let over_b = first (below_all place_order (b.0, 0) (list_map placed_change bs)) (is_sorted place_order (list_map placed_change bs)) h in
    let later = second (below_all place_order (b.0, 0) (list_map placed_change bs)) (is_sorted place_order (list_map placed_change bs)) h in
    elim (is_lt (pos_cmp (row_pos a.0) b.0)) as (λ r. is_lt (pos_cmp (row_pos a.0) b.0) ≡ r → T (is_sorted place_order (cond r (placed_row a ∷ merge os (b ∷ bs)) (placed_change b ∷ merge_into a os (merge os) bs)))) [
      | true ↦ λ p. both (below_all place_order (row_pos a.0, 1) (merge os (b ∷ bs))) _ (below-merge (row_pos a.0, 1) os (b ∷ bs) over_a (below_first (row_pos a.0, 1) (placed_change b) (list_map placed_change bs) (row_first (row_pos a.0) b.0 p) h)) (ih (b ∷ bs) h)
      | false ↦ λ p. both (below_all place_order (b.0, 0) (merge_into a os (merge os) bs)) _ (below-merge (b.0, 0) (a ∷ os) bs (below_first (b.0, 0) (placed_row a) (list_map placed_row os) (change_first (row_pos a.0) b.0 p) g) over_b) (sorted-merge_into a os g ih bs later)
    ] refl

sorted-merge : (os : List Keyed) (bs : List Change) → SortedRows os → SortedChanges bs → T (is_sorted place_order (merge os bs))
sorted-merge [] bs g h = h
sorted-merge (a ∷ os) bs g h = sorted-merge_into a os g (λ cs k. sorted-merge os cs (second (below_all place_order (row_pos a.0, 1) (list_map placed_row os)) (is_sorted place_order (list_map placed_row os)) g) k) bs h

-- rows and changes merged are both in order
pub merge-in_order : (os : List Keyed) (bs : List Change) → IsTrue (is_sorted place_order (list_map placed_row os)) → IsTrue (is_sorted place_order (list_map placed_change bs)) → list_map fragment_of (merge os bs) ≡ in_order (list_map placed_row os ++ list_map placed_change bs)
merge-in_order os bs g h =
    let all = list_map placed_row os ++ list_map placed_change bs in
    let m = map.from_entries {R = place_order} all in
    ap (list_map fragment_of) (same_entries place_order place_total place_same (merge os bs) (map.entries m) (sorted-merge os bs (test_of _ g) (test_of _ h)) (map.entries_sorted m) (λ q.
    find-merge q os bs (test_of _ g)
    ∙ sym (find-both q (list_map placed_row os) (list_map placed_change bs))
    ∙ sym (map.get-from_entries place_total all q)
    ∙ map.get-entries m q))

map-placed_row : (os : List Keyed) → list_map fragment_of (list_map placed_row os) ≡ list_map (λ e. frag.Row e.0 e.1) os
map-placed_row [] = refl
map-placed_row (a ∷ os) = ap (λ fs. frag.Row a.0 a.1 ∷ fs) (map-placed_row os)

map-placed_change : (bs : List Change) → list_map fragment_of (list_map placed_change bs) ≡ list_map (λ c. frag.Change c.0 c.1) bs
map-placed_change [] = refl
map-placed_change (b ∷ bs) = ap (λ fs. frag.Change b.0 b.1 ∷ fs) (map-placed_change bs)

-- with nothing left on one side, what is left on both is what is left on the other
merge-ends : (os : List Keyed) (bs : List Change) → (length os < 1) ⊎ (length bs < 1) → list_map fragment_of (merge os bs) ≡ list_map (λ e. frag.Row e.0 e.1) os ++ list_map (λ c. frag.Change c.0 c.1) bs
merge-ends [] bs h = map-placed_change bs
merge-ends (a ∷ os) [] h = map-placed_row (a ∷ os) ∙ sym (append-nil (list_map (λ e. frag.Row e.0 e.1) (a ∷ os)))
merge-ends (a ∷ os) (b ∷ bs) h = ⊎_elim (λ e. absurd (omega arith)) (λ e. absurd (omega arith)) h

-- what the loop made, with what it left, are both in order
pub made-in_order : (made before : List Frag) (rows os : List Keyed) (changes bs : List Change) → IsTrue (is_sorted place_order (list_map placed_row rows)) → IsTrue (is_sorted place_order (list_map placed_change changes)) → made ++ list_map fragment_of (merge os bs) ≡ before ++ list_map fragment_of (merge rows changes) → (length os < 1) ⊎ (length bs < 1) → (made ++ list_map (λ e. frag.Row e.0 e.1) os) ++ list_map (λ c. frag.Change c.0 c.1) bs ≡ before ++ in_order (list_map placed_row rows ++ list_map placed_change changes)
made-in_order made before rows os changes bs g h e ended =
    append_assoc made (list_map (λ e. frag.Row e.0 e.1) os) (list_map (λ c. frag.Change c.0 c.1) bs)
    ∙ ap (λ fs. made ++ fs) (sym (merge-ends os bs ended))
    ∙ e
    ∙ ap (λ fs. before ++ fs) (merge-in_order rows changes g h)

-- ---- rows by key and changes of canonical pieces ascend

level : (r : Ordering) → T (is_lt r) → T (is_lt (ordering_then r Equal))
level Less h = tt
level Equal h = absurd h
level Greater h = absurd h

rows-below : (k : List Comp) (os : List Keyed) → T (below_all key_cmp k os) → T (below_all place_order (row_pos k, 1) (list_map placed_row os))
rows-below k [] h = tt
rows-below k (e ∷ es) h =
    both (is_lt (place_order (row_pos k, 1) (row_pos e.0, 1))) (below_all place_order (row_pos k, 1) (list_map placed_row es)) (level (key_cmp k e.0) (first (is_lt (key_cmp k e.0)) (below_all key_cmp k es) h)) (rows-below k es (second (is_lt (key_cmp k e.0)) (below_all key_cmp k es) h))

rows-sorted : (os : List Keyed) → T (is_sorted key_cmp os) → SortedRows os
rows-sorted [] h = tt
rows-sorted (e ∷ es) h =
    both (below_all place_order (row_pos e.0, 1) (list_map placed_row es)) (is_sorted place_order (list_map placed_row es)) (rows-below e.0 es (first (below_all key_cmp e.0 es) (is_sorted key_cmp es) h)) (rows-sorted es (second (below_all key_cmp e.0 es) (is_sorted key_cmp es) h))

pub rows-placed : (os : List Keyed) → IsTrue (is_sorted key_cmp os) → IsTrue (is_sorted place_order (list_map placed_row os))
rows-placed os h = holds _ (rows-sorted os (test_of _ h))

-- the next piece begins behind x, if there is one
abbrev BeginsAfter : Pos → List Piece → Type 0
BeginsAfter x [] = Unit {0}
BeginsAfter x (q ∷ qs) = IsBefore x q.from

upto_trans : (x y z : Pos) → IsBefore x y → is_gt (pos_cmp y z) ≡ false → IsBefore x z
upto_trans x y z p h =
    elim (pos_cmp y z) as (λ r. pos_cmp y z ≡ r → is_gt r ≡ false → IsBefore x z) [
      | Less ↦ λ e _. pos_cmp_total.trans x y z p e
      | Equal ↦ λ e _. subst (IsBefore x) (pos_cmp_same y z e) p
      | Greater ↦ λ e k. absurd (cc)
    ] refl h

next_after : (x : Pos) (p : Piece) (ps : List Piece) → IsBefore x p.to → MayFollow p ps → BeginsAfter x ps
next_after x p [] h f = tt
next_after x p (q ∷ qs) h f = upto_trans x p.to q.from h f.0

ends_before : (p : Piece) (ps : List Piece) → MayFollow p ps → begins_at p.to ps ≡ false → BeginsAfter p.to ps
ends_before p [] f e = tt
ends_before p (q ∷ qs) f e =
    elim (pos_cmp p.to q.from) as (λ r. pos_cmp p.to q.from ≡ r → is_gt r ≡ false → r ≡ Less) [
      | Less ↦ λ _ _. refl
      | Equal ↦ λ k _. absurd (let tied : eq_by_cmp pos_cmp q.from p.to ≡ true = ap is_eq (pos_cmp_total.antisymm q.from p.to ∙ ap ordering_reverse k) in cc)
      | Greater ↦ λ _ k. absurd (cc)
    ] refl f.0

-- the changes of pieces, with where they stand
abbrev placed_changes : List Piece → List Placed
placed_changes ps = list_map placed_change (changes_of ps)

just_less : (x y : Pos) → IsBefore x y → T (is_lt (place_order (x, 0) (y, 0)))
just_less x y e = is_less _ (ap (λ r. ordering_then r Equal) e)

changes-below : (x : Pos) (ps : List Piece) → IsCanonical ps → BeginsAfter x ps → T (below_all place_order (x, 0) (placed_changes ps))
changes-below x [] is h = tt
changes-below x (p ∷ ps) is h =
    let to : IsBefore x p.to = pos_cmp_total.trans x p.from p.to h is.0 in
    let rest = changes-below x ps is.2 (next_after x p ps to is.1) in
    both (is_lt (place_order (x, 0) (p.from, 0))) _ (just_less x p.from h)
    (elim (begins_at p.to ps) as (λ b. T (below_all place_order (x, 0) (list_map placed_change (cond b [] ((p.to, None) ∷ []) ++ changes_of ps)))) [
      | true ↦ rest
      | false ↦ both (is_lt (place_order (x, 0) (p.to, 0))) _ (just_less x p.to to) rest
    ])

changes-sorted : (ps : List Piece) → IsCanonical ps → T (is_sorted place_order (placed_changes ps))
changes-sorted [] is = tt
changes-sorted (p ∷ ps) is =
    let rest = changes-sorted ps is.2 in
    let behind = changes-below p.from ps is.2 (next_after p.from p ps is.0 is.1) in
    both (below_all place_order (p.from, 0) (list_map placed_change (cond (begins_at p.to ps) [] ((p.to, None) ∷ []) ++ changes_of ps))) _
    (elim (begins_at p.to ps) as (λ b. T (below_all place_order (p.from, 0) (list_map placed_change (cond b [] ((p.to, None) ∷ []) ++ changes_of ps)))) [
      | true ↦ behind
      | false ↦ both (is_lt (place_order (p.from, 0) (p.to, 0))) _ (just_less p.from p.to is.0) behind
    ])
    (elim (begins_at p.to ps) as (λ b. begins_at p.to ps ≡ b → T (is_sorted place_order (list_map placed_change (cond b [] ((p.to, None) ∷ []) ++ changes_of ps)))) [
      | true ↦ λ _. rest
      | false ↦ λ e. both (below_all place_order (p.to, 0) (placed_changes ps)) _ (changes-below p.to ps is.2 (ends_before p ps is.1 e)) rest
    ] refl)

pub changes-placed : (ps : List Piece) → IsCanonical ps → IsTrue (is_sorted place_order (list_map placed_change (changes_of ps)))
changes-placed ps is = holds _ (changes-sorted ps is)
