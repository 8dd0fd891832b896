-- What a search among rows by ascending key finds, and that an edit at that place puts the row in.
use Rattle.std.proofs.Common.{◌≡◌, ℕ, zero, suc, ◌+◌, ◌<◌, false, List, [], ◌∷◌, ◌++◌, length, get_or, set, Option, Some, None, Result, Ok, Err, IfOk, IfErr, cond, refl, sym, ap, ◌∙◌, subst, T, arith}
use Rattle.std.specs.Prelude.{IsTrue, All, ◌≢◌, OnOk, OnErr}
use Rattle.std.specs.declared.cmp.Ordering.{Ordering}
use Rattle.std.specs.declared.cmp.Ordering.TheVariants.{Less, Equal, Greater}
use Rattle.std.specs.Ordering.{is_lt, is_eq, ordering_reverse, ordering_index}
use Rattle.std.specs.List.{insert}
use Rattle.std.specs.List.Sorted.{IsSearchInRange, IsBinarySearchResult, IsNonDecreasingBy}
use Rattle.std.specs.Cmp.{tied_itself}
use Rattle.std.specs.FinMap.{find, put, is_sorted}
use Rattle.std.specs.FinMap.Entries.{below_all, by_order}
use Rattle.std.proofs.lemmas.List.Sorted.{searchable_from_sorted}
use Rattle.rc_cell.specs.declared.rows.Row.{Row}
use Rattle.rc_cell.specs.laws.ByColumn.{test_of, first, second}
use Rattle.rc_position.specs.declared.comps.Comp.{Comp}
use Rattle.rc_position.specs.Position.{key_cmp}
use Rattle.rc_position.specs.laws.Orders.{key_cmp_total, key_cmp_same}
use Rattle.rc_cell.specs.Columns.{ascending}
use Rattle.rc_cell.specs.Winner.{empty_row, joined_row}
use Rattle.rc_mutation.specs.Rows.{joined_rows, IsRows}
use Rattle.rc_mutation.specs.laws.ByKey.{KeyedRows}
use Rattle.rc_mutation.specs.laws.JoinedRows.{joined_to, joined_rows-put, IsRows-joined_rows}
use Rattle.rc_mutation.specs.calls.Place.{IsAt, IsGapFor}

less : (r : Ordering) → T (is_lt r) → r ≡ Less
less Less h = refl
less Equal h = absurd h
less Greater h = absurd h

turned : (x y : List Comp) → key_cmp x y ≡ Less → key_cmp y x ≡ Greater
turned x y e = key_cmp_total.antisymm y x ∙ ap ordering_reverse e

turned_back : (x y : List Comp) → key_cmp x y ≡ Greater → key_cmp y x ≡ Less
turned_back x y e = key_cmp_total.antisymm y x ∙ ap ordering_reverse e

-- neighbours rise
rises : (es : KeyedRows) → T (is_sorted key_cmp es) → (k : ℕ) (d : List Comp × Row) → k + 1 < length es → is_lt (key_cmp (get_or es (k + 1) d).0 (get_or es k d).0) ≡ false
rises [] h k d lt = absurd (omega arith)
rises (e ∷ []) h k d lt = absurd (omega arith)
rises (e ∷ (f ∷ fs)) h zero d lt =
    ap is_lt (turned e.0 f.0 (less (key_cmp e.0 f.0) (first (is_lt (key_cmp e.0 f.0)) (below_all key_cmp e.0 fs) (first (below_all key_cmp e.0 (f ∷ fs)) (is_sorted key_cmp (f ∷ fs)) h))))
rises (e ∷ (f ∷ fs)) h (suc k) d lt =
    let at : suc k + 1 ≡ suc (k + 1) = omega arith in
    ap (λ i. is_lt (key_cmp (get_or (e ∷ f ∷ fs) i d).0 (get_or (e ∷ f ∷ fs) (suc k) d).0)) at
    ∙ rises (f ∷ fs) (second (below_all key_cmp e.0 (f ∷ fs)) (is_sorted key_cmp (f ∷ fs)) h) k d (omega arith)

comparisons_rise : (es : KeyedRows) (key : List Comp) → T (is_sorted key_cmp es) → IsNonDecreasingBy (λ e. ordering_index (key_cmp e.0 key)) es
comparisons_rise es key h = searchable_from_sorted key_cmp_total (λ (e : List Comp × Row). e.0) es key (λ k d _ lt. rises es h k d lt)

-- a binary search by key ends at the key, or at the gap for it
pub searched : (es : KeyedRows) (key : List Comp) → IsTrue (is_sorted key_cmp es) → (r : Result ℕ ℕ) → IsSearchInRange r (length es) → IsBinarySearchResult (λ e. key_cmp e.0 key) es r → record { found : IfOk r (IsAt es key); absent : IfErr r (IsGapFor es key) }
searched es key up (Ok place) in_range equal = record { found = record { in_range = in_range; has_key = λ d. key_cmp_same _ key (equal d) }; absent = tt }
searched es key up (Err place) in_range parted =
    let split = parted (comparisons_rise es key (test_of _ up)) in
    record { found = tt; absent = record { in_range = in_range; smaller_before = split.0; greater_after = split.1 } }

-- each key behind the first is greater
above_first : (x : List Comp) (es : KeyedRows) → T (below_all key_cmp x es) → (k : ℕ) (d : List Comp × Row) → k < length es → key_cmp x (get_or es k d).0 ≡ Less
above_first x [] h k d lt = absurd (omega arith)
above_first x (e ∷ es) h zero d lt = less (key_cmp x e.0) (first (is_lt (key_cmp x e.0)) (below_all key_cmp x es) h)
above_first x (e ∷ es) h (suc k) d lt = above_first x es (second (is_lt (key_cmp x e.0)) (below_all key_cmp x es) h) k d (omega arith)

module _ (key : List Comp) (v : Row) where
  -- a new row written over the one at the key
  put_at : (es : KeyedRows) (place : ℕ) (d : List Comp × Row) → T (is_sorted key_cmp es) → place < length es → (get_or es place d).0 ≡ key → set es place ((get_or es place d).0, v) ≡ put key_cmp key v es
  put_at [] place d h lt is = absurd (omega arith)
  put_at (e ∷ es) zero d h lt is =
      let tied : key_cmp key e.0 ≡ Equal = ap (λ k. key_cmp k e.0) (sym is) ∙ tied_itself key_cmp_total e.0 in
      ap (λ r. by_order r ((key, v) ∷ e ∷ es) ((e.0, v) ∷ es) (e ∷ put key_cmp key v es)) (sym tied)
  put_at (e ∷ es) (suc place) d h lt is =
      let below = first (below_all key_cmp e.0 es) (is_sorted key_cmp es) h in
      let over : key_cmp key e.0 ≡ Greater = turned e.0 key (ap (key_cmp e.0) (sym is) ∙ above_first e.0 es below place d (omega arith)) in
      ap (λ xs. e ∷ xs) (put_at es place d (second (below_all key_cmp e.0 es) (is_sorted key_cmp es) h) (omega arith) is)
      ∙ ap (λ r. by_order r ((key, v) ∷ e ∷ es) ((e.0, v) ∷ es) (e ∷ put key_cmp key v es)) (sym over)

  -- a new row between the smaller and the greater keys
  put_gap : (es : KeyedRows) (place : ℕ) → IsGapFor es key place → insert es place (key, v) ≡ put key_cmp key v es
  put_gap [] zero gap = refl
  put_gap [] (suc place) gap = absurd (omega (arith, gap.in_range))
  put_gap (e ∷ es) zero gap =
      let under : key_cmp key e.0 ≡ Less = turned_back e.0 key (gap.greater_after 0 e (omega arith) (omega arith)) in
      ap (λ r. by_order r ((key, v) ∷ e ∷ es) ((e.0, v) ∷ es) (e ∷ put key_cmp key v es)) (sym under)
  put_gap (e ∷ es) (suc place) gap =
      let over : key_cmp key e.0 ≡ Greater = turned e.0 key (gap.smaller_before 0 e (omega arith) (omega arith)) in
      ap (λ xs. e ∷ xs) (put_gap es place (record { in_range = omega (arith, gap.in_range); smaller_before = λ k d low high. gap.smaller_before (suc k) d (omega arith) (omega arith); greater_after = λ k d low high. gap.greater_after (suc k) d (omega arith) (omega arith) }))
      ∙ ap (λ r. by_order r ((key, v) ∷ e ∷ es) ((e.0, v) ∷ es) (e ∷ put key_cmp key v es)) (sym over)

find_at : (es : KeyedRows) (key : List Comp) (place : ℕ) (d : List Comp × Row) → T (is_sorted key_cmp es) → place < length es → (get_or es place d).0 ≡ key → find key_cmp key es ≡ Some (get_or es place d).1
find_at [] key place d h lt is = absurd (omega arith)
find_at (e ∷ es) key zero d h lt is = ap (λ r. cond (is_eq r) (Some e.1) (find key_cmp key es)) (ap (λ k. key_cmp k e.0) (sym is) ∙ tied_itself key_cmp_total e.0)
find_at (e ∷ es) key (suc place) d h lt is =
    let below = first (below_all key_cmp e.0 es) (is_sorted key_cmp es) h in
    let over : key_cmp key e.0 ≡ Greater = turned e.0 key (ap (key_cmp e.0) (sym is) ∙ above_first e.0 es below place d (omega arith)) in
    ap (λ r. cond (is_eq r) (Some e.1) (find key_cmp key es)) over
    ∙ find_at es key place d (second (below_all key_cmp e.0 es) (is_sorted key_cmp es) h) (omega arith) is

find_gap : (es : KeyedRows) (key : List Comp) (place : ℕ) → IsGapFor es key place → find key_cmp key es ≡ None
find_gap [] key place gap = refl
find_gap (e ∷ es) key zero gap =
    ap (λ r. cond (is_eq r) (Some e.1) (find key_cmp key es)) (turned_back e.0 key (gap.greater_after 0 e (omega arith) (omega arith)))
    ∙ find_gap es key zero (record { in_range = omega arith; smaller_before = λ k d low high. absurd (omega arith); greater_after = λ k d low high. gap.greater_after (suc k) d (omega arith) (omega arith) })
find_gap (e ∷ es) key (suc place) gap =
    ap (λ r. cond (is_eq r) (Some e.1) (find key_cmp key es)) (turned e.0 key (gap.smaller_before 0 e (omega arith) (omega arith)))
    ∙ find_gap es key place (record { in_range = omega (arith, gap.in_range); smaller_before = λ k d low high. gap.smaller_before (suc k) d (omega arith) (omega arith); greater_after = λ k d low high. gap.greater_after (suc k) d (omega arith) (omega arith) })

-- what a body of `join_row` has made at the key's place, or in the gap for it
pub join_at : (es : KeyedRows) (key : List Comp) (row : Row) (place : ℕ) → IsRows es → IsTrue (ascending row.cells) → IsAt es key place → (item : List Comp × Row) → item ≡ get_or es place item → (new : Row) → new ≡ joined_row (item.1 ∷ row ∷ []) → set es place (item.0, new) ≡ joined_rows (es ++ (key, row) ∷ [])
join_at es key row place is h at item here new joined =
    let up : T (is_sorted key_cmp es) = test_of _ is.ascend in
    (λ i. set es place ((here i).0, joined i))
    ∙ ap (λ (e : List Comp × Row). set es place ((get_or es place item).0, joined_row (e.1 ∷ row ∷ []))) here
    ∙ put_at key (joined_row ((get_or es place item).1 ∷ row ∷ [])) es place item up at.in_range (at.has_key item)
    ∙ ap (λ (o : Option Row). put key_cmp key (joined_to o row) es) (sym (find_at es key place item up at.in_range (at.has_key item)))
    ∙ sym (joined_rows-put es key row is h)

pub join_in_gap : (es : KeyedRows) (key : List Comp) (row : Row) (place : ℕ) → IsRows es → IsTrue (ascending row.cells) → IsGapFor es key place → insert es place (key, row) ≡ joined_rows (es ++ (key, row) ∷ [])
join_in_gap es key row place is h gap =
    put_gap key row es place gap
    ∙ ap (λ (o : Option Row). put key_cmp key (joined_to o row) es) (sym (find_gap es key place gap))
    ∙ sym (joined_rows-put es key row is h)

all-push : (P : List Comp × Row → Type 0) (es : KeyedRows) (x : List Comp × Row) → All P es → P x → All P (es ++ x ∷ [])
all-push P [] x h p zero d lt = p
all-push P [] x h p (suc k) d lt = absurd (omega arith)
all-push P (e ∷ es) x h p zero d lt = h 0 e (omega arith)
all-push P (e ∷ es) x h p (suc k) d lt = all-push P es x (λ k d lt. h (suc k) d (omega arith)) p k d (omega arith)

-- and it ascends, and something was written of each row
pub joined_is_rows : (es : KeyedRows) (key : List Comp) (row : Row) → IsRows es → IsTrue (ascending row.cells) → row ≢ empty_row → IsRows (joined_rows (es ++ (key, row) ∷ []))
joined_is_rows es key row is h written =
    IsRows-joined_rows (es ++ (key, row) ∷ []) (all-push (λ e. IsTrue (ascending e.1.cells)) es (key, row) is.by_column h) (all-push (λ e. e.1 ≢ empty_row) es (key, row) is.written written)

pub on_ok : {X E : Type 0} {P Q : Type 0} (r : Result X E) → (P → Q) → OnOk r P → OnOk r Q
on_ok (Ok x) f h = f h
on_ok (Err e) f h = h

set_back : (es : KeyedRows) (place : ℕ) (d item : List Comp × Row) → place < length es → item ≡ get_or es place d → set es place item ≡ es
set_back [] place d item lt is = absurd (omega arith)
set_back (e ∷ es) zero d item lt is = ap (λ x. x ∷ es) is
set_back (e ∷ es) (suc place) d item lt is = ap (λ xs. e ∷ xs) (set_back es place d item (omega arith) is)

pub rows_at_place : (es : KeyedRows) (key : List Comp) (row : Row) (place : ℕ) → IsRows es → row ≢ empty_row → IsTrue (ascending row.cells) → IsAt es key place → (item : List Comp × Row) → item ≡ get_or es place item → (new : Row) {X E : Type 0} (r : Result X E) → OnOk r (new ≡ joined_row (item.1 ∷ row ∷ [])) → OnErr r (new ≡ item.1) → IsRows (set es place (item.0, new))
rows_at_place es key row place is written h at item here new (Ok x) ok err = subst IsRows (sym (join_at es key row place is h at item here new ok)) (joined_is_rows es key row is h written)
rows_at_place es key row place is written h at item here new (Err x) ok err = subst IsRows (sym (ap (λ n. set es place (item.0, n)) err ∙ set_back es place item item at.in_range here)) is
