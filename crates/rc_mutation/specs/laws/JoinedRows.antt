-- The laws of joining rows by key, for crates above to cite.
--     joined_rows-append       any two parts of a list may be joined first
--     joined_rows-swap, joined_rows-twice      in either order, and the same rows again change nothing
--     joined_rows-rows         rows that ascend, one a key, are joined already
--     joined_rows-put          one more row goes into its place
--     IsRows-joined_rows       joined rows ascend, and something was written of each
use Rattle.std.specs.Prelude.{◌≡◌, ◌≢◌, suc, All, true, false, ◌||◌, List, [], ◌∷◌, ◌++◌, Option, Some, None, cond, map as list_map, IsTrue}
use Rattle.std.proofs.Common.{refl, sym, ap, ◌∙◌, subst, T, arith, append-nil}
use Rattle.std.specs.Ordering.{eq_by_cmp}
use Rattle.std.specs.Option.{option_to_list}
use Rattle.std.specs.List.{filter}
use Rattle.std.specs.FinMap.{find, put, is_sorted}
use Rattle.std.specs.FinMap.Entries.{is_sorted-put, find-put}
use Rattle.rc_cell.specs.declared.rows.Row.{Row}
use Rattle.rc_cell.specs.Columns.{ascending}
use Rattle.rc_cell.specs.laws.ByColumn.{holds, test_of}
use Rattle.rc_cell.specs.Winner.{empty_row, joined_row}
use Rattle.rc_cell.specs.laws.{IsRow-joined_row, joined_row-none, joined_row-one, joined_row-append, joined_row-swap, joined_row-twice}
use Rattle.rc_position.specs.declared.comps.Comp.{Comp}
use Rattle.rc_position.specs.Position.{key_cmp}
use Rattle.rc_position.specs.laws.Orders.{key_cmp_total}
use Rattle.rc_mutation.specs.Rows.{rows_at, joined_rows, IsRows}
use Rattle.rc_mutation.specs.laws.ByKey.{KeyedRows, occurs, keys_of, same_key, rows_at-append, rows_at-ascending, same_rows, joined_if_any, find-joined_rows, sorted-joined_rows, rows_at-joined_rows, all-joined_rows}

if_any-append : (us vs : List Row) → joined_if_any (us ++ vs) ≡ joined_if_any (option_to_list (joined_if_any us) ++ option_to_list (joined_if_any vs))
if_any-append [] [] = refl
if_any-append [] (b ∷ vs) = ap Some (sym (joined_row-one _ (IsRow-joined_row (b ∷ vs))))
if_any-append (a ∷ us) [] = ap joined_if_any (append-nil (a ∷ us)) ∙ ap Some (sym (joined_row-one _ (IsRow-joined_row (a ∷ us))))
if_any-append (a ∷ us) (b ∷ vs) = ap Some (joined_row-append (a ∷ us) (b ∷ vs))

if_any-swap : (us vs : List Row) → joined_if_any (us ++ vs) ≡ joined_if_any (vs ++ us)
if_any-swap [] vs = ap joined_if_any (sym (append-nil vs))
if_any-swap (a ∷ us) [] = ap joined_if_any (append-nil (a ∷ us))
if_any-swap (a ∷ us) (b ∷ vs) = ap Some (joined_row-swap (a ∷ us) (b ∷ vs))

if_any-twice : (us : List Row) → joined_if_any (us ++ us) ≡ joined_if_any us
if_any-twice [] = refl
if_any-twice (a ∷ us) = ap Some (joined_row-twice (a ∷ us))

-- lists whose rows at each key join alike join alike
pub same_joined_rows : (es fs : KeyedRows) → ((q : List Comp) → joined_if_any (rows_at q es) ≡ joined_if_any (rows_at q fs)) → joined_rows es ≡ joined_rows fs
same_joined_rows es fs is = same_rows (joined_rows es) (joined_rows fs) (sorted-joined_rows es) (sorted-joined_rows fs) (λ q. find-joined_rows q es ∙ is q ∙ sym (find-joined_rows q fs))

pub joined_rows-append : (xs ys : KeyedRows) → joined_rows (xs ++ ys) ≡ joined_rows (joined_rows xs ++ joined_rows ys)
joined_rows-append xs ys =
    same_joined_rows _ _ (λ q.
    ap joined_if_any (rows_at-append q xs ys)
    ∙ if_any-append (rows_at q xs) (rows_at q ys)
    ∙ sym (ap joined_if_any (rows_at-append q (joined_rows xs) (joined_rows ys)) ∙ (λ i. joined_if_any (rows_at-joined_rows q xs i ++ rows_at-joined_rows q ys i))))

pub joined_rows-swap : (xs ys : KeyedRows) → joined_rows (xs ++ ys) ≡ joined_rows (ys ++ xs)
joined_rows-swap xs ys = same_joined_rows _ _ (λ q. ap joined_if_any (rows_at-append q xs ys) ∙ if_any-swap (rows_at q xs) (rows_at q ys) ∙ sym (ap joined_if_any (rows_at-append q ys xs)))

pub joined_rows-twice : (xs : KeyedRows) → joined_rows (xs ++ xs) ≡ joined_rows xs
joined_rows-twice xs = same_joined_rows _ _ (λ q. ap joined_if_any (rows_at-append q xs xs) ∙ if_any-twice (rows_at q xs))

-- joined rows are joined already
pub joined_rows-again : (xs : KeyedRows) → joined_rows (joined_rows xs) ≡ joined_rows xs
joined_rows-again xs =
    same_joined_rows _ _ (λ q.
    ap joined_if_any (rows_at-joined_rows q xs)
    ∙ elim (rows_at q xs) as (λ rs. joined_if_any (option_to_list (joined_if_any rs)) ≡ joined_if_any rs) [
      | [] ↦ refl
      | (r ∷ rs) ↦ ap Some (joined_row-one _ (IsRow-joined_row (r ∷ rs)))
    ])

-- what holds of all rows holds of one that is found
pub found : (P : Row → Type 0) (q : List Comp) (es : KeyedRows) → All (λ e. P e.1) es → (x : Row) → find key_cmp q es ≡ Some x → P x
found P q [] h x is = absurd (cc)
found P q (e ∷ es) h x is =
    elim (eq_by_cmp key_cmp q e.0) as (λ b. cond b (Some e.1) (find key_cmp q es) ≡ Some x → P x) [
      | true ↦ λ o. let same : e.1 ≡ x = cc in subst P same (h 0 e (omega arith))
      | false ↦ λ o. found P q es (λ k d lt. h (suc k) d (omega arith)) x o
    ] is

if_any-one : (o : Option Row) → ((x : Row) → o ≡ Some x → IsTrue (ascending x.cells)) → joined_if_any (option_to_list o) ≡ o
if_any-one None h = refl
if_any-one (Some x) h = ap Some (joined_row-one x (h x refl))

-- rows that ascend, one a key, are joined already
pub joined_rows-rows : (xs : KeyedRows) → IsRows xs → joined_rows xs ≡ xs
joined_rows-rows xs is =
    let up : T (is_sorted key_cmp xs) = test_of _ is.ascend in
    same_rows (joined_rows xs) xs (sorted-joined_rows xs) up (λ q.
    find-joined_rows q xs
    ∙ ap joined_if_any (rows_at-ascending q xs up)
    ∙ if_any-one (find key_cmp q xs) (found (λ r. IsTrue (ascending r.cells)) q xs is.by_column))

-- a row joined to what was there
abbrev pub joined_to : Option Row → Row → Row
joined_to None row = row
joined_to (Some old) row = joined_row (old ∷ row ∷ [])

if_any-joined_to : (o : Option Row) (row : Row) → IsTrue (ascending row.cells) → joined_if_any (option_to_list o ++ row ∷ []) ≡ Some (joined_to o row)
if_any-joined_to None row h = ap Some (joined_row-one row h)
if_any-joined_to (Some old) row h = refl

-- one more row goes into its place, joined to the row that is there
pub joined_rows-put : (xs : KeyedRows) (key : List Comp) (row : Row) → IsRows xs → IsTrue (ascending row.cells) → joined_rows (xs ++ (key, row) ∷ []) ≡ put key_cmp key (joined_to (find key_cmp key xs) row) xs
joined_rows-put xs key row is h =
    let up : T (is_sorted key_cmp xs) = test_of _ is.ascend in
    let made = joined_to (find key_cmp key xs) row in
    same_rows (joined_rows (xs ++ (key, row) ∷ [])) (put key_cmp key made xs) (sorted-joined_rows (xs ++ (key, row) ∷ [])) (is_sorted-put key_cmp key_cmp_total key made xs up) (λ q.
    find-joined_rows q (xs ++ (key, row) ∷ [])
    ∙ ap joined_if_any (rows_at-append q xs ((key, row) ∷ []) ∙ ap (λ rs. rs ++ rows_at q ((key, row) ∷ [])) (rows_at-ascending q xs up))
    ∙ elim (eq_by_cmp key_cmp q key) as (λ b. eq_by_cmp key_cmp q key ≡ b → joined_if_any (option_to_list (find key_cmp q xs) ++ list_map (λ (e : List Comp × Row). e.1) (cond b ((key, row) ∷ []) [])) ≡ cond b (Some made) (find key_cmp q xs)) [
      | true ↦ λ t. ap (λ x. joined_if_any (option_to_list (find key_cmp x xs) ++ row ∷ [])) (same_key q key t) ∙ if_any-joined_to (find key_cmp key xs) row h
      | false ↦ λ t. ap joined_if_any (append-nil (option_to_list (find key_cmp q xs))) ∙ if_any-one (find key_cmp q xs) (found (λ r. IsTrue (ascending r.cells)) q xs is.by_column)
    ] refl
    ∙ sym (find-put key_cmp key_cmp_total q key made xs))

-- ---- something is written of joined rows

-- what other rows say takes nothing away
pub joined_row-written : (row : Row) (rows : List Row) → IsTrue (ascending row.cells) → row ≢ empty_row → joined_row (row ∷ rows) ≢ empty_row
joined_row-written row rows h written is =
    let again : joined_row (row ∷ row ∷ rows) ≡ joined_row (row ∷ rows) = joined_row-append (row ∷ row ∷ []) rows ∙ ap (λ x. joined_row (x ∷ joined_row rows ∷ [])) (joined_row-twice (row ∷ [])) ∙ sym (joined_row-append (row ∷ []) rows) in
    let alone : joined_row (row ∷ row ∷ rows) ≡ joined_row (row ∷ []) = joined_row-append (row ∷ []) (row ∷ rows) ∙ ap (λ x. joined_row (joined_row (row ∷ []) ∷ x ∷ [])) (is ∙ sym joined_row-none) ∙ sym (joined_row-append (row ∷ []) []) in
    written (sym (joined_row-one row h) ∙ sym alone ∙ again ∙ is)

written_at : (q : List Comp) (es : KeyedRows) → All (λ e. IsTrue (ascending e.1.cells)) es → All (λ e. e.1 ≢ empty_row) es → occurs q (keys_of es) ≡ true → joined_row (rows_at q es) ≢ empty_row
written_at q [] g h o = absurd (cc)
written_at q (e ∷ es) g h o =
    elim (eq_by_cmp key_cmp q e.0) as (λ b. (b || occurs q (keys_of es)) ≡ true → joined_row (list_map (λ (e : List Comp × Row). e.1) (cond b (e ∷ filter (λ e. eq_by_cmp key_cmp q e.0) es) (filter (λ e. eq_by_cmp key_cmp q e.0) es))) ≢ empty_row) [
      | true ↦ λ _. joined_row-written e.1 (rows_at q es) (g 0 e (omega arith)) (h 0 e (omega arith))
      | false ↦ λ p. written_at q es (λ k d lt. g (suc k) d (omega arith)) (λ k d lt. h (suc k) d (omega arith)) p
    ] o

-- joined rows ascend, and something was written of each, where it was of each row that was joined
pub IsRows-joined_rows : (es : KeyedRows) → All (λ e. IsTrue (ascending e.1.cells)) es → All (λ e. e.1 ≢ empty_row) es → IsRows (joined_rows es)
IsRows-joined_rows es g h = record {
  ascend = holds _ (sorted-joined_rows es);
  written = all-joined_rows (λ r. r ≢ empty_row) es (λ k o. written_at k es g h o);
  by_column = all-joined_rows (λ r. IsTrue (ascending r.cells)) es (λ k o. IsRow-joined_row (rows_at k es));
}
