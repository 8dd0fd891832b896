-- Rows by key: what a key's rows are in rows one after another, in rows that ascend, and in joined rows.
use Rattle.std.specs.Prelude.{◌≡◌, zero, suc, All, Bool, true, false, ◌||◌, List, [], ◌∷◌, ◌++◌, Option, Some, None, is_some, cond, map as list_map}
use Rattle.std.proofs.Common.{refl, sym, ap, ◌∙◌, T, arith}
use Rattle.std.specs.declared.cmp.Ordering.{Ordering}
use Rattle.std.specs.declared.cmp.Ordering.TheVariants.{Less, Equal, Greater}
use Rattle.std.specs.Ordering.{is_lt, is_eq, eq_by_cmp}
use Rattle.std.specs.Option.{option_to_list}
use Rattle.std.specs.List.{filter, list_any}
use Rattle.std.specs.Cmp.{tied_itself}
use Rattle.std.specs.FinMap as map
use Rattle.std.specs.FinMap.{find, is_sorted}
use Rattle.std.specs.FinMap.Entries.{below_all, same_entries, is_some-find}
use Rattle.rc_cell.specs.declared.rows.Row.{Row}
use Rattle.rc_cell.specs.laws.ByColumn.{both, first, second}
use Rattle.rc_cell.specs.Winner.{joined_row}
use Rattle.rc_position.specs.declared.comps.Comp.{Comp}
use Rattle.rc_position.specs.Position.{key_cmp}
use Rattle.rc_position.specs.laws.Orders.{key_cmp_total, key_cmp_same}
use Rattle.rc_mutation.specs.Rows.{rows_at, keys, joined_rows}

-- rows, each with its key
abbrev pub KeyedRows : Type 0
KeyedRows = List (List Comp × Row)

-- whether a key is among keys
abbrev pub occurs : List Comp → List (List Comp) → Bool
occurs key ks = list_any (eq_by_cmp key_cmp key) ks

-- the keys of rows, in their order
abbrev pub keys_of : KeyedRows → List (List Comp)
keys_of rows = list_map (λ e. e.0) rows

tie : (r : Ordering) → is_eq r ≡ true → r ≡ Equal
tie Less e = absurd (cc)
tie Equal e = refl
tie Greater e = absurd (cc)

pub same_key : (q k : List Comp) → eq_by_cmp key_cmp q k ≡ true → q ≡ k
same_key q k e = key_cmp_same q k (tie (key_cmp q k) e)

pub itself : (k : List Comp) → eq_by_cmp key_cmp k k ≡ true
itself k = ap is_eq (tied_itself key_cmp_total k)

apart : (r : Ordering) → T (is_lt r) → is_eq r ≡ false
apart Less h = refl
apart Equal h = absurd h
apart Greater h = absurd h

or_first : (a b : Bool) → (a || b) ≡ false → a ≡ false
or_first true b e = e
or_first false b e = refl

or_second : (a b : Bool) → (a || b) ≡ false → b ≡ false
or_second true b e = absurd (cc)
or_second false b e = e

or_true : (a : Bool) → (a || true) ≡ true
or_true true = refl
or_true false = refl

pub rows_at-append : (q : List Comp) (xs ys : KeyedRows) → rows_at q (xs ++ ys) ≡ rows_at q xs ++ rows_at q ys
rows_at-append q [] ys = refl
rows_at-append q (x ∷ xs) ys =
    elim (eq_by_cmp key_cmp q x.0) as (λ b. list_map (λ e. e.1) (cond b (x ∷ filter (λ e. eq_by_cmp key_cmp q e.0) (xs ++ ys)) (filter (λ e. eq_by_cmp key_cmp q e.0) (xs ++ ys))) ≡ list_map (λ e. e.1) (cond b (x ∷ filter (λ e. eq_by_cmp key_cmp q e.0) xs) (filter (λ e. eq_by_cmp key_cmp q e.0) xs)) ++ rows_at q ys) [
      | true ↦ ap (λ rs. x.1 ∷ rs) (rows_at-append q xs ys)
      | false ↦ rows_at-append q xs ys
    ]

-- a key that does not occur has no rows
pub rows_at-absent : (q : List Comp) (es : KeyedRows) → occurs q (keys_of es) ≡ false → rows_at q es ≡ []
rows_at-absent q [] h = refl
rows_at-absent q (e ∷ es) h =
    ap (λ b. list_map (λ e. e.1) (cond b (e ∷ filter (λ e. eq_by_cmp key_cmp q e.0) es) (filter (λ e. eq_by_cmp key_cmp q e.0) es))) (or_first (eq_by_cmp key_cmp q e.0) (occurs q (keys_of es)) h)
    ∙ rows_at-absent q es (or_second (eq_by_cmp key_cmp q e.0) (occurs q (keys_of es)) h)

below-apart : (q : List Comp) (es : KeyedRows) → T (below_all key_cmp q es) → occurs q (keys_of es) ≡ false
below-apart q [] h = refl
below-apart q (e ∷ es) h = ap (λ b. b || occurs q (keys_of es)) (apart (key_cmp q e.0) (first (is_lt (key_cmp q e.0)) (below_all key_cmp q es) h)) ∙ below-apart q es (second (is_lt (key_cmp q e.0)) (below_all key_cmp q es) h)

-- among rows that ascend a key has at most one
pub rows_at-ascending : (q : List Comp) (es : KeyedRows) → T (is_sorted key_cmp es) → rows_at q es ≡ option_to_list (find key_cmp q es)
rows_at-ascending q [] h = refl
rows_at-ascending q (e ∷ es) h =
    elim (eq_by_cmp key_cmp q e.0) as (λ b. eq_by_cmp key_cmp q e.0 ≡ b → list_map (λ e. e.1) (cond b (e ∷ filter (λ e. eq_by_cmp key_cmp q e.0) es) (filter (λ e. eq_by_cmp key_cmp q e.0) es)) ≡ option_to_list (cond b (Some e.1) (find key_cmp q es))) [
      | true ↦ λ k. ap (λ rs. e.1 ∷ rs) (rows_at-absent q es (ap (λ x. occurs x (keys_of es)) (same_key q e.0 k) ∙ below-apart e.0 es (first (below_all key_cmp e.0 es) (is_sorted key_cmp es) h)))
      | false ↦ λ k. rows_at-ascending q es (second (below_all key_cmp e.0 es) (is_sorted key_cmp es) h)
    ] refl

-- rows that ascend and have the same row at each key are equal
pub same_rows : (es fs : KeyedRows) → T (is_sorted key_cmp es) → T (is_sorted key_cmp fs) → ((q : List Comp) → find key_cmp q es ≡ find key_cmp q fs) → es ≡ fs
same_rows es fs g h is = same_entries key_cmp key_cmp_total key_cmp_same es fs g h is

-- ---- a value for each of some keys

module _ (w : List Comp → Row) where
  abbrev each : List (List Comp) → KeyedRows
  each ks = list_map (λ k. (k, w k)) ks

  find-each : (q : List Comp) (ks : List (List Comp)) → find key_cmp q (each ks) ≡ cond (occurs q ks) (Some (w q)) None
  find-each q [] = refl
  find-each q (k ∷ ks) =
      elim (eq_by_cmp key_cmp q k) as (λ b. eq_by_cmp key_cmp q k ≡ b → cond b (Some (w k)) (find key_cmp q (each ks)) ≡ cond (b || occurs q ks) (Some (w q)) None) [
        | true ↦ λ t. ap (λ x. Some (w x)) (sym (same_key q k t))
        | false ↦ λ t. find-each q ks
      ] refl

  keys_of-each : (ks : List (List Comp)) → keys_of (each ks) ≡ ks
  keys_of-each [] = refl
  keys_of-each (k ∷ ks) = ap (λ xs. k ∷ xs) (keys_of-each ks)

  below-each : (x : List Comp) (es : KeyedRows) → T (below_all key_cmp x es) → T (below_all key_cmp x (each (keys_of es)))
  below-each x [] h = tt
  below-each x (e ∷ es) h = both (is_lt (key_cmp x e.0)) (below_all key_cmp x (each (keys_of es))) (first (is_lt (key_cmp x e.0)) (below_all key_cmp x es) h) (below-each x es (second (is_lt (key_cmp x e.0)) (below_all key_cmp x es) h))

  sorted-each : (es : KeyedRows) → T (is_sorted key_cmp es) → T (is_sorted key_cmp (each (keys_of es)))
  sorted-each [] h = tt
  sorted-each (e ∷ es) h =
      both (below_all key_cmp e.0 (each (keys_of es))) (is_sorted key_cmp (each (keys_of es)))
      (below-each e.0 es (first (below_all key_cmp e.0 es) (is_sorted key_cmp es) h))
      (sorted-each es (second (below_all key_cmp e.0 es) (is_sorted key_cmp es) h))

  -- what holds of the value of each key that occurs holds of all
  all-each : (P : Row → Type 0) (ks : List (List Comp)) → ((k : List Comp) → occurs k ks ≡ true → P (w k)) → All (λ e. P e.1) (each ks)
  all-each P [] h k d lt = absurd (omega arith)
  all-each P (x ∷ ks) h zero d lt = h x (ap (λ b. b || occurs x ks) (itself x))
  all-each P (x ∷ ks) h (suc k) d lt = all-each P ks (λ q o. h q (ap (λ b. eq_by_cmp key_cmp q x || b) o ∙ or_true (eq_by_cmp key_cmp q x))) k d (omega arith)

-- ---- joined rows

-- whether a key is among the keys is whether it occurs in the list
pub occurs-keys : (q : List Comp) (es : KeyedRows) → occurs q (keys es) ≡ occurs q (keys_of es)
occurs-keys q es =
    let m = map.from_entries {R = key_cmp} es in
    sym (map.contains_key-keys m q) ∙ ap is_some (map.get-from_entries key_cmp_total es q) ∙ is_some-find key_cmp q es

-- the rows of a key as one, where there are any
abbrev pub joined_if_any : List Row → Option Row
joined_if_any [] = None
joined_if_any (r ∷ rs) = Some (joined_row (r ∷ rs))

if_any-present : (q : List Comp) (es : KeyedRows) → occurs q (keys_of es) ≡ true → joined_if_any (rows_at q es) ≡ Some (joined_row (rows_at q es))
if_any-present q [] h = absurd (cc)
if_any-present q (e ∷ es) h =
    elim (eq_by_cmp key_cmp q e.0) as (λ b. (b || occurs q (keys_of es)) ≡ true → let rs = list_map (λ e. e.1) (cond b (e ∷ filter (λ e. eq_by_cmp key_cmp q e.0) es) (filter (λ e. eq_by_cmp key_cmp q e.0) es)) in joined_if_any rs ≡ Some (joined_row rs)) [
      | true ↦ λ _. refl
      | false ↦ λ o. if_any-present q es o
    ] h

-- at each key `joined_rows` has the key's rows as one
pub find-joined_rows : (q : List Comp) (es : KeyedRows) → find key_cmp q (joined_rows es) ≡ joined_if_any (rows_at q es)
unfolding joined_rows
find-joined_rows q es =
    find-each (λ k. joined_row (rows_at k es)) q (keys es)
    ∙ ap (λ b. cond b (Some (joined_row (rows_at q es))) None) (occurs-keys q es)
    ∙ elim (occurs q (keys_of es)) as (λ b. occurs q (keys_of es) ≡ b → cond b (Some (joined_row (rows_at q es))) None ≡ joined_if_any (rows_at q es)) [
      | true ↦ λ o. sym (if_any-present q es o)
      | false ↦ λ o. ap joined_if_any (sym (rows_at-absent q es o))
    ] refl

pub sorted-joined_rows : (es : KeyedRows) → T (is_sorted key_cmp (joined_rows es))
unfolding joined_rows
sorted-joined_rows es = sorted-each (λ k. joined_row (rows_at k es)) (map.entries (map.from_entries {R = key_cmp} es)) (map.entries_sorted (map.from_entries {R = key_cmp} es))

pub rows_at-joined_rows : (q : List Comp) (es : KeyedRows) → rows_at q (joined_rows es) ≡ option_to_list (joined_if_any (rows_at q es))
rows_at-joined_rows q es = rows_at-ascending q (joined_rows es) (sorted-joined_rows es) ∙ ap option_to_list (find-joined_rows q es)

-- joined rows have the same keys
pub keys_of-joined_rows : (es : KeyedRows) → keys_of (joined_rows es) ≡ keys es
unfolding joined_rows
keys_of-joined_rows es = keys_of-each (λ k. joined_row (rows_at k es)) (keys es)

-- what holds of each key's rows as one holds of all joined rows
pub all-joined_rows : (P : Row → Type 0) (es : KeyedRows) → ((k : List Comp) → occurs k (keys_of es) ≡ true → P (joined_row (rows_at k es))) → All (λ e. P e.1) (joined_rows es)
unfolding joined_rows
all-joined_rows P es h = all-each (λ k. joined_row (rows_at k es)) P (keys es) (λ k o. h k (sym (occurs-keys k es) ∙ o))

-- what `joined_rows` is, for crates above
pub joined_rows-is : (es : KeyedRows) → joined_rows es ≡ list_map (λ key. (key, joined_row (rows_at key es))) (keys es)
unfolding joined_rows
joined_rows-is es = refl
