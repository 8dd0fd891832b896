-- Rows by key, from a place on.
use Rattle.std.specs.Prelude.{◌≡◌, Bool, true, false, not, cond, IsTrue, zero, suc, List, [], ◌∷◌, map as list_map}
use Rattle.std.proofs.Common.{refl, sym, ap, ◌∙◌, subst, arith, T}
use Rattle.std.specs.declared.cmp.Ordering.{Ordering}
use Rattle.std.specs.declared.cmp.Ordering.TheVariants.{Less, Equal, Greater}
use Rattle.std.specs.Ordering.{eq_by_cmp, is_eq, is_gt, is_lt, ordering_reverse}
use Rattle.std.specs.List.{filter}
use Rattle.std.specs.Cmp.{tied_itself}
use Rattle.std.specs.FinMap.{is_sorted}
use Rattle.std.specs.FinMap.Entries.{below_all}
use Rattle.rc_cell.specs.declared.rows.Row.{Row}
use Rattle.rc_cell.specs.Winner.{empty_row, joined_row}
use Rattle.rc_cell.specs.laws.{joined_row-none, joined_row-one}
use Rattle.rc_cell.specs.laws.ByColumn.{first, holds, second, test_of}
use Rattle.rc_position.specs.declared.comps.Comp.{Comp}
use Rattle.rc_position.specs.declared.positions.Pos.{Pos}
use Rattle.rc_position.specs.Position.{IsBefore, key_cmp, pos_cmp, row_pos}
use Rattle.rc_position.specs.laws.Orders.{pos_cmp_same, pos_cmp_total}
use Rattle.rc_ranges.specs.calls.Sweep.{lt}
use Rattle.rc_ranges.specs.laws.Order.{before-lt, gt-lt, le-lt, lt-before, lt-irrefl, lt-le}
use Rattle.rc_mutation.specs.Source.{IsRows, rows_in}
use Rattle.rc_stream.specs.Places.{Reaches}
use Rattle.rc_agreement.specs.calls.Passing.{first_row_at, is_rowless_to, onward_rows, rows_behind}
use Rattle.rc_agreement.specs.calls.Walking.{AreRowsFrom}
use Rattle.rc_agreement.proofs.Orders.{before-reaches, lt-is, reached-lt, truth}

-- rows, each with its key
abbrev pub Keyed : Type 0
Keyed = List (List Comp × Row)

pub rows-tail : (e : List Comp × Row) (es : Keyed) → IsRows (e ∷ es) → IsRows es
rows-tail e es h = record {
  ascend = holds (is_sorted key_cmp es) (second (below_all key_cmp e.0 es) (is_sorted key_cmp es) (test_of (is_sorted key_cmp (e ∷ es)) h.ascend));
  written = λ k d l. h.written (suc k) d (omega arith);
  by_column = λ k d l. h.by_column (suc k) d (omega arith);
}

-- the other rows stand behind the first
pub later : (e : List Comp × Row) (es : Keyed) → IsRows (e ∷ es) → T (below_all key_cmp e.0 es)
later e es h = first (below_all key_cmp e.0 es) (is_sorted key_cmp es) (test_of (is_sorted key_cmp (e ∷ es)) h.ascend)

apart : (r : Ordering) → is_lt r ≡ true → is_eq r ≡ false
apart Less h = refl
apart Equal h = absurd (cc)
apart Greater h = refl

-- a position before a row's is not its
before-apart : (y : Pos) (k : List Comp) → lt y (row_pos k) ≡ true → eq_by_cmp pos_cmp y (row_pos k) ≡ false
before-apart y k l = apart (pos_cmp y (row_pos k)) (sym (lt-is y (row_pos k)) ∙ l)

passed : (y : Pos) (e : List Comp × Row) (es : Keyed) → eq_by_cmp pos_cmp y (row_pos e.0) ≡ false → rows_in y (e ∷ es) ≡ rows_in y es
passed y e es h = ap (λ b. list_map (λ (o : List Comp × Row). o.1) (cond b (e ∷ filter (λ (o : List Comp × Row). eq_by_cmp pos_cmp y (row_pos o.0)) es) (filter (λ (o : List Comp × Row). eq_by_cmp pos_cmp y (row_pos o.0)) es))) h

taken : (y : Pos) (e : List Comp × Row) (es : Keyed) → eq_by_cmp pos_cmp y (row_pos e.0) ≡ true → rows_in y (e ∷ es) ≡ e.1 ∷ rows_in y es
taken y e es h = ap (λ b. list_map (λ (o : List Comp × Row). o.1) (cond b (e ∷ filter (λ (o : List Comp × Row). eq_by_cmp pos_cmp y (row_pos o.0)) es) (filter (λ (o : List Comp × Row). eq_by_cmp pos_cmp y (row_pos o.0)) es))) h

-- rows behind a key's are none at a position up to it
none-later : (k : List Comp) (es : Keyed) → T (below_all key_cmp k es) → (y : Pos) → lt (row_pos k) y ≡ false → rows_in y es ≡ []
none-later k [] h y l = refl
none-later k (e ∷ es) h y l =
    let ahead : lt (row_pos k) (row_pos e.0) ≡ true = lt-is (row_pos k) (row_pos e.0) ∙ holds (is_lt (key_cmp k e.0)) (first (is_lt (key_cmp k e.0)) (below_all key_cmp k es) h) in
    passed y e es (before-apart y e.0 (le-lt y (row_pos k) (row_pos e.0) l ahead))
    ∙ none-later k es (second (is_lt (key_cmp k e.0)) (below_all key_cmp k es) h) y l

-- before the first of rows there is none
pub none-before : (e : List Comp × Row) (es : Keyed) → IsRows (e ∷ es) → (y : Pos) → lt y (row_pos e.0) ≡ true → rows_in y (e ∷ es) ≡ []
none-before e es h y l = passed y e es (before-apart y e.0 l) ∙ none-later e.0 es (later e es h) y (lt-not y (row_pos e.0) l)
  where
    lt-not : (x z : Pos) → lt x z ≡ true → lt z x ≡ false
    lt-not x z a = reached-lt x z (before-reaches x z (lt-before x z a))

-- at the first of rows there is that one
pub row-there : (e : List Comp × Row) (es : Keyed) → IsRows (e ∷ es) → joined_row (rows_in (row_pos e.0) (e ∷ es)) ≡ e.1
row-there e es h =
    ap joined_row (taken (row_pos e.0) e es (ap is_eq (tied_itself pos_cmp_total (row_pos e.0))) ∙ ap (λ rs. e.1 ∷ rs) (none-later e.0 es (later e es h) (row_pos e.0) (lt-irrefl (row_pos e.0))))
    ∙ joined_row-one e.1 (h.by_column zero e (omega arith))

-- ---- from a place on

pub onward-from : (x : Pos) (rows : Keyed) → AreRowsFrom x (onward_rows x rows)
onward-from x [] = tt
onward-from x (e ∷ es) = elim (is_lt (pos_cmp (row_pos e.0) x)) as (λ b. is_lt (pos_cmp (row_pos e.0) x) ≡ b → AreRowsFrom x (cond b (onward_rows x es) (e ∷ es))) [
  | true ↦ λ _. onward-from x es
  | false ↦ λ e. e
] refl

pub onward-rows : (x : Pos) (rows : Keyed) → IsRows rows → IsRows (onward_rows x rows)
onward-rows x [] h = h
onward-rows x (e ∷ es) h = elim (is_lt (pos_cmp (row_pos e.0) x)) as (λ b. IsRows (cond b (onward_rows x es) (e ∷ es))) [
  | true ↦ onward-rows x es (rows-tail e es h)
  | false ↦ h
]

-- from the place on they are the same
pub onward-in : (x : Pos) (rows : Keyed) (y : Pos) → Reaches x y → rows_in y (onward_rows x rows) ≡ rows_in y rows
onward-in x [] y h = refl
onward-in x (e ∷ es) y h = elim (is_lt (pos_cmp (row_pos e.0) x)) as (λ b. is_lt (pos_cmp (row_pos e.0) x) ≡ b → rows_in y (cond b (onward_rows x es) (e ∷ es)) ≡ rows_in y (e ∷ es)) [
  | true ↦ λ l. onward-in x es y h ∙ sym (passed y e es (behind (lt-le (row_pos e.0) x y (lt-is (row_pos e.0) x ∙ l) (reached-lt x y h))))
  | false ↦ λ _. refl
] refl
  where
    over : (r : Ordering) → r ≡ Greater → is_eq r ≡ false
    over r e = ap is_eq e

    behind : lt (row_pos e.0) y ≡ true → eq_by_cmp pos_cmp y (row_pos e.0) ≡ false
    behind l = over (pos_cmp y (row_pos e.0)) (pos_cmp_total.antisymm y (row_pos e.0) ∙ (λ i. ordering_reverse (lt-before (row_pos e.0) y l i)))

-- ---- what is there

-- the row at the place is that of the first, if it stands there
pub first-there : (x : Pos) (rows : Keyed) → IsRows rows → AreRowsFrom x rows → joined_row (rows_in x rows) ≡ first_row_at x rows
first-there x [] h from = joined_row-none
first-there x (e ∷ es) h from = elim (pos_cmp (row_pos e.0) x) as (λ r. pos_cmp (row_pos e.0) x ≡ r → joined_row (rows_in x (e ∷ es)) ≡ cond (is_eq r) e.1 empty_row) [
  | Less ↦ λ o. absurd (truth true refl (sym (ap is_lt o) ∙ from))
  | Equal ↦ λ o. ap (λ z. joined_row (rows_in z (e ∷ es))) (sym (pos_cmp_same (row_pos e.0) x o)) ∙ row-there e es h
  | Greater ↦ λ o. ap joined_row (none-before e es h x (ahead o)) ∙ joined_row-none
] refl
  where
    ahead : pos_cmp (row_pos e.0) x ≡ Greater → lt x (row_pos e.0) ≡ true
    ahead o = sym (gt-lt (row_pos e.0) x) ∙ ap is_gt o

flip : (b : Bool) → not b ≡ true → b ≡ false
flip true n = absurd (cc)
flip false n = refl

tie : (r : Ordering) → is_eq r ≡ true → r ≡ Equal
tie Less e = absurd (cc)
tie Equal e = refl
tie Greater e = absurd (cc)

-- before a place there is no row, where the first does not stand before it
rowless-there : (to : Pos) (rows : Keyed) → IsRows rows → IsTrue (is_rowless_to to rows) → (y : Pos) → IsBefore y to → joined_row (rows_in y rows) ≡ empty_row
rowless-there to [] h none y l = joined_row-none
rowless-there to (e ∷ es) h none y l = ap joined_row (none-before e es h y (lt-le y to (row_pos e.0) (before-lt y to l) (lt-is (row_pos e.0) to ∙ flip (is_lt (pos_cmp (row_pos e.0) to)) none))) ∙ joined_row-none

-- the first row at a place is none behind it
behind-first : (x : Pos) (e : List Comp × Row) (es : Keyed) → is_eq (pos_cmp (row_pos e.0) x) ≡ true → (y : Pos) → IsBefore x y → rows_in y (e ∷ es) ≡ rows_in y es
behind-first x e es o y l =
    let at : row_pos e.0 ≡ x = pos_cmp_same (row_pos e.0) x (tie (pos_cmp (row_pos e.0) x) o) in
    passed y e es (ap is_eq (pos_cmp_total.antisymm y (row_pos e.0) ∙ ap ordering_reverse (subst (λ z. pos_cmp z y ≡ Less) (sym at) l)))

-- behind a place and before another there is no row
pub behind-there : (x to : Pos) (rows : Keyed) → IsRows rows → IsTrue (is_rowless_to to (rows_behind x rows)) → (y : Pos) → IsBefore x y → IsBefore y to → joined_row (rows_in y rows) ≡ empty_row
behind-there x to [] h = λ none y a b. joined_row-none
behind-there x to (e ∷ es) h = elim (is_eq (pos_cmp (row_pos e.0) x)) as (λ b. is_eq (pos_cmp (row_pos e.0) x) ≡ b → is_rowless_to to (cond b es (e ∷ es)) ≡ true → (y : Pos) → IsBefore x y → IsBefore y to → joined_row (rows_in y (e ∷ es)) ≡ empty_row) [
  | true ↦ λ o none y a b. ap joined_row (behind-first x e es o y a) ∙ rowless-there to es (rows-tail e es h) none y b
  | false ↦ λ o none y a b. rowless-there to (e ∷ es) h none y b
] refl

-- where there is none before a place from the first on, the first does not stand before it
first-rowless : (to : Pos) (e : List Comp × Row) (es : Keyed) → IsRows (e ∷ es) → (IsBefore (row_pos e.0) to → joined_row (rows_in (row_pos e.0) (e ∷ es)) ≡ empty_row) → not (is_lt (pos_cmp (row_pos e.0) to)) ≡ true
first-rowless to e es h none = elim (is_lt (pos_cmp (row_pos e.0) to)) as (λ b. is_lt (pos_cmp (row_pos e.0) to) ≡ b → not b ≡ true) [
  | true ↦ λ l. absurd (h.written zero e (omega arith) (sym (row-there e es h) ∙ none (lt-before (row_pos e.0) to (lt-is (row_pos e.0) to ∙ l))))
  | false ↦ λ _. refl
] refl

-- the second of rows stands behind the first
second-behind : (e f : List Comp × Row) (es : Keyed) → IsRows (e ∷ f ∷ es) → IsBefore (row_pos e.0) (row_pos f.0)
second-behind e f es h = lt-before (row_pos e.0) (row_pos f.0) (lt-is (row_pos e.0) (row_pos f.0) ∙ holds (is_lt (key_cmp e.0 f.0)) (first (is_lt (key_cmp e.0 f.0)) (below_all key_cmp e.0 es) (later e (f ∷ es) h)))

rest-rowless : (x to : Pos) (e : List Comp × Row) (es : Keyed) → IsRows (e ∷ es) → is_eq (pos_cmp (row_pos e.0) x) ≡ true → ((y : Pos) → IsBefore x y → IsBefore y to → joined_row (rows_in y (e ∷ es)) ≡ empty_row) → is_rowless_to to es ≡ true
rest-rowless x to e [] h o none = refl
rest-rowless x to e (f ∷ es) h o none =
    let at : row_pos e.0 ≡ x = pos_cmp_same (row_pos e.0) x (tie (pos_cmp (row_pos e.0) x) o) in
    let ahead : IsBefore x (row_pos f.0) = subst (λ z. IsBefore z (row_pos f.0)) at (second-behind e f es h) in
    first-rowless to f es (rows-tail e (f ∷ es) h) (λ l. ap joined_row (sym (behind-first x e (f ∷ es) o (row_pos f.0) ahead)) ∙ none (row_pos f.0) ahead l)

not-tied : (r : Ordering) → is_lt r ≡ false → is_eq r ≡ false → is_gt r ≡ true
not-tied Less l e = absurd (cc)
not-tied Equal l e = absurd (cc)
not-tied Greater l e = refl

-- where there is none behind a place and before another, the first behind it does not stand before that
pub there-behind : (x to : Pos) (rows : Keyed) → IsRows rows → AreRowsFrom x rows → ((y : Pos) → IsBefore x y → IsBefore y to → joined_row (rows_in y rows) ≡ empty_row) → IsTrue (is_rowless_to to (rows_behind x rows))
there-behind x to [] h from none = refl
there-behind x to (e ∷ es) h from none = elim (is_eq (pos_cmp (row_pos e.0) x)) as (λ b. is_eq (pos_cmp (row_pos e.0) x) ≡ b → is_rowless_to to (cond b es (e ∷ es)) ≡ true) [
  | true ↦ λ o. rest-rowless x to e es h o none
  | false ↦ λ o. first-rowless to e es h (none (row_pos e.0) (lt-before x (row_pos e.0) (sym (gt-lt (row_pos e.0) x) ∙ not-tied (pos_cmp (row_pos e.0) x) from o)))
] refl
