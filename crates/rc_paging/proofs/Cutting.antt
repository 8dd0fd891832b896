-- The row lines of a slice from the row of one of them on.
use Rattle.std.specs.Prelude.{◌≡◌, ◌⊎◌, Bool, true, false, not, ◌&&◌, ◌||◌, cond, if◌then◌else◌, ℕ, List, [], ◌∷◌, ◌++◌, Option, Some, None}
use Rattle.std.proofs.Common.{refl, sym, ap, ◌∙◌, T, subst, inl, inr}
use Rattle.std.specs.declared.cmp.Ordering.{Ordering}
use Rattle.std.specs.declared.cmp.Ordering.TheVariants.{Less, Equal, Greater}
use Rattle.std.specs.Ordering.{is_lt}
use Rattle.std.specs.List.{cons_option, filter, filter_map, list_any}
use Rattle.std.specs.FinMap as map
use Rattle.std.specs.FinMap.{is_sorted}
use Rattle.std.specs.FinMap.Entries.{below_all}
use Rattle.rc_cell.specs.declared.rows.Row.{Row}
use Rattle.rc_cell.specs.Deletion.{survives}
use Rattle.rc_cell.specs.Winner.{all_cells, markers, winners}
use Rattle.rc_cell.specs.laws.ByColumn.{first, second}
use Rattle.rc_position.specs.declared.comps.Comp.{Comp}
use Rattle.rc_position.specs.declared.slices.Slice.{Slice}
use Rattle.rc_position.specs.Position.{key_cmp, row_pos}
use Rattle.rc_ranges.specs.calls.Sweep.{lt}
use Rattle.rc_ranges.specs.laws.Order.{before-lt, covers-lt, le-lt, lt-asym, lt-irrefl, lt-le}
use Rattle.rc_mutation.specs.declared.mutations.Mutation.{Mutation}
use Rattle.rc_mutation.specs.Fragments.{has_any}
use Rattle.rc_mutation.specs.Source.{all_rows, row_cover, rows_at}
use Rattle.rc_mutation.specs.laws.ByKey.{KeyedRows, keys_of}
use Rattle.rc_query.specs.declared.lines.OutLine.{OutLine}
use Rattle.rc_query.specs.declared.lines.OutLine.TheVariants as line
use Rattle.rc_query.specs.Answer.{in_slice, live_values, row_lines, sliced_from}
use Rattle.rc_query.specs.laws.Answers.{line_at}

-- live values of columns
abbrev Shown : Type 0
Shown = List (ℕ × List ℕ)

less : (r : Ordering) → T (is_lt r) → r ≡ Less
less Less h = refl
less Equal h = absurd h
less Greater h = absurd h

-- ---- what is in a slice

both_true : (a b : Bool) → (a && b) ≡ true → (a ≡ true) × (b ≡ true)
both_true true b h = (refl, h)
both_true false b h = absurd (cc)

not_true : (b : Bool) → not b ≡ true → b ≡ false
not_true true h = absurd (cc)
not_true false h = refl

-- a key in a slice is not before its start, and before its end
bounds : (slice : Slice) (k : List Comp) → in_slice slice k ≡ true → (lt (row_pos k) slice.from ≡ false) × (lt (row_pos k) slice.to ≡ true)
bounds slice k h = (let b = both_true (not (lt (row_pos k) slice.from)) (lt (row_pos k) slice.to) (sym (covers-lt slice.from slice.to (row_pos k)) ∙ h) in (not_true (lt (row_pos k) slice.from) b.0, b.1))

pub by_bounds : (slice : Slice) (k : List Comp) (a b : Bool) → lt (row_pos k) slice.from ≡ a → lt (row_pos k) slice.to ≡ b → in_slice slice k ≡ (not a && b)
by_bounds slice k a b e f = covers-lt slice.from slice.to (row_pos k) ∙ (λ i. not (e i) && f i)

-- one that is not in it is in no part of it from a key on that is
outside : (slice : Slice) (key k : List Comp) → in_slice slice key ≡ true → in_slice slice k ≡ false → in_slice (sliced_from slice (row_pos key)) k ≡ false
outside slice key k is out =
    elim (lt (row_pos k) slice.from) as (λ t. lt (row_pos k) slice.from ≡ t → in_slice (sliced_from slice (row_pos key)) k ≡ false) [
      | true ↦ λ e. early (sliced_from slice (row_pos key)) k (lt-le (row_pos k) slice.from (row_pos key) e (bounds slice key is).0)
      | false ↦ λ e. late (sliced_from slice (row_pos key)) k (sym (by_bounds slice k false (lt (row_pos k) slice.to) e refl) ∙ out)
    ] refl
  where
    early : (s : Slice) (k : List Comp) → lt (row_pos k) s.from ≡ true → in_slice s k ≡ false
    early s k e = by_bounds s k true (lt (row_pos k) s.to) e refl

    and_false : (b : Bool) → (not b && false) ≡ false
    and_false true = refl
    and_false false = refl

    late : (s : Slice) (k : List Comp) → lt (row_pos k) s.to ≡ false → in_slice s k ≡ false
    late s k e = by_bounds s k (lt (row_pos k) s.from) false refl e ∙ and_false (lt (row_pos k) s.from)

-- one before a key is in no part from that on
before_out : (slice : Slice) (key k : List Comp) → lt (row_pos k) (row_pos key) ≡ true → in_slice (sliced_from slice (row_pos key)) k ≡ false
before_out slice key k e = by_bounds (sliced_from slice (row_pos key)) k true (lt (row_pos k) slice.to) e refl

-- a key of a slice is in the part from it on
itself_in : (slice : Slice) (k : List Comp) → in_slice slice k ≡ true → in_slice (sliced_from slice (row_pos k)) k ≡ true
itself_in slice k is = by_bounds (sliced_from slice (row_pos k)) k false true (lt-irrefl (row_pos k)) (bounds slice k is).1

-- one behind a key of a slice is in that part where it is in the slice
behind_in : (slice : Slice) (key k : List Comp) → in_slice slice key ≡ true → lt (row_pos key) (row_pos k) ≡ true → in_slice (sliced_from slice (row_pos key)) k ≡ in_slice slice k
behind_in slice key k is e =
    by_bounds (sliced_from slice (row_pos key)) k false (lt (row_pos k) slice.to) (lt-asym (row_pos key) (row_pos k) e) refl
    ∙ sym (by_bounds slice k false (lt (row_pos k) slice.to) (lt-asym slice.from (row_pos k) (le_lt slice key k (bounds slice key is).0 e)) refl)
  where
    le_lt : (slice : Slice) (key k : List Comp) → lt (row_pos key) slice.from ≡ false → lt (row_pos key) (row_pos k) ≡ true → lt slice.from (row_pos k) ≡ true
    le_lt slice key k h e = le-lt slice.from (row_pos key) (row_pos k) h e

-- ---- keys that ascend, each with a line or none

-- this holds of each key
abbrev EachKey : (List Comp → Type 0) → KeyedRows → Type 0
EachKey P [] = Unit {0}
EachKey P (e ∷ es) = P e.0 × EachKey P es

each_map : (P Q : List Comp → Type 0) → ((k : List Comp) → P k → Q k) → (es : KeyedRows) → EachKey P es → EachKey Q es
each_map P Q h [] d = tt
each_map P Q h (e ∷ es) d = (h e.0 d.0, each_map P Q h es d.1)

each_any : (P : List Comp → Type 0) → ((k : List Comp) → P k) → (es : KeyedRows) → EachKey P es
each_any P h [] = tt
each_any P h (e ∷ es) = (h e.0, each_any P h es)

all_behind : (k : List Comp) (es : KeyedRows) → T (below_all key_cmp k es) → EachKey (λ j. lt (row_pos k) (row_pos j) ≡ true) es
all_behind k [] h = tt
all_behind k (e ∷ es) h = (before-lt (row_pos k) (row_pos e.0) (less (key_cmp k e.0) (first (is_lt (key_cmp k e.0)) (below_all key_cmp k es) h)), all_behind k es (second (is_lt (key_cmp k e.0)) (below_all key_cmp k es) h))

-- the key of the first line, and the lines behind it
abbrev first_key : List OutLine → List Comp
first_key [] = []
first_key (line.Static v ∷ ls) = []
first_key (line.Row k v ∷ ls) = k

-- each is the line of a row
abbrev pub AreRows : List OutLine → Type 0
AreRows [] = Unit {0}
AreRows (line.Static v ∷ ls) = ⊥
AreRows (line.Row k v ∷ ls) = AreRows ls

abbrev tail_of : List OutLine → List OutLine
tail_of [] = []
tail_of (l ∷ ls) = ls

module _ (f : List Comp → Option OutLine) (of_rows : (k : List Comp) → (f k ≡ None) ⊎ ((v : Shown) × (f k ≡ Some (line.Row k v)))) where
  -- the lines of the keys in a slice
  abbrev lines_in : Slice → KeyedRows → List OutLine
  lines_in slice es = filter_map f (filter (in_slice slice) (keys_of es))

  passed : (slice : Slice) (e : List Comp × Row) (es : KeyedRows) → in_slice slice e.0 ≡ false → lines_in slice (e ∷ es) ≡ lines_in slice es
  passed slice e es h = ap (λ b. filter_map f (cond b (e.0 ∷ filter (in_slice slice) (keys_of es)) (filter (in_slice slice) (keys_of es)))) h

  taken : (slice : Slice) (e : List Comp × Row) (es : KeyedRows) → in_slice slice e.0 ≡ true → lines_in slice (e ∷ es) ≡ cons_option (f e.0) (lines_in slice es)
  taken slice e es h = ap (λ b. filter_map f (cond b (e.0 ∷ filter (in_slice slice) (keys_of es)) (filter (in_slice slice) (keys_of es)))) h

  -- where there is no line it counts for nothing
  no_line : (slice : Slice) (e : List Comp × Row) (es : KeyedRows) → f e.0 ≡ None → lines_in slice (e ∷ es) ≡ lines_in slice es
  no_line slice e es n =
      elim (in_slice slice e.0) as (λ t. in_slice slice e.0 ≡ t → lines_in slice (e ∷ es) ≡ lines_in slice es) [
        | true ↦ λ t. taken slice e es t ∙ ap (λ o. cons_option o (lines_in slice es)) n
        | false ↦ λ t. passed slice e es t
      ] refl

  with_line : (slice : Slice) (e : List Comp × Row) (es : KeyedRows) (v : Shown) → in_slice slice e.0 ≡ true → f e.0 ≡ Some (line.Row e.0 v) → lines_in slice (e ∷ es) ≡ line.Row e.0 v ∷ lines_in slice es
  with_line slice e es v t n = taken slice e es t ∙ ap (λ o. cons_option o (lines_in slice es)) n

  lines_same : (s t : Slice) (es : KeyedRows) → EachKey (λ k. in_slice s k ≡ in_slice t k) es → lines_in s es ≡ lines_in t es
  lines_same s t es d = ap (filter_map f) (keys_same es d) where
    keys_same : (es : KeyedRows) → EachKey (λ k. in_slice s k ≡ in_slice t k) es → filter (in_slice s) (keys_of es) ≡ filter (in_slice t) (keys_of es)
    keys_same [] d = refl
    keys_same (e ∷ es) d = λ i. cond (d.0 i) (e.0 ∷ keys_same es d.1 i) (keys_same es d.1 i)

  -- each line is that of a row
  pub are_rows : (slice : Slice) (es : KeyedRows) → AreRows (lines_in slice es)
  are_rows slice [] = tt
  are_rows slice (e ∷ es) =
      elim (in_slice slice e.0) as (λ t. in_slice slice e.0 ≡ t → AreRows (lines_in slice (e ∷ es))) [
        | true ↦ λ t. elim (of_rows e.0) as (λ _. AreRows (lines_in slice (e ∷ es))) [
          | inl n ↦ subst AreRows (sym (no_line slice e es n)) (are_rows slice es)
          | inr w ↦ subst AreRows (sym (with_line slice e es w.0 t w.1)) (are_rows slice es)
        ]
        | false ↦ λ t. subst AreRows (sym (passed slice e es t)) (are_rows slice es)
      ] refl

  -- ---- the lines from a key on

  -- of the key of a line what holds of each key in the slice
  module _ (slice : Slice) (key : List Comp) (v : Shown) (b : List OutLine) where
    abbrev Ends : List OutLine → List OutLine → Type 0
    Ends a ls = ls ≡ a ++ (line.Row key v ∷ b)

    none_ends : (a : List OutLine) → Ends a [] → ⊥
    none_ends [] h = absurd (cc)
    none_ends (l ∷ ls) h = absurd (cc)

    among_line : (P : List Comp → Type 0) (e : List Comp × Row) (es : KeyedRows) (w : Shown) → P e.0 → ((a : List OutLine) → Ends a (lines_in slice es) → P key) → (a : List OutLine) → Ends a (line.Row e.0 w ∷ lines_in slice es) → P key
    among_line P e es w p later [] h = subst P (ap first_key h) p
    among_line P e es w p later (l ∷ a) h = later a (ap tail_of h)

    among : (P : List Comp → Type 0) (es : KeyedRows) → EachKey (λ k. in_slice slice k ≡ true → P k) es → (a : List OutLine) → Ends a (lines_in slice es) → P key
    among P [] each a h = absurd (none_ends a h)
    among P (e ∷ es) each a h =
        elim (in_slice slice e.0) as (λ t. in_slice slice e.0 ≡ t → P key) [
          | true ↦ λ t. elim (of_rows e.0) as (λ _. P key) [
            | inl n ↦ among P es each.1 a (sym (no_line slice e es n) ∙ h)
            | inr w ↦ among_line P e es w.0 (each.0 t) (among P es each.1) a (sym (with_line slice e es w.0 t w.1) ∙ h)
          ]
          | false ↦ λ t. among P es each.1 a (sym (passed slice e es t) ∙ h)
        ] refl

    -- the key of a line is in the slice
    pub line_in : (es : KeyedRows) (a : List OutLine) → Ends a (lines_in slice es) → in_slice slice key ≡ true
    line_in es a h = among (λ k. in_slice slice k ≡ true) es (each_any (λ k. in_slice slice k ≡ true → in_slice slice k ≡ true) (λ k d. d) es) a h

    module _ (is : in_slice slice key ≡ true) where
      abbrev from : Slice
      from = sliced_from slice (row_pos key)

      cut_line : (e : List Comp × Row) (es : KeyedRows) (w : Shown) → T (below_all key_cmp e.0 es) → ((a : List OutLine) → Ends a (lines_in slice es) → lines_in from es ≡ line.Row key v ∷ b) → in_slice slice e.0 ≡ true → f e.0 ≡ Some (line.Row e.0 w) → (a : List OutLine) → Ends a (line.Row e.0 w ∷ lines_in slice es) → lines_in from (e ∷ es) ≡ line.Row key v ∷ b
      cut_line e es w below ih t n [] h =
          let here : e.0 ≡ key = ap first_key h in
          let behind = each_map (λ k. lt (row_pos e.0) (row_pos k) ≡ true) (λ k. in_slice (sliced_from slice (row_pos e.0)) k ≡ in_slice slice k) (λ k l. behind_in slice e.0 k t l) es (all_behind e.0 es below) in
          subst (λ k. lines_in (sliced_from slice (row_pos k)) (e ∷ es) ≡ line.Row e.0 w ∷ lines_in slice es) here
          (with_line (sliced_from slice (row_pos e.0)) e es w (itself_in slice e.0 t) n ∙ ap (λ ls. line.Row e.0 w ∷ ls) (lines_same (sliced_from slice (row_pos e.0)) slice es behind))
          ∙ h
      cut_line e es w below ih t n (l ∷ a) h =
          let later = among (λ k. lt (row_pos e.0) (row_pos k) ≡ true) es (each_map (λ k. lt (row_pos e.0) (row_pos k) ≡ true) (λ k. in_slice slice k ≡ true → lt (row_pos e.0) (row_pos k) ≡ true) (λ k l _. l) es (all_behind e.0 es below)) a (ap tail_of h) in
          passed from e es (before_out slice key e.0 later) ∙ ih a (ap tail_of h)

      cut : (es : KeyedRows) → T (is_sorted key_cmp es) → (a : List OutLine) → Ends a (lines_in slice es) → lines_in from es ≡ line.Row key v ∷ b
      cut [] sorted a h = absurd (none_ends a h)
      cut (e ∷ es) sorted a h =
          let below = first (below_all key_cmp e.0 es) (is_sorted key_cmp es) sorted in
          let rest = second (below_all key_cmp e.0 es) (is_sorted key_cmp es) sorted in
          elim (in_slice slice e.0) as (λ t. in_slice slice e.0 ≡ t → lines_in from (e ∷ es) ≡ line.Row key v ∷ b) [
            | true ↦ λ t. elim (of_rows e.0) as (λ _. lines_in from (e ∷ es) ≡ line.Row key v ∷ b) [
              | inl n ↦ no_line from e es n ∙ cut es rest a (sym (no_line slice e es n) ∙ h)
              | inr w ↦ cut_line e es w.0 below (cut es rest) t w.1 a (sym (with_line slice e es w.0 t w.1) ∙ h)
            ]
            | false ↦ λ t. passed from e es (outside slice key e.0 is t) ∙ cut es rest a (sym (passed slice e es t) ∙ h)
          ] refl

-- ---- row lines

by_test : (b : Bool) (k : List Comp) (v : Shown) → ((if b then Some (line.Row k v) else None) ≡ None) ⊎ ((w : Shown) × ((if b then Some (line.Row k v) else None) ≡ Some (line.Row k w)))
by_test true k v = inr (v, refl)
by_test false k v = inl refl

of_key : (changes : List Mutation) (k : List Comp) → (line_at changes k ≡ None) ⊎ ((w : Shown) × (line_at changes k ≡ Some (line.Row k w)))
of_key changes k =
    let values = live_values (row_cover changes k) (winners (all_cells (rows_at k (all_rows changes)))) in
    by_test (has_any values || list_any (survives (row_cover changes k)) (markers (rows_at k (all_rows changes)))) k values

-- behind the lines before one, the row lines of a slice are those from its row on
pub from_line : (changes : List Mutation) (slice : Slice) (key : List Comp) (v : Shown) (a b : List OutLine) → row_lines changes slice ≡ a ++ (line.Row key v ∷ b) → row_lines changes (sliced_from slice (row_pos key)) ≡ line.Row key v ∷ b
from_line changes slice key v a b h =
    let m = map.from_entries {R = key_cmp} (all_rows changes) in
    let es = map.entries m in
    let is = line_in (line_at changes) (of_key changes) slice key v b es a h in
    cut (line_at changes) (of_key changes) slice key v b is es (map.entries_sorted m) a h

-- and that row is not before where the slice begins
pub line_from : (changes : List Mutation) (slice : Slice) (key : List Comp) (v : Shown) (a b : List OutLine) → row_lines changes slice ≡ a ++ (line.Row key v ∷ b) → lt (row_pos key) slice.from ≡ false
line_from changes slice key v a b h = (bounds slice key (line_in (line_at changes) (of_key changes) slice key v b (map.entries (map.from_entries {R = key_cmp} (all_rows changes))) a h)).0

-- row lines are of rows
pub all_rows_lines : (changes : List Mutation) (slice : Slice) → AreRows (row_lines changes slice)
all_rows_lines changes slice = are_rows (line_at changes) (of_key changes) slice (map.entries (map.from_entries {R = key_cmp} (all_rows changes)))
