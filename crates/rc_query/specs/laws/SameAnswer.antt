-- Writes with the same source have the same answer: rows of which nothing was written give no line, and the others are determined.
use Rattle.std.specs.Prelude.{◌≡◌, ◌≢◌, zero, suc, All, Bool, true, false, ◌||◌, cond, List, [], ◌∷◌, ◌++◌, Option, Some, None, IsTrue, if◌then◌else◌, map as list_map}
use Rattle.std.proofs.Common.{refl, sym, ap, ◌∙◌, T, arith}
use Rattle.std.specs.Ordering.{eq_by_cmp, is_lt}
use Rattle.std.specs.Option.{option_to_list}
use Rattle.std.specs.List.{filter, filter_map, cons_option}
use Rattle.std.specs.FinMap.{is_sorted}
use Rattle.std.specs.FinMap.Entries.{below_all}
use Rattle.rc_cell.specs.declared.rows.Row.{Row}
use Rattle.rc_cell.specs.declared.writes.Tomb.{Tomb}
use Rattle.rc_cell.specs.laws.ByColumn.{both, first, holds, second}
use Rattle.rc_cell.specs.Columns.{ascending}
use Rattle.rc_cell.specs.Greatest.{greater}
use Rattle.rc_cell.specs.laws.{IsRow-joined_row, joined_row-append, joined_row-none}
use Rattle.rc_cell.specs.Orders.{tomb_cmp}
use Rattle.rc_cell.specs.Winner.{empty_row, joined_row, winners}
use Rattle.rc_position.specs.declared.comps.Comp.{Comp}
use Rattle.rc_position.specs.declared.slices.Slice.{Slice}
use Rattle.rc_position.specs.Position.{key_cmp, row_pos}
use Rattle.rc_mutation.specs.declared.mutations.Mutation.{Mutation}
use Rattle.rc_mutation.specs.laws.ByKey.{KeyedRows, all-joined_rows, sorted-joined_rows}
use Rattle.rc_mutation.specs.Fragments.{has_any, is_written}
use Rattle.rc_mutation.specs.laws.Written.{unwritten}
use Rattle.rc_mutation.specs.Source.{all_rows, IsRows, joined_rows, rows_at, SameSource, source_at_head, source_at_static}
use Rattle.rc_mutation.specs.laws.Sources.{rows-determined, rows_in-joined_rows}
use Rattle.rc_query.specs.declared.lines.OutLine.TheVariants as line
use Rattle.rc_query.specs.Answer.{answer, in_slice, line_of, live_values, static_line}
use Rattle.rc_query.specs.laws.Answers.{answer-rows, outer_cover, row_line, sliced_line}

-- the rows of which something was written
abbrev written : KeyedRows → KeyedRows
written es = filter (λ e. is_written e.1) es

-- ---- the others give no line

no_line : (cover : Option Tomb) (key : List Comp) → line_of cover key (empty_row ∷ []) ≡ None
unfolding joined_row
no_line cover key =
    let none : winners [] ≡ [] = ap (λ (r : Row). r.cells) joined_row-none in
    λ i. if has_any (live_values cover (none i)) || false then Some (line.Row key (live_values cover (none i))) else None

no_row_line : (outer : Option Tomb) (key : List Comp) (row : Row) → is_written row ≡ false → row_line outer key row ≡ None
no_row_line outer key row e = ap (row_line outer key) (unwritten row e) ∙ no_line _ key

no_sliced_line : (changes : List Mutation) (slice : Slice) (e : List Comp × Row) → is_written e.1 ≡ false → sliced_line changes slice e ≡ None
no_sliced_line changes slice e h =
    elim (in_slice slice e.0) as (λ b. (if b then row_line (outer_cover changes e.0) e.0 e.1 else None) ≡ None) [
      | true ↦ no_row_line (outer_cover changes e.0) e.0 e.1 h
      | false ↦ refl
    ]

passed_over : {X Y : Type 0} (f : X → Option Y) (p : X → Bool) (xs : List X) → ((x : X) → p x ≡ false → f x ≡ None) → filter_map f xs ≡ filter_map f (filter p xs)
passed_over f p [] h = refl
passed_over f p (x ∷ xs) h =
    elim (p x) as (λ b. p x ≡ b → cons_option (f x) (filter_map f xs) ≡ filter_map f (cond b (x ∷ filter p xs) (filter p xs))) [
      | true ↦ λ _. ap (cons_option (f x)) (passed_over f p xs h)
      | false ↦ λ e. ap (λ o. cons_option o (filter_map f xs)) (h x e) ∙ passed_over f p xs h
    ] refl

-- ---- and say nothing

first_joined : (r : Row) (xs ys : List Row) → joined_row xs ≡ joined_row ys → joined_row (r ∷ xs) ≡ joined_row (r ∷ ys)
first_joined r xs ys e = joined_row-append (r ∷ []) xs ∙ ap (λ s. joined_row (joined_row (r ∷ []) ∷ s ∷ [])) e ∙ sym (joined_row-append (r ∷ []) ys)

says_nothing : (rs : List Row) → joined_row (empty_row ∷ rs) ≡ joined_row rs
unfolding joined_row
says_nothing rs = refl

same_said : (q : List Comp) (es : KeyedRows) → joined_row (rows_at q (written es)) ≡ joined_row (rows_at q es)
same_said q [] = refl
same_said q (e ∷ es) =
    let Row_of : (List Comp × Row) → Row = λ f. f.1 in
    let Here : (List Comp × Row) → Bool = λ f. eq_by_cmp key_cmp q f.0 in
    elim (is_written e.1) as (λ b. is_written e.1 ≡ b → joined_row (rows_at q (cond b (e ∷ written es) (written es))) ≡ joined_row (rows_at q (e ∷ es))) [
      | true ↦ λ _.
          elim (eq_by_cmp key_cmp q e.0) as (λ t. joined_row (list_map Row_of (cond t (e ∷ filter Here (written es)) (filter Here (written es)))) ≡ joined_row (list_map Row_of (cond t (e ∷ filter Here es) (filter Here es)))) [
            | true ↦ first_joined e.1 (rows_at q (written es)) (rows_at q es) (same_said q es)
            | false ↦ same_said q es
          ]
      | false ↦ λ w.
          same_said q es
          ∙ elim (eq_by_cmp key_cmp q e.0) as (λ t. joined_row (rows_at q es) ≡ joined_row (list_map Row_of (cond t (e ∷ filter Here es) (filter Here es)))) [
            | true ↦ sym (ap (λ r. joined_row (r ∷ rows_at q es)) (unwritten e.1 w) ∙ says_nothing (rows_at q es))
            | false ↦ refl
          ]
    ] refl

-- ---- the rows of which something was written, of joined rows

below_written : (k : List Comp) (es : KeyedRows) → T (below_all key_cmp k es) → T (below_all key_cmp k (written es))
below_written k [] h = tt
below_written k (e ∷ es) h =
    let rest = below_written k es (second (is_lt (key_cmp k e.0)) (below_all key_cmp k es) h) in
    elim (is_written e.1) as (λ b. T (below_all key_cmp k (cond b (e ∷ written es) (written es)))) [
      | true ↦ both (is_lt (key_cmp k e.0)) (below_all key_cmp k (written es)) (first (is_lt (key_cmp k e.0)) (below_all key_cmp k es) h) rest
      | false ↦ rest
    ]

sorted_written : (es : KeyedRows) → T (is_sorted key_cmp es) → T (is_sorted key_cmp (written es))
sorted_written [] h = tt
sorted_written (e ∷ es) h =
    let rest = sorted_written es (second (below_all key_cmp e.0 es) (is_sorted key_cmp es) h) in
    elim (is_written e.1) as (λ b. T (is_sorted key_cmp (cond b (e ∷ written es) (written es)))) [
      | true ↦ both (below_all key_cmp e.0 (written es)) (is_sorted key_cmp (written es)) (below_written e.0 es (first (below_all key_cmp e.0 es) (is_sorted key_cmp es) h)) rest
      | false ↦ rest
    ]

not_empty : (row : Row) → is_written row ≡ true → row ≢ empty_row
not_empty row e f = let clash : true ≡ false = sym e ∙ ap is_written f in cc

all_more : (P : (List Comp × Row) → Type 0) (e : List Comp × Row) (es : KeyedRows) → P e → All P es → All P (e ∷ es)
all_more P e es p h zero d lt = p
all_more P e es p h (suc k) d lt = h k d (omega arith)

none_at_all : (P : (List Comp × Row) → Type 0) → All P []
none_at_all P k d lt = absurd (omega arith)

all_written : (P : (List Comp × Row) → Type 0) (es : KeyedRows) → ((e : List Comp × Row) → is_written e.1 ≡ true → P e) → All P (written es)
all_written P [] f = none_at_all P
all_written P (e ∷ es) f =
    elim (is_written e.1) as (λ b. is_written e.1 ≡ b → All P (cond b (e ∷ written es) (written es))) [
      | true ↦ λ t. all_more P e (written es) (f e t) (all_written P es f)
      | false ↦ λ _. all_written P es f
    ] refl

all_kept : (P : (List Comp × Row) → Type 0) (es : KeyedRows) → All P es → All P (written es)
all_kept P [] h = h
all_kept P (e ∷ es) h =
    elim (is_written e.1) as (λ b. All P (cond b (e ∷ written es) (written es))) [
      | true ↦ all_more P e (written es) (h zero e (omega arith)) (all_kept P es (λ k d lt. h (suc k) d (omega arith)))
      | false ↦ all_kept P es (λ k d lt. h (suc k) d (omega arith))
    ]

are_rows : (rows : KeyedRows) → IsRows (written (joined_rows rows))
are_rows rows = record {
  ascend = holds _ (sorted_written (joined_rows rows) (sorted-joined_rows rows));
  written = all_written (λ e. e.1 ≢ empty_row) (joined_rows rows) (λ e t. not_empty e.1 t);
  by_column = all_kept (λ e. IsTrue (ascending e.1.cells)) (joined_rows rows) (all-joined_rows (λ r. IsTrue (ascending r.cells)) rows (λ k o. IsRow-joined_row (rows_at k rows)));
}

said_at : (q : List Comp) (rows : KeyedRows) → joined_row (rows_at q (written (joined_rows rows))) ≡ joined_row (rows_at q rows)
said_at q rows = same_said q (joined_rows rows) ∙ rows_in-joined_rows (row_pos q) rows

-- ---- the answer

module _ (changes others : List Mutation) (same : SameSource changes others) where
  rows_same : written (joined_rows (all_rows changes)) ≡ written (joined_rows (all_rows others))
  rows_same =
      rows-determined (written (joined_rows (all_rows changes))) (written (joined_rows (all_rows others))) (are_rows (all_rows changes)) (are_rows (all_rows others)) (λ k.
      said_at k (all_rows changes) ∙ ap (λ (s : Row × Option Tomb). s.0) (same.clustered (row_pos k)) ∙ sym (said_at k (all_rows others)))

  cover_same : (key : List Comp) → outer_cover changes key ≡ outer_cover others key
  cover_same key = λ i. greater tomb_cmp (same.head i) (ap (λ (s : Row × Option Tomb). s.1) (same.clustered (row_pos key)) i)

  -- writes with the same source have the same answer in each slice
  pub answer-same : (slice : Slice) → answer changes slice ≡ answer others slice
  answer-same slice =
      answer-rows changes slice
      ∙ ap (λ ls. option_to_list (static_line (source_at_head changes) (source_at_static changes ∷ [])) ++ ls) (passed_over (sliced_line changes slice) (λ e. is_written e.1) (joined_rows (all_rows changes)) (no_sliced_line changes slice))
      ∙ (λ i. option_to_list (static_line (same.head i) (same.statics i ∷ [])) ++ filter_map (λ (e : List Comp × Row). if in_slice slice e.0 then row_line (cover_same e.0 i) e.0 e.1 else None) (rows_same i))
      ∙ sym (ap (λ ls. option_to_list (static_line (source_at_head others) (source_at_static others ∷ [])) ++ ls) (passed_over (sliced_line others slice) (λ e. is_written e.1) (joined_rows (all_rows others)) (no_sliced_line others slice)))
      ∙ sym (answer-rows others slice)
