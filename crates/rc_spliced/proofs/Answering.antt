-- An answer before a position and from there on.
use Rattle.std.proofs.Common.{◌≡◌, Bool, true, false, cond, not, List, [], ◌∷◌, ◌++◌, Option, Some, None, refl, sym, ap, ◌∙◌, T, append_assoc}
use Rattle.std.specs.Prelude.{if◌then◌else◌}
use Rattle.std.specs.Ordering.{is_lt}
use Rattle.std.specs.List.{filter, filter_map}
use Rattle.std.specs.FinMap.{is_sorted}
use Rattle.std.specs.FinMap.Entries.{below_all}
use Rattle.std.specs.Option.{option_to_list}
use Rattle.std.proofs.lemmas.List.Elements.{filter-append, filter_map-append}
use Rattle.rc_cell.specs.declared.rows.Row.{Row}
use Rattle.rc_cell.specs.declared.writes.Tomb.{Tomb}
use Rattle.rc_cell.specs.laws.ByColumn.{first, second}
use Rattle.rc_cell.specs.Winner.{all_cells, winners}
use Rattle.rc_position.specs.declared.comps.Comp.{Comp}
use Rattle.rc_position.specs.declared.positions.Pos.{Pos}
use Rattle.rc_position.specs.declared.slices.Slice.{Slice}
use Rattle.rc_position.specs.Position.{key_cmp, row_pos}
use Rattle.rc_ranges.specs.calls.Sweep.{lt}
use Rattle.rc_ranges.specs.laws.Order.{before-lt, le-trans, lt-asym, lt-before}
use Rattle.rc_mutation.specs.declared.mutations.Mutation.{Mutation}
use Rattle.rc_mutation.specs.Fragments.{has_any}
use Rattle.rc_mutation.specs.laws.ByKey.{KeyedRows, sorted-joined_rows}
use Rattle.rc_mutation.specs.Source.{all_rows, joined_rows, source_at_head, source_at_static}
use Rattle.rc_query.specs.declared.lines.OutLine.{OutLine}
use Rattle.rc_query.specs.declared.lines.OutLine.TheVariants as line
use Rattle.rc_query.specs.Answer.{answer, live_values, static_line}
use Rattle.rc_query.specs.laws.Answers.{answer-rows, sliced_line}
use Rattle.rc_spliced.specs.Lines.{is_line_before, lines_from, lines_short_of}
use Rattle.rc_spliced.specs.Spliced.{SameSourceBefore, SameSourceFrom}
use Rattle.rc_spliced.proofs.Kept.{lines-kept, lines-same, own_lines}
use Rattle.rc_spliced.proofs.Pieces.{cut_off, cut_short, cuts_off, cuts_short}
use Rattle.rc_spliced.proofs.Rows.{kept_rows}
use Rattle.rc_spliced.proofs.Sides.{less, lt-is, lt-reached, not_early}
use Rattle.rc_spliced.proofs.Splicing.{early, late}

-- the static line of writes, if they have one
abbrev pub own_static : List Mutation → List OutLine
own_static changes = option_to_list (static_line (source_at_head changes) (source_at_static changes ∷ []))

module _ (x : Pos) where
  -- ---- rows that ascend are those before x and behind them those from there on

  none_early : (key : List Comp) (es : KeyedRows) → lt (row_pos key) x ≡ false → T (below_all key_cmp key es) → (kept_rows (early x) es ≡ []) × (kept_rows (late x) es ≡ es)
  none_early key [] h b = (refl, refl)
  none_early key (e ∷ es) h b =
      let next : lt (row_pos key) (row_pos e.0) ≡ true = before-lt (row_pos key) (row_pos e.0) (less (key_cmp key e.0) (first (is_lt (key_cmp key e.0)) (below_all key_cmp key es) b)) in
      let behind : lt (row_pos e.0) x ≡ false = le-trans x (row_pos key) (row_pos e.0) h (lt-asym (row_pos key) (row_pos e.0) next) in
      let rest = none_early key es h (second (is_lt (key_cmp key e.0)) (below_all key_cmp key es) b) in (
        ap (λ t. cond t (e ∷ kept_rows (early x) es) (kept_rows (early x) es)) behind ∙ rest.0,
        ap (λ t. cond (not t) (e ∷ kept_rows (late x) es) (kept_rows (late x) es)) behind ∙ ap (λ rs. e ∷ rs) rest.1,
      )

  rows-cut : (es : KeyedRows) → T (is_sorted key_cmp es) → es ≡ kept_rows (early x) es ++ kept_rows (late x) es
  rows-cut [] h = refl
  rows-cut (e ∷ es) h =
      elim (lt (row_pos e.0) x) as (λ t. lt (row_pos e.0) x ≡ t → e ∷ es ≡ cond t (e ∷ kept_rows (early x) es) (kept_rows (early x) es) ++ cond (not t) (e ∷ kept_rows (late x) es) (kept_rows (late x) es)) [
        | true ↦ λ t. ap (λ rs. e ∷ rs) (rows-cut es (second (below_all key_cmp e.0 es) (is_sorted key_cmp es) h))
        | false ↦ λ t.
            let none = none_early e.0 es t (first (below_all key_cmp e.0 es) (is_sorted key_cmp es) h) in
            λ i. sym none.0 i ++ e ∷ sym none.1 i
      ] refl

  -- ---- the tests of lines

  abbrev pub stands_before : OutLine → Bool
  stands_before l = is_line_before x l

  abbrev pub stands_from : OutLine → Bool
  stands_from l = not (is_line_before x l)

  pub before-by_row : (key : List Comp) (shown : _) → stands_before (line.Row key shown) ≡ early x (row_pos key)
  before-by_row key shown = sym (lt-is (row_pos key) x)

  pub from-by_row : (key : List Comp) (shown : _) → stands_from (line.Row key shown) ≡ late x (row_pos key)
  from-by_row key shown = ap not (sym (lt-is (row_pos key) x))

  static-before : (head : Option Tomb) (row : Row) → filter stands_before (option_to_list (static_line head (row ∷ []))) ≡ option_to_list (static_line head (row ∷ []))
  static-before head row =
      let values = live_values head (winners (all_cells (row ∷ []))) in
      elim (has_any values) as (λ b. filter stands_before (option_to_list (if b then Some (line.Static values) else None)) ≡ option_to_list (if b then Some (line.Static values) else None)) [ true ↦ refl | false ↦ refl ]

  static-from : (head : Option Tomb) (row : Row) → filter stands_from (option_to_list (static_line head (row ∷ []))) ≡ []
  static-from head row =
      let values = live_values head (winners (all_cells (row ∷ []))) in
      elim (has_any values) as (λ b. filter stands_from (option_to_list (if b then Some (line.Static values) else None)) ≡ []) [ true ↦ refl | false ↦ refl ]

  pub short-of : (changes : List Mutation) (slice : Slice) → lines_short_of x (answer changes slice) ≡ own_static changes ++ filter stands_before (own_lines changes slice)
  short-of changes slice =
      ap (filter stands_before) (answer-rows changes slice)
      ∙ filter-append stands_before (own_static changes) (own_lines changes slice)
      ∙ ap (λ ls. ls ++ filter stands_before (own_lines changes slice)) (static-before (source_at_head changes) (source_at_static changes))

  pub from-there : (changes : List Mutation) (slice : Slice) → lines_from x (answer changes slice) ≡ filter stands_from (own_lines changes slice)
  from-there changes slice =
      ap (filter stands_from) (answer-rows changes slice)
      ∙ filter-append stands_from (own_static changes) (own_lines changes slice)
      ∙ ap (λ ls. ls ++ filter stands_from (own_lines changes slice)) (static-from (source_at_head changes) (source_at_static changes))

  -- ---- an answer is cut

  lines-cut : (changes : List Mutation) (slice : Slice) → own_lines changes slice ≡ filter stands_before (own_lines changes slice) ++ filter stands_from (own_lines changes slice)
  lines-cut changes slice =
      let rows = joined_rows (all_rows changes) in
      let f = sliced_line changes slice in
      ap (filter_map f) (rows-cut rows (sorted-joined_rows (all_rows changes)))
      ∙ filter_map-append f (kept_rows (early x) rows) (kept_rows (late x) rows)
      ∙ (λ i. sym (lines-kept (early x) (cut_short x) (cuts_short x) stands_before before-by_row changes slice rows) i ++ sym (lines-kept (late x) (cut_off x) (cuts_off x) stands_from from-by_row changes slice rows) i)

  pub answer-cut : (changes : List Mutation) (slice : Slice) → answer changes slice ≡ lines_short_of x (answer changes slice) ++ lines_from x (answer changes slice)
  answer-cut changes slice =
      answer-rows changes slice
      ∙ ap (λ ls. own_static changes ++ ls) (lines-cut changes slice)
      ∙ sym (append_assoc (own_static changes) (filter stands_before (own_lines changes slice)) (filter stands_from (own_lines changes slice)))
      ∙ (λ i. sym (short-of changes slice) i ++ sym (from-there changes slice) i)

  -- ---- what is said there determines the lines

  pub before-same : (changes others : List Mutation) (slice : Slice) → SameSourceBefore x changes others → lines_short_of x (answer changes slice) ≡ lines_short_of x (answer others slice)
  before-same changes others slice same =
      short-of changes slice
      ∙ (λ i. option_to_list (static_line (same.head i) (same.statics i ∷ [])) ++ lines-same (early x) (cut_short x) (cuts_short x) stands_before before-by_row changes others slice same.head (λ y e. same.clustered y (lt-before y x e)) i)
      ∙ sym (short-of others slice)

  pub from-same : (changes others : List Mutation) (slice : Slice) → SameSourceFrom x changes others → lines_from x (answer changes slice) ≡ lines_from x (answer others slice)
  from-same changes others slice same =
      from-there changes slice
      ∙ lines-same (late x) (cut_off x) (cuts_off x) stands_from from-by_row changes others slice same.head (λ y e. same.clustered y (lt-reached x y (not_early (lt y x) e)))
      ∙ sym (from-there others slice)
