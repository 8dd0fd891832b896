-- The lines of an answer ascend, and their keys are such as the writes have.
use Rattle.std.proofs.Common.{◌≡◌, Bool, true, false, ◌||◌, List, [], ◌∷◌, ◌++◌, Option, Some, None, refl, sym, ap, ◌∙◌, subst, T}
use Rattle.std.specs.Prelude.{if◌then◌else◌}
use Rattle.std.specs.Ordering.{eq_by_cmp, is_lt}
use Rattle.std.specs.List.{cons_option, filter_map}
use Rattle.std.specs.Option.{option_to_list}
use Rattle.std.specs.FinMap.{is_sorted}
use Rattle.std.specs.FinMap.Entries.{below_all}
use Rattle.rc_cell.specs.declared.rows.Row.{Row}
use Rattle.rc_cell.specs.declared.writes.Tomb.{Tomb}
use Rattle.rc_cell.specs.laws.ByColumn.{first, second}
use Rattle.rc_cell.specs.Winner.{all_cells, joined_row, winners}
use Rattle.rc_position.specs.declared.comps.Comp.{Comp}
use Rattle.rc_position.specs.declared.slices.Slice.{Slice}
use Rattle.rc_position.specs.Position.{IsBefore, key_cmp, row_pos}
use Rattle.rc_mutation.specs.declared.mutations.Mutation.{Mutation}
use Rattle.rc_mutation.specs.Fragments.{has_any}
use Rattle.rc_mutation.specs.laws.ByKey.{KeyedRows, itself, joined_rows-is, keys_of, occurs, occurs-keys, same_key, sorted-joined_rows}
use Rattle.rc_mutation.specs.Source.{all_rows, joined_rows, keys, rows_at, source_at_head, source_at_static}
use Rattle.rc_query.specs.declared.lines.OutLine.{OutLine}
use Rattle.rc_query.specs.declared.lines.OutLine.TheVariants as line
use Rattle.rc_query.specs.Answer.{answer, live_values, static_line}
use Rattle.rc_query.specs.laws.Answers.{answer-rows, sliced_line}
use Rattle.rc_writes.specs.laws.FittingValues.{Each, each_map}
use Rattle.rc_spliced.proofs.Kept.{IsLineAt, own_lines, sliced_line-at}
use Rattle.rc_spliced.proofs.Sides.{less}

or_true : (b : Bool) → (b || true) ≡ true
or_true true = refl
or_true false = refl

module _ (HasKey : List Comp → Type 0) where
  -- each row's key is such
  abbrev pub HaveKeys : KeyedRows → Type 0
  HaveKeys rows = Each (λ e. HasKey e.0) rows

  -- ---- the keys of joined rows are keys of the rows

  key_of : (key : List Comp) (es : KeyedRows) → occurs key (keys_of es) ≡ true → HaveKeys es → HasKey key
  key_of key [] o h = absurd (cc)
  key_of key (e ∷ es) o h =
      elim (eq_by_cmp key_cmp key e.0) as (λ b. eq_by_cmp key_cmp key e.0 ≡ b → (b || occurs key (keys_of es)) ≡ true → HasKey key) [
        | true ↦ λ t _. subst HasKey (sym (same_key key e.0 t)) h.0
        | false ↦ λ _ o. key_of key es o h.1
      ] refl o

  each_occurs : (ks : List (List Comp)) → ((key : List Comp) → occurs key ks ≡ true → HasKey key) → Each HasKey ks
  each_occurs [] h = tt
  each_occurs (k ∷ ks) h =
      (h k (ap (λ b. b || occurs k ks) (itself k)), each_occurs ks (λ key o. h key (ap (λ b. eq_by_cmp key_cmp key k || b) o ∙ or_true (eq_by_cmp key_cmp key k))))

  joined_have : (es : KeyedRows) → HaveKeys es → HaveKeys (joined_rows es)
  joined_have es h =
      subst HaveKeys (sym (joined_rows-is es))
      (each_map (λ (e : List Comp × Row). HasKey e.0) (λ key. (key, joined_row (rows_at key es))) (keys es) (each_occurs (keys es) (λ key o. key_of key es (sym (occurs-keys key es) ∙ o) h)))

  -- ---- lines

  -- lines of rows behind a key
  abbrev pub AllBehind : List Comp → List OutLine → Type 0
  AllBehind key [] = Unit {0}
  AllBehind key (line.Static shown ∷ ls) = ⊥
  AllBehind key (line.Row k shown ∷ ls) = IsBefore (row_pos key) (row_pos k) × HasKey k × AllBehind key ls

  -- lines of rows before a key, and static lines
  abbrev pub AllBefore : List Comp → List OutLine → Type 0
  AllBefore key [] = Unit {0}
  AllBefore key (line.Static shown ∷ ls) = AllBefore key ls
  AllBefore key (line.Row k shown ∷ ls) = IsBefore (row_pos k) (row_pos key) × AllBefore key ls

  -- behind the line of a row are lines of later rows
  abbrev Ascend : List OutLine → Type 0
  Ascend [] = Unit {0}
  Ascend (line.Static shown ∷ ls) = Ascend ls
  Ascend (line.Row k shown ∷ ls) = HasKey k × AllBehind k ls × Ascend ls

  one_behind : (key k : List Comp) (o : Option OutLine) (ls : List OutLine) → IsLineAt k o → IsBefore (row_pos key) (row_pos k) → HasKey k → AllBehind key ls → AllBehind key (cons_option o ls)
  one_behind key k None ls at b has h = h
  one_behind key k (Some (line.Static shown)) ls at b has h = absurd at
  one_behind key k (Some (line.Row l shown)) ls at b has h = (subst (λ z. IsBefore (row_pos key) (row_pos z)) (sym at) b, subst HasKey (sym at) has, h)

  one_ascends : (k : List Comp) (o : Option OutLine) (ls : List OutLine) → IsLineAt k o → HasKey k → AllBehind k ls → Ascend ls → Ascend (cons_option o ls)
  one_ascends k None ls at has b h = h
  one_ascends k (Some (line.Static shown)) ls at has b h = absurd at
  one_ascends k (Some (line.Row l shown)) ls at has b h = (subst HasKey (sym at) has, subst (λ z. AllBehind z ls) (sym at) b, h)

  module _ (changes : List Mutation) (slice : Slice) where
    lines_behind : (key : List Comp) (es : KeyedRows) → T (below_all key_cmp key es) → HaveKeys es → AllBehind key (filter_map (sliced_line changes slice) es)
    lines_behind key [] b h = tt
    lines_behind key (e ∷ es) b h =
        one_behind key e.0 (sliced_line changes slice e) (filter_map (sliced_line changes slice) es) (sliced_line-at changes slice e)
        (less (key_cmp key e.0) (first (is_lt (key_cmp key e.0)) (below_all key_cmp key es) b)) h.0
        (lines_behind key es (second (is_lt (key_cmp key e.0)) (below_all key_cmp key es) b) h.1)

    lines_ascend : (es : KeyedRows) → T (is_sorted key_cmp es) → HaveKeys es → Ascend (filter_map (sliced_line changes slice) es)
    lines_ascend [] s h = tt
    lines_ascend (e ∷ es) s h =
        one_ascends e.0 (sliced_line changes slice e) (filter_map (sliced_line changes slice) es) (sliced_line-at changes slice e) h.0
        (lines_behind e.0 es (first (below_all key_cmp e.0 es) (is_sorted key_cmp es) s) h.1)
        (lines_ascend es (second (below_all key_cmp e.0 es) (is_sorted key_cmp es) s) h.1)

    static_first : (head : Option Tomb) (row : Row) (ls : List OutLine) → Ascend ls → Ascend (option_to_list (static_line head (row ∷ [])) ++ ls)
    static_first head row ls h =
        let values = live_values head (winners (all_cells (row ∷ []))) in
        elim (has_any values) as (λ b. Ascend (option_to_list (if b then Some (line.Static values) else None) ++ ls)) [ true ↦ h | false ↦ h ]

    answer-ascends : HaveKeys (all_rows changes) → Ascend (answer changes slice)
    answer-ascends h =
        subst Ascend (sym (answer-rows changes slice))
        (static_first (source_at_head changes) (source_at_static changes) (own_lines changes slice) (lines_ascend (joined_rows (all_rows changes)) (sorted-joined_rows (all_rows changes)) (joined_have (all_rows changes) h)))

  -- ---- around the line of a row

  next_behind : (k key : List Comp) (shown : _) (given rest : List OutLine) → AllBehind k (given ++ line.Row key shown ∷ rest) → IsBefore (row_pos k) (row_pos key)
  next_behind k key shown [] rest h = h.0
  next_behind k key shown (line.Static s ∷ given) rest h = absurd h
  next_behind k key shown (line.Row l s ∷ given) rest h = next_behind k key shown given rest h.2

  around_line : (key : List Comp) (shown : _) (given rest : List OutLine) → Ascend (given ++ line.Row key shown ∷ rest) → AllBefore key given × HasKey key × AllBehind key rest
  around_line key shown [] rest h = (tt, h.0, h.1)
  around_line key shown (line.Static s ∷ given) rest h = around_line key shown given rest h
  around_line key shown (line.Row k s ∷ given) rest h =
      let more = around_line key shown given rest h.2 in
      ((next_behind k key shown given rest h.1, more.0), more.1, more.2)

  -- in an answer the lines before a row's line are those of rows before it, and the static line; behind it are those of later rows
  pub around : (changes : List Mutation) (slice : Slice) (key : List Comp) (shown : _) (given rest : List OutLine) → HaveKeys (all_rows changes) → answer changes slice ≡ given ++ line.Row key shown ∷ rest → AllBefore key given × HasKey key × AllBehind key rest
  around changes slice key shown given rest h e = around_line key shown given rest (subst Ascend e (answer-ascends changes slice h))
