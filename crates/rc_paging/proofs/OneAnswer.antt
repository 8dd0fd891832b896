-- What is left to a reader that goes on past the row cache is what is left of one answer.
use Rattle.std.specs.Prelude.{◌≡◌, Bool, true, false, not, ◌&&◌, cond, ℕ, List, [], ◌∷◌, ◌++◌, take, Option, Some, None, All}
use Rattle.std.specs.Option.{option_to_list}
use Rattle.std.specs.List.{filter, filter_map}
use Rattle.std.specs.Ordering.{is_gt}
use Rattle.std.proofs.Common.{refl, sym, ap, subst, ◌∙◌, append_assoc, append-nil}
use Rattle.std.proofs.lemmas.List.{append_cancel_left, append_cancel_right}
use Rattle.rc_position.specs.declared.comps.Comp.{Comp}
use Rattle.rc_position.specs.declared.positions.Pos.{Pos}
use Rattle.rc_position.specs.declared.slices.Slice.{Slice}
use Rattle.rc_position.specs.Position.{IsBefore, pos_cmp, row_pos, start_bound}
use Rattle.rc_position.specs.laws.Bounds.{After-rows}
use Rattle.rc_ranges.specs.calls.Sweep.{lt}
use Rattle.rc_ranges.specs.laws.Order.{before-lt, gt-lt, le-lt, lt-asym, lt-irrefl}
use Rattle.rc_schema.specs.SchemaValue.{SchemaValue}
use Rattle.rc_writes.specs.Allowed.{ChangeFits}
use Rattle.rc_mutation.specs.declared.mutations.Mutation.{Mutation}
use Rattle.rc_mutation.specs.Source.{IsJoinOf, IsMutation, all_rows, keys, row_cover, rows_at, source_at_head, static_rows}
use Rattle.rc_mutation.specs.laws.Sources.{IsJoinOf-first}
use Rattle.rc_query.specs.declared.lines.OutLine.{OutLine}
use Rattle.rc_query.specs.declared.lines.OutLine.TheVariants as line
use Rattle.rc_query.specs.Answer.{answer, in_slice, line_of, row_lines, sliced_from, static_line}
use Rattle.rc_spliced.specs.Lines.{lines_from, lines_short_of}
use Rattle.rc_spliced.specs.Spliced.{IsSpliced, with_head_of}
use Rattle.rc_paging.specs.Past.{lines_past, under_head}
use Rattle.rc_paging.proofs.Behind.{answer_is, ends_row, no_static, static_or}
use Rattle.rc_paging.proofs.Cutting.{AreRows, all_rows_lines, by_bounds, line_from}

row-behind : (key : List Comp) → IsBefore (row_pos key) (start_bound key false)
row-behind key = subst (λ k. IsBefore (row_pos k) (start_bound key false)) (append-nil key) (After-rows key [])

-- the position right behind the row of a line is not before the slice of its answer
pub behind_in : (changes : List Mutation) (slice : Slice) (given rest : List OutLine) (key : List Comp) (shown : List (ℕ × List ℕ)) → answer changes slice ≡ given ++ line.Row key shown ∷ rest → is_gt (pos_cmp slice.from (start_bound key false)) ≡ false
behind_in changes slice given rest key shown h =
    let rows = row_lines changes slice in
    let ends = ends_row (static_line (source_at_head changes) (static_rows changes)) rows false false given rest key shown (all_rows_lines changes slice) (static_or (source_at_head changes) (static_rows changes)) (λ e. absurd (cc)) (sym (answer_is changes slice) ∙ h) in
    let from = line_from changes slice key shown ends.before rest ends.rows_end in
    gt-lt slice.from (start_bound key false) ∙ lt-asym slice.from (start_bound key false) (le-lt slice.from (row_pos key) (start_bound key false) from (before-lt (row_pos key) (start_bound key false) (row-behind key)))

-- ---- behind no line

outside : (b : Bool) → (not b && b) ≡ false
outside true = refl
outside false = refl

no_keys : (f : List Comp → Option OutLine) (slice : Slice) → ((k : List Comp) → in_slice slice k ≡ false) → (ks : List (List Comp)) → filter_map f (filter (in_slice slice) ks) ≡ []
no_keys f slice out [] = refl
no_keys f slice out (k ∷ ks) = ap (λ b. filter_map f (cond b (k ∷ filter (in_slice slice) ks) (filter (in_slice slice) ks))) (out k) ∙ no_keys f slice out ks

-- where a slice ends there is no row line of it
pub none_behind : (changes : List Mutation) (slice : Slice) → row_lines changes (sliced_from slice slice.to) ≡ []
none_behind changes slice =
    no_keys (λ key. line_of (row_cover changes key) key (rows_at key (all_rows changes))) (sliced_from slice slice.to)
    (λ k. by_bounds (sliced_from slice slice.to) k (lt (row_pos k) slice.to) (lt (row_pos k) slice.to) refl refl ∙ outside (lt (row_pos k) slice.to))
    (keys (all_rows changes))

-- ---- behind the static line

static_front : (s : Option OutLine) (rows rest : List OutLine) (shown : List (ℕ × List ℕ)) → AreRows rows → option_to_list s ++ rows ≡ line.Static shown ∷ rest → option_to_list s ≡ line.Static shown ∷ []
static_front None rows rest shown are h = absurd (no_static [] rest shown (subst AreRows h are))
static_front (Some l) rows rest shown are h = ap (take 1) h

module _ (joined : (m : Mutation) (changes : List Mutation) (slice : Slice) → IsJoinOf m changes → answer changes slice ≡ answer (m ∷ []) slice)
    (goes : (x : Pos) (first second spliced : Mutation) (writes : List Mutation) (slice : Slice) → IsSpliced x first second spliced → answer (spliced ∷ writes) slice ≡ lines_short_of x (answer (first ∷ writes) slice) ++ lines_from x (answer (with_head_of first second ∷ writes) slice))
    (cut : (schema : SchemaValue) (changes : List Mutation) (slice : Slice) (given rest : List OutLine) (key : List Comp) (shown : List (ℕ × List ℕ)) → All (ChangeFits schema) changes → answer changes slice ≡ given ++ line.Row key shown ∷ rest →
    (lines_short_of (start_bound key false) (answer changes slice) ≡ given ++ line.Row key shown ∷ []) × (lines_from (start_bound key false) (answer changes slice) ≡ rest))
    (part : (changes : List Mutation) (slice : Slice) (x : Pos) → is_gt (pos_cmp slice.from x) ≡ false → lines_from x (answer changes slice) ≡ row_lines changes (sliced_from slice x))
    (parted : (changes : List Mutation) (slice : Slice) (x : Pos) → answer changes slice ≡ lines_short_of x (answer changes slice) ++ lines_from x (answer changes slice))
    (all : (writes : List Mutation) → All IsMutation writes → (whole : Mutation) × IsMutation whole × IsJoinOf whole writes) where
  -- what changes join to says the same beside others
  beside : (first : Mutation) (below written : List Mutation) (slice : Slice) → IsJoinOf first below → All IsMutation (first ∷ written) → answer (first ∷ written) slice ≡ answer (below ++ written) slice
  beside first below written slice j mutations =
      let whole = all (first ∷ written) mutations in
      joined whole.0 (first ∷ written) slice whole.2 ∙ sym (joined whole.0 (below ++ written) slice (IsJoinOf-first first whole.0 below written j whole.2))

  pub one_answer : (schema : SchemaValue) (below written : List Mutation) (first read spliced : Mutation) (slice : Slice) (given rest : List OutLine) (key : List Comp) (shown : List (ℕ × List ℕ)) → IsJoinOf first below → All IsMutation (first ∷ written) → All (ChangeFits schema) (below ++ written) →
      answer (below ++ written) slice ≡ given ++ line.Row key shown ∷ rest → IsSpliced (start_bound key false) first read spliced → answer (spliced ∷ written) slice ≡ given ++ lines_past below read written (Some (line.Row key shown ∷ [])) slice
  one_answer schema below written first read spliced slice given rest key shown j mutations fit h is =
      let x = start_bound key false in
      let front = ap (lines_short_of x) (beside first below written slice j mutations) ∙ (cut schema (below ++ written) slice given rest key shown fit h).0 in
      let back = part (with_head_of first read ∷ written) slice x (behind_in (below ++ written) slice given rest key shown h) in
      let head : row_lines (with_head_of first read ∷ written) (sliced_from slice x) ≡ row_lines (under_head below read ∷ written) (sliced_from slice x) = ap (λ pt. row_lines (record read { pt = pt } ∷ written) (sliced_from slice x)) j.head in
      goes x first read spliced written slice is ∙ (λ i. front i ++ (back ∙ head) i) ∙ append_assoc given (line.Row key shown ∷ []) (row_lines (under_head below read ∷ written) (sliced_from slice x))

  pub same_lines : (schema : SchemaValue) (below written : List Mutation) (read : Mutation) (slice : Slice) (given rest : List OutLine) (key : List Comp) (shown : List (ℕ × List ℕ)) → IsJoinOf read below → IsMutation read → All IsMutation (read ∷ written) → All (ChangeFits schema) (below ++ written) →
      answer (below ++ written) slice ≡ given ++ line.Row key shown ∷ rest → lines_past below read written (Some (line.Row key shown ∷ [])) slice ≡ line.Row key shown ∷ rest
  same_lines schema below written read slice given rest key shown j is mutations fit h =
      let itself : IsSpliced (start_bound key false) read read read = record { is_mutation = is; pt = refl; statics = refl; before = λ y b. refl; from = λ y r. refl } in
      append_cancel_left given (lines_past below read written (Some (line.Row key shown ∷ [])) slice) (line.Row key shown ∷ rest)
      (sym (one_answer schema below written read read read slice given rest key shown j mutations fit h itself) ∙ beside read below written slice j mutations ∙ h)

  -- before where the slice begins the static line alone stands
  short_static : (changes : List Mutation) (slice : Slice) (rest : List OutLine) (shown : List (ℕ × List ℕ)) → answer changes slice ≡ line.Static shown ∷ rest → lines_short_of slice.from (answer changes slice) ≡ line.Static shown ∷ []
  short_static changes slice rest shown h =
      let s = static_line (source_at_head changes) (static_rows changes) in
      let rows = row_lines changes slice in
      let here = part changes slice slice.from (gt-lt slice.from slice.from ∙ lt-irrefl slice.from) in
      let both : lines_short_of slice.from (answer changes slice) ++ rows ≡ option_to_list s ++ rows = ap (λ ls. lines_short_of slice.from (answer changes slice) ++ ls) (sym here) ∙ sym (parted changes slice slice.from) ∙ answer_is changes slice in
      append_cancel_right (lines_short_of slice.from (answer changes slice)) (option_to_list s) rows both ∙ static_front s rows rest shown (all_rows_lines changes slice) (sym (answer_is changes slice) ∙ h)

  pub static_answer : (below written : List Mutation) (first read spliced : Mutation) (slice : Slice) (rest : List OutLine) (shown : List (ℕ × List ℕ)) → IsJoinOf first below → All IsMutation (first ∷ written) →
      answer (below ++ written) slice ≡ line.Static shown ∷ rest → IsSpliced slice.from first read spliced → answer (spliced ∷ written) slice ≡ lines_past below read written (Some (line.Static shown ∷ [])) slice
  static_answer below written first read spliced slice rest shown j mutations h is =
      let x = slice.from in
      let front = ap (lines_short_of x) (beside first below written slice j mutations) ∙ short_static (below ++ written) slice rest shown h in
      let back = part (with_head_of first read ∷ written) slice x (gt-lt x x ∙ lt-irrefl x) in
      let head : row_lines (with_head_of first read ∷ written) (sliced_from slice x) ≡ row_lines (under_head below read ∷ written) (sliced_from slice x) = ap (λ pt. row_lines (record read { pt = pt } ∷ written) (sliced_from slice x)) j.head in
      goes x first read spliced written slice is ∙ (λ i. front i ++ (back ∙ head) i)

  pub same_static : (below written : List Mutation) (read : Mutation) (slice : Slice) (rest : List OutLine) (shown : List (ℕ × List ℕ)) → IsJoinOf read below → IsMutation read → All IsMutation (read ∷ written) →
      answer (below ++ written) slice ≡ line.Static shown ∷ rest → lines_past below read written (Some (line.Static shown ∷ [])) slice ≡ line.Static shown ∷ rest
  same_static below written read slice rest shown j is mutations h =
      let itself : IsSpliced slice.from read read read = record { is_mutation = is; pt = refl; statics = refl; before = λ y b. refl; from = λ y r. refl } in
      sym (static_answer below written read read read slice rest shown j mutations h itself) ∙ beside read below written slice j mutations ∙ h
