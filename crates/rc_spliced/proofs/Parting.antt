-- The lines of an answer on each side of a position are those of a part of the slice.
use Rattle.std.proofs.Common.{◌≡◌, Bool, true, false, cond, not, ◌&&◌, List, [], ◌∷◌, ◌++◌, length, drop, Option, None, refl, sym, ap, ◌∙◌}
use Rattle.std.specs.Prelude.{if◌then◌else◌}
use Rattle.std.specs.Ordering.{is_gt}
use Rattle.std.specs.List.{cons_option, filter, filter_map}
use Rattle.std.specs.Option.{option_to_list}
use Rattle.std.proofs.Math.Seq.{drop-append_seam}
use Rattle.rc_cell.specs.declared.rows.Row.{Row}
use Rattle.rc_position.specs.declared.comps.Comp.{Comp}
use Rattle.rc_position.specs.declared.positions.Pos.{Pos}
use Rattle.rc_position.specs.declared.slices.Slice.{Slice}
use Rattle.rc_position.specs.Position.{pos_cmp, row_pos}
use Rattle.rc_ranges.specs.calls.Sweep.{lt}
use Rattle.rc_ranges.specs.laws.Order.{covers-lt, gt-lt, le-trans, lt-le}
use Rattle.rc_mutation.specs.declared.mutations.Mutation.{Mutation}
use Rattle.rc_mutation.specs.Source.{all_rows, joined_rows, source_at_head, static_rows}
use Rattle.rc_query.specs.Answer.{answer, in_slice, row_lines, sliced_before, sliced_from, static_line}
use Rattle.rc_query.specs.laws.Answers.{answer-rows, outer_cover, row_line, sliced_line, static_line-joined_row}
use Rattle.rc_spliced.specs.Lines.{lines_from, lines_short_of}
use Rattle.rc_spliced.proofs.Answering.{from-there, own_static, short-of, stands_before, stands_from, before-by_row, from-by_row}
use Rattle.rc_spliced.proofs.Kept.{agreeing, lines-kept, own_lines}
use Rattle.rc_spliced.proofs.Pieces.{cut_off, cut_short, cuts_off, cuts_short}
use Rattle.rc_spliced.proofs.Sides.{not_early}
use Rattle.rc_spliced.proofs.Splicing.{early, late}

same_rest : {X : Type 0} (front xs ys : List X) → front ++ xs ≡ front ++ ys → xs ≡ ys
same_rest front xs ys e = sym (drop-append_seam front xs) ∙ ap (drop (length front)) e ∙ drop-append_seam front ys

with_static : (changes : List Mutation) (slice : Slice) → answer changes slice ≡ option_to_list (static_line (source_at_head changes) (static_rows changes)) ++ row_lines changes slice
unfolding answer
with_static changes slice = refl

-- the row lines of writes are the lines of the joined rows
rows-own : (changes : List Mutation) (slice : Slice) → row_lines changes slice ≡ own_lines changes slice
rows-own changes slice =
    same_rest (option_to_list (static_line (source_at_head changes) (static_rows changes))) (row_lines changes slice) (own_lines changes slice) (sym (with_static changes slice)
    ∙ answer-rows changes slice
    ∙ ap (λ o. option_to_list o ++ own_lines changes slice) (sym (static_line-joined_row (source_at_head changes) (static_rows changes))))

-- where nothing is given for what does not pass, it need not be left out
left_out : {X Y : Type 0} (p : X → Bool) (f : X → Option Y) (xs : List X) → ((x : X) → p x ≡ false → f x ≡ None) → filter_map f (filter p xs) ≡ filter_map f xs
left_out p f [] h = refl
left_out p f (x ∷ xs) h =
    elim (p x) as (λ b. p x ≡ b → filter_map f (cond b (x ∷ filter p xs) (filter p xs)) ≡ cons_option (f x) (filter_map f xs)) [
      | true ↦ λ _. ap (cons_option (f x)) (left_out p f xs h)
      | false ↦ λ e. left_out p f xs h ∙ ap (λ o. cons_option o (filter_map f xs)) (sym (h x e))
    ] refl

and_false : (b : Bool) → (b && false) ≡ false
and_false true = refl
and_false false = refl

not_late : (b : Bool) → not b ≡ false → b ≡ true
not_late true e = refl
not_late false e = absurd (cc)

module _ (changes : List Mutation) (slice : Slice) (x : Pos) where
  -- ---- before x

  module _ (end : is_gt (pos_cmp x slice.to) ≡ false) where
    early_in : (key : List Comp) → lt (row_pos key) x ≡ true → in_slice slice key ≡ in_slice (sliced_before slice x) key
    early_in key e =
        let ends : lt (row_pos key) slice.to ≡ true = lt-le (row_pos key) x slice.to e (sym (gt-lt x slice.to) ∙ end) in
        covers-lt slice.from slice.to (row_pos key)
        ∙ (λ i. not (lt (row_pos key) slice.from) && (ends ∙ sym e) i)
        ∙ sym (covers-lt slice.from x (row_pos key))

    late_out : (key : List Comp) → lt (row_pos key) x ≡ false → in_slice (sliced_before slice x) key ≡ false
    late_out key e = covers-lt slice.from x (row_pos key) ∙ ap (λ b. not (lt (row_pos key) slice.from) && b) e ∙ and_false (not (lt (row_pos key) slice.from))

    own-before : filter (stands_before x) (own_lines changes slice) ≡ own_lines changes (sliced_before slice x)
    own-before =
        let rows = joined_rows (all_rows changes) in
        let test : List Comp × Row → Bool = λ e. early x (row_pos e.0) in
        lines-kept (early x) (cut_short x) (cuts_short x) (stands_before x) (before-by_row x) changes slice rows
        ∙ agreeing test (sliced_line changes slice) (sliced_line changes (sliced_before slice x)) rows (λ e h. ap (λ b. if b then row_line (outer_cover changes e.0) e.0 e.1 else None) (early_in e.0 h))
        ∙ left_out test (sliced_line changes (sliced_before slice x)) rows (λ e h. ap (λ b. if b then row_line (outer_cover changes e.0) e.0 e.1 else None) (late_out e.0 h))

    pub short-part : lines_short_of x (answer changes slice) ≡ answer changes (sliced_before slice x)
    short-part = short-of x changes slice ∙ ap (λ ls. own_static changes ++ ls) own-before ∙ sym (answer-rows changes (sliced_before slice x))

  -- ---- from x on

  module _ (start : is_gt (pos_cmp slice.from x) ≡ false) where
    late_in : (key : List Comp) → lt (row_pos key) x ≡ false → in_slice slice key ≡ in_slice (sliced_from slice x) key
    late_in key e =
        let begins : lt (row_pos key) slice.from ≡ false = le-trans slice.from x (row_pos key) (sym (gt-lt slice.from x) ∙ start) e in
        covers-lt slice.from slice.to (row_pos key)
        ∙ (λ i. not ((begins ∙ sym e) i) && lt (row_pos key) slice.to)
        ∙ sym (covers-lt x slice.to (row_pos key))

    early_out : (key : List Comp) → lt (row_pos key) x ≡ true → in_slice (sliced_from slice x) key ≡ false
    early_out key e = covers-lt x slice.to (row_pos key) ∙ (λ i. not (e i) && lt (row_pos key) slice.to)

    own-from : filter (stands_from x) (own_lines changes slice) ≡ own_lines changes (sliced_from slice x)
    own-from =
        let rows = joined_rows (all_rows changes) in
        let test : List Comp × Row → Bool = λ e. late x (row_pos e.0) in
        lines-kept (late x) (cut_off x) (cuts_off x) (stands_from x) (from-by_row x) changes slice rows
        ∙ agreeing test (sliced_line changes slice) (sliced_line changes (sliced_from slice x)) rows (λ e h. ap (λ b. if b then row_line (outer_cover changes e.0) e.0 e.1 else None) (late_in e.0 (not_early (lt (row_pos e.0) x) h)))
        ∙ left_out test (sliced_line changes (sliced_from slice x)) rows (λ e h. ap (λ b. if b then row_line (outer_cover changes e.0) e.0 e.1 else None) (early_out e.0 (not_late (lt (row_pos e.0) x) h)))

    pub from-part : lines_from x (answer changes slice) ≡ row_lines changes (sliced_from slice x)
    from-part = from-there x changes slice ∙ own-from ∙ sym (rows-own changes (sliced_from slice x))
