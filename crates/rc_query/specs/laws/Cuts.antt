-- The row lines of a slice, cut at a position: those before it, and those from it on.
use Rattle.std.specs.Prelude.{◌≡◌, Bool, true, false, not, ◌&&◌, cond, List, [], ◌∷◌, ◌++◌, length}
use Rattle.std.proofs.Common.{refl, sym, ap, ◌∙◌, T, drop}
use Rattle.std.proofs.Math.Seq.{drop-append_seam}
use Rattle.std.proofs.lemmas.List.Elements.{filter_map-append}
use Rattle.std.specs.declared.cmp.Ordering.{Ordering}
use Rattle.std.specs.declared.cmp.Ordering.TheVariants.{Less, Equal, Greater}
use Rattle.std.specs.Ordering.{is_gt, is_lt}
use Rattle.std.specs.List.{filter, filter_map}
use Rattle.std.specs.FinMap as map
use Rattle.std.specs.FinMap.{is_sorted}
use Rattle.std.specs.FinMap.Entries.{below_all}
use Rattle.rc_cell.specs.laws.ByColumn.{first, second}
use Rattle.rc_position.specs.declared.comps.Comp.{Comp}
use Rattle.rc_position.specs.declared.positions.Pos.{Pos}
use Rattle.rc_position.specs.declared.slices.Slice.{Slice}
use Rattle.rc_position.specs.Position.{key_cmp, pos_cmp, row_pos}
use Rattle.rc_ranges.specs.calls.Sweep.{lt}
use Rattle.rc_ranges.specs.laws.Order.{before-lt, covers-lt, gt-lt, le-trans, lt-le, lt-asym}
use Rattle.rc_mutation.specs.laws.ByKey.{KeyedRows, keys_of}
use Rattle.rc_mutation.specs.declared.mutations.Mutation.{Mutation}
use Rattle.rc_mutation.specs.Source.{all_rows}
use Rattle.rc_query.specs.Answer.{in_slice, row_lines, sliced_before, sliced_from}
use Rattle.rc_query.specs.laws.Answers.{line_at}

less : (r : Ordering) → T (is_lt r) → r ≡ Less
less Less h = refl
less Equal h = absurd h
less Greater h = absurd h

and_false : (b : Bool) → (b && false) ≡ false
and_false true = refl
and_false false = refl

more_or_less : {X : Type 0} (b : Bool) (x : X) (xs ys : List X) → cond b (x ∷ (xs ++ ys)) (xs ++ ys) ≡ cond b (x ∷ xs) xs ++ ys
more_or_less true x xs ys = refl
more_or_less false x xs ys = refl

module _ (slice : Slice) (x : Pos) (start : lt x slice.from ≡ false) (end : lt slice.to x ≡ false) where
  -- whether the row of a key stands before x
  abbrev early : List Comp → Bool
  early key = lt (row_pos key) x

  early_in : (key : List Comp) → early key ≡ true → in_slice slice key ≡ in_slice (sliced_before slice x) key
  early_in key e =
      let ends : lt (row_pos key) slice.to ≡ true = lt-le (row_pos key) x slice.to e end in
      covers-lt slice.from slice.to (row_pos key)
      ∙ (λ i. not (lt (row_pos key) slice.from) && (ends ∙ sym e) i)
      ∙ sym (covers-lt slice.from x (row_pos key))

  early_out : (key : List Comp) → early key ≡ true → in_slice (sliced_from slice x) key ≡ false
  early_out key e = covers-lt x slice.to (row_pos key) ∙ (λ i. not (e i) && lt (row_pos key) slice.to)

  late_in : (key : List Comp) → early key ≡ false → in_slice slice key ≡ in_slice (sliced_from slice x) key
  late_in key e =
      let begins : lt (row_pos key) slice.from ≡ false = le-trans slice.from x (row_pos key) start e in
      covers-lt slice.from slice.to (row_pos key)
      ∙ (λ i. not ((begins ∙ sym e) i) && lt (row_pos key) slice.to)
      ∙ sym (covers-lt x slice.to (row_pos key))

  late_out : (key : List Comp) → early key ≡ false → in_slice (sliced_before slice x) key ≡ false
  late_out key e = covers-lt slice.from x (row_pos key) ∙ ap (λ b. not (lt (row_pos key) slice.from) && b) e ∙ and_false (not (lt (row_pos key) slice.from))

  -- no key stands before x
  abbrev AllLate : KeyedRows → Type 0
  AllLate [] = Unit {0}
  AllLate (e ∷ es) = (early e.0 ≡ false) × AllLate es

  all_late : (key : List Comp) (es : KeyedRows) → early key ≡ false → T (below_all key_cmp key es) → AllLate es
  all_late key [] e h = tt
  all_late key (o ∷ es) e h =
      let behind : lt (row_pos o.0) (row_pos key) ≡ false = lt-asym (row_pos key) (row_pos o.0) (before-lt (row_pos key) (row_pos o.0) (less (key_cmp key o.0) (first (is_lt (key_cmp key o.0)) (below_all key_cmp key es) h))) in
      (le-trans x (row_pos key) (row_pos o.0) e behind, all_late key es e (second (is_lt (key_cmp key o.0)) (below_all key_cmp key es) h))

  none_early : (es : KeyedRows) → AllLate es → filter (in_slice (sliced_before slice x)) (keys_of es) ≡ []
  none_early [] h = refl
  none_early (e ∷ es) h =
      let rest = filter (in_slice (sliced_before slice x)) (keys_of es) in
      ap (λ b. cond b (e.0 ∷ rest) rest) (late_out e.0 h.0) ∙ none_early es h.1

  as_late : (es : KeyedRows) → AllLate es → filter (in_slice slice) (keys_of es) ≡ filter (in_slice (sliced_from slice x)) (keys_of es)
  as_late [] h = refl
  as_late (e ∷ es) h = λ i. cond (late_in e.0 h.0 i) (e.0 ∷ as_late es h.1 i) (as_late es h.1 i)

  -- keys that ascend are cut where the first stands that is not before x
  keys_cut : (es : KeyedRows) → T (is_sorted key_cmp es) → filter (in_slice slice) (keys_of es) ≡ filter (in_slice (sliced_before slice x)) (keys_of es) ++ filter (in_slice (sliced_from slice x)) (keys_of es)
  keys_cut [] h = refl
  keys_cut (e ∷ es) h =
      let before = filter (in_slice (sliced_before slice x)) (keys_of es) in
      let from = filter (in_slice (sliced_from slice x)) (keys_of es) in
      elim (early e.0) as (λ t. early e.0 ≡ t → filter (in_slice slice) (keys_of (e ∷ es)) ≡ filter (in_slice (sliced_before slice x)) (keys_of (e ∷ es)) ++ filter (in_slice (sliced_from slice x)) (keys_of (e ∷ es))) [
        | true ↦ λ t.
            (λ i. cond (early_in e.0 t i) (e.0 ∷ keys_cut es (second (below_all key_cmp e.0 es) (is_sorted key_cmp es) h) i) (keys_cut es (second (below_all key_cmp e.0 es) (is_sorted key_cmp es) h) i))
            ∙ more_or_less (in_slice (sliced_before slice x) e.0) e.0 before from
            ∙ ap (λ b. cond (in_slice (sliced_before slice x) e.0) (e.0 ∷ before) before ++ cond b (e.0 ∷ from) from) (sym (early_out e.0 t))
        | false ↦ λ t.
            let late : AllLate (e ∷ es) = (t, all_late e.0 es t (first (below_all key_cmp e.0 es) (is_sorted key_cmp es) h)) in
            as_late (e ∷ es) late ∙ ap (λ ks. ks ++ filter (in_slice (sliced_from slice x)) (keys_of (e ∷ es))) (sym (none_early (e ∷ es) late))
      ] refl

-- the row lines of a slice are those before a position in it, and those from it on
pub lines-cut : (changes : List Mutation) (slice : Slice) (x : Pos) → is_gt (pos_cmp slice.from x) ≡ false → is_gt (pos_cmp x slice.to) ≡ false → row_lines changes slice ≡ row_lines changes (sliced_before slice x) ++ row_lines changes (sliced_from slice x)
lines-cut changes slice x g h =
    let m = map.from_entries {R = key_cmp} (all_rows changes) in
    ap (filter_map (line_at changes)) (keys_cut slice x (sym (gt-lt slice.from x) ∙ g) (sym (gt-lt x slice.to) ∙ h) (map.entries m) (map.entries_sorted m))
    ∙ filter_map-append (line_at changes) (filter (in_slice (sliced_before slice x)) (keys_of (map.entries m))) (filter (in_slice (sliced_from slice x)) (keys_of (map.entries m)))

-- so behind those before the position stand those from it on
pub lines-rest : (changes : List Mutation) (slice : Slice) (x : Pos) → is_gt (pos_cmp slice.from x) ≡ false → is_gt (pos_cmp x slice.to) ≡ false → drop (length (row_lines changes (sliced_before slice x))) (row_lines changes slice) ≡ row_lines changes (sliced_from slice x)
lines-rest changes slice x g h =
    ap (drop (length (row_lines changes (sliced_before slice x)))) (lines-cut changes slice x g h)
    ∙ drop-append_seam (row_lines changes (sliced_before slice x)) (row_lines changes (sliced_from slice x))
