-- Ordered streams of one head that say the same at each position of a slice have the same lines there.
use Rattle.std.specs.Prelude.{◌≡◌, ℕ, true, false, cond, IsTrue, List, [], ◌∷◌, ◌++◌, Option, Some, None, ⊤}
use Rattle.std.proofs.Common.{refl, sym, ap, ◌∙◌, T}
use Rattle.std.specs.declared.cmp.Ordering.{Ordering}
use Rattle.std.specs.declared.cmp.Ordering.TheVariants.{Less, Equal, Greater}
use Rattle.std.specs.Ordering.{eq_by_cmp, is_lt, ordering_then}
use Rattle.std.specs.Cmp.{tied_itself}
use Rattle.std.specs.List.{cons_option, filter_map}
use Rattle.std.specs.FinMap.{find, is_sorted}
use Rattle.std.specs.FinMap.Entries.{below_all}
use Rattle.rc_cell.specs.declared.rows.Row.{Row}
use Rattle.rc_cell.specs.declared.writes.Tomb.{Tomb}
use Rattle.rc_cell.specs.laws.ByColumn.{both}
use Rattle.rc_cell.specs.Greatest.{greater}
use Rattle.rc_cell.specs.Orders.{tomb_cmp}
use Rattle.rc_cell.specs.Winner.{first_of}
use Rattle.rc_position.specs.declared.comps.Comp.{Comp}
use Rattle.rc_position.specs.declared.positions.Pos.{Pos}
use Rattle.rc_position.specs.declared.slices.Slice.{Slice}
use Rattle.rc_position.specs.Position.{covers, key_cmp, pos_cmp, row_pos}
use Rattle.rc_position.specs.laws.Orders.{pos_cmp_total}
use Rattle.rc_mutation.specs.laws.ByKey.{same_key, same_rows}
use Rattle.rc_mutation.specs.declared.fragments.Frag.{Frag}
use Rattle.rc_mutation.specs.declared.fragments.Frag.TheVariants as frag
use Rattle.rc_mutation.specs.Fragments.{tomb_after}
use Rattle.rc_mutation.specs.Slices.{in_slice}
use Rattle.rc_query.specs.declared.lines.OutLine.{OutLine}
use Rattle.rc_query.specs.Answer.{static_line}
use Rattle.rc_query.specs.laws.Answers.{row_line}
use Rattle.rc_stream.specs.Merging.{IsOrdered, StandsBefore, place_of, rows_here}
use Rattle.rc_stream.specs.Stream.{Stream, force, says}
use Rattle.rc_stream.specs.laws.Ordered.{Lt, passed-row}
use Rattle.std.specs.Option.{option_to_list}
use Rattle.rc_reader.specs.Left.{slice_lines}
use Rattle.rc_reader.proofs.Along.{inner_lines}
use Rattle.rc_reader.proofs.Slices.{row-lines}

abbrev Keyed : Type 0
Keyed = List Comp × Row

-- what holds of each row
abbrev Each : (Keyed → Type 0) → List Keyed → Type 0
Each P [] = ⊤
Each P (e ∷ es) = P e × Each P es

each-map : (P Q : Keyed → Type 0) → ((e : Keyed) → P e → Q e) → (es : List Keyed) → Each P es → Each Q es
each-map P Q f [] h = h
each-map P Q f (e ∷ es) h = (f e h.0, each-map P Q f es h.1)

each-same : (F G : Keyed → Option OutLine) (es : List Keyed) → Each (λ e. F e ≡ G e) es → filter_map F es ≡ filter_map G es
each-same F G [] h = refl
each-same F G (e ∷ es) h = λ i. cons_option (h.0 i) (each-same F G es h.1 i)

less_itself : (x : Pos) → is_lt (pos_cmp x x) ≡ false
less_itself x = ap is_lt (tied_itself pos_cmp_total x)

module _ (slice : Slice) where
  -- the rows among fragments that stand in the slice
  abbrev within : List Frag → List Keyed
  within [] = []
  within (frag.Start pt ∷ fs) = within fs
  within (frag.Static row ∷ fs) = within fs
  within (frag.Row key row ∷ fs) = cond (in_slice slice key) ((key, row) ∷ within fs) (within fs)
  within (frag.Change from next ∷ fs) = within fs
  within (frag.End ∷ fs) = within fs

  each-within : (P : Keyed → Type 0) (fs : List Frag) → ((key : List Comp) (row : Row) → in_slice slice key ≡ true → P (key, row)) → Each P (within fs)
  each-within P [] h = tt
  each-within P (frag.Start pt ∷ fs) h = each-within P fs h
  each-within P (frag.Static row ∷ fs) h = each-within P fs h
  each-within P (frag.Row key row ∷ fs) h =
      elim (in_slice slice key) as (λ b. in_slice slice key ≡ b → Each P (cond b ((key, row) ∷ within fs) (within fs))) [
        | true ↦ λ e. (h key row e, each-within P fs h)
        | false ↦ λ _. each-within P fs h
      ] refl
  each-within P (frag.Change from next ∷ fs) h = each-within P fs h
  each-within P (frag.End ∷ fs) h = each-within P fs h

  -- they stand behind what the fragments stand behind
  each-behind : (p : Pos × ℕ) (fs : List Frag) → StandsBefore p fs → Each (λ e. Lt p (row_pos e.0, 1)) (within fs)
  each-behind p [] b = tt
  each-behind p (frag.Start pt ∷ fs) b = each-behind p fs b.1
  each-behind p (frag.Static row ∷ fs) b = each-behind p fs b.1
  each-behind p (frag.Row key row ∷ fs) b =
      elim (in_slice slice key) as (λ s. Each (λ e. Lt p (row_pos e.0, 1)) (cond s ((key, row) ∷ within fs) (within fs))) [
        | true ↦ (b.0, each-behind p fs b.1)
        | false ↦ each-behind p fs b.1
      ]
  each-behind p (frag.Change from next ∷ fs) b = each-behind p fs b.1
  each-behind p (frag.End ∷ fs) b = each-behind p fs b.1

  -- ---- each row has its line under the tombstone in force there

  module _ (head : Option Tomb) where
    abbrev line_in : Option Tomb → List Frag → Keyed → Option OutLine
    line_in tomb fs e = row_line (greater tomb_cmp head (force (row_pos e.0) tomb fs)) e.0 e.1

    behind-first : (tomb : Option Tomb) (f : Frag) (fs : List Frag) → IsOrdered (f ∷ fs) → filter_map (line_in (tomb_after tomb f) fs) (within fs) ≡ filter_map (line_in tomb (f ∷ fs)) (within fs)
    behind-first tomb f fs o =
        each-same (line_in (tomb_after tomb f) fs) (line_in tomb (f ∷ fs)) (within fs)
        (each-map (λ e. Lt (place_of f) (row_pos e.0, 1)) (λ e. line_in (tomb_after tomb f) fs e ≡ line_in tomb (f ∷ fs) e)
        (λ e lt. ap (λ b. row_line (greater tomb_cmp head (cond b (force (row_pos e.0) (tomb_after tomb f) fs) tomb)) e.0 e.1) (sym (passed-row (row_pos e.0) f o.0 lt))) (within fs) (each-behind (place_of f) fs o.1))

    at-row : (tomb : Option Tomb) (key : List Comp) (row : Row) (fs : List Frag) → row_line (greater tomb_cmp head tomb) key row ≡ line_in tomb (frag.Row key row ∷ fs) (key, row)
    at-row tomb key row fs = ap (λ b. row_line (greater tomb_cmp head (cond b (force (row_pos key) tomb fs) tomb)) key row) (sym (less_itself (row_pos key)))

    lines-within : (tomb : Option Tomb) (fs : List Frag) → IsOrdered fs → inner_lines slice head tomb fs ≡ filter_map (line_in tomb fs) (within fs)
    lines-within tomb [] o = refl
    lines-within tomb (frag.Start pt ∷ fs) o = absurd o.0
    lines-within tomb (frag.Static row ∷ fs) o = absurd o.0
    lines-within tomb (frag.Row key row ∷ fs) o =
        let rest = lines-within tomb fs o.2 ∙ behind-first tomb (frag.Row key row) fs o in
        elim (in_slice slice key) as (λ s. cons_option (cond s (row_line (greater tomb_cmp head tomb) key row) None) (inner_lines slice head tomb fs) ≡ filter_map (line_in tomb (frag.Row key row ∷ fs)) (cond s ((key, row) ∷ within fs) (within fs))) [
          | true ↦ (λ i. cons_option (at-row tomb key row fs i) (rest i))
          | false ↦ rest
        ]
    lines-within tomb (frag.Change from next ∷ fs) o = lines-within next fs o.2 ∙ behind-first tomb (frag.Change from next) fs o
    lines-within tomb (frag.End ∷ fs) o = absurd o.0

  -- ---- which rows stand in the slice

  then_equal : (r : Ordering) → ordering_then r Equal ≡ Less → T (is_lt r)
  then_equal Less e = tt
  then_equal Equal e = absurd (cc)
  then_equal Greater e = absurd (cc)

  below-within : (key : List Comp) (es : List Keyed) → Each (λ e. Lt (row_pos key, 1) (row_pos e.0, 1)) es → T (below_all key_cmp key es)
  below-within key [] h = tt
  below-within key (e ∷ es) h = both (is_lt (key_cmp key e.0)) (below_all key_cmp key es) (then_equal (key_cmp key e.0) h.0) (below-within key es h.1)

  sorted-within : (fs : List Frag) → IsOrdered fs → T (is_sorted key_cmp (within fs))
  sorted-within [] o = tt
  sorted-within (frag.Start pt ∷ fs) o = absurd o.0
  sorted-within (frag.Static row ∷ fs) o = absurd o.0
  sorted-within (frag.Row key row ∷ fs) o =
      elim (in_slice slice key) as (λ s. T (is_sorted key_cmp (cond s ((key, row) ∷ within fs) (within fs)))) [
        | true ↦ both (below_all key_cmp key (within fs)) (is_sorted key_cmp (within fs)) (below-within key (within fs) (each-behind (row_pos key, 1) fs o.1)) (sorted-within fs o.2)
        | false ↦ sorted-within fs o.2
      ]
  sorted-within (frag.Change from next ∷ fs) o = sorted-within fs o.2
  sorted-within (frag.End ∷ fs) o = absurd o.0

  -- the first row at a key, if the key stands in the slice
  abbrev row_within : List Comp → List Frag → Option Row
  row_within k fs = cond (in_slice slice k) (first_of (rows_here (row_pos k) fs)) None

  outside : (k : List Comp) (fs : List Frag) (rows : List Row) → in_slice slice k ≡ false → row_within k fs ≡ cond (in_slice slice k) (first_of rows) None
  outside k fs rows h = ap (λ b. cond {A = Option Row} b (first_of (rows_here (row_pos k) fs)) None) h ∙ sym (ap (λ b. cond {A = Option Row} b (first_of rows) None) h)

  found-here : (k key : List Comp) (row : Row) (fs : List Frag) → eq_by_cmp key_cmp k key ≡ true → find key_cmp k (within fs) ≡ row_within k fs →
      find key_cmp k (cond (in_slice slice key) ((key, row) ∷ within fs) (within fs)) ≡ cond (in_slice slice k) (Some row) None
  found-here k key row fs t ih =
      let same = same_key k key t in
      elim (in_slice slice key) as (λ s. in_slice slice key ≡ s → find key_cmp k (cond s ((key, row) ∷ within fs) (within fs)) ≡ cond (in_slice slice k) (Some row) None) [
        | true ↦ λ e. ap (λ b. cond {A = Option Row} b (Some row) (find key_cmp k (within fs))) t ∙ ap (λ b. cond {A = Option Row} b (Some row) None) (sym (ap (in_slice slice) same ∙ e))
        | false ↦ λ e. ih ∙ outside k fs (row ∷ []) (ap (in_slice slice) same ∙ e)
      ] refl

  found-later : (k key : List Comp) (row : Row) (fs : List Frag) → eq_by_cmp key_cmp k key ≡ false →
      find key_cmp k (cond (in_slice slice key) ((key, row) ∷ within fs) (within fs)) ≡ find key_cmp k (within fs)
  found-later k key row fs t =
      elim (in_slice slice key) as (λ s. find key_cmp k (cond s ((key, row) ∷ within fs) (within fs)) ≡ find key_cmp k (within fs)) [
        | true ↦ ap (λ b. cond {A = Option Row} b (Some row) (find key_cmp k (within fs))) t
        | false ↦ refl
      ]

  found-within : (k : List Comp) (fs : List Frag) → find key_cmp k (within fs) ≡ row_within k fs
  found-within k [] = elim (in_slice slice k) as (λ s. None ≡ cond {A = Option Row} s None None) [ true ↦ refl | false ↦ refl ]
  found-within k (frag.Start pt ∷ fs) = found-within k fs
  found-within k (frag.Static row ∷ fs) = found-within k fs
  found-within k (frag.Row key row ∷ fs) =
      elim (eq_by_cmp key_cmp k key) as (λ b. eq_by_cmp key_cmp k key ≡ b → find key_cmp k (within (frag.Row key row ∷ fs)) ≡ cond (in_slice slice k) (first_of (cond b (row ∷ []) [] ++ rows_here (row_pos k) fs)) None) [
        | true ↦ λ t. found-here k key row fs t (found-within k fs)
        | false ↦ λ t. found-later k key row fs t ∙ found-within k fs
      ] refl
  found-within k (frag.Change from next ∷ fs) = found-within k fs
  found-within k (frag.End ∷ fs) = found-within k fs

  -- ---- two streams

  module _ (s t : Stream) (o : IsOrdered s.left) (p : IsOrdered t.left) (head : s.head ≡ t.head) (same : (x : Pos) → IsTrue (covers slice.from slice.to x) → says x s ≡ says x t) where
    row-same : (k : List Comp) → row_within k s.left ≡ row_within k t.left
    row-same k =
        elim (in_slice slice k) as (λ b. in_slice slice k ≡ b → cond {A = Option Row} b (first_of (rows_here (row_pos k) s.left)) None ≡ cond {A = Option Row} b (first_of (rows_here (row_pos k) t.left)) None) [
          | true ↦ λ e. ap (λ (v : List Row × Option Tomb). first_of v.0) (same (row_pos k) e)
          | false ↦ λ _. refl
        ] refl

    rows-same : within s.left ≡ within t.left
    rows-same = same_rows (within s.left) (within t.left) (sorted-within s.left o) (sorted-within t.left p) (λ k. found-within k s.left ∙ row-same k ∙ sym (found-within k t.left))

    inner-same : inner_lines slice s.head.pt s.tomb s.left ≡ inner_lines slice t.head.pt t.tomb t.left
    inner-same =
        lines-within s.head.pt s.tomb s.left o
        ∙ each-same (line_in s.head.pt s.tomb s.left) (line_in t.head.pt t.tomb t.left) (within s.left)
        (each-within (λ e. line_in s.head.pt s.tomb s.left e ≡ line_in t.head.pt t.tomb t.left e) s.left
        (λ key row e. (λ i. row_line (greater tomb_cmp (head i).pt (same (row_pos key) e i).1) key row)))
        ∙ ap (filter_map (line_in t.head.pt t.tomb t.left)) rows-same
        ∙ sym (lines-within t.head.pt t.tomb t.left p)

    pub lines-same : slice_lines slice s ≡ slice_lines slice t
    lines-same =
        ap (λ ls. option_to_list (static_line s.head.pt (s.head.statics ∷ [])) ++ ls) (row-lines slice s o ∙ inner-same)
        ∙ (λ i. option_to_list (static_line (head i).pt ((head i).statics ∷ [])) ++ inner_lines slice t.head.pt t.tomb t.left)
        ∙ ap (λ ls. option_to_list (static_line t.head.pt (t.head.statics ∷ [])) ++ ls) (sym (row-lines slice t p))
