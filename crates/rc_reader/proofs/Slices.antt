-- The lines of an ordered stream in a slice are those of its rows there; so those of a mutation's stream are its answer.
use Rattle.std.specs.Prelude.{◌≡◌, Bool, true, false, cond, ◌&&◌, List, [], ◌∷◌, ◌++◌, Option, Some, None}
use Rattle.std.proofs.Common.{refl, sym, ap, ◌∙◌, subst}
use Rattle.std.specs.declared.cmp.Ordering.{Ordering}
use Rattle.std.specs.declared.cmp.Ordering.TheVariants.{Less, Equal, Greater}
use Rattle.std.specs.Ordering.{is_le, is_lt, nat_cmp, ordering_reverse, ordering_then}
use Rattle.std.specs.Option.{option_to_list}
use Rattle.std.specs.List.{cons_option}
use Rattle.rc_cell.specs.declared.rows.Row.{Row}
use Rattle.rc_cell.specs.declared.writes.Tomb.{Tomb}
use Rattle.rc_cell.specs.Greatest.{greater}
use Rattle.rc_cell.specs.Orders.{tomb_cmp}
use Rattle.rc_position.specs.declared.comps.Comp.{Comp}
use Rattle.rc_position.specs.declared.positions.Pos.{Pos}
use Rattle.rc_position.specs.declared.slices.Slice.{Slice}
use Rattle.rc_position.specs.Position.{pos_cmp, row_pos}
use Rattle.rc_position.specs.laws.Orders.{pos_cmp_same, pos_cmp_total}
use Rattle.rc_mutation.specs.declared.fragments.Frag.{Frag}
use Rattle.rc_mutation.specs.declared.fragments.Frag.TheVariants as frag
use Rattle.rc_mutation.specs.declared.mutations.Mutation.{Mutation}
use Rattle.rc_mutation.specs.Fragments.{rows_and_changes, tomb_after}
use Rattle.rc_mutation.specs.Slices.{in_slice}
use Rattle.rc_mutation.specs.Source.{IsMutation}
use Rattle.rc_query.specs.declared.lines.OutLine.{OutLine}
use Rattle.rc_query.specs.Answer.{answer, static_line}
use Rattle.rc_query.specs.Compacting.{compacted_lines, fragment_line}
use Rattle.rc_query.specs.laws.Answers.{answer-one, row_line}
use Rattle.rc_stream.specs.Merging.{IsInner, IsOrdered, StandsBefore, place_of}
use Rattle.rc_stream.specs.Showing.{IsFromStart}
use Rattle.rc_stream.specs.Stream.{Stream, force, is_passed, onward, opening, sought_stream}
use Rattle.rc_stream.specs.laws.Ordered.{not_passed}
use Rattle.rc_stream.specs.laws.Sought.{onward-ordered}
use Rattle.rc_reader.specs.Left.{is_short_of, slice_lines, until}
use Rattle.rc_reader.proofs.Along.{inner_line, inner_lines, inner-mutation}

-- ---- orders

less_turned : (x y : Pos) → is_lt (pos_cmp x y) ≡ true → is_le (pos_cmp y x) ≡ false
less_turned x y h = ap is_le (pos_cmp_total.antisymm y x) ∙ elim (pos_cmp x y) as (λ r. is_lt r ≡ true → is_le (ordering_reverse r) ≡ false) [ Less ↦ λ _. refl | Equal ↦ λ e. absurd (cc) | Greater ↦ λ e. absurd (cc) ] h

not_less_turned : (x y : Pos) → is_lt (pos_cmp x y) ≡ false → is_le (pos_cmp y x) ≡ true
not_less_turned x y h = ap is_le (pos_cmp_total.antisymm y x) ∙ elim (pos_cmp x y) as (λ r. is_lt r ≡ false → is_le (ordering_reverse r) ≡ true) [ Less ↦ λ e. absurd (cc) | Equal ↦ λ _. refl | Greater ↦ λ _. refl ] h

le_lt : (p x y : Pos) (r s : Ordering) → pos_cmp p x ≡ r → pos_cmp x y ≡ s → is_le r ≡ true → is_lt s ≡ true → is_lt (pos_cmp p y) ≡ true
le_lt p x y Less Less a b h k = ap is_lt (pos_cmp_total.trans p x y a b)
le_lt p x y Equal Less a b h k = subst (λ z. is_lt (pos_cmp z y) ≡ true) (sym (pos_cmp_same p x a)) (ap is_lt b)
le_lt p x y Greater s a b h k = absurd (cc)
le_lt p x y Less Equal a b h k = absurd (cc)
le_lt p x y Less Greater a b h k = absurd (cc)
le_lt p x y Equal Equal a b h k = absurd (cc)
le_lt p x y Equal Greater a b h k = absurd (cc)

-- what is not before y has nothing behind it that is
not_before : (p x y : Pos) → is_le (pos_cmp p x) ≡ true → is_lt (pos_cmp p y) ≡ false → is_lt (pos_cmp x y) ≡ false
not_before p x y h k =
    elim (is_lt (pos_cmp x y)) as (λ b. is_lt (pos_cmp x y) ≡ b → b ≡ false) [
      | true ↦ λ l. absurd (let clash : true ≡ false = sym (le_lt p x y (pos_cmp p x) (pos_cmp x y) refl refl h l) ∙ k in cc)
      | false ↦ λ _. refl
    ] refl

le_then : (r s : Ordering) → ordering_then r s ≡ Less → is_le r ≡ true
le_then Less s e = refl
le_then Equal s e = refl
le_then Greater s e = absurd (cc)

and_false : (a b : Bool) → b ≡ false → (a && b) ≡ false
and_false true b h = h
and_false false b h = refl

-- ---- fragments that stand outside a slice have no lines there

short-place : (x : Pos) (f : Frag) → IsInner f → is_short_of x f ≡ is_lt (pos_cmp (place_of f).0 x)
short-place x (frag.Start pt) i = absurd i
short-place x (frag.Static row) i = absurd i
short-place x (frag.Row key row) i = refl
short-place x (frag.Change from tomb) i = refl
short-place x frag.End i = absurd i

-- none of the fragments stands before x
abbrev Outside : Pos → List Frag → Type 0
Outside x [] = Unit {0}
Outside x (f ∷ fs) = (is_short_of x f ≡ false) × Outside x fs

outside-later : (x : Pos) (f : Frag) (fs : List Frag) → IsInner f → is_short_of x f ≡ false → StandsBefore (place_of f) fs → IsOrdered fs → Outside x fs
outside-later x f [] i h b o = tt
outside-later x f (g ∷ gs) i h b o = (
  short-place x g o.0 ∙ not_before (place_of f).0 (place_of g).0 x (le_then (pos_cmp (place_of f).0 (place_of g).0) (nat_cmp (place_of f).1 (place_of g).1) b.0) (sym (short-place x f i) ∙ h),
  outside-later x f gs i h b.1 o.2,
)

module _ (slice : Slice) (head : Option Tomb) where
  no_line : (tomb : Option Tomb) (key : List Comp) (row : Row) → in_slice slice key ≡ false → inner_line slice head tomb (frag.Row key row) ≡ None
  no_line tomb key row h = ap (λ b. cond {A = Option OutLine} b (row_line (greater tomb_cmp head tomb) key row) None) h

  outside-line : (tomb : Option Tomb) (f : Frag) → is_short_of slice.to f ≡ false → inner_line slice head tomb f ≡ None
  outside-line tomb (frag.Start pt) h = refl
  outside-line tomb (frag.Static row) h = refl
  outside-line tomb (frag.Row key row) h = no_line tomb key row (and_false (is_le (pos_cmp slice.from (row_pos key))) (is_lt (pos_cmp (row_pos key) slice.to)) h)
  outside-line tomb (frag.Change from next) h = refl
  outside-line tomb frag.End h = refl

  outside-lines : (tomb : Option Tomb) (fs : List Frag) → Outside slice.to fs → inner_lines slice head tomb fs ≡ []
  outside-lines tomb [] o = refl
  outside-lines tomb (f ∷ fs) o = (λ i. cons_option (outside-line tomb f o.0 i) (outside-lines (tomb_after tomb f) fs o.1 i))

  -- ---- what a seek passes has no line in the slice

  passed-line : (tomb : Option Tomb) (f : Frag) → is_passed slice.from f ≡ true → inner_line slice head tomb f ≡ None
  passed-line tomb (frag.Start pt) h = refl
  passed-line tomb (frag.Static row) h = refl
  passed-line tomb (frag.Row key row) h = no_line tomb key row (ap (λ b. b && is_lt (pos_cmp (row_pos key) slice.to)) (less_turned (row_pos key) slice.from h))
  passed-line tomb (frag.Change from next) h = refl
  passed-line tomb frag.End h = refl

  onward-lines : (tomb : Option Tomb) (fs : List Frag) → inner_lines slice head (force slice.from tomb fs) (onward slice.from fs) ≡ inner_lines slice head tomb fs
  onward-lines tomb [] = refl
  onward-lines tomb (f ∷ fs) =
      elim (is_passed slice.from f) as (λ b. is_passed slice.from f ≡ b → inner_lines slice head (cond b (force slice.from (tomb_after tomb f) fs) tomb) (cond b (onward slice.from fs) (f ∷ fs)) ≡ inner_lines slice head tomb (f ∷ fs)) [
        | true ↦ λ h. onward-lines (tomb_after tomb f) fs ∙ sym (ap (λ o. cons_option o (inner_lines slice head (tomb_after tomb f) fs)) (passed-line tomb f h))
        | false ↦ λ _. refl
      ] refl

  -- ---- from where the slice begins on, up to its end

  inside-line : (tomb : Option Tomb) (f : Frag) → is_passed slice.from f ≡ false → is_short_of slice.to f ≡ true → fragment_line head tomb f ≡ inner_line slice head tomb f
  inside-line tomb (frag.Start pt) h k = refl
  inside-line tomb (frag.Static row) h k = refl
  inside-line tomb (frag.Row key row) h k = (λ i. cond (sym (not_less_turned (row_pos key) slice.from h) i && sym k i) (row_line (greater tomb_cmp head tomb) key row) None)
  inside-line tomb (frag.Change from next) h k = refl
  inside-line tomb frag.End h k = refl

  inside-lines : (tomb : Option Tomb) (fs : List Frag) → IsOrdered fs → StandsBefore (slice.from, 0) fs → compacted_lines head tomb (until slice.to fs) ≡ inner_lines slice head tomb fs
  inside-lines tomb [] o b = refl
  inside-lines tomb (f ∷ fs) o b =
      elim (is_short_of slice.to f) as (λ s. is_short_of slice.to f ≡ s → compacted_lines head tomb (cond s (f ∷ until slice.to fs) []) ≡ inner_lines slice head tomb (f ∷ fs)) [
        | true ↦ λ k. (λ i. cons_option (inside-line tomb f (not_passed slice.from f o.0 b.0) k i) (inside-lines (tomb_after tomb f) fs o.2 b.1 i))
        | false ↦ λ k. sym (outside-lines tomb (f ∷ fs) (k, outside-later slice.to f fs o.0 k o.1 o.2))
      ] refl

  -- a slice that ends where it begins or before has no rows
  empty-lines : is_lt (pos_cmp slice.from slice.to) ≡ false → (tomb : Option Tomb) (fs : List Frag) → IsOrdered fs → StandsBefore (slice.from, 0) fs → inner_lines slice head tomb fs ≡ []
  empty-lines h tomb fs o b = outside-lines tomb fs (outside-later slice.to (frag.Change slice.from None) fs tt h b o)

  sought-lines : (tomb : Option Tomb) (fs : List Frag) → IsOrdered fs → StandsBefore (slice.from, 0) fs → compacted_lines head None (until slice.to (opening slice.from tomb ++ fs)) ≡ inner_lines slice head tomb fs
  sought-lines None fs o b = inside-lines None fs o b
  sought-lines (Some t) fs o b =
      elim (is_lt (pos_cmp slice.from slice.to)) as (λ s. is_lt (pos_cmp slice.from slice.to) ≡ s → compacted_lines head None (cond s (frag.Change slice.from (Some t) ∷ until slice.to fs) []) ≡ inner_lines slice head (Some t) fs) [
        | true ↦ λ _. inside-lines (Some t) fs o b
        | false ↦ λ h. sym (empty-lines h (Some t) fs o b)
      ] refl

-- the row lines of an ordered stream in a slice
pub row-lines : (slice : Slice) (s : Stream) → IsOrdered s.left → compacted_lines s.head.pt None (until slice.to (sought_stream slice.from s).left) ≡ inner_lines slice s.head.pt s.tomb s.left
row-lines slice s o =
    let h = onward-ordered slice.from s.left o in
    sought-lines slice s.head.pt (force slice.from s.tomb s.left) (onward slice.from s.left) h.0 h.1 ∙ onward-lines slice s.head.pt s.tomb s.left

-- a stream that is the beginning of a mutation has its answer
pub answer-lines : (m : Mutation) (slice : Slice) (s : Stream) → IsMutation m → IsFromStart s →
    s ≡ record { head = record { pt = m.pt; statics = m.statics }; tomb = None; left = rows_and_changes m } → slice_lines slice s ≡ answer (m ∷ []) slice
answer-lines m slice s is f e =
    let t : Stream = record { head = record { pt = m.pt; statics = m.statics }; tomb = None; left = rows_and_changes m } in
    let o : IsOrdered (rows_and_changes m) = subst (λ (z : Stream). IsOrdered z.left) e f.1 in
    ap (slice_lines slice) e
    ∙ ap (λ ls. option_to_list (static_line m.pt (m.statics ∷ [])) ++ ls) (row-lines slice t o ∙ inner-mutation m slice is)
    ∙ sym (answer-one m slice is.rows)
