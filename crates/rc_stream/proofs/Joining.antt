-- Two mutations read as streams and merged are the stream of what both join to.
use Rattle.std.specs.Prelude.{◌≡◌, zero, suc, All, Bool, true, false, cond, List, [], ◌∷◌, ◌++◌, Option, Some, None, IsTrue, length, map as list_map, filter}
use Rattle.std.proofs.Common.{refl, sym, ap, ◌∙◌, subst, arith, T, append-nil}
use Rattle.std.specs.declared.cmp.Ordering.{Ordering}
use Rattle.std.specs.declared.cmp.Ordering.TheVariants.{Less, Equal, Greater}
use Rattle.std.specs.Ordering.{eq_by_cmp, is_eq, is_le, is_lt, ordering_reverse}
use Rattle.std.specs.Option.{option_to_list}
use Rattle.std.specs.List.{cons_option}
use Rattle.std.specs.FinMap as map
use Rattle.std.specs.FinMap.{is_sorted, put}
use Rattle.std.specs.FinMap.Entries.{below_all, by_order}
use Rattle.rc_cell.specs.declared.rows.Row.{Row}
use Rattle.rc_cell.specs.declared.writes.Tomb.{Tomb}
use Rattle.rc_cell.specs.laws.Beats.{tomb_cmp-IsAntisymmetric}
use Rattle.rc_cell.specs.laws.ByColumn.{first, second}
use Rattle.rc_cell.specs.Columns.{ascending}
use Rattle.rc_cell.specs.Greatest.{greater}
use Rattle.rc_cell.specs.laws.Greatest.{greatest-two}
use Rattle.rc_cell.specs.Orders.{tomb_cmp, tomb_cmp_total}
use Rattle.rc_cell.specs.Winner.{greatest, joined_row}
use Rattle.rc_position.specs.declared.comps.Comp.{Comp}
use Rattle.rc_position.specs.declared.positions.Pos.{Pos}
use Rattle.rc_position.specs.declared.positions.Weight.{Weight}
use Rattle.rc_position.specs.declared.positions.Weight.TheVariants.{Before, At, After}
use Rattle.rc_position.specs.Position.{pos_cmp, row_pos}
use Rattle.rc_position.specs.laws.Orders.{pos_cmp_total, pos_cmp_same}
use Rattle.rc_ranges.specs.declared.pieces.Piece.{Piece}
use Rattle.rc_ranges.specs.Cover.{IsCanonical, MayFollow, cover as range_tomb}
use Rattle.rc_ranges.specs.calls.Sweep.{lt}
use Rattle.rc_ranges.specs.laws.Covering.{cover-append, cover-before, cover-behind, cover-inside, cover-none}
use Rattle.rc_mutation.specs.declared.fragments.Frag.{Frag}
use Rattle.rc_mutation.specs.declared.mutations.Mutation.{Mutation}
use Rattle.rc_mutation.specs.laws.ByKey.{rows_at-joined_rows}
use Rattle.rc_mutation.specs.Fragments.{begins_at, changes_of, fragments, in_order, place_order, placed_change, placed_row}
use Rattle.rc_mutation.specs.Source.{IsJoinOf, IsMutation, joined_rows, rows_in}
use Rattle.rc_mutation.specs.laws.FragMerge.{merge, merge_into, merge-in_order, fragment_of, rows-placed, changes-placed}
use Rattle.rc_stream.specs.Stream.{Stream, force, stream_of}
use Rattle.rc_stream.specs.Merging.{IsInner, IsOrdered, IsTelling, StandsBefore, joined_head, merged_stream, place_of, rows_here, same_tomb}
use Rattle.rc_stream.specs.laws.Ordered.{Place, place_total, place_same}
use Rattle.rc_stream.proofs.Merged.{one_row}
use Rattle.rc_stream.proofs.MergeLaws.{determined-stream, head-merged, ordered-merged, rows-merged, telling-merged, tomb-merged, tombs-merged}
use Rattle.rc_stream.proofs.Whole.{stream, stream-of_fragments}

abbrev Keyed : Type 0
Keyed = List Comp × Row

abbrev Change : Type 0
Change = Pos × Option Tomb

abbrev Entries : Type 0
Entries = List (Place × Frag)

-- ---- the fragments of a mutation are ordered

-- each entry has the place of its fragment, a row or a change
abbrev Own : Entries → Type 0
Own [] = Unit {0}
Own (e ∷ es) = (e.0 ≡ place_of e.1) × IsInner e.1 × Own es

own-put : (p : Place) (v : Frag) (es : Entries) → p ≡ place_of v → IsInner v → Own es → Own (put place_order p v es)
own-put p v [] e i h = (e, i, tt)
own-put p v (x ∷ es) e i h =
    elim (place_order p x.0) as (λ o. place_order p x.0 ≡ o → Own (by_order o ((p, v) ∷ x ∷ es) ((x.0, v) ∷ es) (x ∷ put place_order p v es))) [
      | Less ↦ λ _. (e, i, h)
      | Equal ↦ λ t. (sym (place_same p x.0 t) ∙ e, i, h.2)
      | Greater ↦ λ _. (h.0, h.1, own-put p v es e i h.2)
    ] refl

abbrev ents : Entries → Entries
ents es = map.entries (map.from_entries {R = place_order} es)

no_length : (es : Entries) → length es ≡ 0 → es ≡ []
no_length [] e = refl
no_length (x ∷ es) e = absurd (omega arith)

own-ents : (es : Entries) → Own es → Own (ents es)
own-ents [] h = subst Own (sym (no_length (ents []) (sym (map.len-entries (map.empty {K = Place} {X = Frag} {R = place_order})) ∙ map.len-empty place_order Frag))) tt
own-ents (e ∷ es) h = subst Own (sym (map.entries-insert place_total (map.from_entries {R = place_order} es) e.0 e.1)) (own-put e.0 e.1 (ents es) h.0 h.1 (own-ents es h.2))

less : (r : Ordering) → T (is_lt r) → r ≡ Less
less Less h = refl
less Equal h = absurd h
less Greater h = absurd h

below-own : (p q : Place) (es : Entries) → p ≡ q → T (below_all place_order p es) → Own es → StandsBefore q (list_map fragment_of es)
below-own p q [] e h o = tt
below-own p q (x ∷ es) e h o = (
  sym (λ i. place_order (e i) (o.0 i)) ∙ less (place_order p x.0) (first (is_lt (place_order p x.0)) (below_all place_order p es) h),
  below-own p q es e (second (is_lt (place_order p x.0)) (below_all place_order p es) h) o.2,
)

ordered-own : (es : Entries) → T (is_sorted place_order es) → Own es → IsOrdered (list_map fragment_of es)
ordered-own [] h o = tt
ordered-own (e ∷ es) h o = (
  o.1,
  below-own e.0 (place_of e.1) es o.0 (first (below_all place_order e.0 es) (is_sorted place_order es) h) o.2,
  ordered-own es (second (below_all place_order e.0 es) (is_sorted place_order es) h) o.2,
)

own-rows : (os : List Keyed) → All (λ e. IsTrue (ascending e.1.cells)) os → (more : Entries) → Own more → Own (list_map placed_row os ++ more)
own-rows [] h more o = o
own-rows (e ∷ es) h more o = (refl, h zero e (omega arith), own-rows es (λ k d l. h (suc k) d (omega arith)) more o)

own-changes : (bs : List Change) → Own (list_map placed_change bs)
own-changes [] = tt
own-changes (b ∷ bs) = (refl, tt, own-changes bs)

abbrev lines : Mutation → List Frag
lines m = in_order (list_map placed_row m.rows ++ list_map placed_change (changes_of m.ranges))

pub ordered-lines : (m : Mutation) → IsMutation m → IsOrdered (lines m)
ordered-lines m is =
    let all = list_map placed_row m.rows ++ list_map placed_change (changes_of m.ranges) in
    ordered-own (ents all) (map.entries_sorted (map.from_entries {R = place_order} all)) (own-ents all (own-rows m.rows is.rows.by_column (list_map placed_change (changes_of m.ranges)) (own-changes (changes_of m.ranges))))

abbrev run : List Keyed → List Change → List Frag
run os bs = list_map fragment_of (merge os bs)

run-lines : (m : Mutation) → IsMutation m → run m.rows (changes_of m.ranges) ≡ lines m
run-lines m is = merge-in_order m.rows (changes_of m.ranges) (rows-placed m.rows is.rows.ascend) (changes-placed m.ranges is.ranges)

-- ---- their rows

row_step : (b : Bool) (a : Keyed) (l : List Row) (es : List Keyed) → l ≡ list_map (λ e. e.1) es → cond b (a.1 ∷ []) [] ++ l ≡ list_map (λ e. e.1) (cond b (a ∷ es) es)
row_step true a l es h = ap (λ k. a.1 ∷ k) h
row_step false a l es h = h

abbrev here : Pos → List Keyed → List Keyed
here x os = filter (λ e. eq_by_cmp pos_cmp x (row_pos e.0)) os

rows-changes : (x : Pos) (bs : List Change) → rows_here x (list_map fragment_of (list_map placed_change bs)) ≡ []
rows-changes x [] = refl
rows-changes x (b ∷ bs) = rows-changes x bs

rows-alone : (x : Pos) (os : List Keyed) → rows_here x (list_map fragment_of (list_map placed_row os)) ≡ rows_in x os
rows-alone x [] = refl
rows-alone x (a ∷ os) = row_step (eq_by_cmp pos_cmp x (row_pos a.0)) a (rows_here x (list_map fragment_of (list_map placed_row os))) (here x os) (rows-alone x os)

rows-into : (x : Pos) (a : Keyed) (os : List Keyed) → ((bs : List Change) → rows_here x (run os bs) ≡ rows_in x os) → (bs : List Change) → rows_here x (list_map fragment_of (merge_into a os (merge os) bs)) ≡ rows_in x (a ∷ os)
rows-into x a os ih [] = rows-alone x (a ∷ os)
rows-into x a os ih (b ∷ bs) =
    elim (is_lt (pos_cmp (row_pos a.0) b.0)) as (λ r. rows_here x (list_map fragment_of (cond r (placed_row a ∷ merge os (b ∷ bs)) (placed_change b ∷ merge_into a os (merge os) bs))) ≡ rows_in x (a ∷ os)) [
      | true ↦ row_step (eq_by_cmp pos_cmp x (row_pos a.0)) a (rows_here x (run os (b ∷ bs))) (here x os) (ih (b ∷ bs))
      | false ↦ rows-into x a os ih bs
    ]

rows-run : (x : Pos) (os : List Keyed) (bs : List Change) → rows_here x (run os bs) ≡ rows_in x os
rows-run x [] bs = rows-changes x bs
rows-run x (a ∷ os) bs = rows-into x a os (rows-run x os) bs

rows-lines : (m : Mutation) → IsMutation m → (x : Pos) → rows_here x (lines m) ≡ rows_in x m.rows
rows-lines m is x = ap (rows_here x) (sym (run-lines m is)) ∙ rows-run x m.rows (changes_of m.ranges)

-- ---- the tombstone in force along them

abbrev along : Option Tomb → List Change → Pos → Option Tomb
along tomb [] x = tomb
along tomb (b ∷ bs) x = cond (is_lt (pos_cmp x b.0)) tomb (along b.1 bs x)

plain : (r : Ordering) → is_lt r ≡ true → r ≡ Less
plain Less h = refl
plain Equal h = absurd (cc)
plain Greater h = absurd (cc)

over_pos : (p q r : Pos) → is_lt (pos_cmp p q) ≡ true → is_lt (pos_cmp p r) ≡ false → is_lt (pos_cmp r q) ≡ true
over_pos p q r a h =
    elim (pos_cmp p r) as (λ o. pos_cmp p r ≡ o → is_lt o ≡ false → is_lt (pos_cmp r q) ≡ true) [
      | Less ↦ λ e k. absurd (cc)
      | Equal ↦ λ e k. ap is_lt (sym (pos_cmp_total.congr p r q e)) ∙ a
      | Greater ↦ λ e k. ap is_lt (pos_cmp_total.trans r p q (pos_cmp_total.antisymm r p ∙ ap ordering_reverse e) (plain (pos_cmp p q) a))
    ] refl h

turn_le : (r : Ordering) (s t : Option Tomb) → cond (is_le (ordering_reverse r)) s t ≡ cond (is_lt r) t s
turn_le Less s t = refl
turn_le Equal s t = refl
turn_le Greater s t = refl

change_step : (x : Pos) (b : Change) (tomb s : Option Tomb) → cond (is_le (pos_cmp b.0 x)) s tomb ≡ cond (is_lt (pos_cmp x b.0)) tomb s
change_step x b tomb s = ap (λ r. cond (is_le r) s tomb) (pos_cmp_total.antisymm b.0 x) ∙ turn_le (pos_cmp x b.0) s tomb

force-changes : (x : Pos) (tomb : Option Tomb) (bs : List Change) → force x tomb (list_map fragment_of (list_map placed_change bs)) ≡ along tomb bs x
force-changes x tomb [] = refl
force-changes x tomb (b ∷ bs) = change_step x b tomb (force x b.1 (list_map fragment_of (list_map placed_change bs))) ∙ ap (cond (is_lt (pos_cmp x b.0)) tomb) (force-changes x b.1 bs)

force-rows : (x : Pos) (tomb : Option Tomb) (os : List Keyed) → force x tomb (list_map fragment_of (list_map placed_row os)) ≡ tomb
force-rows x tomb [] = refl
force-rows x tomb (a ∷ os) = elim (is_lt (pos_cmp (row_pos a.0) x)) as (λ b. cond b (force x tomb (list_map fragment_of (list_map placed_row os))) tomb ≡ tomb) [ true ↦ force-rows x tomb os | false ↦ refl ]

force-into : (x : Pos) (a : Keyed) (os : List Keyed) → ((tomb : Option Tomb) (bs : List Change) → force x tomb (run os bs) ≡ along tomb bs x) → (tomb : Option Tomb) (bs : List Change) → force x tomb (list_map fragment_of (merge_into a os (merge os) bs)) ≡ along tomb bs x
force-into x a os ih tomb [] = force-rows x tomb (a ∷ os)
force-into x a os ih tomb (b ∷ bs) =
    elim (is_lt (pos_cmp (row_pos a.0) b.0)) as (λ r. is_lt (pos_cmp (row_pos a.0) b.0) ≡ r → force x tomb (list_map fragment_of (cond r (placed_row a ∷ merge os (b ∷ bs)) (placed_change b ∷ merge_into a os (merge os) bs))) ≡ along tomb (b ∷ bs) x) [
      | true ↦ λ e.
          elim (is_lt (pos_cmp (row_pos a.0) x)) as (λ c. is_lt (pos_cmp (row_pos a.0) x) ≡ c → cond c (force x tomb (run os (b ∷ bs))) tomb ≡ along tomb (b ∷ bs) x) [
            | true ↦ λ _. ih tomb (b ∷ bs)
            | false ↦ λ d. ap (λ c. cond c tomb (along b.1 bs x)) (sym (over_pos (row_pos a.0) b.0 x e d))
          ] refl
      | false ↦ λ e. change_step x b tomb (force x b.1 (list_map fragment_of (merge_into a os (merge os) bs))) ∙ ap (cond (is_lt (pos_cmp x b.0)) tomb) (force-into x a os ih b.1 bs)
    ] refl

force-run : (x : Pos) (os : List Keyed) (tomb : Option Tomb) (bs : List Change) → force x tomb (run os bs) ≡ along tomb bs x
force-run x [] tomb bs = force-changes x tomb bs
force-run x (a ∷ os) tomb bs = force-into x a os (force-run x os) tomb bs

lt-is : (x y : Pos) → lt x y ≡ is_lt (pos_cmp x y)
unfolding lt
lt-is x y = refl

tie : (r : Ordering) → is_eq r ≡ true → r ≡ Equal
tie Less e = absurd (cc)
tie Equal e = refl
tie Greater e = absurd (cc)

-- the change at the end of a range, unless the next range begins there
abbrev ends : Piece → List Piece → List Change
ends p qs = cond (begins_at p.to qs) [] ((p.to, None) ∷ [])

meets : (p q : Piece) (x : Pos) (b : Bool) → eq_by_cmp pos_cmp q.from p.to ≡ true → is_lt (pos_cmp x p.to) ≡ b → is_lt (pos_cmp x q.from) ≡ b
meets p q x b e h = ap (λ y. is_lt (pos_cmp x y)) (pos_cmp_same q.from p.to (tie (pos_cmp q.from p.to) e)) ∙ h

inside : (tomb : Option Tomb) (p : Piece) (qs : List Piece) (x : Pos) → is_lt (pos_cmp x p.to) ≡ true → along tomb (ends p qs ++ changes_of qs) x ≡ tomb
inside tomb p [] x h = ap (λ b. cond {A = Option Tomb} b tomb None) h
inside tomb p (q ∷ qs) x h =
    elim (eq_by_cmp pos_cmp q.from p.to) as (λ b. eq_by_cmp pos_cmp q.from p.to ≡ b → along tomb (cond b [] ((p.to, None) ∷ []) ++ changes_of (q ∷ qs)) x ≡ tomb) [
      | true ↦ λ e. ap (λ b. cond {A = Option Tomb} b tomb (along (Some q.tomb) (ends q qs ++ changes_of qs) x)) (meets p q x true e h)
      | false ↦ λ e. ap (λ b. cond {A = Option Tomb} b tomb (along None (changes_of (q ∷ qs)) x)) h
    ] refl

outside : (tomb : Option Tomb) (p : Piece) (qs : List Piece) (x : Pos) → is_lt (pos_cmp x p.to) ≡ false → along tomb (ends p qs ++ changes_of qs) x ≡ along None (changes_of qs) x
outside tomb p [] x h = ap (λ b. cond {A = Option Tomb} b tomb None) h
outside tomb p (q ∷ qs) x h =
    elim (eq_by_cmp pos_cmp q.from p.to) as (λ b. eq_by_cmp pos_cmp q.from p.to ≡ b → along tomb (cond b [] ((p.to, None) ∷ []) ++ changes_of (q ∷ qs)) x ≡ along None (changes_of (q ∷ qs)) x) [
      | true ↦ λ e.
          let later = along (Some q.tomb) (ends q qs ++ changes_of qs) x in
          let at = meets p q x false e h in
          ap (λ b. cond {A = Option Tomb} b tomb later) at ∙ sym (ap (λ b. cond {A = Option Tomb} b None later) at)
      | false ↦ λ e. ap (λ b. cond {A = Option Tomb} b tomb (along None (changes_of (q ∷ qs)) x)) h
    ] refl

-- along the changes of canonical pieces the tombstone in force is theirs
along-ranges : (ps : List Piece) → IsCanonical ps → (x : Pos) → along None (changes_of ps) x ≡ range_tomb ps x
along-ranges [] is x = sym (cover-none x)
along-ranges (p ∷ ps) is x =
    elim (is_lt (pos_cmp x p.from)) as (λ b. is_lt (pos_cmp x p.from) ≡ b → cond b None (along (Some p.tomb) (ends p ps ++ changes_of ps) x) ≡ range_tomb (p ∷ ps) x) [
      | true ↦ λ e. sym (cover-before p ps is x (lt-is x p.from ∙ e))
      | false ↦ λ e.
          elim (is_lt (pos_cmp x p.to)) as (λ b. is_lt (pos_cmp x p.to) ≡ b → along (Some p.tomb) (ends p ps ++ changes_of ps) x ≡ range_tomb (p ∷ ps) x) [
            | true ↦ λ f. inside (Some p.tomb) p ps x f ∙ sym (cover-inside p ps is x (lt-is x p.from ∙ e) (lt-is x p.to ∙ f))
            | false ↦ λ f. outside (Some p.tomb) p ps x f ∙ along-ranges ps is.2 x ∙ sym (cover-behind p ps x (lt-is x p.to ∙ f))
          ] refl
    ] refl

force-lines : (m : Mutation) → IsMutation m → (x : Pos) → force x None (lines m) ≡ range_tomb m.ranges x
force-lines m is x = ap (force x None) (sym (run-lines m is)) ∙ force-run x m.rows None (changes_of m.ranges) ∙ along-ranges m.ranges is.ranges x

-- ---- each change tells something

abbrev TellsOn : Option Tomb → List Change → Type 0
TellsOn tomb [] = Unit {0}
TellsOn tomb (b ∷ bs) = (same_tomb tomb b.1 ≡ false) × TellsOn b.1 bs

abbrev Differs : Option Tomb → List Piece → Type 0
Differs tomb [] = Unit {0}
Differs tomb (p ∷ ps) = same_tomb tomb (Some p.tomb) ≡ false

from_none : (ps : List Piece) → Differs None ps
from_none [] = tt
from_none (p ∷ ps) = refl

touching : (p : Piece) (ps : List Piece) → MayFollow p ps → begins_at p.to ps ≡ true → Differs (Some p.tomb) ps
touching p [] f e = tt
touching p (q ∷ qs) f e =
    elim (eq_by_cmp tomb_cmp p.tomb q.tomb) as (λ b. eq_by_cmp tomb_cmp p.tomb q.tomb ≡ b → b ≡ false) [
      | true ↦ λ t. absurd (f.1 (sym (pos_cmp_same q.from p.to (tie (pos_cmp q.from p.to) e))) (tomb_cmp-IsAntisymmetric p.tomb q.tomb (tie (tomb_cmp p.tomb q.tomb) t)))
      | false ↦ λ _. refl
    ] refl

tells-ranges : (tomb : Option Tomb) (ps : List Piece) → IsCanonical ps → Differs tomb ps → TellsOn tomb (changes_of ps)
tells-ranges tomb [] is d = tt
tells-ranges tomb (p ∷ ps) is d = (
  d,
  elim (begins_at p.to ps) as (λ b. begins_at p.to ps ≡ b → TellsOn (Some p.tomb) (cond b [] ((p.to, None) ∷ []) ++ changes_of ps)) [
    | true ↦ λ e. tells-ranges (Some p.tomb) ps is.2 (touching p ps is.1 e)
    | false ↦ λ e. (refl, tells-ranges None ps is.2 (from_none ps))
  ] refl,
)

telling-changes : (tomb : Option Tomb) (bs : List Change) → TellsOn tomb bs → IsTelling tomb (list_map fragment_of (list_map placed_change bs))
telling-changes tomb [] h = tt
telling-changes tomb (b ∷ bs) h = (h.0, telling-changes b.1 bs h.1)

telling-rows : (tomb : Option Tomb) (os : List Keyed) → IsTelling tomb (list_map fragment_of (list_map placed_row os))
telling-rows tomb [] = tt
telling-rows tomb (a ∷ os) = (refl, telling-rows tomb os)

telling-into : (a : Keyed) (os : List Keyed) → ((tomb : Option Tomb) (bs : List Change) → TellsOn tomb bs → IsTelling tomb (run os bs)) → (tomb : Option Tomb) (bs : List Change) → TellsOn tomb bs → IsTelling tomb (list_map fragment_of (merge_into a os (merge os) bs))
telling-into a os ih tomb [] h = telling-rows tomb (a ∷ os)
telling-into a os ih tomb (b ∷ bs) h =
    elim (is_lt (pos_cmp (row_pos a.0) b.0)) as (λ r. IsTelling tomb (list_map fragment_of (cond r (placed_row a ∷ merge os (b ∷ bs)) (placed_change b ∷ merge_into a os (merge os) bs)))) [
      | true ↦ (refl, ih tomb (b ∷ bs) h)
      | false ↦ (h.0, telling-into a os ih b.1 bs h.1)
    ]

telling-run : (os : List Keyed) (tomb : Option Tomb) (bs : List Change) → TellsOn tomb bs → IsTelling tomb (run os bs)
telling-run [] tomb bs h = telling-changes tomb bs h
telling-run (a ∷ os) tomb bs h = telling-into a os (telling-run os) tomb bs h

telling-lines : (m : Mutation) → IsMutation m → IsTelling None (lines m)
telling-lines m is = subst (IsTelling None) (run-lines m is) (telling-run m.rows None (changes_of m.ranges) (tells-ranges None m.ranges is.ranges (from_none m.ranges)))

-- ---- the rows of a join

not_tied : (x y : Pos) → (x ≡ y → ⊥) → eq_by_cmp pos_cmp x y ≡ false
not_tied x y h = elim (pos_cmp x y) as (λ r. pos_cmp x y ≡ r → is_eq r ≡ false) [ Less ↦ λ _. refl | Equal ↦ λ e. absurd (h (pos_cmp_same x y e)) | Greater ↦ λ _. refl ] refl

none_in : (x : Pos) → ((k : List Comp) → x ≡ row_pos k → ⊥) → (rows : List Keyed) → rows_in x rows ≡ []
none_in x h [] = refl
none_in x h (e ∷ es) = ap (λ b. list_map (λ (e : Keyed). e.1) (cond b (e ∷ here x es) (here x es))) (not_tied x (row_pos e.0) (h e.0)) ∙ none_in x h es

in-joined : (p : List Comp) (w : Weight) (rows : List Keyed) → rows_in (record { prefix = p; weight = w }) (joined_rows rows) ≡ one_row (rows_in (record { prefix = p; weight = w }) rows)
in-joined p Before rows =
    let apart : (k : List Comp) → ◌≡◌ {A = Pos} (record { prefix = p; weight = Before }) (row_pos k) → ⊥ = λ k e. (let w : Before ≡ At = ap (λ (x : Pos). x.weight) e in cc) in
    none_in _ apart (joined_rows rows) ∙ ap one_row (sym (none_in _ apart rows))
in-joined p At rows = rows_at-joined_rows p rows
in-joined p After rows =
    let apart : (k : List Comp) → ◌≡◌ {A = Pos} (record { prefix = p; weight = After }) (row_pos k) → ⊥ = λ k e. (let w : After ≡ At = ap (λ (x : Pos). x.weight) e in cc) in
    none_in _ apart (joined_rows rows) ∙ ap one_row (sym (none_in _ apart rows))

here_step : (b : Bool) (a : Keyed) (xs : List Keyed) (l m : List Row) → list_map (λ e. e.1) xs ≡ l ++ m → (ys : List Keyed) → list_map (λ e. e.1) ys ≡ l → list_map (λ e. e.1) (cond b (a ∷ xs) xs) ≡ list_map (λ e. e.1) (cond b (a ∷ ys) ys) ++ m
here_step true a xs l m e ys f = ap (λ k. a.1 ∷ k) (e ∙ ap (λ k. k ++ m) (sym f))
here_step false a xs l m e ys f = e ∙ ap (λ k. k ++ m) (sym f)

rows_in-append : (x : Pos) (xs ys : List Keyed) → rows_in x (xs ++ ys) ≡ rows_in x xs ++ rows_in x ys
rows_in-append x [] ys = refl
rows_in-append x (a ∷ xs) ys = here_step (eq_by_cmp pos_cmp x (row_pos a.0)) a (here x (xs ++ ys)) (rows_in x xs) (rows_in x ys) (rows_in-append x xs ys) (here x xs) refl

-- ---- the stream of a join

cons_one : {X : Type 0} (s : Option X) → cons_option s [] ≡ option_to_list s
cons_one None = refl
cons_one (Some x) = refl

cons_list : {X : Type 0} (s : Option X) (xs : List X) → cons_option s xs ≡ option_to_list s ++ xs
cons_list None xs = refl
cons_list (Some x) xs = refl

greater_of_two : (s t : Option Tomb) → greatest tomb_cmp (cons_option s (cons_option t [])) ≡ greater tomb_cmp s t
greater_of_two s t = ap (greatest tomb_cmp) (cons_list s (cons_option t []) ∙ ap (λ ts. option_to_list s ++ ts) (cons_one t)) ∙ greatest-two tomb_cmp_total tomb_cmp-IsAntisymmetric s t

abbrev whole : Mutation → Stream
whole m = stream m.pt m.statics (lines m)

whole-merged : (m n j : Mutation) → IsMutation m → IsMutation n → IsMutation j → IsJoinOf j (m ∷ n ∷ []) → merged_stream (whole m) (whole n) ≡ whole j
whole-merged m n j g h k join =
    let o = ordered-lines m g in
    let p = ordered-lines n h in
    let pt : greater tomb_cmp m.pt n.pt ≡ j.pt = sym (greater_of_two m.pt n.pt) ∙ sym join.head in
    let statics : joined_row (m.statics ∷ n.statics ∷ []) ≡ j.statics = sym join.statics in
    let head : joined_head (whole m).head (whole n).head ≡ (whole j).head = λ i. record { pt = pt i; statics = statics i } in
    let tomb : (merged_stream (whole m) (whole n)).tomb ≡ None = tomb-merged (whole m) (whole n) in
    determined-stream (merged_stream (whole m) (whole n)) (whole j) (ordered-merged (whole m) (whole n) o p) (ordered-lines j k) (telling-merged (whole m) (whole n) o p) (telling-lines j k) (head-merged (whole m) (whole n) ∙ head) tomb
    (λ x.
    let rows : rows_here x (merged_stream (whole m) (whole n)).left ≡ rows_here x (lines j) =
    rows-merged (whole m) (whole n) x o p
    ∙ (λ i. one_row (rows-lines m g x i ++ rows-lines n h x i))
    ∙ ap one_row (sym (rows_in-append x m.rows n.rows))
    ∙ ap (λ rs. one_row (rows_in x (m.rows ++ rs))) (sym (append-nil n.rows))
    ∙ sym (in-joined x.prefix x.weight (m.rows ++ (n.rows ++ [])))
    ∙ ap (rows_in x) (sym join.rows)
    ∙ sym (rows-lines j k x) in
    let tombs : force x (merged_stream (whole m) (whole n)).tomb (merged_stream (whole m) (whole n)).left ≡ force x None (lines j) =
    tombs-merged (whole m) (whole n) x o p
    ∙ (λ i. greater tomb_cmp (force-lines m g x i) (force-lines n h x i))
    ∙ sym (cover-append m.ranges n.ranges x)
    ∙ ap (λ ps. range_tomb (m.ranges ++ ps) x) (sym (append-nil n.ranges))
    ∙ sym (join.ranges x)
    ∙ sym (force-lines j k x) in
    λ i. (rows i, tombs i))

-- two mutations read as streams and merged are the stream of what both join to
pub merged-join : (m n j : Mutation) → IsMutation m → IsMutation n → IsMutation j → IsJoinOf j (m ∷ n ∷ []) → merged_stream (stream_of (fragments m)) (stream_of (fragments n)) ≡ stream_of (fragments j)
merged-join m n j g h k join =
    (λ i. merged_stream (stream-of_fragments m g i) (stream-of_fragments n h i))
    ∙ whole-merged m n j g h k join
    ∙ sym (stream-of_fragments j k)
