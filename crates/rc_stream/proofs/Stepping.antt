-- The first of two ordered lists merged, and what is left of both.
use Rattle.std.specs.Prelude.{◌≡◌, ℕ, true, false, cond, List, [], ◌∷◌, ◌++◌, Option, Some, None, map as list_map, length}
use Rattle.std.proofs.Common.{refl, sym, ap, ◌∙◌, subst, arith}
use Rattle.std.specs.declared.cmp.Ordering.{Ordering}
use Rattle.std.specs.declared.cmp.Ordering.TheVariants.{Less, Equal, Greater}
use Rattle.std.specs.Ordering.{is_eq, ordering_reverse}
use Rattle.std.specs.FinMap as map
use Rattle.std.specs.FinMap.{put}
use Rattle.std.specs.FinMap.Entries.{by_order}
use Rattle.rc_cell.specs.declared.rows.Row.{Row}
use Rattle.rc_cell.specs.declared.writes.Tomb.{Tomb}
use Rattle.rc_cell.specs.laws.Beats.{tomb_cmp-IsAntisymmetric}
use Rattle.rc_cell.specs.Greatest.{greater}
use Rattle.rc_cell.specs.laws.{joined_row-one}
use Rattle.rc_cell.specs.Orders.{tomb_cmp}
use Rattle.rc_cell.specs.Winner.{joined_row}
use Rattle.rc_position.specs.declared.positions.Pos.{Pos}
use Rattle.rc_position.specs.Position.{row_pos}
use Rattle.rc_mutation.specs.declared.fragments.Frag.{Frag}
use Rattle.rc_mutation.specs.declared.fragments.Frag.TheVariants as frag
use Rattle.rc_mutation.specs.Fragments.{place_order, tomb_after}
use Rattle.rc_stream.specs.Stream.{force, is_passed, row_at}
use Rattle.rc_stream.specs.Merging.{IsInner, IsOrdered, StandsBefore, both_say, changes_nothing, merged_left, place_of, placed_fragment, rows_here, same_tomb, telling}
use Rattle.rc_stream.specs.calls.Merging.{together}
use Rattle.rc_stream.specs.calls.Merging.{beside}
use Rattle.rc_stream.specs.laws.Ordered.{Place, Lt, place_total, place_same, before-append, no_row-passed, no_rows, itself, irreflexive, passed-change, passed-row, passes-itself, stop}

abbrev pub Entries : Type 0
Entries = List (Place × Frag)

-- ---- the entries of fragments, by place

abbrev pub ents : List Frag → Entries
ents fs = map.entries (map.from_entries {R = place_order} (list_map placed_fragment fs))

abbrev keys_behind : Place → Entries → Type 0
keys_behind p [] = Unit {0}
keys_behind p (e ∷ es) = Lt p e.0 × keys_behind p es

no_length : (es : Entries) → length es ≡ 0 → es ≡ []
no_length [] e = refl
no_length (x ∷ es) e = absurd (omega arith)

pub ents-none : ents [] ≡ []
ents-none = no_length (ents []) (sym (map.len-entries (map.empty {K = Place} {X = Frag} {R = place_order})) ∙ map.len-empty place_order Frag)

pub ents-cons : (f : Frag) (fs : List Frag) → ents (f ∷ fs) ≡ put place_order (place_of f) f (ents fs)
ents-cons f fs = map.entries-insert place_total (map.from_entries {R = place_order} (list_map placed_fragment fs)) (place_of f) f

behind-put : (q p : Place) (v : Frag) (es : Entries) → Lt q p → keys_behind q es → keys_behind q (put place_order p v es)
behind-put q p v [] a h = (a, tt)
behind-put q p v (e ∷ es) a h =
    elim (place_order p e.0) as (λ o. keys_behind q (by_order o ((p, v) ∷ e ∷ es) ((e.0, v) ∷ es) (e ∷ put place_order p v es))) [
      | Less ↦ (a, h)
      | Equal ↦ h
      | Greater ↦ (h.0, behind-put q p v es a h.1)
    ]

behind-ents : (q : Place) (fs : List Frag) → StandsBefore q fs → keys_behind q (ents fs)
behind-ents q [] h = subst (keys_behind q) (sym ents-none) tt
behind-ents q (f ∷ fs) h = subst (keys_behind q) (sym (ents-cons f fs)) (behind-put q (place_of f) f (ents fs) h.0 (behind-ents q fs h.1))

put-first : (p : Place) (v : Frag) (es : Entries) → keys_behind p es → put place_order p v es ≡ (p, v) ∷ es
put-first p v [] h = refl
put-first p v (e ∷ es) h = ap (λ o. by_order o ((p, v) ∷ e ∷ es) ((e.0, v) ∷ es) (e ∷ put place_order p v es)) h.0

put-second : (p q : Place) (v w : Frag) (es : Entries) → Lt q p → put place_order p v ((q, w) ∷ es) ≡ (q, w) ∷ put place_order p v es
put-second p q v w es a = ap (λ o. by_order o ((p, v) ∷ (q, w) ∷ es) ((q, v) ∷ es) ((q, w) ∷ put place_order p v es)) (place_total.antisymm p q ∙ ap ordering_reverse a)

put-tied : (p q : Place) (v w : Frag) (es : Entries) → place_order p q ≡ Equal → put place_order p v ((q, w) ∷ es) ≡ (q, v) ∷ es
put-tied p q v w es a = ap (λ o. by_order o ((p, v) ∷ (q, w) ∷ es) ((q, v) ∷ es) ((q, w) ∷ put place_order p v es)) a

-- a fragment before all others is the first
first-ents : (g : Frag) (fs gs : List Frag) → StandsBefore (place_of g) fs → StandsBefore (place_of g) gs → ents (fs ++ g ∷ gs) ≡ (place_of g, g) ∷ ents (fs ++ gs)
first-ents g [] gs b c = ents-cons g gs ∙ put-first (place_of g) g (ents gs) (behind-ents (place_of g) gs c)
first-ents g (f ∷ fs) gs b c =
    ents-cons f (fs ++ g ∷ gs)
    ∙ ap (put place_order (place_of f) f) (first-ents g fs gs b.1 c)
    ∙ put-second (place_of f) (place_of g) f g (ents (fs ++ gs)) b.0
    ∙ ap (λ es. (place_of g, g) ∷ es) (sym (ents-cons f (fs ++ gs)))

abbrev pub values : Entries → List Frag
values es = list_map (λ e. e.1) es

before-put : (q p : Place) (v : Frag) (es : Entries) → Lt q (place_of v) → StandsBefore q (values es) → StandsBefore q (values (put place_order p v es))
before-put q p v [] a h = (a, tt)
before-put q p v (e ∷ es) a h =
    elim (place_order p e.0) as (λ o. StandsBefore q (values (by_order o ((p, v) ∷ e ∷ es) ((e.0, v) ∷ es) (e ∷ put place_order p v es)))) [
      | Less ↦ (a, h)
      | Equal ↦ (a, h.1)
      | Greater ↦ (h.0, before-put q p v es a h.1)
    ]

before-ents : (q : Place) (fs : List Frag) → StandsBefore q fs → StandsBefore q (values (ents fs))
before-ents q [] h = subst (λ es. StandsBefore q (values es)) (sym ents-none) tt
before-ents q (f ∷ fs) h = subst (λ es. StandsBefore q (values es)) (sym (ents-cons f fs)) (before-put q (place_of f) f (ents fs) h.0 (before-ents q fs h.1))

-- ---- what both say at a place behind those that were taken

abbrev Says : Type 0
Says = Frag → Frag

same-map : (h k : Says) (p : Place) (fs : List Frag) → ((f : Frag) → Lt p (place_of f) → h f ≡ k f) → StandsBefore p fs → list_map h fs ≡ list_map k fs
same-map h k p [] same b = refl
same-map h k p (f ∷ fs) same b = λ i. same f b.0 i ∷ same-map h k p fs same b.1 i

ours-later : (tomb other : Option Tomb) (f : Frag) (fs gs : List Frag) → IsInner f → (v : Frag) → Lt (place_of f) (place_of v) → both_say tomb (f ∷ fs) other gs v ≡ both_say (tomb_after tomb f) fs other gs v
ours-later tomb other f fs gs i (frag.Start pt) a = refl
ours-later tomb other f fs gs i (frag.Static row) a = refl
ours-later tomb other f fs gs i (frag.Row key row) a = ap (λ rs. frag.Row key (joined_row ((rs ++ rows_here (row_pos key) fs) ++ rows_here (row_pos key) gs))) (no_row-passed (row_pos key) f (passed-row (row_pos key) f i a))
ours-later tomb other f fs gs i (frag.Change from next) a = ap (λ b. frag.Change from (greater tomb_cmp (cond b (force from (tomb_after tomb f) fs) tomb) (force from other gs))) (passed-change from f i a)
ours-later tomb other f fs gs i frag.End a = refl

theirs-later : (tomb other : Option Tomb) (g : Frag) (fs gs : List Frag) → IsInner g → (v : Frag) → Lt (place_of g) (place_of v) → both_say tomb fs other (g ∷ gs) v ≡ both_say tomb fs (tomb_after other g) gs v
theirs-later tomb other g fs gs i (frag.Start pt) a = refl
theirs-later tomb other g fs gs i (frag.Static row) a = refl
theirs-later tomb other g fs gs i (frag.Row key row) a = ap (λ rs. frag.Row key (joined_row (rows_here (row_pos key) fs ++ (rs ++ rows_here (row_pos key) gs)))) (no_row-passed (row_pos key) g (passed-row (row_pos key) g i a))
theirs-later tomb other g fs gs i (frag.Change from next) a = ap (λ b. frag.Change from (greater tomb_cmp (force from tomb fs) (cond b (force from (tomb_after other g) gs) other))) (passed-change from g i a)
theirs-later tomb other g fs gs i frag.End a = refl

-- ---- what is given first

tie : (r : Ordering) → is_eq r ≡ true → r ≡ Equal
tie Less e = absurd (cc)
tie Equal e = refl
tie Greater e = absurd (cc)

pub same-tombs : (s t : Option Tomb) → same_tomb s t ≡ true → s ≡ t
same-tombs None None e = refl
same-tombs None (Some t) e = absurd (cc)
same-tombs (Some s) None e = absurd (cc)
same-tombs (Some s) (Some t) e = ap Some (tomb_cmp-IsAntisymmetric s t (tie (tomb_cmp s t) e))

-- behind a change that changes nothing the tombstone is as before
pub nothing-after : (tomb : Option Tomb) (f : Frag) → changes_nothing tomb f ≡ true → tomb_after tomb f ≡ tomb
nothing-after tomb (frag.Start pt) e = absurd (cc)
nothing-after tomb (frag.Static row) e = absurd (cc)
nothing-after tomb (frag.Row key row) e = absurd (cc)
nothing-after tomb (frag.Change from next) e = sym (same-tombs tomb next e)
nothing-after tomb frag.End e = absurd (cc)

-- a fragment before others, unless it changes nothing
abbrev pub tell : Option Tomb → Frag → List Frag → List Frag
tell tomb f fs = cond (changes_nothing tomb f) fs (f ∷ fs)

telling-tell : (tomb : Option Tomb) (f : Frag) (fs : List Frag) → telling tomb (f ∷ fs) ≡ tell tomb f (telling (tomb_after tomb f) fs)
telling-tell tomb f fs =
    elim (changes_nothing tomb f) as (λ b. changes_nothing tomb f ≡ b → cond b (telling tomb fs) (f ∷ telling (tomb_after tomb f) fs) ≡ cond b (telling (tomb_after tomb f) fs) (f ∷ telling (tomb_after tomb f) fs)) [
      | true ↦ λ e. ap (λ t. telling t fs) (sym (nothing-after tomb f e))
      | false ↦ λ e. refl
    ] refl

abbrev pub beside_theirs : Option Tomb → Frag → Frag
beside_theirs tomb (frag.Start pt) = frag.Start pt
beside_theirs tomb (frag.Static row) = frag.Static row
beside_theirs tomb (frag.Row key row) = frag.Row key row
beside_theirs tomb (frag.Change from next) = frag.Change from (greater tomb_cmp tomb next)
beside_theirs tomb frag.End = frag.End

row_itself : (key : _) (row : Row) → row_at (row_pos key) (frag.Row key row) ≡ row ∷ []
row_itself key row = ap (λ b. cond b (row ∷ []) []) (itself (row_pos key))

ours-say : (tomb other : Option Tomb) (f : Frag) (fs gs : List Frag) → IsOrdered (f ∷ fs) → IsOrdered gs → StandsBefore (place_of f) gs → both_say tomb (f ∷ fs) other gs f ≡ beside other f
ours-say tomb other (frag.Start pt) fs gs o k b = refl
ours-say tomb other (frag.Static row) fs gs o k b = refl
ours-say tomb other (frag.Row key row) fs gs o k b =
    let x = row_pos key in
    ap (λ rs. frag.Row key (joined_row ((rs ++ rows_here x fs) ++ rows_here x gs))) (row_itself key row)
    ∙ ap (λ rs. frag.Row key (joined_row ((row ∷ rs) ++ rows_here x gs))) (no_rows x (x, 1) fs o.2 o.1 (irreflexive (x, 1)))
    ∙ ap (λ rs. frag.Row key (joined_row (row ∷ rs))) (no_rows x (x, 1) gs k b (irreflexive (x, 1)))
    ∙ ap (frag.Row key) (joined_row-one row o.0)
ours-say tomb other (frag.Change from next) fs gs o k b =
    ap (λ c. frag.Change from (greater tomb_cmp (cond c (force from next fs) tomb) (force from other gs))) (passes-itself from)
    ∙ ap (λ t. frag.Change from (greater tomb_cmp t (force from other gs))) (stop from (from, 0) next fs o.2 o.1 (irreflexive (from, 0)))
    ∙ ap (λ t. frag.Change from (greater tomb_cmp next t)) (stop from (from, 0) other gs k b (irreflexive (from, 0)))
ours-say tomb other frag.End fs gs o k b = refl

theirs-say : (tomb other : Option Tomb) (g : Frag) (fs gs : List Frag) → IsOrdered fs → IsOrdered (g ∷ gs) → StandsBefore (place_of g) fs → both_say tomb fs other (g ∷ gs) g ≡ beside_theirs tomb g
theirs-say tomb other (frag.Start pt) fs gs o k b = refl
theirs-say tomb other (frag.Static row) fs gs o k b = refl
theirs-say tomb other (frag.Row key row) fs gs o k b =
    let x = row_pos key in
    ap (λ rs. frag.Row key (joined_row (rows_here x fs ++ (rs ++ rows_here x gs)))) (row_itself key row)
    ∙ ap (λ rs. frag.Row key (joined_row (rows_here x fs ++ (row ∷ rs)))) (no_rows x (x, 1) gs k.2 k.1 (irreflexive (x, 1)))
    ∙ ap (λ rs. frag.Row key (joined_row (rs ++ row ∷ []))) (no_rows x (x, 1) fs o b (irreflexive (x, 1)))
    ∙ ap (frag.Row key) (joined_row-one row k.0)
theirs-say tomb other (frag.Change from next) fs gs o k b =
    ap (λ c. frag.Change from (greater tomb_cmp (force from tomb fs) (cond c (force from next gs) other))) (passes-itself from)
    ∙ ap (λ t. frag.Change from (greater tomb_cmp (force from tomb fs) t)) (stop from (from, 0) next gs k.2 k.1 (irreflexive (from, 0)))
    ∙ ap (λ t. frag.Change from (greater tomb_cmp t next)) (stop from (from, 0) tomb fs o b (irreflexive (from, 0)))
theirs-say tomb other frag.End fs gs o k b = refl

one_place : (f g : Frag) → place_order (place_of f) (place_of g) ≡ Equal → place_of f ≡ place_of g
one_place f g e = place_same (place_of f) (place_of g) e

pub other_rank : (x y : Pos) → ◌≡◌ {A = Place} (x, 1) (y, 0) → ⊥
other_rank x y e = let n : ◌≡◌ {A = ℕ} 1 0 = ap (λ (p : Place). p.1) e in omega arith

together-say : (tomb other : Option Tomb) (f g : Frag) (fs gs : List Frag) → IsOrdered (f ∷ fs) → IsOrdered (g ∷ gs) → place_of f ≡ place_of g → both_say tomb (f ∷ fs) other (g ∷ gs) f ≡ together f g
together-say tomb other (frag.Start pt) g fs gs o k e = absurd o.0
together-say tomb other (frag.Static row) g fs gs o k e = absurd o.0
together-say tomb other (frag.Row key row) (frag.Start pt) fs gs o k e = absurd k.0
together-say tomb other (frag.Row key row) (frag.Static s) fs gs o k e = absurd k.0
together-say tomb other (frag.Row key row) (frag.Row key' row') fs gs o k e =
    let x = row_pos key in
    let same : x ≡ row_pos key' = ap (λ (p : Place). p.0) e in
    ap (λ rs. frag.Row key (joined_row ((rs ++ rows_here x fs) ++ (row_at x (frag.Row key' row') ++ rows_here x gs)))) (row_itself key row)
    ∙ ap (λ rs. frag.Row key (joined_row ((row ∷ rs) ++ (row_at x (frag.Row key' row') ++ rows_here x gs)))) (no_rows x (x, 1) fs o.2 o.1 (irreflexive (x, 1)))
    ∙ ap (λ rs. frag.Row key (joined_row (row ∷ (rs ++ rows_here x gs)))) (ap (λ y. row_at y (frag.Row key' row')) same ∙ row_itself key' row')
    ∙ ap (λ rs. frag.Row key (joined_row (row ∷ row' ∷ rs))) (no_rows x (x, 1) gs k.2 (subst (λ p. StandsBefore p gs) (sym e) k.1) (irreflexive (x, 1)))
together-say tomb other (frag.Row key row) (frag.Change from next) fs gs o k e = absurd (other_rank (row_pos key) from e)
together-say tomb other (frag.Row key row) frag.End fs gs o k e = absurd k.0
together-say tomb other (frag.Change from next) (frag.Start pt) fs gs o k e = absurd k.0
together-say tomb other (frag.Change from next) (frag.Static s) fs gs o k e = absurd k.0
together-say tomb other (frag.Change from next) (frag.Row key row) fs gs o k e = absurd (other_rank (row_pos key) from (sym e))
together-say tomb other (frag.Change from next) (frag.Change from' next') fs gs o k e =
    let same : from ≡ from' = ap (λ (p : Place). p.0) e in
    ap (λ c. frag.Change from (greater tomb_cmp (cond c (force from next fs) tomb) (force from other (frag.Change from' next' ∷ gs)))) (passes-itself from)
    ∙ ap (λ t. frag.Change from (greater tomb_cmp t (force from other (frag.Change from' next' ∷ gs)))) (stop from (from, 0) next fs o.2 o.1 (irreflexive (from, 0)))
    ∙ ap (λ c. frag.Change from (greater tomb_cmp next (cond c (force from next' gs) other))) (ap (λ y. is_passed from (frag.Change y next')) (sym same) ∙ passes-itself from)
    ∙ ap (λ t. frag.Change from (greater tomb_cmp next t)) (stop from (from, 0) next' gs k.2 (subst (λ p. StandsBefore p gs) (sym e) k.1) (irreflexive (from, 0)))
together-say tomb other (frag.Change from next) frag.End fs gs o k e = absurd k.0
together-say tomb other frag.End g fs gs o k e = absurd o.0

pub after-beside : (tomb other : Option Tomb) (f : Frag) → tomb_after (greater tomb_cmp tomb other) (beside other f) ≡ greater tomb_cmp (tomb_after tomb f) other
after-beside tomb other (frag.Start pt) = refl
after-beside tomb other (frag.Static row) = refl
after-beside tomb other (frag.Row key row) = refl
after-beside tomb other (frag.Change from next) = refl
after-beside tomb other frag.End = refl

pub after-theirs : (tomb other : Option Tomb) (g : Frag) → tomb_after (greater tomb_cmp tomb other) (beside_theirs tomb g) ≡ greater tomb_cmp tomb (tomb_after other g)
after-theirs tomb other (frag.Start pt) = refl
after-theirs tomb other (frag.Static row) = refl
after-theirs tomb other (frag.Row key row) = refl
after-theirs tomb other (frag.Change from next) = refl
after-theirs tomb other frag.End = refl

pub after-together : (tomb other : Option Tomb) (f g : Frag) → IsInner f → IsInner g → place_of f ≡ place_of g → tomb_after (greater tomb_cmp tomb other) (together f g) ≡ greater tomb_cmp (tomb_after tomb f) (tomb_after other g)
after-together tomb other (frag.Start pt) g i j e = absurd i
after-together tomb other (frag.Static row) g i j e = absurd i
after-together tomb other (frag.Row key row) (frag.Start pt) i j e = absurd j
after-together tomb other (frag.Row key row) (frag.Static s) i j e = absurd j
after-together tomb other (frag.Row key row) (frag.Row key' row') i j e = refl
after-together tomb other (frag.Row key row) (frag.Change from next) i j e = absurd (other_rank (row_pos key) from e)
after-together tomb other (frag.Row key row) frag.End i j e = absurd j
after-together tomb other (frag.Change from next) (frag.Start pt) i j e = absurd j
after-together tomb other (frag.Change from next) (frag.Static s) i j e = absurd j
after-together tomb other (frag.Change from next) (frag.Row key row) i j e = absurd (other_rank (row_pos key) from (sym e))
after-together tomb other (frag.Change from next) (frag.Change from' next') i j e = refl
after-together tomb other (frag.Change from next) frag.End i j e = absurd j
after-together tomb other frag.End g i j e = absurd i

-- ---- the steps

pub step-none : (tomb other : Option Tomb) → merged_left tomb [] other [] ≡ []
step-none tomb other = ap (λ es. telling (greater tomb_cmp tomb other) (list_map (both_say tomb [] other []) (values es))) ents-none

pub step-ours : (tomb other : Option Tomb) (f : Frag) (fs gs : List Frag) → IsOrdered (f ∷ fs) → IsOrdered gs → StandsBefore (place_of f) gs → merged_left tomb (f ∷ fs) other gs ≡ tell (greater tomb_cmp tomb other) (beside other f) (merged_left (tomb_after tomb f) fs other gs)
step-ours tomb other f fs gs o k b =
    let now = greater tomb_cmp tomb other in
    let behind = before-append (place_of f) fs gs o.1 b in
    let later = values (ents (fs ++ gs)) in
    let made = list_map (both_say (tomb_after tomb f) fs other gs) later in
    ap (λ es. telling now (list_map (both_say tomb (f ∷ fs) other gs) (values es))) (first-ents f [] (fs ++ gs) tt behind)
    ∙ ap (λ a. telling now (a ∷ list_map (both_say tomb (f ∷ fs) other gs) later)) (ours-say tomb other f fs gs o k b)
    ∙ ap (λ l. telling now (beside other f ∷ l)) (same-map (both_say tomb (f ∷ fs) other gs) (both_say (tomb_after tomb f) fs other gs) (place_of f) later (ours-later tomb other f fs gs o.0) (before-ents (place_of f) (fs ++ gs) behind))
    ∙ telling-tell now (beside other f) made
    ∙ ap (λ t. tell now (beside other f) (telling t made)) (after-beside tomb other f)

pub step-theirs : (tomb other : Option Tomb) (g : Frag) (fs gs : List Frag) → IsOrdered fs → IsOrdered (g ∷ gs) → StandsBefore (place_of g) fs → merged_left tomb fs other (g ∷ gs) ≡ tell (greater tomb_cmp tomb other) (beside_theirs tomb g) (merged_left tomb fs (tomb_after other g) gs)
step-theirs tomb other g fs gs o k b =
    let now = greater tomb_cmp tomb other in
    let behind = before-append (place_of g) fs gs b k.1 in
    let later = values (ents (fs ++ gs)) in
    let made = list_map (both_say tomb fs (tomb_after other g) gs) later in
    ap (λ es. telling now (list_map (both_say tomb fs other (g ∷ gs)) (values es))) (first-ents g fs gs b k.1)
    ∙ ap (λ a. telling now (a ∷ list_map (both_say tomb fs other (g ∷ gs)) later)) (theirs-say tomb other g fs gs o k b)
    ∙ ap (λ l. telling now (beside_theirs tomb g ∷ l)) (same-map (both_say tomb fs other (g ∷ gs)) (both_say tomb fs (tomb_after other g) gs) (place_of g) later (theirs-later tomb other g fs gs k.0) (before-ents (place_of g) (fs ++ gs) behind))
    ∙ telling-tell now (beside_theirs tomb g) made
    ∙ ap (λ t. tell now (beside_theirs tomb g) (telling t made)) (after-theirs tomb other g)

first-tied : (f g : Frag) (fs gs : List Frag) → place_order (place_of f) (place_of g) ≡ Equal → StandsBefore (place_of g) fs → StandsBefore (place_of g) gs → ents (f ∷ (fs ++ g ∷ gs)) ≡ (place_of g, f) ∷ ents (fs ++ gs)
first-tied f g fs gs e b c =
    ents-cons f (fs ++ g ∷ gs)
    ∙ ap (put place_order (place_of f) f) (first-ents g fs gs b c)
    ∙ put-tied (place_of f) (place_of g) f g (ents (fs ++ gs)) e

pub step-together : (tomb other : Option Tomb) (f g : Frag) (fs gs : List Frag) → IsOrdered (f ∷ fs) → IsOrdered (g ∷ gs) → place_order (place_of f) (place_of g) ≡ Equal → merged_left tomb (f ∷ fs) other (g ∷ gs) ≡ tell (greater tomb_cmp tomb other) (together f g) (merged_left (tomb_after tomb f) fs (tomb_after other g) gs)
step-together tomb other f g fs gs o k e =
    let now = greater tomb_cmp tomb other in
    let one = one_place f g e in
    let ours : StandsBefore (place_of g) fs = subst (λ p. StandsBefore p fs) one o.1 in
    let behind = before-append (place_of g) fs gs ours k.1 in
    let later = values (ents (fs ++ gs)) in
    let made = list_map (both_say (tomb_after tomb f) fs (tomb_after other g) gs) later in
    ap (λ es. telling now (list_map (both_say tomb (f ∷ fs) other (g ∷ gs)) (values es))) (first-tied f g fs gs e ours k.1)
    ∙ ap (λ a. telling now (a ∷ list_map (both_say tomb (f ∷ fs) other (g ∷ gs)) later)) (together-say tomb other f g fs gs o k one)
    ∙ ap (λ l. telling now (together f g ∷ l)) (same-map (both_say tomb (f ∷ fs) other (g ∷ gs)) (both_say (tomb_after tomb f) fs (tomb_after other g) gs) (place_of g) later
    (λ v a. ours-later tomb other f fs (g ∷ gs) o.0 v (subst (λ p. Lt p (place_of v)) (sym one) a) ∙ theirs-later (tomb_after tomb f) other g fs gs k.0 v a)
    (before-ents (place_of g) (fs ++ gs) behind))
    ∙ telling-tell now (together f g) made
    ∙ ap (λ t. tell now (together f g) (telling t made)) (after-together tomb other f g o.0 k.0 one)
