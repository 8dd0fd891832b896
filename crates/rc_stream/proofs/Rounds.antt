-- A step of a merge, by what is held of both, is one of the merged stream.
use Rattle.std.specs.Prelude.{◌≡◌, true, false, cond, List, [], ◌∷◌, ◌++◌, Option, Some, None}
use Rattle.std.proofs.Common.{refl, sym, ap, ◌∙◌, subst}
use Rattle.std.specs.declared.cmp.Ordering.{Ordering}
use Rattle.std.specs.declared.cmp.Ordering.TheVariants.{Less, Equal, Greater}
use Rattle.std.specs.Ordering.{is_le, is_lt, ordering_reverse, ordering_then}
use Rattle.std.specs.FinMap.Entries.{by_order}
use Rattle.std.specs.Cmp.{tied_itself}
use Rattle.rc_cell.specs.declared.writes.Tomb.{Tomb}
use Rattle.rc_cell.specs.Greatest.{greater}
use Rattle.rc_cell.specs.Orders.{tomb_cmp}
use Rattle.rc_position.specs.declared.positions.Pos.{Pos}
use Rattle.rc_position.specs.Position.{pos_cmp, row_pos}
use Rattle.rc_position.specs.laws.Orders.{pos_cmp_total}
use Rattle.rc_ranges.specs.laws.Greater.{greater-comm}
use Rattle.rc_mutation.specs.declared.fragments.Frag.{Frag}
use Rattle.rc_mutation.specs.declared.fragments.Frag.TheVariants as frag
use Rattle.rc_mutation.specs.declared.fragments.Head.{Head}
use Rattle.rc_mutation.specs.Fragments.{place_order, tomb_after}
use Rattle.rc_stream.specs.declared.holding.Held.{Held}
use Rattle.rc_stream.specs.declared.holding.Step.{Step}
use Rattle.rc_stream.specs.declared.holding.Step.TheVariants as step
use Rattle.rc_stream.specs.declared.holding.Turn.{Turn}
use Rattle.rc_stream.specs.declared.holding.Turn.TheVariants as turn
use Rattle.rc_stream.specs.Fronts.{front_tomb}
use Rattle.rc_stream.specs.Stream.{Stream, first_upto, is_upto, rest}
use Rattle.rc_stream.specs.Merging.{IsInner, IsOrdered, StandsBefore, changes_nothing, joined_head, merged_left, merged_stream, place_of}
use Rattle.rc_stream.specs.calls.Merging.{together}
use Rattle.rc_stream.specs.calls.Merging.{beside}
use Rattle.rc_stream.specs.Places.{bound_of}
use Rattle.rc_stream.specs.Holding.{HeldFits, tomb_behind, held_fragments, whole}
use Rattle.rc_stream.specs.calls.Holding.{nearer}
use Rattle.rc_stream.specs.calls.Holding.{TakesTurn, IsStepUpto, TakesFirst, alone, begins_upto, behind_first, is_near, pair_step, fragment_step, turn_of}
use Rattle.rc_stream.specs.calls.Moving.{StepSays}
use Rattle.rc_stream.proofs.Held.{upto-beside, upto-together}
use Rattle.rc_stream.proofs.Merged.{merged-says}
use Rattle.rc_stream.specs.laws.Ordered.{Place, Lt, before-through, over, place_total, place_same}
use Rattle.rc_stream.proofs.Stepping.{after-beside, after-theirs, after-together, beside_theirs, nothing-after, step-ours, step-theirs, step-together, tell}

-- ---- up to a position

gt_then : (r : Ordering) (s : Ordering) → is_le r ≡ false → ordering_then (ordering_reverse r) s ≡ Less
gt_then Less s e = absurd (cc)
gt_then Equal s e = absurd (cc)
gt_then Greater s e = refl

-- what does not stand up to x stands behind each place of x
past : (x : Pos) (f : Frag) → IsInner f → is_upto x f ≡ false → Lt (x, 1) (place_of f)
past x (frag.Start pt) i e = absurd i
past x (frag.Static row) i e = absurd i
past x (frag.Row key row) i e = ap (λ r. ordering_then r Equal) (pos_cmp_total.antisymm x (row_pos key)) ∙ gt_then (pos_cmp (row_pos key) x) Equal e
past x (frag.Change from tomb) i e = ap (λ r. ordering_then r Greater) (pos_cmp_total.antisymm x from) ∙ gt_then (pos_cmp from x) Greater e
past x frag.End i e = absurd i

not_past : (r : Ordering) → is_le r ≡ true → is_lt (ordering_then (ordering_reverse r) Equal) ≡ false
not_past Less e = refl
not_past Equal e = refl
not_past Greater e = absurd (cc)

not_past_change : (r : Ordering) → is_le r ≡ true → is_lt (ordering_then (ordering_reverse r) Greater) ≡ false
not_past_change Less e = refl
not_past_change Equal e = refl
not_past_change Greater e = absurd (cc)

upto-place : (x : Pos) (f : Frag) → IsInner f → is_upto x f ≡ true → is_lt (place_order (x, 1) (place_of f)) ≡ false
upto-place x (frag.Start pt) i e = absurd i
upto-place x (frag.Static row) i e = absurd i
upto-place x (frag.Row key row) i e = ap (λ r. is_lt (ordering_then r Equal)) (pos_cmp_total.antisymm x (row_pos key)) ∙ not_past (pos_cmp (row_pos key) x) e
upto-place x (frag.Change from tomb) i e = ap (λ r. is_lt (ordering_then r Greater)) (pos_cmp_total.antisymm x from) ∙ not_past_change (pos_cmp from x) e
upto-place x frag.End i e = absurd i

none-upto : (x : Pos) (f : Frag) (fs : List Frag) → first_upto x (f ∷ fs) ≡ None → is_upto x f ≡ false
none-upto x f fs e = elim (is_upto x f) as (λ b. cond b (Some f) None ≡ None → b ≡ false) [ true ↦ λ k. absurd (cc) | false ↦ λ k. refl ] e

-- where none stands up to x, all stand behind it
pub all-past : (x : Pos) (fs : List Frag) → IsOrdered fs → first_upto x fs ≡ None → StandsBefore (x, 1) fs
all-past x [] o e = tt
all-past x (f ∷ fs) o e = let a = past x f o.0 (none-upto x f fs e) in (a, before-through (x, 1) (place_of f) fs a o.1)

none-past : (x : Pos) (fs : List Frag) → IsOrdered fs → StandsBefore (x, 1) fs → first_upto x fs ≡ None
none-past x [] o b = refl
none-past x (f ∷ fs) o b =
    elim (is_upto x f) as (λ c. is_upto x f ≡ c → cond c (Some f) None ≡ None) [
      | true ↦ λ u. absurd (let k : is_lt (place_order (x, 1) (place_of f)) ≡ true = ap is_lt b.0 in let l = upto-place x f o.0 u in cc)
      | false ↦ λ u. refl
    ] refl

before-over : (p q : Place) (fs : List Frag) → StandsBefore p fs → is_lt (place_order p q) ≡ false → StandsBefore q fs
before-over p q [] b h = tt
before-over p q (f ∷ fs) b h = (over p (place_of f) q b.0 h, before-over p q fs b.1 h)

not-upto : (x : Pos) (f : Frag) (fs : List Frag) → is_upto x f ≡ false → first_upto x (f ∷ fs) ≡ None
not-upto x f fs e = ap (λ b. cond b (Some f) None) e

-- ---- whose turn it is

abbrev pub TurnFacts : Turn → Pos → List Frag → List Frag → List Frag → List Frag → Type 0
TurnFacts turn.Nobody x hs ls ks ms = (first_upto x (hs ++ ls) ≡ None) × (first_upto x (ks ++ ms) ≡ None)
TurnFacts turn.Ours x hs ls ks ms = (f : Frag) × (hs ≡ f ∷ rest hs) × (is_upto x f ≡ true) × StandsBefore (place_of f) (ks ++ ms)
TurnFacts turn.Theirs x hs ls ks ms = (g : Frag) × (ks ≡ g ∷ rest ks) × (is_upto x g ≡ true) × StandsBefore (place_of g) (hs ++ ls)
TurnFacts turn.Both x hs ls ks ms = (f : Frag) × (g : Frag) × (hs ≡ f ∷ rest hs) × (ks ≡ g ∷ rest ks) × (is_upto x f ≡ true) × (place_order (place_of f) (place_of g) ≡ Equal)

upto-later : (x : Pos) (f g : Frag) → IsInner f → IsInner g → is_upto x f ≡ false → is_lt (place_order (place_of g) (place_of f)) ≡ false → is_upto x g ≡ false
upto-later x f g i j e h =
    elim (is_upto x g) as (λ b. is_upto x g ≡ b → b ≡ false) [
      | true ↦ λ u. absurd (
          let a : Lt (place_of g) (place_of f) = over (x, 1) (place_of f) (place_of g) (past x f i e) (upto-place x g j u) in
          let k : is_lt (place_order (place_of g) (place_of f)) ≡ true = ap is_lt a in
          cc)
      | false ↦ λ _. refl
    ] refl

turn_gt : (r : Ordering) → is_le r ≡ false → is_le (ordering_reverse r) ≡ true
turn_gt Less e = absurd (cc)
turn_gt Equal e = absurd (cc)
turn_gt Greater e = refl

-- where a fragment does not stand up to x, the bound is x
bound-x : (x : Pos) (f : Frag) (fs : List Frag) → IsInner f → is_upto x f ≡ false → bound_of x (f ∷ fs) ≡ x
bound-x x (frag.Start pt) fs i e = absurd i
bound-x x (frag.Static row) fs i e = absurd i
bound-x x (frag.Row key row) fs i e = ap (λ b. cond b x (row_pos key)) (ap is_le (pos_cmp_total.antisymm x (row_pos key)) ∙ turn_gt (pos_cmp (row_pos key) x) e)
bound-x x (frag.Change from tomb) fs i e = ap (λ b. cond b x from) (ap is_le (pos_cmp_total.antisymm x from) ∙ turn_gt (pos_cmp from x) e)
bound-x x frag.End fs i e = absurd i

self_then : (r : Ordering) → r ≡ Equal → is_lt (ordering_then r Equal) ≡ false
self_then Less e = absurd (cc)
self_then Equal e = refl
self_then Greater e = refl

self_greater : (r : Ordering) → r ≡ Equal → is_lt (ordering_then r Greater) ≡ false
self_greater Less e = absurd (cc)
self_greater Equal e = refl
self_greater Greater e = refl

at-place : (f : Frag) → IsInner f → is_lt (place_order ((place_of f).0, 1) (place_of f)) ≡ false
at-place (frag.Start pt) i = absurd i
at-place (frag.Static row) i = absurd i
at-place (frag.Row key row) i = self_then (pos_cmp (row_pos key) (row_pos key)) (tied_itself pos_cmp_total (row_pos key))
at-place (frag.Change from tomb) i = self_greater (pos_cmp from from) (tied_itself pos_cmp_total from)
at-place frag.End i = absurd i

-- the bound is not before the fragment, where that stands up to x
bound-place : (x : Pos) (f : Frag) (fs : List Frag) → IsInner f → is_upto x f ≡ true → is_lt (place_order (bound_of x (f ∷ fs), 1) (place_of f)) ≡ false
bound-place x f fs i u = elim (is_le (pos_cmp x (place_of f).0)) as (λ b. is_lt (place_order (cond b x (place_of f).0, 1) (place_of f)) ≡ false) [ true ↦ upto-place x f i u | false ↦ at-place f i ]

behind-ordered : (fs gs : List Frag) → IsOrdered (fs ++ gs) → IsOrdered gs
behind-ordered [] gs o = o
behind-ordered (f ∷ fs) gs o = behind-ordered fs gs o.2

pub facts : (x : Pos) (hs ls ks ms : List Frag) → IsOrdered (hs ++ ls) → IsOrdered (ks ++ ms) → (hs ≡ [] → first_upto x ls ≡ None) → (ks ≡ [] → first_upto (bound_of x hs) ms ≡ None) → TurnFacts (turn_of x hs ks) x hs ls ks ms
facts x [] ls [] ms o p a b = (a refl, b refl)
facts x [] ls (g ∷ ks) ms o p a b =
    elim (is_upto x g) as (λ c. is_upto x g ≡ c → TurnFacts (cond c turn.Theirs turn.Nobody) x [] ls (g ∷ ks) ms) [
      | true ↦ λ u. (g, refl, u, before-over (x, 1) (place_of g) ls (all-past x ls o (a refl)) (upto-place x g p.0 u))
      | false ↦ λ u. (a refl, not-upto x g (ks ++ ms) u)
    ] refl
facts x (f ∷ hs) ls [] ms o p a b =
    elim (is_upto x f) as (λ c. is_upto x f ≡ c → TurnFacts (cond c turn.Ours turn.Nobody) x (f ∷ hs) ls [] ms) [
      | true ↦ λ u. (f, refl, u, before-over (bound_of x (f ∷ hs), 1) (place_of f) ms (all-past (bound_of x (f ∷ hs)) ms p (b refl)) (bound-place x f hs o.0 u))
      | false ↦ λ u. (not-upto x f (hs ++ ls) u, ap (λ y. first_upto y ms) (sym (bound-x x f hs o.0 u)) ∙ b refl)
    ] refl
facts x (f ∷ hs) ls (g ∷ ks) ms o p a b =
    elim (place_order (place_of f) (place_of g)) as (λ r. place_order (place_of f) (place_of g) ≡ r → TurnFacts (cond (is_near x (by_order r turn.Ours turn.Both turn.Theirs) (f ∷ hs) (g ∷ ks)) (by_order r turn.Ours turn.Both turn.Theirs) turn.Nobody) x (f ∷ hs) ls (g ∷ ks) ms) [
      | Less ↦ λ e.
          elim (is_upto x f) as (λ c. is_upto x f ≡ c → TurnFacts (cond c turn.Ours turn.Nobody) x (f ∷ hs) ls (g ∷ ks) ms) [
            | true ↦ λ u. (f, refl, u, (e, before-through (place_of f) (place_of g) (ks ++ ms) e p.1))
            | false ↦ λ u. (not-upto x f (hs ++ ls) u, not-upto x g (ks ++ ms) (upto-later x f g o.0 p.0 u (ap is_lt (place_total.antisymm (place_of g) (place_of f) ∙ ap ordering_reverse e))))
          ] refl
      | Equal ↦ λ e.
          elim (is_upto x f) as (λ c. is_upto x f ≡ c → TurnFacts (cond c turn.Both turn.Nobody) x (f ∷ hs) ls (g ∷ ks) ms) [
            | true ↦ λ u. (f, g, refl, refl, u, e)
            | false ↦ λ u. (not-upto x f (hs ++ ls) u, not-upto x g (ks ++ ms) (upto-later x f g o.0 p.0 u (ap is_lt (place_total.antisymm (place_of g) (place_of f) ∙ ap ordering_reverse e))))
          ] refl
      | Greater ↦ λ e.
          let back : Lt (place_of g) (place_of f) = place_total.antisymm (place_of g) (place_of f) ∙ ap ordering_reverse e in
          elim (is_upto x g) as (λ c. is_upto x g ≡ c → TurnFacts (cond c turn.Theirs turn.Nobody) x (f ∷ hs) ls (g ∷ ks) ms) [
            | true ↦ λ u. (g, refl, u, (back, before-through (place_of g) (place_of f) (hs ++ ls) back o.1))
            | false ↦ λ u. (not-upto x f (hs ++ ls) (upto-later x g f p.0 o.0 u (ap is_lt e)), not-upto x g (ks ++ ms) u)
          ] refl
    ] refl

-- ---- what the step says

abbrev stream : Head → Option Tomb → List Frag → Stream
stream h t l = record { head = h; tomb = t; left = l }

told-says : (h : Head) (t u : Option Tomb) (a : Frag) (x : Pos) (l m : List Frag) → l ≡ tell t a m → tomb_after t a ≡ u → is_upto x a ≡ true → StepSays (fragment_step t a) x (stream h t l) (stream h u m)
told-says h t u a x l m e now up =
    elim (changes_nothing t a) as (λ b. changes_nothing t a ≡ b → l ≡ cond b m (a ∷ m) → StepSays (cond b step.Passed (step.Given a)) x (stream h t l) (stream h u m)) [
      | true ↦ λ c k. let same : u ≡ t = sym now ∙ nothing-after t a c in λ i. stream h (same i) (sym k i)
      | false ↦ λ c k.
          let left : m ≡ rest l = ap rest (sym k) in
          (ap (first_upto x) k ∙ ap (λ b. cond b (Some a) None) up, λ i. stream h (sym now i) (left i))
    ] refl e

theirs-beside : (t : Option Tomb) (g : Frag) → beside_theirs t g ≡ beside t g
theirs-beside t (frag.Start pt) = refl
theirs-beside t (frag.Static row) = refl
theirs-beside t (frag.Row key row) = refl
theirs-beside t (frag.Change from next) = ap (frag.Change from) (greater-comm t next)
theirs-beside t frag.End = refl

took-left : (s : Step) (h now : Held) (f : Frag) (ls : List Frag) → held_fragments h ≡ f ∷ rest (held_fragments h) → TakesFirst s h now → held_fragments h ++ ls ≡ f ∷ (held_fragments now ++ ls)
took-left s h now f ls e t = ap (λ hs. hs ++ ls) e ∙ ap (λ hs. f ∷ (hs ++ ls)) (sym t.left)

took-tomb : (s : Step) (h now : Held) (f : Frag) → held_fragments h ≡ f ∷ rest (held_fragments h) → TakesFirst s h now → front_tomb now.front ≡ tomb_after (front_tomb h.front) f
took-tomb s h now f e t = t.tomb ∙ ap (behind_first (front_tomb h.front)) e

took-fits : (s : Step) (h now : Held) (st : Stream) (f : Frag) → held_fragments h ≡ f ∷ rest (held_fragments h) → TakesFirst s h now → HeldFits h st → HeldFits now st
took-fits s h now st f e t fits = record {
  ordered = (let o : IsOrdered (f ∷ (held_fragments now ++ st.left)) = subst IsOrdered (took-left s h now f st.left e t) fits.ordered in o.2);
  tomb = fits.tomb ∙ ap (tomb_behind (front_tomb h.front)) e ∙ sym (λ i. tomb_behind (took-tomb s h now f e t i) (t.left i));
  over = t.over st.left fits.ordered fits.over;
}

-- a step of what is held of both is a step of both merged
pub record Stepped (s : Step) (x : Pos) (sa sb : Stream) (ours theirs ours' theirs' : Held) : Type 0 where
  pub says : StepSays s x (merged_stream (whole ours sa) (whole theirs sb)) (merged_stream (whole ours' sa) (whole theirs' sb))
  pub fits_ours : HeldFits ours' sa
  pub fits_theirs : HeldFits theirs' sb

module _ (x : Pos) (sa sb : Stream) (ours theirs : Held) (fa : HeldFits ours sa) (fb : HeldFits theirs sb) where
  abbrev ta : Option Tomb
  ta = front_tomb ours.front

  abbrev tb : Option Tomb
  tb = front_tomb theirs.front

  nobody-says : first_upto x (held_fragments ours ++ sa.left) ≡ None → first_upto x (held_fragments theirs ++ sb.left) ≡ None → StepSays step.Nothing x (merged_stream (whole ours sa) (whole theirs sb)) (merged_stream (whole ours sa) (whole theirs sb))
  unfolding merged_stream
  nobody-says a b =
      let s = merged-says ta tb (held_fragments ours ++ sa.left) (held_fragments theirs ++ sb.left) fa.ordered fb.ordered in
      (refl, none-past x (merged_left ta (held_fragments ours ++ sa.left) tb (held_fragments theirs ++ sb.left)) s.ordered (s.before (x, 1) (all-past x (held_fragments ours ++ sa.left) fa.ordered a) (all-past x (held_fragments theirs ++ sb.left) fb.ordered b)))

  ours-says : (s : Step) (ours' : Held) (f : Frag) → held_fragments ours ≡ f ∷ rest (held_fragments ours) → is_upto x f ≡ true → StandsBefore (place_of f) (held_fragments theirs ++ sb.left) → TakesFirst s ours ours' → StepSays (fragment_step (greater tomb_cmp ta tb) (beside tb f)) x (merged_stream (whole ours sa) (whole theirs sb)) (merged_stream (whole ours' sa) (whole theirs sb))
  unfolding merged_stream
  ours-says s ours' f e up b t =
      let now = greater tomb_cmp ta tb in
      let gs = held_fragments theirs ++ sb.left in
      let fs = held_fragments ours' ++ sa.left in
      let left = took-left s ours ours' f sa.left e t in
      let tomb = took-tomb s ours ours' f e t in
      let o : IsOrdered (f ∷ fs) = subst IsOrdered left fa.ordered in
      told-says (joined_head sa.head sb.head) now (greater tomb_cmp (front_tomb ours'.front) tb) (beside tb f) x (merged_left ta (held_fragments ours ++ sa.left) tb gs) (merged_left (front_tomb ours'.front) fs tb gs)
      (ap (λ hs. merged_left ta hs tb gs) left ∙ step-ours ta tb f fs gs o fb.ordered b ∙ ap (λ u. tell now (beside tb f) (merged_left u fs tb gs)) (sym tomb))
      (after-beside ta tb f ∙ ap (λ u. greater tomb_cmp u tb) (sym tomb))
      (upto-beside tb f x ∙ up)

  theirs-says : (s : Step) (theirs' : Held) (g : Frag) → held_fragments theirs ≡ g ∷ rest (held_fragments theirs) → is_upto x g ≡ true → StandsBefore (place_of g) (held_fragments ours ++ sa.left) → TakesFirst s theirs theirs' → StepSays (fragment_step (greater tomb_cmp tb ta) (beside ta g)) x (merged_stream (whole ours sa) (whole theirs sb)) (merged_stream (whole ours sa) (whole theirs' sb))
  unfolding merged_stream
  theirs-says s theirs' g e up b t =
      let now = greater tomb_cmp ta tb in
      let fs = held_fragments ours ++ sa.left in
      let gs = held_fragments theirs' ++ sb.left in
      let left = took-left s theirs theirs' g sb.left e t in
      let tomb = took-tomb s theirs theirs' g e t in
      let k : IsOrdered (g ∷ gs) = subst IsOrdered left fb.ordered in
      let old = merged_left ta fs tb (held_fragments theirs ++ sb.left) in
      let later = merged_left ta fs (front_tomb theirs'.front) gs in
      let h = joined_head sa.head sb.head in
      subst (λ u. StepSays (fragment_step u (beside ta g)) x (stream h now old) (stream h (greater tomb_cmp ta (front_tomb theirs'.front)) later)) (greater-comm ta tb)
      (told-says h now (greater tomb_cmp ta (front_tomb theirs'.front)) (beside ta g) x old later
      (ap (λ ks. merged_left ta fs tb ks) left ∙ step-theirs ta tb g fs gs fa.ordered k b ∙ ap (λ a. tell now a (merged_left ta fs (tomb_after tb g) gs)) (theirs-beside ta g) ∙ ap (λ u. tell now (beside ta g) (merged_left ta fs u gs)) (sym tomb))
      (ap (tomb_after now) (sym (theirs-beside ta g)) ∙ after-theirs ta tb g ∙ ap (greater tomb_cmp ta) (sym tomb))
      (upto-beside ta g x ∙ up))

  both-says : (s : Step) (ours' theirs' : Held) (f g : Frag) → held_fragments ours ≡ f ∷ rest (held_fragments ours) → held_fragments theirs ≡ g ∷ rest (held_fragments theirs) → is_upto x f ≡ true → place_order (place_of f) (place_of g) ≡ Equal → TakesFirst s ours ours' → TakesFirst s theirs theirs' → StepSays (fragment_step (greater tomb_cmp ta tb) (together f g)) x (merged_stream (whole ours sa) (whole theirs sb)) (merged_stream (whole ours' sa) (whole theirs' sb))
  unfolding merged_stream
  both-says s ours' theirs' f g e d up p t u =
      let now = greater tomb_cmp ta tb in
      let fs = held_fragments ours' ++ sa.left in
      let gs = held_fragments theirs' ++ sb.left in
      let left = took-left s ours ours' f sa.left e t in
      let right = took-left s theirs theirs' g sb.left d u in
      let tomb = took-tomb s ours ours' f e t in
      let other = took-tomb s theirs theirs' g d u in
      let o : IsOrdered (f ∷ fs) = subst IsOrdered left fa.ordered in
      let k : IsOrdered (g ∷ gs) = subst IsOrdered right fb.ordered in
      told-says (joined_head sa.head sb.head) now (greater tomb_cmp (front_tomb ours'.front) (front_tomb theirs'.front)) (together f g) x (merged_left ta (held_fragments ours ++ sa.left) tb (held_fragments theirs ++ sb.left)) (merged_left (front_tomb ours'.front) fs (front_tomb theirs'.front) gs)
      ((λ i. merged_left ta (left i) tb (right i)) ∙ step-together ta tb f g fs gs o k p ∙ (λ i. tell now (together f g) (merged_left (sym tomb i) fs (sym other i) gs)))
      (after-together ta tb f g o.0 k.0 (place_same (place_of f) (place_of g) p) ∙ (λ i. greater tomb_cmp (sym tomb i) (sym other i)))
      (upto-together f g x ∙ up)

  by_turn : (r : Turn) (s : Step) (ours' theirs' : Held) → TurnFacts r x (held_fragments ours) sa.left (held_fragments theirs) sb.left → TakesTurn r s ours theirs ours' theirs' → Stepped s x sa sb ours theirs ours' theirs'
  by_turn turn.Nobody s ours' theirs' facts d =
      subst (λ r. Stepped r x sa sb ours theirs ours' theirs') (sym d.0)
      (subst (λ h. Stepped step.Nothing x sa sb ours theirs h theirs') (sym d.1)
      (subst (λ k. Stepped step.Nothing x sa sb ours theirs ours k) (sym d.2) (record { says = nobody-says facts.0 facts.1; fits_ours = fa; fits_theirs = fb })))
  by_turn turn.Ours s ours' theirs' facts d =
      let f = facts.0 in
      let e = facts.1 in
      let same : s ≡ fragment_step (greater tomb_cmp ta tb) (beside tb f) = d.0 ∙ ap (alone ta tb) e in
      subst (λ k. Stepped s x sa sb ours theirs ours' k) (sym d.2)
      (record {
        says = subst (λ r. StepSays r x (merged_stream (whole ours sa) (whole theirs sb)) (merged_stream (whole ours' sa) (whole theirs sb))) (sym same) (ours-says s ours' f e facts.2 facts.3 d.1);
        fits_ours = took-fits s ours ours' sa f e d.1 fa;
        fits_theirs = fb;
      })
  by_turn turn.Theirs s ours' theirs' facts d =
      let g = facts.0 in
      let e = facts.1 in
      let same : s ≡ fragment_step (greater tomb_cmp tb ta) (beside ta g) = d.0 ∙ ap (alone tb ta) e in
      subst (λ h. Stepped s x sa sb ours theirs h theirs') (sym d.1)
      (record {
        says = subst (λ r. StepSays r x (merged_stream (whole ours sa) (whole theirs sb)) (merged_stream (whole ours sa) (whole theirs' sb))) (sym same) (theirs-says s theirs' g e facts.2 facts.3 d.2);
        fits_ours = fa;
        fits_theirs = took-fits s theirs theirs' sb g e d.2 fb;
      })
  by_turn turn.Both s ours' theirs' facts d =
      let f = facts.0 in
      let g = facts.1 in
      let same : s ≡ fragment_step (greater tomb_cmp ta tb) (together f g) = d.0 ∙ (λ i. pair_step (greater tomb_cmp ta tb) (facts.2 i) (facts.3 i)) in
      record {
        says = subst (λ r. StepSays r x (merged_stream (whole ours sa) (whole theirs sb)) (merged_stream (whole ours' sa) (whole theirs' sb))) (sym same) (both-says s ours' theirs' f g facts.2 facts.3 facts.4 facts.5 d.1 d.2);
        fits_ours = took-fits s ours ours' sa f facts.2 d.1 fa;
        fits_theirs = took-fits s theirs theirs' sb g facts.3 d.2 fb;
      }

  pub stepped : (s : Step) (ours' theirs' : Held) → (held_fragments ours ≡ [] → first_upto x sa.left ≡ None) → (held_fragments theirs ≡ [] → first_upto (bound_of x (held_fragments ours)) sb.left ≡ None) → TakesTurn (turn_of x (held_fragments ours) (held_fragments theirs)) s ours theirs ours' theirs' → Stepped s x sa sb ours theirs ours' theirs'
  stepped s ours' theirs' a b d = by_turn (turn_of x (held_fragments ours) (held_fragments theirs)) s ours' theirs' (facts x (held_fragments ours) sa.left (held_fragments theirs) sb.left fa.ordered fb.ordered a b) d

-- ---- what a step gives stands up to the position

told-upto : (x : Pos) (t : Option Tomb) (f : Frag) → is_upto x f ≡ true → IsStepUpto x (fragment_step t f)
told-upto x t f u = elim (changes_nothing t f) as (λ b. IsStepUpto x (cond b step.Passed (step.Given f))) [ true ↦ tt | false ↦ u ]

alone-upto : (x : Pos) (t other : Option Tomb) (fs : List Frag) → begins_upto x fs ≡ true → IsStepUpto x (alone t other fs)
alone-upto x t other [] u = tt
alone-upto x t other (f ∷ fs) u = told-upto x (greater tomb_cmp t other) (beside other f) (upto-beside other f x ∙ u)

paired-upto : (x : Pos) (t : Option Tomb) (fs gs : List Frag) → begins_upto x fs ≡ true → IsStepUpto x (pair_step t fs gs)
paired-upto x t [] gs u = tt
paired-upto x t (f ∷ fs) [] u = tt
paired-upto x t (f ∷ fs) (g ∷ gs) u = told-upto x t (together f g) (upto-together f g x ∙ u)

turn-upto : (x : Pos) (r : Turn) (s : Step) (o t o' t' : Held) → is_near x r (held_fragments o) (held_fragments t) ≡ true → TakesTurn r s o t o' t' → IsStepUpto x s
turn-upto x turn.Nobody s o t o' t' n d = subst (IsStepUpto x) (sym d.0) tt
turn-upto x turn.Ours s o t o' t' n d = subst (IsStepUpto x) (sym d.0) (alone-upto x (front_tomb o.front) (front_tomb t.front) (held_fragments o) n)
turn-upto x turn.Theirs s o t o' t' n d = subst (IsStepUpto x) (sym d.0) (alone-upto x (front_tomb t.front) (front_tomb o.front) (held_fragments t) n)
turn-upto x turn.Both s o t o' t' n d = subst (IsStepUpto x) (sym d.0) (paired-upto x (greater tomb_cmp (front_tomb o.front) (front_tomb t.front)) (held_fragments o) (held_fragments t) n)

pub step-upto : (x : Pos) (s : Step) (o t o' t' : Held) → TakesTurn (turn_of x (held_fragments o) (held_fragments t)) s o t o' t' → IsStepUpto x s
step-upto x s o t o' t' =
    let r = nearer (held_fragments o) (held_fragments t) in
    elim (is_near x r (held_fragments o) (held_fragments t)) as (λ b. is_near x r (held_fragments o) (held_fragments t) ≡ b → TakesTurn (cond b r turn.Nobody) s o t o' t' → IsStepUpto x s) [
      | true ↦ λ n d. turn-upto x r s o t o' t' n d
      | false ↦ λ n d. subst (IsStepUpto x) (sym d.0) tt
    ] refl
