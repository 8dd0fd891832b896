-- Where a call of a merge ends: its second part is asked no further.
use Rattle.std.specs.Prelude.{◌≡◌, true, false, cond, List, [], ◌∷◌, ◌++◌, Option, None, map as list_map}
use Rattle.std.proofs.Common.{refl, sym, ap, ◌∙◌, subst, inl, inr}
use Rattle.std.specs.declared.cmp.Ordering.{Ordering}
use Rattle.std.specs.declared.cmp.Ordering.TheVariants.{Less, Equal, Greater}
use Rattle.std.specs.Ordering.{is_le, ordering_reverse, ordering_then}
use Rattle.std.specs.FinMap.{put}
use Rattle.std.specs.FinMap.Entries.{by_order}
use Rattle.rc_cell.specs.declared.writes.Tomb.{Tomb}
use Rattle.rc_cell.specs.Greatest.{greater}
use Rattle.rc_cell.specs.Orders.{tomb_cmp}
use Rattle.rc_position.specs.declared.positions.Pos.{Pos}
use Rattle.rc_position.specs.laws.Orders.{pos_cmp_total}
use Rattle.rc_position.specs.Position.{pos_cmp}
use Rattle.rc_mutation.specs.declared.fragments.Frag.{Frag}
use Rattle.rc_mutation.specs.declared.fragments.Frag.TheVariants as frag
use Rattle.rc_mutation.specs.Fragments.{place_order, tomb_after}
use Rattle.rc_stream.specs.declared.holding.Held.{Held}
use Rattle.rc_stream.specs.Did.{ReachesEnd}
use Rattle.rc_stream.specs.Places.{Reaches, bound_of}
use Rattle.rc_stream.specs.Stream.{Stream, first_upto}
use Rattle.rc_stream.specs.Merging.{IsOrdered, StandsBefore, both_say, changes_nothing, merged_left, merged_stream, place_of, telling}
use Rattle.rc_stream.specs.Holding.{held_fragments}
use Rattle.rc_stream.specs.Moving.{IsPutBack}
use Rattle.rc_stream.specs.Showing.{MergesTwo}
use Rattle.rc_stream.proofs.Going.{reaches-through}
use Rattle.rc_stream.specs.laws.Ordered.{Place, passes-itself}
use Rattle.rc_stream.proofs.Rounds.{all-past}
use Rattle.rc_stream.proofs.Stepping.{Entries, ents, ents-cons, ents-none, values}
use Rattle.rc_stream.proofs.Wholes.{Seen, ordered}

-- ---- fragments from a position on

-- no fragment stands before the position
abbrev From : Pos → List Frag → Type 0
From x [] = Unit {0}
From x (f ∷ fs) = Reaches x (place_of f).0 × From x fs

from-append : (x : Pos) (fs gs : List Frag) → From x fs → From x gs → From x (fs ++ gs)
from-append x [] gs h k = k
from-append x (f ∷ fs) gs h k = (h.0, from-append x fs gs h.1 k)

from-later : (x y : Pos) (fs : List Frag) → Reaches x y → From y fs → From x fs
from-later x y [] r h = tt
from-later x y (f ∷ fs) r h = (reaches-through x y (place_of f).0 h.0 r, from-later x y fs r h.1)

le_then : (r s : Ordering) → ordering_then r s ≡ Less → is_le r ≡ true
le_then Less s e = refl
le_then Equal s e = refl
le_then Greater s e = absurd (cc)

from-before : (p : Place) (fs : List Frag) → StandsBefore p fs → From p.0 fs
from-before p [] b = tt
from-before p (f ∷ fs) b = (le_then (pos_cmp p.0 (place_of f).0) _ b.0, from-before p fs b.1)

from-put : (x : Pos) (p : Place) (v : Frag) (es : Entries) → Reaches x (place_of v).0 → From x (values es) → From x (values (put place_order p v es))
from-put x p v [] r h = (r, tt)
from-put x p v (e ∷ es) r h =
    elim (place_order p e.0) as (λ o. From x (values (by_order o ((p, v) ∷ e ∷ es) ((e.0, v) ∷ es) (e ∷ put place_order p v es)))) [
      | Less ↦ (r, h)
      | Equal ↦ (r, h.1)
      | Greater ↦ (h.0, from-put x p v es r h.1)
    ]

from-ents : (x : Pos) (fs : List Frag) → From x fs → From x (values (ents fs))
from-ents x [] h = subst (λ es. From x (values es)) (sym ents-none) tt
from-ents x (f ∷ fs) h = subst (λ es. From x (values es)) (sym (ents-cons f fs)) (from-put x (place_of f) f (ents fs) h.0 (from-ents x fs h.1))

from-said : (x : Pos) (tomb : Option Tomb) (fs : List Frag) (other : Option Tomb) (gs : List Frag) (f : Frag) → Reaches x (place_of f).0 → Reaches x (place_of (both_say tomb fs other gs f)).0
from-said x tomb fs other gs (frag.Start pt) r = r
from-said x tomb fs other gs (frag.Static row) r = r
from-said x tomb fs other gs (frag.Row key row) r = r
from-said x tomb fs other gs (frag.Change from next) r = r
from-said x tomb fs other gs frag.End r = r

from-say : (x : Pos) (tomb : Option Tomb) (fs : List Frag) (other : Option Tomb) (gs all : List Frag) → From x all → From x (list_map (both_say tomb fs other gs) all)
from-say x tomb fs other gs [] h = tt
from-say x tomb fs other gs (f ∷ all) h = (from-said x tomb fs other gs f h.0, from-say x tomb fs other gs all h.1)

from-telling : (x : Pos) (tomb : Option Tomb) (fs : List Frag) → From x fs → From x (telling tomb fs)
from-telling x tomb [] h = tt
from-telling x tomb (f ∷ fs) h =
    elim (changes_nothing tomb f) as (λ b. From x (cond b (telling tomb fs) (f ∷ telling (tomb_after tomb f) fs))) [
      | true ↦ from-telling x tomb fs h.1
      | false ↦ (h.0, from-telling x (tomb_after tomb f) fs h.1)
    ]

-- what both say stands from a position on, where what each says does
from-merged : (x : Pos) (tomb other : Option Tomb) (fs gs : List Frag) → From x fs → From x gs → From x (merged_left tomb fs other gs)
from-merged x tomb other fs gs h k =
    from-telling x (greater tomb_cmp tomb other) (list_map (both_say tomb fs other gs) (values (ents (fs ++ gs))))
    (from-say x tomb fs other gs (values (ents (fs ++ gs))) (from-ents x (fs ++ gs) (from-append x fs gs h k)))

-- ---- the nearer of a position and the first of fragments

bound-first : (p x : Pos) (fs : List Frag) → Reaches p x → From p fs → Reaches p (bound_of x fs)
bound-first p x [] r h = r
bound-first p x (f ∷ fs) r h = elim (is_le (pos_cmp x (place_of f).0)) as (λ b. Reaches p (cond b x (place_of f).0)) [ true ↦ r | false ↦ h.0 ]

turned : (r : Ordering) → is_le r ≡ false → is_le (ordering_reverse r) ≡ true
turned Less e = absurd (cc)
turned Equal e = absurd (cc)
turned Greater e = refl

not_behind : (x y : Pos) → is_le (pos_cmp x y) ≡ false → Reaches y x
not_behind x y e = ap is_le (pos_cmp_total.antisymm y x) ∙ turned (pos_cmp x y) e

bound-both : (p x y : Pos) → Reaches p (cond (is_le (pos_cmp x y)) x y) → Reaches p x × Reaches p y
bound-both p x y r =
    elim (is_le (pos_cmp x y)) as (λ b. is_le (pos_cmp x y) ≡ b → Reaches p (cond b x y) → Reaches p x × Reaches p y) [
      | true ↦ λ e k. (k, reaches-through p x y e k)
      | false ↦ λ e k. (reaches-through p y x (not_behind x y e) k, k)
    ] refl r

-- ---- what is looked at

-- ours stands from the place on of what was looked at of theirs
from-ours : (p x : Pos) (hs fs : List Frag) → IsOrdered (hs ++ fs) → (hs ≡ [] → first_upto x (hs ++ fs) ≡ None) → Reaches p (bound_of x hs) → Reaches p x × From p (hs ++ fs)
from-ours p x [] fs o none r = (r, from-later p x fs r (from-before (x, 1) fs (all-past x fs o (none refl))))
from-ours p x (h ∷ hs) fs o none r =
    let both = bound-both p x (place_of h).0 r in
    (both.0, (both.1, from-later p (place_of h).0 (hs ++ fs) both.1 (from-before (place_of h) (hs ++ fs) o.1)))

from-first : (f : Frag) (fs : List Frag) → IsOrdered (f ∷ fs) → From (place_of f).0 (f ∷ fs)
from-first f fs o = (passes-itself (place_of f).0, from-before (place_of f) fs o.1)

merged-first : (p x : Pos) (s t : Stream) → Reaches p x → From p s.left → From p t.left → Reaches p (bound_of x (merged_stream s t).left)
unfolding merged_stream
merged-first p x s t r h k = bound-first p x (merged_left s.tomb s.left t.tomb t.left) r (from-merged p s.tomb t.tomb s.left t.left h k)

bound-upto : (x : Pos) (fs : List Frag) → Reaches (bound_of x fs) x
bound-upto x [] = passes-itself x
bound-upto x (f ∷ fs) =
    elim (is_le (pos_cmp x (place_of f).0)) as (λ b. is_le (pos_cmp x (place_of f).0) ≡ b → Reaches (cond b x (place_of f).0) x) [
      | true ↦ λ _. passes-itself x
      | false ↦ λ e. not_behind x (place_of f).0 e
    ] refl

bound-first-there : (x : Pos) (f : Frag) (fs : List Frag) → Reaches (bound_of x (f ∷ fs)) (place_of f).0
bound-first-there x f fs =
    elim (is_le (pos_cmp x (place_of f).0)) as (λ b. is_le (pos_cmp x (place_of f).0) ≡ b → Reaches (cond b x (place_of f).0) (place_of f).0) [
      | true ↦ λ e. e
      | false ↦ λ _. passes-itself (place_of f).0
    ] refl

-- fragments in order stand from the nearer of a position and the first of them on
bound-from : (x : Pos) (fs : List Frag) → IsOrdered fs → From (bound_of x fs) fs
bound-from x [] o = tt
bound-from x (f ∷ fs) o = from-later (bound_of x (f ∷ fs)) (place_of f).0 (f ∷ fs) (bound-first-there x f fs) (from-first f fs o)

-- of theirs nothing is held: where both are asked up to x, the end of what both say is not before that of theirs, asked up to the first of ours
module _ (P P' Q : Seen) (x : Pos) (h h' k : Held) where
  ends : (m : Stream) (b : MergesTwo (IsPutBack P h) (IsPutBack Q k) m) → IsPutBack P' h' b.ours → (held_fragments h' ≡ [] → first_upto x b.ours.left ≡ None) → held_fragments k ≡ [] → Reaches (bound_of (bound_of x (held_fragments h')) b.second.stream.left) (bound_of x m.left)
  ends m b a none empty =
      let s = b.second.stream in
      let near = bound_of x (held_fragments h') in
      let p = bound_of near s.left in
      let ours : b.ours.left ≡ held_fragments h' ++ a.stream.left = ap (λ (u : Stream). u.left) a.same in
      let theirs : b.theirs.left ≡ s.left = ap (λ (u : Stream). u.left) b.second.same ∙ ap (λ hs. hs ++ s.left) empty in
      let front = from-ours p x (held_fragments h') a.stream.left (subst IsOrdered ours (ordered P' h' b.ours a)) (λ n. sym (ap (first_upto x) ours) ∙ none n) (bound-upto near s.left) in
      let behind : From p b.theirs.left = subst (From p) (sym theirs) (bound-from near s.left (subst IsOrdered theirs (ordered Q k b.theirs b.second))) in
      subst (λ (u : Stream). Reaches p (bound_of x u.left)) (sym b.joins) (merged-first p x b.ours b.theirs front.0 (subst (From p) (sym ours) front.1) behind)

  -- so a position that is not before the end of both is not before that of theirs
  pub covers-theirs : (Q' : Seen) (near y : Pos) → near ≡ bound_of x (held_fragments h') → ((t : Stream) → IsPutBack P h t → IsPutBack P' h' t) → ((t : Stream) → IsPutBack P h t → held_fragments h' ≡ [] → first_upto x t.left ≡ None) → ((t : Stream) → Q t → Q' t) → ReachesEnd (MergesTwo (IsPutBack P h) (IsPutBack Q k)) x y → held_fragments k ≡ [] → ReachesEnd Q' near y
  covers-theirs Q' near y e one none other (inl r) empty = inl (subst (λ z. Reaches z y) (sym e) (reaches-through (bound_of x (held_fragments h')) x y r (bound-upto x (held_fragments h'))))
  covers-theirs Q' near y e one none other (inr c) empty =
      let b = c.1 in
      let s = b.second.stream in
      inr (s, other s b.second.stands, subst (λ z. Reaches (bound_of z s.left) y) (sym e) (reaches-through (bound_of (bound_of x (held_fragments h')) s.left) (bound_of x c.0.left) y c.2 (ends c.0 b (one b.ours b.first) (none b.ours b.first) empty)))

-- what is not before the end of what was stood for, is not before the end of what is stood for
pub covers-on : (P Q : Seen) (x y : Pos) → ((m : Stream) → P m → Q m) → ReachesEnd P x y → ReachesEnd Q x y
covers-on P Q x y go (inl r) = inl r
covers-on P Q x y go (inr c) = inr (c.0, go c.0 c.1, c.2)
