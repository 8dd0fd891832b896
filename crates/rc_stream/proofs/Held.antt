-- The first of what is held was taken.
use Rattle.std.specs.Prelude.{◌≡◌, ℕ, Bool, true, false, cond, List, [], ◌∷◌, ◌++◌, Option, Some, None}
use Rattle.std.proofs.Common.{refl, sym, ap, ◌∙◌, subst}
use Rattle.rc_cell.specs.declared.writes.Tomb.{Tomb}
use Rattle.rc_cell.specs.Greatest.{greater}
use Rattle.rc_cell.specs.Orders.{tomb_cmp}
use Rattle.rc_position.specs.declared.positions.Pos.{Pos}
use Rattle.rc_mutation.specs.declared.fragments.Frag.{Frag}
use Rattle.rc_mutation.specs.declared.fragments.Frag.TheVariants as frag
use Rattle.rc_stream.specs.declared.holding.Held.{Held}
use Rattle.rc_stream.specs.declared.holding.Look.{Look}
use Rattle.rc_stream.specs.declared.holding.Look.TheVariants as look
use Rattle.rc_stream.specs.declared.holding.Step.TheVariants as step
use Rattle.rc_stream.specs.declared.lists.Front.{Front}
use Rattle.rc_stream.specs.declared.lists.Front.TheVariants as front
use Rattle.rc_stream.specs.Fronts.{front_change, front_tomb}
use Rattle.rc_stream.specs.Stream.{is_upto, rest}
use Rattle.std.specs.declared.cmp.Ordering.{Ordering}
use Rattle.std.specs.declared.cmp.Ordering.TheVariants.{Less, Equal, Greater}
use Rattle.std.specs.FinMap.Entries.{by_order}
use Rattle.rc_position.specs.Position.{row_pos, pos_cmp}
use Rattle.std.specs.Ordering.{is_le, is_gt, ordering_reverse}
use Rattle.rc_position.specs.declared.positions.Weight.TheVariants.{Before}
use Rattle.rc_position.specs.laws.Bounds.{first_pos-least}
use Rattle.rc_position.specs.laws.Orders.{pos_cmp_total}
use Rattle.rc_stream.specs.Places.{Reaches}
use Rattle.rc_stream.specs.laws.Says.{le_le}
use Rattle.rc_mutation.specs.Fragments.{place_order}
use Rattle.rc_stream.specs.declared.holding.Turn.{Turn}
use Rattle.rc_stream.specs.declared.holding.Turn.TheVariants as turn
use Rattle.rc_stream.specs.Merging.{IsInner, IsOrdered, StandsBefore, changes_nothing, place_of}
use Rattle.rc_stream.specs.calls.Merging.{together}
use Rattle.rc_stream.specs.calls.Merging.{beside}
use Rattle.rc_stream.specs.laws.Ordered.{Place, place_same}
use Rattle.rc_stream.specs.Holding.{IsFrom, StandsOver, held_fragments, look_fragments}
use Rattle.rc_stream.specs.calls.Holding.{later, nearer}
use Rattle.rc_stream.specs.calls.Holding.{is_near, row_of, turn_of, TakesFirst, alone, behind_first, look_past, look_taken, pair_step, fragment_step}
use Rattle.rc_cell.specs.Winner.{first_of}

abbrev front_held : Front → Look → List Frag
front_held fr l = front_change fr ++ look_fragments l

abbrev or_self : Frag → Option Frag → Frag
or_self f None = f
or_self f (Some g) = g

pub same-some : (f g : Frag) → ◌≡◌ {A = Option Frag} (Some f) (Some g) → f ≡ g
same-some f g e = ap (or_self f) e

pub alone-is : (tomb other : Option Tomb) (f : Frag) (fs : List Frag) → Some f ≡ first_of fs → fragment_step (greater tomb_cmp tomb other) (beside other f) ≡ alone tomb other fs
alone-is tomb other f [] e = absurd (cc)
alone-is tomb other f (g ∷ gs) e = ap (λ h. fragment_step (greater tomb_cmp tomb other) (beside other h)) (same-some f g e)

-- whether a fragment is a change
abbrev pub is_change : Frag → Bool
is_change (frag.Start pt) = false
is_change (frag.Static row) = false
is_change (frag.Row key row) = false
is_change (frag.Change z t) = true
is_change frag.End = false

abbrev pub is_row : Frag → Bool
is_row (frag.Start pt) = false
is_row (frag.Static row) = false
is_row (frag.Row key row) = true
is_row (frag.Change z t) = false
is_row frag.End = false

inner-change : (f : Frag) → is_row f ≡ false → IsInner f → is_change f ≡ true
inner-change (frag.Start pt) e i = absurd i
inner-change (frag.Static row) e i = absurd i
inner-change (frag.Row key row) e i = absurd (cc)
inner-change (frag.Change z t) e i = refl
inner-change frag.End e i = absurd i

-- ---- the later of two positions

turned_le : (r : Ordering) → is_le r ≡ false → is_le (ordering_reverse r) ≡ true
turned_le Less e = absurd (cc)
turned_le Equal e = absurd (cc)
turned_le Greater e = refl

later-first : (a b x : Pos) → Reaches (later a b) x → Reaches a x
later-first a b x =
    elim (is_le (pos_cmp a b)) as (λ c. is_le (pos_cmp a b) ≡ c → Reaches (cond c b a) x → Reaches a x) [
      | true ↦ λ e h. le_le a b x (pos_cmp a b) (pos_cmp b x) refl refl e h
      | false ↦ λ e h. h
    ] refl

later-second : (a b x : Pos) → Reaches (later a b) x → Reaches b x
later-second a b x =
    elim (is_le (pos_cmp a b)) as (λ c. is_le (pos_cmp a b) ≡ c → Reaches (cond c b a) x → Reaches b x) [
      | true ↦ λ e h. h
      | false ↦ λ e h. le_le b a x (pos_cmp b a) (pos_cmp a x) refl refl (ap is_le (pos_cmp_total.antisymm b a) ∙ turned_le (pos_cmp a b) e) h
    ] refl

later-over : (a b : Pos) (fs : List Frag) → StandsBefore (a, 0) fs → StandsBefore (b, 0) fs → StandsBefore (later a b, 0) fs
later-over a b fs h k = elim (is_le (pos_cmp a b)) as (λ c. StandsBefore (cond c b a, 0) fs) [ true ↦ k | false ↦ h ]

not_gt : (r : Ordering) → is_gt r ≡ false → is_le r ≡ true
not_gt Less e = refl
not_gt Equal e = refl
not_gt Greater e = absurd (cc)

least : (x : Pos) → Reaches (record { prefix = []; weight = Before }) x
least x = not_gt (pos_cmp (record { prefix = []; weight = Before }) x) (first_pos-least x)

-- ---- from where the stream goes on

abbrev Kept : Look → Look → Pos → Type 0
Kept l now x = IsFrom now x → IsFrom l x

none-from : (fr : Front) (l : Look) → None ≡ first_of (front_held fr l) → (x : Pos) → Kept l (look_taken fr l) x
none-from (front.Due y t) l e x h = h
none-from (front.Passed t) look.Open e x h = h
none-from (front.Passed t) (look.Over z) e x h = h
none-from (front.Passed t) (look.Next g) e x h = absurd (cc)
none-from (front.Passed t) (look.Past z g) e x h = absurd (cc)

given-from : (fr : Front) (l : Look) (f : Frag) → Some f ≡ first_of (front_held fr l) → (x : Pos) → Reaches (place_of f).0 x → Kept l (look_taken fr l) x
given-from (front.Due y t) l f e x u h = h
given-from (front.Passed t) look.Open f e x u h = h
given-from (front.Passed t) (look.Over z) f e x u h = h
given-from (front.Passed t) (look.Next g) f e x u h = subst (λ k. Reaches (place_of k).0 x) (same-some f g e) u
given-from (front.Passed t) (look.Past z g) f e x u h = (h, subst (λ k. Reaches (place_of k).0 x) (same-some f g e) u)

passed-from : (fr : Front) (l : Look) (f : Frag) → Some f ≡ first_of (front_held fr l) → is_row f ≡ false → (x : Pos) → Kept l (look_past f (look_taken fr l)) x
passed-from fr l (frag.Start pt) e c x h = given-from fr l (frag.Start pt) e x (least x) h
passed-from fr l (frag.Static row) e c x h = given-from fr l (frag.Static row) e x (least x) h
passed-from fr l (frag.Row key row) e c x h = absurd (cc)
passed-from (front.Due y u) look.Open (frag.Change from next) e c x h = tt
passed-from (front.Due y u) (look.Over z) (frag.Change from next) e c x h = later-second from z x h
passed-from (front.Due y u) (look.Next g) (frag.Change from next) e c x h = h
passed-from (front.Due y u) (look.Past z g) (frag.Change from next) e c x h = h
passed-from (front.Passed u) look.Open (frag.Change from next) e c x h = tt
passed-from (front.Passed u) (look.Over z) (frag.Change from next) e c x h = later-second from z x h
passed-from (front.Passed u) (look.Next g) (frag.Change from next) e c x h = subst (λ k. Reaches (place_of k).0 x) (same-some (frag.Change from next) g e) h
passed-from (front.Passed u) (look.Past z g) (frag.Change from next) e c x h = (later-second from z x h, subst (λ k. Reaches (place_of k).0 x) (same-some (frag.Change from next) g e) (later-first from z x h))
passed-from fr l frag.End e c x h = given-from fr l frag.End e x (least x) h

-- ---- what the stream still has

taken-over : (fr : Front) (l : Look) (fs : List Frag) → StandsOver l fs → StandsOver (look_taken fr l) fs
taken-over (front.Due y t) l fs h = h
taken-over (front.Passed t) look.Open fs h = h
taken-over (front.Passed t) (look.Over z) fs h = h
taken-over (front.Passed t) (look.Next g) fs h = tt
taken-over (front.Passed t) (look.Past z g) fs h = h.1

passed-over : (fr : Front) (l : Look) (f : Frag) (fs : List Frag) → Some f ≡ first_of (front_held fr l) → is_change f ≡ true → IsOrdered (front_held fr l ++ fs) → StandsOver l fs → StandsOver (look_past f (look_taken fr l)) fs
passed-over fr l (frag.Start pt) fs e c o h = absurd (cc)
passed-over fr l (frag.Static row) fs e c o h = absurd (cc)
passed-over fr l (frag.Row key row) fs e c o h = absurd (cc)
passed-over (front.Due y u) look.Open (frag.Change from next) fs e c o h = subst (λ k. StandsBefore (place_of k) fs) (sym (same-some (frag.Change from next) (frag.Change y (Some u)) e)) o.1
passed-over (front.Due y u) (look.Over z) (frag.Change from next) fs e c o h = later-over from z fs (subst (λ k. StandsBefore (place_of k) fs) (sym (same-some (frag.Change from next) (frag.Change y (Some u)) e)) o.1) h
passed-over (front.Due y u) (look.Next g) (frag.Change from next) fs e c o h = tt
passed-over (front.Due y u) (look.Past z g) (frag.Change from next) fs e c o h = h
passed-over (front.Passed u) look.Open (frag.Change from next) fs e c o h = absurd (cc)
passed-over (front.Passed u) (look.Over z) (frag.Change from next) fs e c o h = absurd (cc)
passed-over (front.Passed u) (look.Next g) (frag.Change from next) fs e c o h = subst (λ k. StandsBefore (place_of k) fs) (sym (same-some (frag.Change from next) g e)) o.1
passed-over (front.Passed u) (look.Past z g) (frag.Change from next) fs e c o h = later-over from z fs (subst (λ k. StandsBefore (place_of k) fs) (sym (same-some (frag.Change from next) g e)) o.1) h.1
passed-over fr l frag.End fs e c o h = absurd (cc)

pub took-none : (h now : Held) → None ≡ first_of (held_fragments h) → held_fragments now ≡ rest (held_fragments h) → front_tomb now.front ≡ behind_first (front_tomb h.front) (held_fragments h) → now.look ≡ look_taken h.front h.look → TakesFirst step.Nothing h now
took-none h now e left tomb l = record {
  left = left;
  tomb = tomb;
  from = λ x _ k. none-from h.front h.look e x (subst (λ m. IsFrom m x) l k);
  over = λ fs _ k. subst (λ m. StandsOver m fs) (sym l) (taken-over h.front h.look fs k);
}

looked-dropped : (f : Frag) (l : Look) → look_fragments (look_past f l) ≡ look_fragments l
looked-dropped (frag.Start pt) l = refl
looked-dropped (frag.Static row) l = refl
looked-dropped (frag.Row key row) l = refl
looked-dropped (frag.Change z t) look.Open = refl
looked-dropped (frag.Change z t) (look.Over x) = refl
looked-dropped (frag.Change z t) (look.Next g) = refl
looked-dropped (frag.Change z t) (look.Past x g) = refl
looked-dropped frag.End l = refl

first-inner : (f : Frag) (fs : List Frag) → Some f ≡ first_of fs → IsOrdered fs → IsInner f
first-inner f [] e o = absurd (cc)
first-inner f (g ∷ gs) e o = subst IsInner (sym (same-some f g e)) o.0

first-more : (f : Frag) (fs gs : List Frag) → Some f ≡ first_of fs → Some f ≡ first_of (fs ++ gs)
first-more f [] gs e = absurd (cc)
first-more f (g ∷ fs) gs e = e

-- a fragment f was taken; what is told of it stands where f stands
pub took-one : (h mid now : Held) (f a : Frag) (t : Option Tomb) → Some f ≡ first_of (held_fragments h) → held_fragments mid ≡ rest (held_fragments h) → front_tomb mid.front ≡ behind_first (front_tomb h.front) (held_fragments h) → mid.look ≡ look_taken h.front h.look → now.front ≡ mid.front → now.look ≡ cond (changes_nothing t a) (look_past f mid.look) mid.look → (changes_nothing t a ≡ true → is_row f ≡ false) → place_of a ≡ place_of f → TakesFirst (fragment_step t a) h now
took-one h mid now f a t e left tomb l fr nl nothing place =
    let front : front_tomb now.front ≡ behind_first (front_tomb h.front) (held_fragments h) = ap front_tomb fr ∙ tomb in
    elim (changes_nothing t a) as (λ b. changes_nothing t a ≡ b → now.look ≡ cond b (look_past f mid.look) mid.look → TakesFirst (cond b step.Passed (step.Given a)) h now) [
      | true ↦ λ c n. record {
        left = ap (λ g. front_change g ++ look_fragments now.look) fr ∙ ap (λ m. front_change mid.front ++ m) (ap look_fragments n ∙ looked-dropped f mid.look) ∙ left;
        tomb = front;
        from = λ x _ k. passed-from h.front h.look f e (nothing c) x (subst (λ m. IsFrom m x) (n ∙ ap (look_past f) l) k);
        over = λ fs o k. subst (λ m. StandsOver m fs) (sym (n ∙ ap (look_past f) l)) (passed-over h.front h.look f fs e (inner-change f (nothing c) (first-inner f (held_fragments h ++ fs) (first-more f (held_fragments h) fs e) o)) o k);
      }
      | false ↦ λ c n. record {
        left = ap (λ g. front_change g ++ look_fragments now.look) fr ∙ ap (λ m. front_change mid.front ++ look_fragments m) n ∙ left;
        tomb = front;
        from = λ x u k. given-from h.front h.look f e x (subst (λ (p : Place). Reaches p.0 x) place u) (subst (λ m. IsFrom m x) (n ∙ l) k);
        over = λ fs o k. subst (λ m. StandsOver m fs) (sym (n ∙ l)) (taken-over h.front h.look fs k);
      }
    ] refl nl

pub dropped-beside : (other : Option Tomb) (f : Frag) (l : Look) → look_past (beside other f) l ≡ look_past f l
dropped-beside other (frag.Start pt) l = refl
dropped-beside other (frag.Static row) l = refl
dropped-beside other (frag.Row key row) l = refl
dropped-beside other (frag.Change z t) l = refl
dropped-beside other frag.End l = refl

pub silent-beside : (t other : Option Tomb) (f : Frag) → changes_nothing t (beside other f) ≡ true → is_row f ≡ false
silent-beside t other (frag.Start pt) e = absurd (cc)
silent-beside t other (frag.Static row) e = absurd (cc)
silent-beside t other (frag.Row key row) e = absurd (cc)
silent-beside t other (frag.Change z u) e = refl
silent-beside t other frag.End e = absurd (cc)

pub upto-beside : (other : Option Tomb) (f : Frag) (x : Pos) → is_upto x (beside other f) ≡ is_upto x f
upto-beside other (frag.Start pt) x = refl
upto-beside other (frag.Static row) x = refl
upto-beside other (frag.Row key row) x = refl
upto-beside other (frag.Change z t) x = refl
upto-beside other frag.End x = refl

-- ---- both at one place

is_both : Turn → Bool
is_both turn.Nobody = false
is_both turn.Ours = false
is_both turn.Theirs = false
is_both turn.Both = true

pub no_ours : (fs gs : List Frag) → nearer fs gs ≡ turn.Both → None ≡ first_of fs → ⊥
unfolding is_both
no_ours [] [] e h = let k = ap is_both e in cc
no_ours [] (g ∷ gs) e h = let k = ap is_both e in cc
no_ours (f ∷ fs) gs e h = cc

pub no_theirs : (fs gs : List Frag) → nearer fs gs ≡ turn.Both → None ≡ first_of gs → ⊥
unfolding is_both
no_theirs [] [] e h = let k = ap is_both e in cc
no_theirs (f ∷ fs) [] e h = let k = ap is_both e in cc
no_theirs fs (g ∷ gs) e h = cc

pub paired-is : (t : Option Tomb) (f g : Frag) (fs gs : List Frag) → Some f ≡ first_of fs → Some g ≡ first_of gs → fragment_step t (together f g) ≡ pair_step t fs gs
paired-is t f g [] gs e h = absurd (cc)
paired-is t f g (k ∷ fs) [] e h = absurd (cc)
paired-is t f g (k ∷ fs) (l ∷ gs) e h = λ i. fragment_step t (together (same-some f k e i) (same-some g l h i))

tied_order : (r : Ordering) → by_order r turn.Ours turn.Both turn.Theirs ≡ turn.Both → r ≡ Equal
unfolding is_both
tied_order Less e = absurd (let k = ap is_both e in cc)
tied_order Equal e = refl
tied_order Greater e = absurd (let k = ap is_both e in cc)

pub one-place : (f g : Frag) (fs gs : List Frag) → nearer fs gs ≡ turn.Both → Some f ≡ first_of fs → Some g ≡ first_of gs → place_of f ≡ place_of g
one-place f g [] gs n e h = absurd (cc)
one-place f g (k ∷ fs) [] n e h = absurd (cc)
one-place f g (k ∷ fs) (l ∷ gs) n e h = ap place_of (same-some f k e) ∙ place_same (place_of k) (place_of l) (tied_order (place_order (place_of k) (place_of l)) n) ∙ ap place_of (sym (same-some g l h))

pub dropped-together : (f g : Frag) (l : Look) → look_past (together f g) l ≡ look_past f l
dropped-together (frag.Start pt) g l = refl
dropped-together (frag.Static row) g l = refl
dropped-together (frag.Row key row) (frag.Start pt) l = refl
dropped-together (frag.Row key row) (frag.Static s) l = refl
dropped-together (frag.Row key row) (frag.Row key' row') l = refl
dropped-together (frag.Row key row) (frag.Change at other) l = refl
dropped-together (frag.Row key row) frag.End l = refl
dropped-together (frag.Change from next) (frag.Start pt) l = refl
dropped-together (frag.Change from next) (frag.Static s) l = refl
dropped-together (frag.Change from next) (frag.Row key' row') l = refl
dropped-together (frag.Change from next) (frag.Change at other) l = refl
dropped-together (frag.Change from next) frag.End l = refl
dropped-together frag.End g l = refl

pub upto-together : (f g : Frag) (x : Pos) → is_upto x (together f g) ≡ is_upto x f
upto-together (frag.Start pt) g x = refl
upto-together (frag.Static row) g x = refl
upto-together (frag.Row key row) (frag.Start pt) x = refl
upto-together (frag.Row key row) (frag.Static s) x = refl
upto-together (frag.Row key row) (frag.Row key' row') x = refl
upto-together (frag.Row key row) (frag.Change at other) x = refl
upto-together (frag.Row key row) frag.End x = refl
upto-together (frag.Change from next) (frag.Start pt) x = refl
upto-together (frag.Change from next) (frag.Static s) x = refl
upto-together (frag.Change from next) (frag.Row key' row') x = refl
upto-together (frag.Change from next) (frag.Change at other) x = refl
upto-together (frag.Change from next) frag.End x = refl
upto-together frag.End g x = refl

pub silent-ours : (f g : Frag) (t : Option Tomb) → changes_nothing t (together f g) ≡ true → is_row f ≡ false
silent-ours (frag.Start pt) g t e = absurd (cc)
silent-ours (frag.Static row) g t e = absurd (cc)
silent-ours (frag.Row key row) (frag.Start pt) t e = absurd (cc)
silent-ours (frag.Row key row) (frag.Static s) t e = absurd (cc)
silent-ours (frag.Row key row) (frag.Row key' row') t e = absurd (cc)
silent-ours (frag.Row key row) (frag.Change at other) t e = absurd (cc)
silent-ours (frag.Row key row) frag.End t e = absurd (cc)
silent-ours (frag.Change from next) (frag.Start pt) t e = refl
silent-ours (frag.Change from next) (frag.Static s) t e = refl
silent-ours (frag.Change from next) (frag.Row key' row') t e = refl
silent-ours (frag.Change from next) (frag.Change at other) t e = refl
silent-ours (frag.Change from next) frag.End t e = refl
silent-ours frag.End g t e = absurd (cc)

other_rank : (x y : Pos) → ◌≡◌ {A = Place} (x, 1) (y, 0) → ⊥
other_rank x y e = let n : ◌≡◌ {A = ℕ} 1 0 = ap (λ (p : Place). p.1) e in cc

pub silent-theirs : (f g : Frag) (t : Option Tomb) → place_of f ≡ place_of g → changes_nothing t (together f g) ≡ true → is_row g ≡ false
silent-theirs (frag.Start pt) g t p e = absurd (cc)
silent-theirs (frag.Static row) g t p e = absurd (cc)
silent-theirs (frag.Row key row) (frag.Start pt) t p e = refl
silent-theirs (frag.Row key row) (frag.Static s) t p e = refl
silent-theirs (frag.Row key row) (frag.Row key' row') t p e = absurd (cc)
silent-theirs (frag.Row key row) (frag.Change at other) t p e = refl
silent-theirs (frag.Row key row) frag.End t p e = refl
silent-theirs (frag.Change from next) (frag.Start pt) t p e = refl
silent-theirs (frag.Change from next) (frag.Static s) t p e = refl
silent-theirs (frag.Change from next) (frag.Row key' row') t p e = absurd (other_rank (row_pos key') from (sym p))
silent-theirs (frag.Change from next) (frag.Change at other) t p e = refl
silent-theirs (frag.Change from next) frag.End t p e = refl
silent-theirs frag.End g t p e = absurd (cc)

pub place-beside : (other : Option Tomb) (f : Frag) → place_of (beside other f) ≡ place_of f
place-beside other (frag.Start pt) = refl
place-beside other (frag.Static row) = refl
place-beside other (frag.Row key row) = refl
place-beside other (frag.Change z t) = refl
place-beside other frag.End = refl

pub place-together : (f g : Frag) → place_of (together f g) ≡ place_of f
place-together (frag.Start pt) g = refl
place-together (frag.Static row) g = refl
place-together (frag.Row key row) (frag.Start pt) = refl
place-together (frag.Row key row) (frag.Static s) = refl
place-together (frag.Row key row) (frag.Row key' row') = refl
place-together (frag.Row key row) (frag.Change at other) = refl
place-together (frag.Row key row) frag.End = refl
place-together (frag.Change from next) (frag.Start pt) = refl
place-together (frag.Change from next) (frag.Static s) = refl
place-together (frag.Change from next) (frag.Row key' row') = refl
place-together (frag.Change from next) (frag.Change at other) = refl
place-together (frag.Change from next) frag.End = refl
place-together frag.End g = refl

-- ---- whose turn it is

row_alone : (f : Frag) (fs : List Frag) → row_of (f ∷ fs) ≡ row_of (f ∷ [])
row_alone (frag.Start pt) fs = refl
row_alone (frag.Static row) fs = refl
row_alone (frag.Row key row) fs = refl
row_alone (frag.Change z t) fs = refl
row_alone frag.End fs = refl

pub row-first : (f : Frag) (fs : List Frag) → Some f ≡ first_of fs → row_of fs ≡ row_of (f ∷ [])
row-first f [] e = absurd (cc)
row-first f (g ∷ gs) e = row_alone g gs ∙ ap (λ k. row_of (k ∷ [])) (sym (same-some f g e))

pub turn-both : (x : Pos) (fs gs : List Frag) → turn_of x fs gs ≡ turn.Both → nearer fs gs ≡ turn.Both
unfolding is_both
turn-both x fs gs e =
    elim (is_near x (nearer fs gs) fs gs) as (λ b. cond b (nearer fs gs) turn.Nobody ≡ turn.Both → nearer fs gs ≡ turn.Both) [
      | true ↦ λ k. k
      | false ↦ λ k. absurd (let n : ◌≡◌ {A = Bool} false true = ap is_both k in cc)
    ] e
