-- A stream that is looked at or sought, with what is held of it.
use Rattle.std.specs.Prelude.{◌≡◌, Bool, true, false, cond, ◌&&◌, List, [], ◌∷◌, ◌++◌, Option, Some, None, Ok}
use Rattle.std.proofs.Common.{refl, sym, ap, ◌∙◌, subst}
use Rattle.std.specs.declared.cmp.Ordering.{Ordering}
use Rattle.std.specs.declared.cmp.Ordering.TheVariants.{Less, Equal, Greater}
use Rattle.std.specs.Ordering.{is_le, is_lt, ordering_then}
use Rattle.rc_cell.specs.declared.writes.Tomb.{Tomb}
use Rattle.rc_cell.specs.calls.Greatest.{is_nil}
use Rattle.rc_position.specs.declared.positions.Pos.{Pos}
use Rattle.rc_position.specs.Position.{pos_cmp, row_pos}
use Rattle.rc_mutation.specs.declared.fragments.Frag.{Frag}
use Rattle.rc_mutation.specs.declared.fragments.Frag.TheVariants as frag
use Rattle.rc_mutation.specs.declared.fragments.Head.{Head}
use Rattle.rc_stream.specs.declared.holding.Held.{Held}
use Rattle.rc_stream.specs.declared.holding.Look.{Look}
use Rattle.rc_stream.specs.declared.holding.Look.TheVariants as look
use Rattle.rc_stream.specs.declared.lists.Front.{Front}
use Rattle.rc_stream.specs.declared.lists.Front.TheVariants as front
use Rattle.rc_stream.specs.Fronts.{front_change, front_tomb}
use Rattle.rc_stream.specs.Places.{Passes, Reaches}
use Rattle.rc_stream.specs.Stream.{Stream, first_upto, force, is_passed, is_upto, onward, opening, rest, sought_stream}
use Rattle.rc_mutation.specs.Fragments.{tomb_after}
use Rattle.rc_stream.specs.Merging.{IsOrdered, StandsBefore, place_of}
use Rattle.rc_stream.specs.Holding.{HeldFits, IsFrom, StandsOver, tomb_behind, held_fragments, look_fragments, whole}
use Rattle.rc_stream.specs.calls.Holding.{WentOn, look_passed, front_passed, passes_held}
use Rattle.rc_stream.specs.calls.Moving.{look_after}
use Rattle.rc_stream.proofs.Held.{same-some}
use Rattle.rc_stream.specs.laws.Ordered.{not_passed, over, passes-itself, stop}
use Rattle.rc_stream.specs.laws.Sought.{sought-ordered}

-- ---- looking

pub first-is : (x : Pos) (l : List Frag) (f : Frag) → Some f ≡ first_upto x l → (l ≡ f ∷ rest l) × (is_upto x f ≡ true)
first-is x [] f e = absurd (cc)
first-is x (g ∷ gs) f e =
    elim (is_upto x g) as (λ b. is_upto x g ≡ b → Some f ≡ cond b (Some g) None → (g ∷ gs ≡ f ∷ gs) × (is_upto x f ≡ true)) [
      | true ↦ λ u k. (ap (λ h. h ∷ gs) (sym (same-some f g k)), ap (is_upto x) (same-some f g k) ∙ u)
      | false ↦ λ u k. absurd (cc)
    ] refl e

pub nothing-held : (xs : List Frag) → is_nil xs ≡ true → xs ≡ []
nothing-held [] e = refl
nothing-held (x ∷ xs) e = absurd (cc)

-- each position from x on that is not before what was taken is one of these
abbrev pub May : (Pos → Type 0) → Look → Pos → Type 0
May ahead l x = (y : Pos) → Reaches x y → IsFrom l y → ahead y

abbrev Kept : (ahead now : Pos → Type 0) → Look → Look → Pos → Type 0
Kept ahead now old l x = May ahead old x → May now l x

ahead-got : (ahead now : Pos → Type 0) (got : Option Frag) (fr : Front) (l : Look) → is_nil (front_change fr ++ look_fragments l) ≡ true → ((x : Pos) → Passes (Ok got) x → ahead x → now x) → (x : Pos) → Kept ahead now l (look_after got l) x
ahead-got ahead now None fr l n go x may y r from = go y tt (may y r from)
ahead-got ahead now (Some f) (front.Due z t) l n go x may y r from = absurd (cc)
ahead-got ahead now (Some f) (front.Passed t) look.Open n go x may y r from = go y from (may y r tt)
ahead-got ahead now (Some f) (front.Passed t) (look.Over z) n go x may y r from = go y from.1 (may y r from.0)
ahead-got ahead now (Some f) (front.Passed t) (look.Next g) n go x may y r from = absurd (cc)
ahead-got ahead now (Some f) (front.Passed t) (look.Past z g) n go x may y r from = absurd (cc)

pub ahead-looked : (ahead now : Pos → Type 0) (got : Option Frag) (h : Held) (l : Look) → is_nil (held_fragments h) ≡ true → l ≡ look_after got h.look → ((x : Pos) → Passes (Ok got) x → ahead x → now x) → (x : Pos) → Kept ahead now h.look l x
ahead-looked ahead now got h l n same go x may = subst (λ m. May now m x) (sym same) (ahead-got ahead now got h.front h.look n go x may)

-- ---- seeking

and_first : (a b : Bool) → (a && b) ≡ true → a ≡ true
and_first true b h = refl
and_first false b h = absurd (cc)

and_second : (a b : Bool) → (a && b) ≡ true → b ≡ true
and_second true b h = h
and_second false b h = absurd (cc)

lt_le : (r : Ordering) → is_lt r ≡ true → is_le r ≡ true
lt_le Less e = refl
lt_le Equal e = refl
lt_le Greater e = absurd (cc)

passed-place : (x : Pos) (f : Frag) → is_passed x f ≡ true → Reaches (place_of f).0 x
passed-place x (frag.Start pt) e = absurd (cc)
passed-place x (frag.Static row) e = absurd (cc)
passed-place x (frag.Row key row) e = lt_le (pos_cmp (row_pos key) x) e
passed-place x (frag.Change from tomb) e = e
passed-place x frag.End e = absurd (cc)

passed-from : (x : Pos) (l : Look) → look_passed x l ≡ true → IsFrom l x
passed-from x look.Open e = tt
passed-from x (look.Over z) e = e
passed-from x (look.Next f) e = passed-place x f e
passed-from x (look.Past z f) e = (and_first (is_le (pos_cmp z x)) (is_passed x f) e, passed-place x f (and_second (is_le (pos_cmp z x)) (is_passed x f) e))

pub ahead-there : (ahead : Pos → Type 0) (x : Pos) (h : Held) → passes_held x h ≡ true → May ahead h.look x → ahead x
ahead-there ahead x h e may = may x (passes-itself x) (passed-from x h.look (and_second (front_passed x h.front) (look_passed x h.look) e))

behind-ordered : (fs gs : List Frag) → IsOrdered (fs ++ gs) → IsOrdered gs
behind-ordered [] gs o = o
behind-ordered (f ∷ fs) gs o = behind-ordered fs gs o.2

abbrev pub none_held : Held
none_held = record { front = front.Passed None; look = look.Open }

fits-none : (x : Pos) (h : Held) (s : Stream) → HeldFits h s → HeldFits none_held (sought_stream x s)
fits-none x h s fits = record { ordered = sought-ordered x s.tomb s.left (behind-ordered (held_fragments h) s.left fits.ordered); tomb = refl; over = tt }

pub fits-sought : (x : Pos) (h e : Held) (s t : Stream) → e ≡ none_held → t ≡ sought_stream x s → HeldFits h s → HeldFits e t
fits-sought x h e s t none same fits = subst (λ k. HeldFits k t) (sym none) (subst (HeldFits none_held) (sym same) (fits-none x h s fits))

-- ---- seeking within what is held

le_not : (r : Ordering) → is_le r ≡ false → is_lt (ordering_then r Equal) ≡ false
le_not Less e = absurd (cc)
le_not Equal e = absurd (cc)
le_not Greater e = refl

onward-stop : (x z : Pos) (fs : List Frag) → IsOrdered fs → StandsBefore (z, 0) fs → is_le (pos_cmp z x) ≡ false → onward x fs ≡ fs
onward-stop x z [] o b h = refl
onward-stop x z (g ∷ gs) o b h = ap (λ c. cond c (onward x gs) (g ∷ gs)) (not_passed x g o.0 (over (z, 0) (place_of g) (x, 0) b.0 (le_not (pos_cmp z x) h)))

apart : (x : Pos) (t : Option Tomb) (fs gs : List Frag) → ((opening x t ++ []) ++ fs) ++ gs ≡ opening x t ++ (fs ++ gs)
apart x None fs gs = refl
apart x (Some t) fs gs = refl

unpassed-look : (x : Pos) (t : Option Tomb) (l : Look) (fs : List Frag) → look_passed x l ≡ false → IsOrdered (look_fragments l ++ fs) → StandsOver l fs → (force x t (look_fragments l ++ fs) ≡ t) × (onward x (look_fragments l ++ fs) ≡ look_fragments l ++ fs)
unpassed-look x t look.Open fs e o s = absurd (cc)
unpassed-look x t (look.Over z) fs e o s = (stop x (z, 0) t fs o s (le_not (pos_cmp z x) e), onward-stop x z fs o s e)
unpassed-look x t (look.Next f) fs e o s = (ap (λ c. cond c (force x (tomb_after t f) fs) t) e, ap (λ c. cond c (onward x fs) (f ∷ fs)) e)
unpassed-look x t (look.Past z f) fs e o s =
    let n : is_passed x f ≡ false =
    elim (is_le (pos_cmp z x)) as (λ b. is_le (pos_cmp z x) ≡ b → (b && is_passed x f) ≡ false → is_passed x f ≡ false) [
      | true ↦ λ _ k. k
      | false ↦ λ h _. not_passed x f o.0 (over (z, 0) (place_of f) (x, 0) s.0 (le_not (pos_cmp z x) h))
    ] refl e in
    (ap (λ c. cond c (force x (tomb_after t f) fs) t) n, ap (λ c. cond c (onward x fs) (f ∷ fs)) n)

passed-front : (x : Pos) (t : Option Tomb) (l : Look) (fs : List Frag) → look_passed x l ≡ false → IsOrdered (look_fragments l ++ fs) → StandsOver l fs → ((opening x t ++ []) ++ look_fragments l) ++ fs ≡ opening x (force x t (look_fragments l ++ fs)) ++ onward x (look_fragments l ++ fs)
passed-front x t l fs e o s =
    let u = unpassed-look x t l fs e o s in
    apart x t (look_fragments l) fs ∙ sym (λ i. opening x (u.0 i) ++ u.1 i)

abbrev gone : Pos → Front → List Frag
gone x fr = opening x (force x (front_tomb fr) (front_change fr)) ++ onward x (front_change fr)

within-left : (x : Pos) (fr : Front) (l : Look) (fs : List Frag) → (front_passed x fr && look_passed x l) ≡ false → IsOrdered ((front_change fr ++ look_fragments l) ++ fs) → StandsOver l fs → (gone x fr ++ look_fragments l) ++ fs ≡ opening x (force x (front_tomb fr) ((front_change fr ++ look_fragments l) ++ fs)) ++ onward x ((front_change fr ++ look_fragments l) ++ fs)
within-left x (front.Passed t) l fs e o s = passed-front x t l fs e o s
within-left x (front.Due y t) l fs e o s =
    elim (is_le (pos_cmp y x)) as (λ b. (b && look_passed x l) ≡ false → ((opening x (cond b (Some t) None) ++ cond b [] (frag.Change y (Some t) ∷ [])) ++ look_fragments l) ++ fs ≡ opening x (cond b (force x (Some t) (look_fragments l ++ fs)) None) ++ cond b (onward x (look_fragments l ++ fs)) (frag.Change y (Some t) ∷ (look_fragments l ++ fs))) [
      | true ↦ λ k. passed-front x (Some t) l fs k o.2 s
      | false ↦ λ k. refl
    ] e

within-behind : (x : Pos) (fr : Front) (l : Look) → tomb_behind None (gone x fr ++ look_fragments l) ≡ tomb_behind (front_tomb fr) (front_change fr ++ look_fragments l)
within-behind x (front.Passed None) l = refl
within-behind x (front.Passed (Some t)) l = refl
within-behind x (front.Due y t) l =
    elim (is_le (pos_cmp y x)) as (λ b. tomb_behind None ((opening x (cond b (Some t) None) ++ cond b [] (frag.Change y (Some t) ∷ [])) ++ look_fragments l) ≡ tomb_behind (Some t) (look_fragments l)) [ true ↦ refl | false ↦ refl ]

held-now : (x : Pos) (h now : Held) → WentOn x h now → held_fragments now ≡ gone x h.front ++ look_fragments h.look
held-now x h now w = λ i. w.change i ++ look_fragments (w.look i)

abbrev stream : Head → Option Tomb → List Frag → Stream
stream h t l = record { head = h; tomb = t; left = l }

pub within : (x : Pos) (h now : Held) (s : Stream) → HeldFits h s → passes_held x h ≡ false → WentOn x h now → whole now s ≡ sought_stream x (whole h s)
within x h now s fits e w =
    let left : held_fragments now ++ s.left ≡ (sought_stream x (whole h s)).left = ap (λ l. l ++ s.left) (held-now x h now w) ∙ within-left x h.front h.look s.left e fits.ordered fits.over in
    λ i. stream s.head (w.tomb i) (left i)

pub fits-within : (x : Pos) (h now : Held) (s : Stream) → HeldFits h s → passes_held x h ≡ false → WentOn x h now → HeldFits now s
fits-within x h now s fits e w = record {
  ordered = subst IsOrdered (ap (λ (t : Stream). t.left) (sym (within x h now s fits e w))) (sought-ordered x (front_tomb h.front) (held_fragments h ++ s.left) fits.ordered);
  tomb = fits.tomb ∙ sym (within-behind x h.front h.look) ∙ sym (λ i. tomb_behind (w.tomb i) (held-now x h now w i));
  over = subst (λ l. StandsOver l s.left) (sym w.look) fits.over;
}

-- ---- seeking past all that is held

passed-look : (x : Pos) (t : Option Tomb) (l : Look) (fs : List Frag) → look_passed x l ≡ true → (force x t (look_fragments l ++ fs) ≡ force x (tomb_behind t (look_fragments l)) fs) × (onward x (look_fragments l ++ fs) ≡ onward x fs)
passed-look x t look.Open fs e = (refl, refl)
passed-look x t (look.Over z) fs e = (refl, refl)
passed-look x t (look.Next f) fs e = (ap (λ c. cond c (force x (tomb_after t f) fs) t) e, ap (λ c. cond c (onward x fs) (f ∷ fs)) e)
passed-look x t (look.Past z f) fs e = let p = and_second (is_le (pos_cmp z x)) (is_passed x f) e in (ap (λ c. cond c (force x (tomb_after t f) fs) t) p, ap (λ c. cond c (onward x fs) (f ∷ fs)) p)

passed-held : (x : Pos) (fr : Front) (l : Look) (fs : List Frag) → (front_passed x fr && look_passed x l) ≡ true → (force x (front_tomb fr) ((front_change fr ++ look_fragments l) ++ fs) ≡ force x (tomb_behind (front_tomb fr) (front_change fr ++ look_fragments l)) fs) × (onward x ((front_change fr ++ look_fragments l) ++ fs) ≡ onward x fs)
passed-held x (front.Passed t) l fs e = passed-look x t l fs e
passed-held x (front.Due y t) l fs e =
    let up = and_first (is_le (pos_cmp y x)) (look_passed x l) e in
    let rest = passed-look x (Some t) l fs (and_second (is_le (pos_cmp y x)) (look_passed x l) e) in
    (ap (λ c. cond c (force x (Some t) (look_fragments l ++ fs)) None) up ∙ rest.0, ap (λ c. cond c (onward x (look_fragments l ++ fs)) (frag.Change y (Some t) ∷ (look_fragments l ++ fs))) up ∙ rest.1)

pub beyond : (x : Pos) (h : Held) (s : Stream) → HeldFits h s → passes_held x h ≡ true → sought_stream x (whole h s) ≡ sought_stream x s
beyond x h s fits e =
    let p = passed-held x h.front h.look s.left e in
    λ i. stream s.head None (opening x ((p.0 ∙ ap (λ t. force x t s.left) (sym fits.tomb)) i) ++ p.1 i)
