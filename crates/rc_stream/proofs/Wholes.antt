-- A part with what is held of it as one stream, and two of them merged.
use Rattle.std.specs.Prelude.{◌≡◌, true, false, List, [], ◌∷◌, ◌++◌, Option, Some, None, Result, Ok, Err, OnOk}
use Rattle.std.proofs.Common.{refl, sym, ap, ◌∙◌, subst, inl, inr}
use Rattle.rc_cell.specs.declared.writes.Tomb.{Tomb}
use Rattle.rc_cell.specs.calls.Greatest.{is_nil}
use Rattle.rc_position.specs.declared.positions.Pos.{Pos}
use Rattle.rc_mutation.specs.declared.fragments.Frag.{Frag}
use Rattle.rc_mutation.specs.declared.fragments.Head.{Head}
use Rattle.rc_stream.specs.declared.holding.Held.{Held}
use Rattle.rc_stream.specs.declared.holding.Look.{Look}
use Rattle.rc_stream.specs.declared.holding.Look.TheVariants as look
use Rattle.rc_stream.specs.declared.holding.Step.{Step}
use Rattle.rc_stream.specs.declared.holding.Step.TheVariants as step
use Rattle.rc_stream.specs.declared.lists.Front.{Front}
use Rattle.rc_stream.specs.declared.lists.Front.TheVariants as front
use Rattle.rc_stream.specs.declared.parts.Peeked.{Peeked}
use Rattle.rc_stream.specs.declared.streams.StreamErr.{StreamErr}
use Rattle.rc_stream.specs.Leaving.{sought_by}
use Rattle.rc_stream.specs.Fronts.{front_change}
use Rattle.rc_stream.specs.Stream.{Stream, first_upto, rest, sought_stream, took}
use Rattle.rc_mutation.specs.Fragments.{tomb_after}
use Rattle.rc_stream.specs.Merging.{IsOrdered, StandsBefore, merged_stream}
use Rattle.rc_stream.specs.Places.{bound_of}
use Rattle.rc_stream.specs.Holding.{HeldFits, held_fragments, look_fragments, whole}
use Rattle.rc_stream.specs.calls.Holding.{TakesTurn, WentOn, passes_held, turn_of}
use Rattle.rc_stream.specs.Moving.{Holds, IsPutBack, KeepsSeen, Once}
use Rattle.rc_stream.specs.calls.Moving.{StepLeaves, StepSays, look_after}
use Rattle.rc_stream.specs.Showing.{MergesTwo}
use Rattle.rc_stream.specs.calls.Both.{IsLookedUpto}
use Rattle.rc_stream.proofs.Looking.{beyond, first-is, fits-sought, fits-within, none_held, nothing-held, within}
use Rattle.rc_stream.specs.laws.Ordered.{passes-itself}
use Rattle.rc_stream.proofs.Rounds.{stepped}
use Rattle.rc_stream.proofs.Seeking.{sought-merged, sought-sought}

abbrev pub Seen : Type 1
Seen = Stream → Type 0

pub holds-on : (P Q : Seen) (h : Held) (t : Stream) → ((s : Stream) → P s → Q s) → IsPutBack P h t → IsPutBack Q h t
holds-on P Q h t go k = record { stream = k.stream; stands = go k.stream k.stands; fits = k.fits; same = k.same }

-- a part stands on where the other was called
pub once-holds : {H W X : Type 0} (P : H → W → H → W → Type 0) (seen : X → H → W → Stream → Type 0) (p : Peeked X) (h : H) (w : W) (g : H) (v : W) → KeepsSeen P seen → Once P h w g v → (t : Stream) → Holds seen p h w t → Holds seen p g v t
once-holds P seen p h w g v keeps (inl e) t a = holds-on (seen p.stream h w) (seen p.stream g v) p.held t (λ s q. subst (λ u. seen p.stream g u s) e.1 (subst (λ z. seen p.stream z w s) e.0 q)) a
once-holds P seen p h w g v keeps (inr m) t a = holds-on (seen p.stream h w) (seen p.stream g v) p.held t (λ s q. keeps p.stream s h w g v m q) a

-- what holds of both streams, where other things hold of each
abbrev pub two-on : (P Q P' Q' : Seen) (m : Stream) → ((t : Stream) → P t → P' t) → ((t : Stream) → Q t → Q' t) → MergesTwo P Q m → MergesTwo P' Q' m
two-on P Q P' Q' m one other b = record { ours = b.ours; theirs = b.theirs; first = one b.ours b.first; second = other b.theirs b.second; joins = b.joins }

-- ---- looking

abbrev stream : Head → Option Tomb → List Frag → Stream
stream h t l = record { head = h; tomb = t; left = l }

abbrev hold : Front → Look → Held
hold fr l = record { front = fr; look = l }

took-holds : (f : Frag) (s : Stream) (fr : Front) (l : Look) → is_nil (front_change fr ++ look_fragments l) ≡ true → HeldFits (hold fr l) s → s.left ≡ f ∷ rest s.left → HeldFits (hold fr (look_after (Some f) l)) (took (Some f) s) × (whole (hold fr l) s ≡ whole (hold fr (look_after (Some f) l)) (took (Some f) s))
took-holds f s (front.Due z t) l n fits e = absurd (cc)
took-holds f s (front.Passed t) look.Open n fits e = (record { ordered = subst IsOrdered e fits.ordered; tomb = ap (λ u. tomb_after u f) fits.tomb; over = tt }, λ i. stream s.head t (e i))
took-holds f s (front.Passed t) (look.Over z) n fits e = (record { ordered = subst IsOrdered e fits.ordered; tomb = ap (λ u. tomb_after u f) fits.tomb; over = subst (StandsBefore (z, 0)) e fits.over }, λ i. stream s.head t (e i))
took-holds f s (front.Passed t) (look.Next g) n fits e = absurd (cc)
took-holds f s (front.Passed t) (look.Past z g) n fits e = absurd (cc)

as_now : (fr : Front) (l : Look) (now : Held) → now.front ≡ fr → now.look ≡ l → hold fr l ≡ now
as_now fr l now e k = λ i. hold (sym e i) (sym k i)

pub looked-holds : (P Q : Seen) (x : Pos) (got : Option Frag) (h now : Held) (t : Stream) → is_nil (held_fragments h) ≡ true → now.front ≡ h.front → now.look ≡ look_after got h.look → ((s : Stream) → P s → got ≡ first_upto x s.left) → ((s : Stream) → P s → Q (took got s)) → IsPutBack P h t → IsPutBack Q now t
looked-holds P Q x None h now t n fr l gives go k = subst (λ m. IsPutBack Q m t) (as_now h.front h.look now fr l) (holds-on P Q h t go k)
looked-holds P Q x (Some f) h now t n fr l gives go k =
    let first = first-is x k.stream.left f (gives k.stream k.stands) in
    let both = took-holds f k.stream h.front h.look n k.fits first.0 in
    subst (λ m. IsPutBack Q m t) (as_now h.front (look_after (Some f) h.look) now fr l)
    (record { stream = took (Some f) k.stream; stands = go k.stream k.stands; fits = both.0; same = k.same ∙ both.1 })

something : (f : Frag) (fs : List Frag) (l : Look) → fs ++ look_fragments (look_after (Some f) l) ≡ [] → ⊥
something f [] look.Open e = cc
something f [] (look.Over z) e = cc
something f [] (look.Next g) e = cc
something f [] (look.Past z g) e = cc
something f (g ∷ fs) l e = cc

pub looked-known : (P : Seen) (x : Pos) (got : Option Frag) (h now : Held) (t : Stream) → is_nil (held_fragments h) ≡ true → now.look ≡ look_after got h.look → ((s : Stream) → P s → got ≡ first_upto x s.left) → IsPutBack P h t → held_fragments now ≡ [] → first_upto x t.left ≡ None
looked-known P x None h now t n l gives k e = ap (λ (u : Stream). first_upto x u.left) k.same ∙ ap (λ hs. first_upto x (hs ++ k.stream.left)) (nothing-held (held_fragments h) n) ∙ sym (gives k.stream k.stands)
looked-known P x (Some f) h now t n l gives k e = absurd (something f (front_change now.front) h.look (ap (λ m. front_change now.front ++ look_fragments m) (sym l) ∙ e))

-- ---- seeking

pub within-holds : (P : Seen) (x : Pos) (h now : Held) (t : Stream) → passes_held x h ≡ false → WentOn x h now → IsPutBack P h t → IsPutBack P now (sought_stream x t)
within-holds P x h now t e w k = record { stream = k.stream; stands = k.stands; fits = fits-within x h now k.stream k.fits e w; same = ap (sought_stream x) k.same ∙ sym (within x h now k.stream k.fits e w) }

pub sought-holds : (P Q : Seen) (x : Pos) (h now : Held) (t : Stream) → passes_held x h ≡ true → now ≡ none_held → ((s : Stream) → P s → Q (sought_stream x s)) → IsPutBack P h t → IsPutBack Q now (sought_stream x t)
sought-holds P Q x h now t e none go k = record {
  stream = sought_stream x k.stream;
  stands = go k.stream k.stands;
  fits = fits-sought x h now k.stream (sought_stream x k.stream) none refl k.fits;
  same = ap (sought_stream x) k.same ∙ beyond x h k.stream k.fits e ∙ ap (λ (m : Held). whole m (sought_stream x k.stream)) (sym none);
}

pub ordered : (P : Seen) (h : Held) (t : Stream) → IsPutBack P h t → IsOrdered t.left
ordered P h t k = subst (λ (u : Stream). IsOrdered u.left) (sym k.same) k.fits.ordered

again : (r : Result (Unit {0}) StreamErr) (x : Pos) (t : Stream) → sought_stream x (sought_by r x t) ≡ sought_stream x t
again (Ok u) x t = sought-sought x x t (passes-itself x)
again (Err e) x t = refl

-- one went on, or both: a later seek forgets it
pub sought-either : (P Q P' Q' : Seen) (x : Pos) (h k h' k' : Held) (ra rb : Result (Unit {0}) StreamErr) (m : Stream) → ((t : Stream) → IsPutBack P h t → IsPutBack P' h' (sought_by ra x t)) → ((t : Stream) → IsPutBack Q k t → IsPutBack Q' k' (sought_by rb x t)) → MergesTwo (IsPutBack P h) (IsPutBack Q k) m → (n : Stream) × MergesTwo (IsPutBack P' h') (IsPutBack Q' k') n × (sought_stream x n ≡ sought_stream x m)
sought-either P Q P' Q' x h k h' k' ra rb m one other b =
    let s = b.ours in
    let t = b.theirs in
    let one' = one s b.first in
    let other' = other t b.second in (
      merged_stream (sought_by ra x s) (sought_by rb x t),
      record { ours = sought_by ra x s; theirs = sought_by rb x t; first = one'; second = other'; joins = refl },
      sought-merged x (sought_by ra x s) (sought_by rb x t) (ordered P' h' (sought_by ra x s) one') (ordered Q' k' (sought_by rb x t) other')
          ∙ (λ i. merged_stream (again ra x s i) (again rb x t i))
          ∙ sym (sought-merged x s t (ordered P h s b.first) (ordered Q k t b.second))
          ∙ ap (sought_stream x) (sym b.joins),
    )

pub sought-both : (P Q P' Q' : Seen) (x : Pos) (h k h' k' : Held) (m : Stream) → ((t : Stream) → IsPutBack P h t → IsPutBack P' h' (sought_stream x t)) → ((t : Stream) → IsPutBack Q k t → IsPutBack Q' k' (sought_stream x t)) → MergesTwo (IsPutBack P h) (IsPutBack Q k) m → MergesTwo (IsPutBack P' h') (IsPutBack Q' k') (sought_stream x m)
sought-both P Q P' Q' x h k h' k' m one other b = record {
  ours = sought_stream x b.ours;
  theirs = sought_stream x b.theirs;
  first = one b.ours b.first;
  second = other b.theirs b.second;
  joins = ap (sought_stream x) b.joins ∙ sought-merged x b.ours b.theirs (ordered P h b.ours b.first) (ordered Q k b.theirs b.second);
}

-- ---- a step

below : (P : Seen) (x : Pos) (h : Held) (t : Stream) (k : IsPutBack P h t) → held_fragments h ≡ [] → first_upto x t.left ≡ None → first_upto x k.stream.left ≡ None
below P x h t k n e = sym (λ i. first_upto x (n i ++ k.stream.left)) ∙ ap (λ (u : Stream). first_upto x u.left) (sym k.same) ∙ e

after_step : (P Q : Seen) (h k : Held) (s : Step) (x : Pos) (m n : Stream) → MergesTwo (IsPutBack P h) (IsPutBack Q k) n → StepSays s x m n → StepLeaves (Ok s) x m (MergesTwo (IsPutBack P h) (IsPutBack Q k))
after_step P Q h k step.Nothing x m n b d = (subst (MergesTwo (IsPutBack P h) (IsPutBack Q k)) d.0 b, d.1)
after_step P Q h k step.Passed x m n b d = subst (MergesTwo (IsPutBack P h) (IsPutBack Q k)) d b
after_step P Q h k (step.Given f) x m n b d = (subst (MergesTwo (IsPutBack P h) (IsPutBack Q k)) d.1 b, d.0)

pub step-holds : (P Q : Seen) (x : Pos) (h k h' k' : Held) (s : Step) (m ta tb : Stream) → IsPutBack P h ta → IsPutBack Q k tb → m ≡ merged_stream ta tb → (held_fragments h ≡ [] → first_upto x ta.left ≡ None) → (held_fragments k ≡ [] → first_upto (bound_of x (held_fragments h)) tb.left ≡ None) → TakesTurn (turn_of x (held_fragments h) (held_fragments k)) s h k h' k' → StepLeaves (Ok s) x m (MergesTwo (IsPutBack P h') (IsPutBack Q k'))
step-holds P Q x h k h' k' s m ta tb a b e none none' d =
    let st = stepped x a.stream b.stream h k a.fits b.fits s h' k' (λ n. below P x h ta a n (none n)) (λ n. below Q (bound_of x (held_fragments h)) k tb b n (none' n)) d in
    after_step P Q h' k' s x m (merged_stream (whole h' a.stream) (whole k' b.stream))
    (record {
      ours = whole h' a.stream;
      theirs = whole k' b.stream;
      first = record { stream = a.stream; stands = a.stands; fits = st.fits_ours; same = refl };
      second = record { stream = b.stream; stands = b.stands; fits = st.fits_theirs; same = refl };
      joins = refl;
    })
    (subst (λ (u : Stream). StepSays s x u (merged_stream (whole h' a.stream) (whole k' b.stream))) (sym (e ∙ (λ i. merged_stream (a.same i) (b.same i)))) st.says)

-- ---- two parts

pub sought-ok : (P Q P' Q' : Seen) (x : Pos) (h k h' k' : Held) (r : Result (Unit {0}) StreamErr) → ((t : Stream) → IsPutBack P h t → IsPutBack P' h' (sought_stream x t)) → ((t : Stream) → IsPutBack Q k t → IsPutBack Q' k' (sought_by r x t)) → OnOk r ((m : Stream) → MergesTwo (IsPutBack P h) (IsPutBack Q k) m → MergesTwo (IsPutBack P' h') (IsPutBack Q' k') (sought_stream x m))
sought-ok P Q P' Q' x h k h' k' (Ok u) one other = λ m b. sought-both P Q P' Q' x h k h' k' m one other b
sought-ok P Q P' Q' x h k h' k' (Err e) one other = tt

-- both were looked at, where the second answered
pub looked-both : (P Q P' Q' R : Seen) (x near : Pos) (h' k' : Held) (r : Result (Unit {0}) StreamErr) → near ≡ bound_of x (held_fragments h') → ((t : Stream) → P t → P' t) → ((t : Stream) → Q t → R t) → ((t : Stream) → Q t → Q' t) → ((t : Stream) → P t → IsLookedUpto h' x t) → OnOk r ((t : Stream) → R t → IsLookedUpto k' near t) → OnOk r ((m : Stream) → MergesTwo P Q m → (b : MergesTwo P' Q' m) × IsLookedUpto h' x b.ours × IsLookedUpto k' (bound_of x (held_fragments h')) b.theirs)
looked-both P Q P' Q' R x near h' k' (Ok u) e one mid other none none' = λ m b. (two-on P Q P' Q' m one other b, none b.ours b.first, subst (λ z. IsLookedUpto k' z b.theirs) e (none' b.theirs (mid b.theirs b.second)))
looked-both P Q P' Q' R x near h' k' (Err e') e one mid other none none' = tt
