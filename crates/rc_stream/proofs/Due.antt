-- A seek that is due in a merge of two parts.
use Rattle.std.specs.Prelude.{◌≡◌, Bool, true, false, Option, Some, None, Result, Ok, Err, IfOk, IfSome}
use Rattle.std.proofs.Common.{refl, sym, ap, ◌∙◌, subst}
use Rattle.rc_position.specs.declared.positions.Pos.{Pos}
use Rattle.rc_mutation.specs.declared.fragments.Head.{Head}
use Rattle.rc_stream.specs.declared.holding.Held.{Held}
use Rattle.rc_stream.specs.declared.streams.StreamErr.{StreamErr}
use Rattle.rc_stream.specs.Both.{AfterDue, AheadOfDue}
use Rattle.rc_stream.specs.Did.{Call.OfHead, Call.OfNext, IsDueNow}
use Rattle.rc_stream.specs.Places.{Reaches}
use Rattle.rc_stream.specs.Stream.{Stream, sought_stream}
use Rattle.rc_stream.specs.Merging.{joined_head}
use Rattle.rc_stream.specs.Moving.{IsPutBack}
use Rattle.rc_stream.specs.Showing.{MergesTwo}
use Rattle.rc_stream.proofs.MergeLaws.{head-merged}
use Rattle.rc_stream.proofs.Seeking.{sought-sought}

abbrev Seen : Type 1
Seen = Stream → Type 0

abbrev Ahead : Type 1
Ahead = Pos → Type 0

-- ---- what is stood for

-- where no seek is due, what is stood for is
pub after-none : (P : Seen) (due : Option Pos) (s : Stream) → due ≡ None → P s → AfterDue due P s
after-none P due s e p = subst (λ d. AfterDue d P s) (sym e) p

pub none-after : (P : Seen) (due : Option Pos) (s : Stream) → due ≡ None → AfterDue due P s → P s
none-after P due s e b = subst (λ d. AfterDue d P s) e b

on-after : (P Q : Seen) (due : Option Pos) → ((t : Stream) → P t → Q t) → (s : Stream) → AfterDue due P s → AfterDue due Q s
on-after P Q None on s b = on s b
on-after P Q (Some x) on s b = (b.0, on b.0 b.1, b.2)

-- where the seek is due that was, what stood for stands
pub after-on : (P Q : Seen) (due due' : Option Pos) → due' ≡ due → ((t : Stream) → P t → Q t) → (s : Stream) → AfterDue due P s → AfterDue due' Q s
after-on P Q due due' e on s b = subst (λ d. AfterDue d Q s) (sym e) (on-after P Q due on s b)

-- the seek that was due was done
pub settled-seen : (P Q : Seen) (due due' : Option Pos) (x : Pos) → due ≡ Some x → due' ≡ None → ((m : Stream) → P m → Q (sought_stream x m)) → (s : Stream) → AfterDue due P s → AfterDue due' Q s
settled-seen P Q due due' x e e' on s b =
    let c : AfterDue (Some x) P s = subst (λ d. AfterDue d P s) e b in
    after-none Q due' s e' (subst Q (sym c.2) (on c.0 c.1))

-- it is still due
pub refused-seen : (P Q : Seen) (due due' : Option Pos) (x : Pos) → due ≡ Some x → due' ≡ Some x → ((m : Stream) → P m → (n : Stream) × Q n × (sought_stream x n ≡ sought_stream x m)) → (s : Stream) → AfterDue due P s → AfterDue due' Q s
refused-seen P Q due due' x e e' again s b =
    let c : AfterDue (Some x) P s = subst (λ d. AfterDue d P s) e b in
    let a = again c.0 c.1 in
    subst (λ d. AfterDue d Q s) (sym e') (a.0, a.1, c.2 ∙ sym a.2)

-- a later seek is due in place of an earlier one
pub sought-later : (P : Seen) (A : Ahead) (due : Option Pos) (x : Pos) (s : Stream) → AheadOfDue due A x → AfterDue due P s → AfterDue (Some x) P (sought_stream x s)
sought-later P A None x s r b = (s, b, refl)
sought-later P A (Some y) x s r b = (b.0, b.1, ap (sought_stream x) b.2 ∙ sought-sought y x b.0 r)

-- ---- what is ahead

pub ahead-none : (A : Ahead) (due : Option Pos) (x : Pos) → due ≡ None → A x → AheadOfDue due A x
ahead-none A due x e a = subst (λ d. AheadOfDue d A x) (sym e) a

pub none-ahead : (A : Ahead) (due : Option Pos) (x : Pos) → due ≡ None → AheadOfDue due A x → A x
none-ahead A due x e a = subst (λ d. AheadOfDue d A x) e a

on-ahead : (A B : Ahead) (due : Option Pos) → ((x : Pos) → A x → B x) → (x : Pos) → AheadOfDue due A x → AheadOfDue due B x
on-ahead A B None on x r = on x r
on-ahead A B (Some y) on x r = r

pub ahead-on : (A B : Ahead) (due due' : Option Pos) → due' ≡ due → ((x : Pos) → A x → B x) → (x : Pos) → AheadOfDue due A x → AheadOfDue due' B x
ahead-on A B due due' e on x r = subst (λ d. AheadOfDue d B x) (sym e) (on-ahead A B due on x r)

pub settled-ahead : (A B : Ahead) (due due' : Option Pos) (x : Pos) → due ≡ Some x → due' ≡ None → ((y : Pos) → Reaches x y → B y) → (y : Pos) → AheadOfDue due A y → AheadOfDue due' B y
settled-ahead A B due due' x e e' on y r = ahead-none B due' y e' (on y (subst (λ d. AheadOfDue d A y) e r))

pub refused-ahead : (A B : Ahead) (due due' : Option Pos) (x : Pos) → due ≡ Some x → due' ≡ Some x → (y : Pos) → AheadOfDue due A y → AheadOfDue due' B y
refused-ahead A B due due' x e e' y r = subst (λ d. AheadOfDue d B y) (sym e') (subst (λ d. AheadOfDue d A y) e r)

-- ---- that a seek that is due may be done

-- where no seek is due, none need be ahead
pub not-due : (A : Ahead) (due : Option Pos) → due ≡ None → IfSome due A
not-due A due e = subst (λ d. IfSome d A) (sym e) tt

pub due-there : (A : Ahead) (due : Option Pos) (x : Pos) → due ≡ Some x → IfSome due A → A x
due-there A due x e a = subst (λ d. IfSome d A) e a

on-due : (A B : Ahead) (due : Option Pos) → ((x : Pos) → A x → B x) → IfSome due A → IfSome due B
on-due A B None on a = tt
on-due A B (Some x) on a = on x a

pub due-on : (A B : Ahead) (due due' : Option Pos) → due' ≡ due → ((x : Pos) → A x → B x) → IfSome due A → IfSome due' B
due-on A B due due' e on a = subst (λ d. IfSome d B) (sym e) (on-due A B due on a)

-- what was ahead may be sought to
pub sought-due : (A : Ahead) → ((x y : Pos) → Reaches x y → A x → A y) → (due : Option Pos) (x : Pos) → IfSome due A → AheadOfDue due A x → A x
sought-due A later None x d r = r
sought-due A later (Some y) x d r = later y x r d

-- ---- the head

pub head-both : (P Q : Seen) (h k : Held) (r : Head) (s : Stream) → ((a b : Stream) → P a → Q b → r ≡ joined_head a.head b.head) → MergesTwo (IsPutBack P h) (IsPutBack Q k) s → r ≡ s.head
head-both P Q h k r s is b =
    is b.first.stream b.second.stream b.first.stands b.second.stands
    ∙ sym (ap (λ (t : Stream). t.head) b.joins ∙ head-merged b.ours b.theirs ∙ (λ i. joined_head (b.first.same i).head (b.second.same i).head))

-- the head is that of what is stood for once a seek was done
pub head-after : (P : Seen) (due : Option Pos) (r : Result Head StreamErr) (s : Stream) → ((t : Stream) → P t → IfOk r (λ v. v ≡ t.head)) → AfterDue due P s → IfOk r (λ v. v ≡ s.head)
head-after P None r s is b = is s b
head-after P (Some x) (Ok v) s is b = is b.0 b.1 ∙ ap (λ (t : Stream). t.head) (sym b.2)
head-after P (Some x) (Err e) s is b = tt

-- the seek that is due after a call for the head, and after one for the next
pub due-of-head : (due now : Option Pos) (ok : Bool) → now ≡ due → IsDueNow due OfHead ok now
due-of-head due now true e = e
due-of-head due now false e = tt

pub due-of-next : (due now : Option Pos) (y : Pos) (ok : Bool) → now ≡ None → IsDueNow due (OfNext y) ok now
due-of-next due now y true e = e
due-of-next due now y false e = tt
