-- What holds of an open reader's cached stream holds along the calls of its layers, where each call of that stream keeps it.
use Rattle.std.proofs.Common.{◌≡◌, ℕ, zero, suc, Bool, true, false, Option, Some, None, refl, sym, ap, subst, inl, inr}
use Rattle.std.specs.Option.{IfSome}
use Rattle.rc_position.specs.declared.positions.Pos.{Pos}
use Rattle.rc_memory.specs.Memory.{Memory}
use Rattle.rc_stream.specs.Did.{Call, Call.OfHead, Call.OfNext, Call.OfSeek, HeadsOnce, InTurn, IsDueNow, IsTheirs, OneCall, OurCall, StepsInTurn, TheirCall}
use Rattle.rc_reader.specs.Steps.{OneStep, OpenCalls}
use Rattle.rc_cached.specs.declared.readings.Readings.{Readings}
use Rattle.rc_cached.specs.Streams.{OfCache}
use Rattle.rc_paging.specs.declared.optional.Optional.{Optional}
use Rattle.rc_paging.specs.Optional.{DidIfAny, WithBoth}
use Rattle.rc_paging.specs.calls.Keeping.{AreFrom, Three}
use Rattle.rc_paging.specs.calls.Standing.{OfMemtables}
use Rattle.rc_paging.proofs.Called.{CallLaws, cached_did, four, layers_did, memtables_did, memtables_keep}

-- ---- steps in turn

-- where each step leaves a relation, and what it needs where it was answered
module _ {T : Type 0} (step : Bool → T → T → Type 0) (A : T → Type 0) (Q : T → T → Type 0) (none : (s : T) → Q s s) (more : (s t u : T) → Q s t → Q t u → Q s u) (each : (ok : Bool) (s t : T) → step ok s t → A s → Q s t × (ok ≡ true → A t)) where
  many : (n : ℕ) (s t : T) → StepsInTurn (step true) n s t → A s → Q s t × A t
  many zero s t e a = (subst (Q s) e (none s), subst A e a)
  many (suc n) s t h a = (let p = each true s h.0 h.1 a in let q = many n h.0 t h.2 (p.1 refl) in (more s h.0 t p.0 q.0, q.1))

  pub turns : (ok : Bool) (s t : T) → InTurn step ok s t → A s → Q s t × (ok ≡ true → A t)
  turns true s t h a = (let p = many h.0 s t h.1 a in (p.0, λ _. p.1))
  turns false s t h a =
      let p = many h.1.0 s h.0 h.1.1 a in (
        elim h.2 as (λ _. Q s t) [
          | inl same ↦ subst (Q s) same p.0
          | inr last ↦ more s h.0 t p.0 (each false h.0 t last p.1).0
        ],
        λ e. absurd (cc),
      )

-- ---- what holds of a cached stream over chains and readings

abbrev pub OfStream : Type 1
OfStream = Memory → Readings → OfCache → Type 0

-- what calls make of chains and readings
abbrev pub OfHomes : Type 1
OfHomes = Memory → Readings → Memory → Readings → Type 0

-- a call that is made where this holds leaves that, and where it was answered that other holds
abbrev pub Keeps : ℕ → OfHomes → Call → OfStream → OfStream → Type 0
Keeps S Q c A B = (a : OfCache) (m : Memory) (w : Readings) (ok : Bool) (b : OfCache) (n : Memory) (v : Readings) → cached_did S a m w c ok b n v → A m w a → Q m w n v × (ok ≡ true → B n v b)

module _ (S : ℕ) (laws : CallLaws S) (x y : Pos) (Q : OfHomes) (same : (m n : Memory) (w v : Readings) → n ≡ m → v ≡ w → Q m w n v) (more : (l m n : Memory) (u w v : Readings) → Q l u m w → Q m w n v → Q l u n v) where
  abbrev Four : Type 0
  Four = OfMemtables × Optional OfCache × Memory × Readings

  abbrev All : OfStream → Four → Type 0
  All A s = IfSome s.1.stream (A s.2 s.3)

  abbrev Did4 : Four → Four → Type 0
  Did4 s t = Q s.2 s.3 t.2 t.3

  four_none : (s : Four) → Did4 s s
  four_none s = same s.2 s.2 s.3 s.3 refl refl

  four_more : (s t u : Four) → Did4 s t → Did4 t u → Did4 s u
  four_more s t u a b = more s.2 t.2 u.2 s.3 t.3 u.3 a b

  abbrev Did3 : Three → Three → Type 0
  Did3 s t = Q s.1 s.2 t.1 t.2

  three_none : (s : Three) → Did3 s s
  three_none s = same s.1 s.1 s.2 s.2 refl refl

  three_more : (s t u : Three) → Did3 s t → Did3 t u → Did3 s u
  three_more s t u a b = more s.1 t.1 u.1 s.2 t.2 u.2 a b

  -- a call of a stream that may be
  pub any_along : (c : Call) (A B : OfStream) → Keeps S Q c A B → (r t : Option OfCache) (m : Memory) (w : Readings) (ok : Bool) (n : Memory) (v : Readings) → WithBoth (λ a b. cached_did S a m w c ok b n v) ((n ≡ m) × (v ≡ w)) r t → IfSome r (A m w) → Q m w n v × (ok ≡ true → IfSome t (B n v))
  any_along c A B law None None m w ok n v d h = (same m n w v d.0 d.1, λ _. tt)
  any_along c A B law None (Some b) m w ok n v d h = absurd d
  any_along c A B law (Some a) None m w ok n v d h = absurd d
  any_along c A B law (Some a) (Some b) m w ok n v d h = law a m w ok b n v d h

  ours : (A : OfStream) (c : Call) (ok : Bool) (s t : Four) → OurCall memtables_did c ok s t → All A s → Did4 s t × All A t
  ours A c ok s t d a =
      let k = memtables_keep s.0 s.2 s.3 c ok t.0 t.2 t.3 d.0 in (
        same s.2 t.2 s.3 t.3 k.home k.store,
        subst (λ (q : Optional OfCache × Memory × Readings). IfSome q.0.stream (A q.1 q.2)) (λ i. (sym d.1 i, sym k.home i, sym k.store i)) a,
      )

  theirs : (c : Call) (A B : OfStream) → Keeps S Q c A B → (ok : Bool) (s t : Four) → TheirCall (DidIfAny (cached_did S)) c ok s t → All A s → Did4 s t × (ok ≡ true → All B t)
  theirs c A B law ok s t d a = any_along c A B law s.1.stream t.1.stream s.2 s.3 ok t.2 t.3 d.0 a

  -- ---- reads

  module _ (A : OfStream) (next : Keeps S Q (OfNext y) A A) (seek : Keeps S Q (OfSeek x) A A) where
    due_at : (due : Option Pos) (z : Pos) → IfSome due (λ u. u ≡ x) → due ≡ Some z → z ≡ x
    due_at due z h e = subst (λ o. IfSome o (λ u. u ≡ x)) e h

    their : (due : Option Pos) → IfSome due (λ u. u ≡ x) → (c : Call) (ok : Bool) (s t : Four) → IsTheirs due y c → TheirCall (DidIfAny (cached_did S)) c ok s t → All A s → Did4 s t × (ok ≡ true → All A t)
    their due at OfHead ok s t is d a = absurd is
    their due at (OfSeek z) ok s t is d a = theirs (OfSeek x) A A seek ok s t (subst (λ u. TheirCall (DidIfAny (cached_did S)) (OfSeek u) ok s t) (due_at due z at is) d) a
    their due at (OfNext z) ok s t is d a = theirs (OfNext y) A A next ok s t (subst (λ u. TheirCall (DidIfAny (cached_did S)) (OfNext u) ok s t) is d) a

    one : (due : Option Pos) → IfSome due (λ u. u ≡ x) → (ok : Bool) (s t : Four) → OneCall memtables_did (DidIfAny (cached_did S)) due y ok s t → All A s → Did4 s t × (ok ≡ true → All A t)
    one due at ok s t (inl h) a = (let e = ours A h.0 ok s t h.2 a in (e.0, λ _. e.1))
    one due at ok s t (inr h) a = their due at h.0 ok s t h.1 h.2 a

    due_after : (due now : Option Pos) (ok : Bool) → ok ≡ true → IsDueNow due (OfNext y) ok now → IfSome now (λ u. u ≡ x)
    due_after due now true e l = subst (λ o. IfSome o (λ u. u ≡ x)) (sym l) tt
    due_after due now false e l = absurd (cc)

    next_step : (ok : Bool) (s t : Three) → OneStep (layers_did S laws) (OfNext y) ok s t → AreFrom x A s → Did3 s t × (ok ≡ true → AreFrom x A t)
    next_step ok s t d a =
        let e = turns (OneCall memtables_did (DidIfAny (cached_did S)) s.0.due y) (All A) Did4 four_none four_more (one s.0.due a.due) ok (four S laws s) (four S laws t) d.calls a.cached in
        (e.0, λ answered. record { due = due_after s.0.due t.0.due ok answered d.leaves; cached = e.1 answered })

    pub reads_along : (ok : Bool) (s t : Three) → InTurn (OneStep (layers_did S laws) (OfNext y)) ok s t → AreFrom x A s → Did3 s t × (ok ≡ true → AreFrom x A t)
    reads_along ok s t h a = turns (OneStep (layers_did S laws) (OfNext y)) (AreFrom x A) Did3 three_none three_more next_step ok s t h a

  -- ---- the head, and the seek behind it

  module _ (A B : OfStream) (head : Keeps S Q OfHead A B) where
    both_heads : (ok : Bool) (s u t : Four) → OurCall memtables_did OfHead true s u → TheirCall (DidIfAny (cached_did S)) OfHead ok u t → All A s → Did4 s t × (ok ≡ true → All B t)
    both_heads ok s u t d e a =
        let f = ours A OfHead true s u d a in
        let g = theirs OfHead A B head ok u t e f.1 in
        (four_more s u t f.0 g.0, g.1)

    heads : (ok : Bool) (s t : Four) → HeadsOnce memtables_did (DidIfAny (cached_did S)) ok s t → All A s → Did4 s t × (ok ≡ true → All B t)
    heads true s t h a = both_heads true s h.0 t h.1 h.2 a
    heads false s t (inl h) a = ((ours A OfHead false s t h a).0, λ answered. absurd (cc))
    heads false s t (inr h) a = ((both_heads h.2.0 s h.0 t h.1 h.2.1 a).0, λ answered. absurd (cc))

    head_due : (due now : Option Pos) (ok : Bool) → ok ≡ true → IsDueNow due OfHead ok now → IfSome due (λ u. u ≡ x) → IfSome now (λ u. u ≡ x)
    head_due due now true e l at = subst (λ o. IfSome o (λ u. u ≡ x)) (sym l) at
    head_due due now false e l at = absurd (cc)

    head_step : (ok : Bool) (s t : Three) → OneStep (layers_did S laws) OfHead ok s t → AreFrom x A s → Did3 s t × (ok ≡ true → AreFrom x B t)
    head_step ok s t d a =
        let e = heads ok (four S laws s) (four S laws t) d.calls a.cached in
        (e.0, λ answered. record { due = head_due s.0.due t.0.due ok answered d.leaves a.due; cached = e.1 answered })

    seek_due : (due now : Option Pos) (ok : Bool) → ok ≡ true → IsDueNow due (OfSeek x) ok now → IfSome now (λ u. u ≡ x)
    seek_due due now true e l = subst (λ o. IfSome o (λ u. u ≡ x)) (sym l) refl
    seek_due due now false e l = absurd (cc)

    seek_step : (ok : Bool) (s t : Three) → OneStep (layers_did S laws) (OfSeek x) ok s t → AreFrom x B s → Did3 s t × (ok ≡ true → AreFrom x B t)
    seek_step ok s t d a = (
      same s.1 t.1 s.2 t.2 (ap (λ (q : Four). q.2) (sym d.calls)) (ap (λ (q : Four). q.3) (sym d.calls)),
      λ answered. record { due = seek_due s.0.due t.0.due ok answered d.leaves; cached = subst (All B) d.calls a.cached },
    )

    pub opens_along : (ok : Bool) (s t : Three) → OpenCalls (layers_did S laws) x ok s t → AreFrom x A s → Did3 s t × (ok ≡ true → AreFrom x B t)
    opens_along true s t h a = (let e = head_step true s h.0 h.1 a in let f = seek_step true h.0 t h.2 (e.1 refl) in (three_more s h.0 t e.0 f.0, f.1))
    opens_along false s t (inl h) a = head_step false s t h a
    opens_along false s t (inr h) a =
        let e = head_step true s h.0 h.1 a in (
          elim h.2 as (λ _. Did3 s t) [
            | inl same ↦ subst (Did3 s) same e.0
            | inr last ↦ three_more s h.0 t e.0 (seek_step false h.0 t last (e.1 refl)).0
          ],
          λ answered. absurd (cc),
        )
