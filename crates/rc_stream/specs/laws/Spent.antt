-- What the calls of a merge ask for, by what those of its parts do.
use Rattle.std.specs.Prelude.{◌≡◌, ◌⊎◌, ◌≤◌, ◌+◌, ℕ, zero, suc, Bool, true, false, IsTrue, ◌&&◌, Option}
use Rattle.std.proofs.Common.{refl, sym, ap, ◌∙◌, subst, arith, inl, inr}
use Rattle.rc_position.specs.declared.positions.Pos.{Pos}
use Rattle.rc_stream.specs.Did.{Call, InTurn, Deed, IsQuiet, MergeDid, OneCall, OurCall, Spends, StepsInTurn, TheirCall, merge_did, merge_state, both_left, both_settled, Call.OfHead, Call.OfNext, Call.OfSeek}

-- ---- chains of steps

-- where each answered step leaves this no greater, and a refused one leaves that no greater than this was, so does a chain
module _ {S : Type 0} (step : Bool → S → S → Type 0) (whole part : S → ℕ) (answered : (s t : S) → step true s t → whole t ≤ whole s) (refused : (s t : S) → step false s t → part t ≤ whole s) (within : (s : S) → part s ≤ whole s) where
  steps-less : (n : ℕ) (s t : S) → StepsInTurn (step true) n s t → whole t ≤ whole s
  steps-less zero s t e = subst (λ z. whole z ≤ whole s) e (omega arith)
  steps-less (suc n) s t c = omega (arith, answered s c.0 c.1, steps-less n c.0 t c.2)

  pub chain-answered : (s t : S) → InTurn step true s t → whole t ≤ whole s
  chain-answered s t c = steps-less c.0 s t c.1

  last : (u t : S) → (u ≡ t) ⊎ step false u t → part t ≤ whole u
  last u t (inl e) = subst (λ z. part z ≤ whole u) e (within u)
  last u t (inr c) = refused u t c

  pub chain-refused : (s t : S) → InTurn step false s t → part t ≤ whole s
  chain-refused s t c = omega (arith, steps-less c.1.0 s c.0 c.1.1, last c.0 t c.2)

-- what each step keeps, a chain keeps
module _ {S : Type 0} (step : Bool → S → S → Type 0) (K : S → S → Type 0) (same : (s : S) → K s s) (through : (s t u : S) → K s t → K t u → K s u) (keeps : (ok : Bool) (s t : S) → step ok s t → K s t) where
  steps-keep : (n : ℕ) (s t : S) → StepsInTurn (step true) n s t → K s t
  steps-keep zero s t e = subst (K s) e (same s)
  steps-keep (suc n) s t c = through s c.0 t (keeps true s c.0 c.1) (steps-keep n c.0 t c.2)

  ended : (u t : S) → (u ≡ t) ⊎ step false u t → K u t
  ended u t (inl e) = subst (K u) e (same u)
  ended u t (inr c) = keeps false u t c

  pub chain-keeps : (ok : Bool) (s t : S) → InTurn step ok s t → K s t
  chain-keeps true s t c = steps-keep c.0 s t c.1
  chain-keeps false s t c = through s c.0 t (steps-keep c.1.0 s c.0 c.1.1) (ended c.0 t c.2)

-- ---- two parts

module _ {A B H W : Type 0} (did : Deed A H W) (did' : Deed B H W) (asks : W → ℕ) where
  abbrev Both : Type 0
  Both = A × B × H × W

  module _ (left : A → ℕ) (left' : B → ℕ) (ours : Spends did left asks) (theirs : Spends did' left' asks) where
    abbrev whole : Both → ℕ
    whole s = asks s.3 + (left s.0 + left' s.1)

    abbrev part : Both → ℕ
    part s = asks s.3

    our-answered : (c : Call) (s t : Both) → OurCall did c true s t → whole t ≤ whole s
    our-answered c s t d = omega (arith, ours.answered s.0 s.2 s.3 c t.0 t.2 t.3 d.0, ap left' d.1)

    their-answered : (c : Call) (s t : Both) → TheirCall did' c true s t → whole t ≤ whole s
    their-answered c s t d = omega (arith, theirs.answered s.1 s.2 s.3 c t.1 t.2 t.3 d.0, ap left d.1)

    our-refused : (c : Call) (s t : Both) → OurCall did c false s t → part t ≤ whole s
    our-refused c s t d = omega (arith, ours.refused s.0 s.2 s.3 c t.0 t.2 t.3 d.0)

    their-refused : (c : Call) (s t : Both) → TheirCall did' c false s t → part t ≤ whole s
    their-refused c s t d = omega (arith, theirs.refused s.1 s.2 s.3 c t.1 t.2 t.3 d.0)

    their-any : (ok : Bool) (c : Call) (s t : Both) → TheirCall did' c ok s t → part t ≤ whole s
    their-any true c s t d = omega (arith, their-answered c s t d)
    their-any false c s t d = their-refused c s t d

    one-answered : (due : Option Pos) (y : Pos) (s t : Both) → OneCall did did' due y true s t → whole t ≤ whole s
    one-answered due y s t (inl c) = our-answered c.0 s t c.2
    one-answered due y s t (inr c) = their-answered c.0 s t c.2

    one-refused : (due : Option Pos) (y : Pos) (s t : Both) → OneCall did did' due y false s t → part t ≤ whole s
    one-refused due y s t (inl c) = our-refused c.0 s t c.2
    one-refused due y s t (inr c) = their-refused c.0 s t c.2

    within : (s : Both) → part s ≤ whole s
    within s = omega arith

    merge-answered : (due now : Option Pos) (c : Call) (s t : Both) → MergeDid did did' due now c true s t → whole t ≤ whole s
    merge-answered due now OfHead s t m = (let d = m.calls in omega (arith, our-answered OfHead s d.0 d.1, their-answered OfHead d.0 t d.2))
    merge-answered due now (OfSeek x) s t m = subst (λ z. whole z ≤ whole s) m.calls (omega arith)
    merge-answered due now (OfNext y) s t m = chain-answered (OneCall did did' due y) whole part (one-answered due y) (one-refused due y) within s t m.calls

    heads-refused : (s t : Both) → OurCall did OfHead false s t ⊎ ((u : Both) × OurCall did OfHead true s u × ((ok : Bool) × TheirCall did' OfHead ok u t)) → part t ≤ whole s
    heads-refused s t (inl d) = our-refused OfHead s t d
    heads-refused s t (inr d) = omega (arith, our-answered OfHead s d.0 d.1, their-any d.2.0 OfHead d.0 t d.2.1)

    merge-refused : (due now : Option Pos) (c : Call) (s t : Both) → MergeDid did did' due now c false s t → part t ≤ whole s
    merge-refused due now OfHead s t m = heads-refused s t m.calls
    merge-refused due now (OfSeek x) s t m = subst (λ z. part z ≤ whole s) m.calls (within s)
    merge-refused due now (OfNext y) s t m = chain-refused (OneCall did did' due y) whole part (one-answered due y) (one-refused due y) within s t m.calls

    -- a merge spends what its parts do
    pub merge-spends : Spends (merge_did did did') (both_left left left') asks
    merge-spends = record {
      answered = λ s h w c t g v m. merge-answered s.due t.due c (merge_state s h w) (merge_state t g v) m;
      refused = λ s h w c t g v m. merge-refused s.due t.due c (merge_state s h w) (merge_state t g v) m;
    }

  module _ (settled : A → Bool) (settled' : B → Bool) (ours : IsQuiet did settled asks) (theirs : IsQuiet did' settled' asks) where
    abbrev Keeps : Both → Both → Type 0
    Keeps s t = IsTrue (settled s.0) → IsTrue (settled' s.1) → (asks t.3 ≡ asks s.3) × IsTrue (settled t.0) × IsTrue (settled' t.1)

    same : (s : Both) → Keeps s s
    same s a b = (refl, a, b)

    through : (s t u : Both) → Keeps s t → Keeps t u → Keeps s u
    through s t u k l a b = (let p = k a b in let q = l p.1 p.2 in (q.0 ∙ p.0, q.1, q.2))

    our-quiet : (c : Call) (ok : Bool) (s t : Both) → OurCall did c ok s t → Keeps s t
    our-quiet c ok s t d a b = (let p = ours.quiet s.0 s.2 s.3 c ok t.0 t.2 t.3 a d.0 in (p.0, p.1, subst (λ z. IsTrue (settled' z)) (sym d.1) b))

    their-quiet : (c : Call) (ok : Bool) (s t : Both) → TheirCall did' c ok s t → Keeps s t
    their-quiet c ok s t d a b = (let p = theirs.quiet s.1 s.2 s.3 c ok t.1 t.2 t.3 b d.0 in (p.0, subst (λ z. IsTrue (settled z)) (sym d.1) a, p.1))

    one-quiet : (due : Option Pos) (y : Pos) (ok : Bool) (s t : Both) → OneCall did did' due y ok s t → Keeps s t
    one-quiet due y ok s t (inl c) = our-quiet c.0 ok s t c.2
    one-quiet due y ok s t (inr c) = their-quiet c.0 ok s t c.2

    heads-quiet : (ok : Bool) (due now : Option Pos) (s t : Both) → MergeDid did did' due now OfHead ok s t → Keeps s t
    heads-quiet true due now s t m = (let d = m.calls in through s d.0 t (our-quiet OfHead true s d.0 d.1) (their-quiet OfHead true d.0 t d.2))
    heads-quiet false due now s t m = first_refused s t m.calls where
      first_refused : (s t : Both) → OurCall did OfHead false s t ⊎ ((u : Both) × OurCall did OfHead true s u × ((ok : Bool) × TheirCall did' OfHead ok u t)) → Keeps s t
      first_refused s t (inl d) = our-quiet OfHead false s t d
      first_refused s t (inr d) = through s d.0 t (our-quiet OfHead true s d.0 d.1) (their-quiet OfHead d.2.0 d.0 t d.2.1)

    merge-quiet : (due now : Option Pos) (c : Call) (ok : Bool) (s t : Both) → MergeDid did did' due now c ok s t → Keeps s t
    merge-quiet due now OfHead ok s t m = heads-quiet ok due now s t m
    merge-quiet due now (OfSeek x) ok s t m = subst (Keeps s) m.calls (same s)
    merge-quiet due now (OfNext y) ok s t m = chain-keeps (OneCall did did' due y) Keeps same through (one-quiet due y) ok s t m.calls

    merge-head : (due now : Option Pos) (s t : Both) → MergeDid did did' due now OfHead true s t → IsTrue (settled t.0) × IsTrue (settled' t.1)
    merge-head due now s t m = (let d = m.calls in (subst (λ z. IsTrue (settled z)) (sym d.2.1) (ours.head s.0 s.2 s.3 d.0.0 d.0.2 d.0.3 d.1.0), theirs.head d.0.1 d.0.2 d.0.3 t.1 t.2 t.3 d.2.0))

    first_of : (a b : Bool) → IsTrue (a && b) → IsTrue a
    first_of true b h = refl
    first_of false b h = h

    second_of : (a b : Bool) → IsTrue (a && b) → IsTrue b
    second_of true b h = h
    second_of false b h = absurd (cc)

    both_of : (a b : Bool) → IsTrue a → IsTrue b → IsTrue (a && b)
    both_of true b h k = k
    both_of false b h k = h

    -- a merge of parts that are settled asks for nothing
    pub merge-is-quiet : IsQuiet (merge_did did did') (both_settled settled settled') asks
    merge-is-quiet = record {
      quiet = λ s h w c ok t g v q m. (let p = merge-quiet s.due t.due c ok (merge_state s h w) (merge_state t g v) m (first_of (settled s.ours.stream) (settled' s.theirs.stream) q) (second_of (settled s.ours.stream) (settled' s.theirs.stream) q) in (p.0, both_of (settled t.ours.stream) (settled' t.theirs.stream) p.1 p.2));
      head = λ s h w t g v m. (let p = merge-head s.due t.due (merge_state s h w) (merge_state t g v) m in both_of (settled t.ours.stream) (settled' t.theirs.stream) p.0 p.1);
    }
