-- Calls of a stream one after another.
use Rattle.std.specs.Prelude.{◌≡◌, ◌⊎◌, ◌≤◌, ◌+◌, ℕ, zero, suc, Bool, true, false, IsTrue}
use Rattle.std.proofs.Common.{refl, sym, ◌∙◌, subst, arith, inl, inr}
use Rattle.rc_position.specs.declared.positions.Pos.{Pos}
use Rattle.rc_stream.specs.Did.{InTurn, Deed, IsQuiet, Many, Spends, StepsInTurn, Call.OfHead, Call.OfNext, Call.OfSeek}
use Rattle.rc_stream.specs.laws.Spent.{chain-answered, chain-keeps, chain-refused}
use Rattle.rc_reader.specs.Steps.{OneStep, OpenCalls}

module _ {S : Type 0} (step : Bool → S → S → Type 0) where
  pub many-none : (s : S) → Many (step true) s s
  many-none s = (zero, refl)

  more : (n : ℕ) (s t u : S) → StepsInTurn (step true) n s t → Many (step true) t u → Many (step true) s u
  more zero s t u e m = subst (λ z. Many (step true) z u) (sym e) m
  more (suc n) s t u e m = let r = more n e.0 t u e.2 m in (suc r.0, (e.0, e.1, r.1))

  pub many-many : (s t u : S) → Many (step true) s t → Many (step true) t u → Many (step true) s u
  many-many s t u a b = more a.0 s t u a.1 b

  pub chain-none : (ok : Bool) (s : S) → InTurn step ok s s
  chain-none true s = many-none s
  chain-none false s = (s, many-none s, inl refl)

  pub chain-one : (ok : Bool) (s t : S) → step ok s t → InTurn step ok s t
  chain-one true s t c = (suc zero, (t, c, refl))
  chain-one false s t c = (s, many-none s, inr c)

  pub chain-after : (ok : Bool) (s t u : S) → Many (step true) s t → InTurn step ok t u → InTurn step ok s u
  chain-after true s t u a b = many-many s t u a b
  chain-after false s t u a b = (b.0, many-many s t b.0 a b.1, b.2)

  -- the whole is refused, of which no call was
  pub chain-stopped : (s t : S) → Many (step true) s t → InTurn step false s t
  chain-stopped s t m = (t, m, inl refl)

-- ---- what calls ask for

module _ {S H W : Type 0} (did : Deed S H W) (asks : W → ℕ) where
  abbrev pub State : Type 0
  State = S × H × W

  module _ (left : S → ℕ) (sp : Spends did left asks) where
    pub read-answered : (y : Pos) (s t : State) → InTurn (OneStep did (OfNext y)) true s t → asks t.2 + left t.0 ≤ asks s.2 + left s.0
    read-answered y s t c =
        chain-answered (OneStep did (OfNext y)) (λ z. asks z.2 + left z.0) (λ z. asks z.2)
        (λ u v d. sp.answered u.0 u.1 u.2 (OfNext y) v.0 v.1 v.2 d) (λ u v d. sp.refused u.0 u.1 u.2 (OfNext y) v.0 v.1 v.2 d) (λ z. omega arith) s t c

    pub read-refused : (y : Pos) (s t : State) → InTurn (OneStep did (OfNext y)) false s t → asks t.2 ≤ asks s.2 + left s.0
    read-refused y s t c =
        chain-refused (OneStep did (OfNext y)) (λ z. asks z.2 + left z.0) (λ z. asks z.2)
        (λ u v d. sp.answered u.0 u.1 u.2 (OfNext y) v.0 v.1 v.2 d) (λ u v d. sp.refused u.0 u.1 u.2 (OfNext y) v.0 v.1 v.2 d) (λ z. omega arith) s t c

    pub opened-answered : (x : Pos) (s t : State) → OpenCalls did x true s t → asks t.2 + left t.0 ≤ asks s.2 + left s.0
    opened-answered x s t c = omega (arith, sp.answered s.0 s.1 s.2 OfHead c.0.0 c.0.1 c.0.2 c.1, sp.answered c.0.0 c.0.1 c.0.2 (OfSeek x) t.0 t.1 t.2 c.2)

    sought : (x : Pos) (u t : State) → (u ≡ t) ⊎ OneStep did (OfSeek x) false u t → asks t.2 ≤ asks u.2 + left u.0
    sought x u t (inl e) = subst (λ z. asks z.2 ≤ asks u.2 + left u.0) e (omega arith)
    sought x u t (inr d) = sp.refused u.0 u.1 u.2 (OfSeek x) t.0 t.1 t.2 d

    pub opened-refused : (x : Pos) (s t : State) → OpenCalls did x false s t → asks t.2 ≤ asks s.2 + left s.0
    opened-refused x s t (inl d) = sp.refused s.0 s.1 s.2 OfHead t.0 t.1 t.2 d
    opened-refused x s t (inr c) = omega (arith, sp.answered s.0 s.1 s.2 OfHead c.0.0 c.0.1 c.0.2 c.1, sought x c.0 t c.2)

  module _ (settled : S → Bool) (q : IsQuiet did settled asks) where
    abbrev pub Keeps : State → State → Type 0
    Keeps s t = IsTrue (settled s.0) → (asks t.2 ≡ asks s.2) × IsTrue (settled t.0)

    pub read-quiet : (y : Pos) (ok : Bool) (s t : State) → InTurn (OneStep did (OfNext y)) ok s t → Keeps s t
    read-quiet y ok s t c =
        chain-keeps (OneStep did (OfNext y)) Keeps (λ z a. (refl, a)) (λ u v w k l a. (let p = k a in let r = l p.1 in (r.0 ∙ p.0, r.1)))
        (λ b u v d a. q.quiet u.0 u.1 u.2 (OfNext y) b v.0 v.1 v.2 a d) ok s t c

    pub opened-quiet : (x : Pos) (s t : State) → OpenCalls did x true s t → IsTrue (settled t.0)
    opened-quiet x s t c = (q.quiet c.0.0 c.0.1 c.0.2 (OfSeek x) true t.0 t.1 t.2 (q.head s.0 s.1 s.2 c.0.0 c.0.1 c.0.2 c.1) c.2).1
