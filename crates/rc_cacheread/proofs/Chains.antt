-- Calls one after another.
use Rattle.std.specs.Prelude.{◌≡◌, ◌⊎◌, ℕ, zero, suc, Bool, true, false}
use Rattle.std.proofs.Common.{refl, sym, subst, inl, inr}
use Rattle.rc_stream.specs.Did.{InTurn, Many, StepsInTurn}

module _ {S : Type 0} (step : Bool → S → S → Type 0) where
  pub none : (s : S) → Many (step true) s s
  none s = (0, refl)

  pub one : (s t : S) → step true s t → Many (step true) s t
  one s t d = (1, (t, d, refl))

  more : (n : ℕ) (s t u : S) → StepsInTurn (step true) n s t → Many (step true) t u → Many (step true) s u
  more zero s t u e m = subst (λ z. Many (step true) z u) (sym e) m
  more (suc n) s t u c m = (let r = more n c.0 t u c.2 m in (suc r.0, (c.0, c.1, r.1)))

  pub many-many : (s t u : S) → Many (step true) s t → Many (step true) t u → Many (step true) s u
  many-many s t u m k = more m.0 s t u m.1 k

  pub chain-after : (ok : Bool) (s t u : S) → Many (step true) s t → InTurn step ok t u → InTurn step ok s u
  chain-after true s t u m c = many-many s t u m c
  chain-after false s t u m c = (c.0, many-many s t c.0 m c.1, c.2)

  pub chain-stop : (s t : S) → Many (step true) s t → InTurn step false s t
  chain-stop s t m = (t, m, inl refl)

  pub chain-one : (ok : Bool) (s t : S) → step ok s t → InTurn step ok s t
  chain-one true s t d = one s t d
  chain-one false s t d = (s, none s, inr d)

  pub chain-none : (ok : Bool) (s : S) → InTurn step ok s s
  chain-none true s = none s
  chain-none false s = (s, none s, inl refl)

  module _ {R : Type 0} (part : Bool → R → R → Type 0) (as_whole : R → S) (lift : (ok : Bool) (a b : R) → part ok a b → step ok (as_whole a) (as_whole b)) where
    many-on : (n : ℕ) (a b : R) → StepsInTurn (part true) n a b → StepsInTurn (step true) n (as_whole a) (as_whole b)
    many-on zero a b e = (λ i. as_whole (e i))
    many-on (suc n) a b c = (as_whole c.0, lift true a c.0 c.1, many-on n c.0 b c.2)

    last-on : (a b : R) → (a ≡ b) ⊎ part false a b → (as_whole a ≡ as_whole b) ⊎ step false (as_whole a) (as_whole b)
    last-on a b (inl e) = inl (λ i. as_whole (e i))
    last-on a b (inr d) = inr (lift false a b d)

    pub chain-on : (ok : Bool) (a b : R) → InTurn part ok a b → InTurn step ok (as_whole a) (as_whole b)
    chain-on true a b c = (c.0, many-on c.0 a b c.1)
    chain-on false a b c = (as_whole c.0, (c.1.0, many-on c.1.0 a c.0 c.1.1), last-on c.0 b c.2)

  module _ (Q : S → S → Type 0) (same : (s : S) → Q s s) (through : (s t u : S) → Q s t → Q t u → Q s u) (keeps : (ok : Bool) (s t : S) → step ok s t → Q s t) where
    steps-keep : (n : ℕ) (s t : S) → StepsInTurn (step true) n s t → Q s t
    steps-keep zero s t e = subst (Q s) e (same s)
    steps-keep (suc n) s t c = through s c.0 t (keeps true s c.0 c.1) (steps-keep n c.0 t c.2)

    last-keeps : (u t : S) → (u ≡ t) ⊎ step false u t → Q u t
    last-keeps u t (inl e) = subst (Q u) e (same u)
    last-keeps u t (inr c) = keeps false u t c

    pub chain-keeps : (ok : Bool) (s t : S) → InTurn step ok s t → Q s t
    chain-keeps true s t c = steps-keep c.0 s t c.1
    chain-keeps false s t c = through s c.0 t (steps-keep c.1.0 s c.0 c.1.1) (last-keeps c.0 t c.2)
