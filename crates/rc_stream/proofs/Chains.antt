-- Calls one after another, and those of two parts.
use Rattle.std.specs.Prelude.{◌≡◌, ◌⊎◌, ℕ, zero, suc, Bool, true, false, Option, None}
use Rattle.std.proofs.Common.{refl, sym, subst, inl, inr}
use Rattle.rc_position.specs.declared.positions.Pos.{Pos}
use Rattle.rc_stream.specs.Did.{Call, InTurn, Deed, IsOurs, IsTheirs, Many, OneCall, StepsInTurn, Call.OfHead, Call.OfNext, Call.OfSeek}
use Rattle.rc_stream.specs.calls.Did.{OnceDid}

module _ {S : Type 0} (step : Bool → S → S → Type 0) where
  many-none : (s : S) → Many (step true) s s
  many-none s = (zero, refl)

  many-one : (s t : S) → step true s t → Many (step true) s t
  many-one s t c = (suc zero, (t, c, refl))

  more : (n : ℕ) (s t u : S) → StepsInTurn (step true) n s t → Many (step true) t u → Many (step true) s u
  more zero s t u e m = subst (λ z. Many (step true) z u) (sym e) m
  more (suc n) s t u e m = let r = more n e.0 t u e.2 m in (suc r.0, (e.0, e.1, r.1))

  pub many-many : (s t u : S) → Many (step true) s t → Many (step true) t u → Many (step true) s u
  many-many s t u a b = more a.0 s t u a.1 b

  -- no call, and one
  pub chain-none : (ok : Bool) (s : S) → InTurn step ok s s
  chain-none true s = many-none s
  chain-none false s = (s, many-none s, inl refl)

  pub chain-one : (ok : Bool) (s t : S) → step ok s t → InTurn step ok s t
  chain-one true s t c = many-one s t c
  chain-one false s t c = (s, many-none s, inr c)

  -- calls behind others
  pub chain-after : (ok : Bool) (s t u : S) → Many (step true) s t → InTurn step ok t u → InTurn step ok s u
  chain-after true s t u a b = many-many s t u a b
  chain-after false s t u a b = (b.0, many-many s t b.0 a b.1, b.2)

  -- the whole is refused, of which no call was
  pub chain-stopped : (s t : S) → Many (step true) s t → InTurn step false s t
  chain-stopped s t m = (t, m, inl refl)

module _ {S : Type 0} (step step' : Bool → S → S → Type 0) (go : (ok : Bool) (s t : S) → step ok s t → step' ok s t) where
  steps-on : (n : ℕ) (s t : S) → StepsInTurn (step true) n s t → StepsInTurn (step' true) n s t
  steps-on zero s t e = e
  steps-on (suc n) s t e = (e.0, go true s e.0 e.1, steps-on n e.0 t e.2)

  -- calls of one kind are calls of another
  pub chain-on : (ok : Bool) (s t : S) → InTurn step ok s t → InTurn step' ok s t
  chain-on true s t m = (m.0, steps-on m.0 s t m.1)
  chain-on false s t m = (m.0, (m.1.0, steps-on m.1.0 s m.0 m.1.1), ended m.0 t m.2) where
    ended : (u t : S) → (u ≡ t) ⊎ step false u t → (u ≡ t) ⊎ step' false u t
    ended u t (inl e) = inl e
    ended u t (inr c) = inr (go false u t c)

-- ---- calls of two parts

module _ {A B H W : Type 0} (did : Deed A H W) (did' : Deed B H W) (due : Option Pos) (y : Pos) where
  abbrev Both : Type 0
  Both = A × B × H × W

  pub once-called : (c : Call) → IsOurs due c → (ok : Bool) (a : A) (b : B) (h : H) (w : W) (a' : A) (g : H) (v : W) → OnceDid did a h w c ok a' g v → InTurn (OneCall did did' due y) ok (a, b, h, w) (a', b, g, v)
  once-called c may ok a b h w a' g v (inl e) = subst (λ (z : Both). InTurn (OneCall did did' due y) ok (a, b, h, w) z) (λ i. (e.0 i, b, e.1 i, e.2 i)) (chain-none (OneCall did did' due y) ok (a, b, h, w))
  once-called c may ok a b h w a' g v (inr d) = chain-one (OneCall did did' due y) ok (a, b, h, w) (a', b, g, v) (inl (c, may, (d, refl)))

  pub once-called-theirs : (c : Call) → IsTheirs due y c → (ok : Bool) (a : A) (b : B) (h : H) (w : W) (b' : B) (g : H) (v : W) → OnceDid did' b h w c ok b' g v → InTurn (OneCall did did' due y) ok (a, b, h, w) (a, b', g, v)
  once-called-theirs c may ok a b h w b' g v (inl e) = subst (λ (z : Both). InTurn (OneCall did did' due y) ok (a, b, h, w) z) (λ i. (a, e.0 i, e.1 i, e.2 i)) (chain-none (OneCall did did' due y) ok (a, b, h, w))
  once-called-theirs c may ok a b h w b' g v (inr d) = chain-one (OneCall did did' due y) ok (a, b, h, w) (a, b', g, v) (inr (c, may, (d, refl)))

-- where no seek is due, calls are such also where one is
module _ (due : Option Pos) (y : Pos) where
  ours-due : (c : Call) → IsOurs None c → IsOurs due c
  ours-due OfHead i = absurd i
  ours-due (OfSeek x) i = absurd (cc)
  ours-due (OfNext x) i = tt

  theirs-due : (c : Call) → IsTheirs None y c → IsTheirs due y c
  theirs-due OfHead i = absurd i
  theirs-due (OfSeek x) i = absurd (cc)
  theirs-due (OfNext x) i = i

  pub also-due : {A B H W : Type 0} (did : Deed A H W) (did' : Deed B H W) (ok : Bool) (s t : A × B × H × W) → OneCall did did' None y ok s t → OneCall did did' due y ok s t
  also-due did did' ok s t (inl c) = inl (c.0, ours-due c.0 c.1, c.2)
  also-due did did' ok s t (inr c) = inr (c.0, theirs-due c.0 c.1, c.2)
