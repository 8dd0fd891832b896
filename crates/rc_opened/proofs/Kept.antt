-- What each call of the parts of a merge keeps of them, where it leaves home and store as they are, a call of the merge keeps of both.
use Rattle.std.proofs.Common.{◌≡◌, ℕ, zero, suc, inl, inr, Bool, true, false, Option, refl, sym, subst, ◌∙◌}
use Rattle.rc_position.specs.declared.positions.Pos.{Pos}
use Rattle.rc_stream.specs.declared.merges.Merge.{Merge}
use Rattle.rc_stream.specs.Did.{Call, Call.OfHead, Call.OfSeek, Call.OfNext, Deed, HeadsOnce, InTurn, OneCall, OurCall, PartsDid, StepsInTurn, TheirCall, merge_did, merge_state}

-- steps that keep something keep it in turn
module _ {S : Type 0} (step : Bool → S → S → Type 0) (P : S → S → Type 0) (none : (s : S) → P s s) (more : (s t u : S) → P s t → P t u → P s u) (each : (ok : Bool) (s t : S) → step ok s t → P s t) where
  many : (n : ℕ) (s t : S) → StepsInTurn (step true) n s t → P s t
  many zero s t e = subst (P s) e (none s)
  many (suc n) s t h = more s h.0 t (each true s h.0 h.1) (many n h.0 t h.2)

  pub in_turn : (ok : Bool) (s t : S) → InTurn step ok s t → P s t
  in_turn true s t h = many h.0 s t h.1
  in_turn false s t h = elim h.2 as (λ _. P s t) [
    | inl same ↦ subst (P s) same (many h.1.0 s h.0 h.1.1)
    | inr last ↦ more s h.0 t (many h.1.0 s h.0 h.1.1) (each false h.0 t last)
  ]

module _ {A B H W : Type 0} (did : Deed A H W) (did' : Deed B H W) (P : A → A → Type 0) (Q : B → B → Type 0) (none : (a : A) → P a a) (more : (a b c : A) → P a b → P b c → P a c) (none' : (a : B) → Q a a) (more' : (a b c : B) → Q a b → Q b c → Q a c)
    (each : (a : A) (h : H) (w : W) (c : Call) (ok : Bool) (b : A) (g : H) (v : W) → did a h w c ok b g v → P a b × (g ≡ h) × (v ≡ w)) (each' : (a : B) (h : H) (w : W) (c : Call) (ok : Bool) (b : B) (g : H) (v : W) → did' a h w c ok b g v → Q a b × (g ≡ h) × (v ≡ w)) where
  -- both parts keep it, and home and store are as they were
  abbrev pub Both : A × B × H × W → A × B × H × W → Type 0
  Both s t = P s.0 t.0 × Q s.1 t.1 × (t.2 ≡ s.2) × (t.3 ≡ s.3)

  both_none : (s : A × B × H × W) → Both s s
  both_none s = (none s.0, none' s.1, refl, refl)

  both_more : (s t u : A × B × H × W) → Both s t → Both t u → Both s u
  both_more s t u g h = (more s.0 t.0 u.0 g.0 h.0, more' s.1 t.1 u.1 g.1 h.1, h.2 ∙ g.2, h.3 ∙ g.3)

  ours : (c : Call) (ok : Bool) (s t : A × B × H × W) → OurCall did c ok s t → Both s t
  ours c ok s t h = (let d = each s.0 s.2 s.3 c ok t.0 t.2 t.3 h.0 in (d.0, subst (Q s.1) (sym h.1) (none' s.1), d.1, d.2))

  theirs : (c : Call) (ok : Bool) (s t : A × B × H × W) → TheirCall did' c ok s t → Both s t
  theirs c ok s t h = (let d = each' s.1 s.2 s.3 c ok t.1 t.2 t.3 h.0 in (subst (P s.0) (sym h.1) (none s.0), d.0, d.1, d.2))

  one : (due : Option Pos) (y : Pos) (ok : Bool) (s t : A × B × H × W) → OneCall did did' due y ok s t → Both s t
  one due y ok s t (inl h) = ours h.0 ok s t h.2
  one due y ok s t (inr h) = theirs h.0 ok s t h.2

  heads : (ok : Bool) (s t : A × B × H × W) → HeadsOnce did did' ok s t → Both s t
  heads true s t h = both_more s h.0 t (ours OfHead true s h.0 h.1) (theirs OfHead true h.0 t h.2)
  heads false s t (inl h) = ours OfHead false s t h
  heads false s t (inr h) = both_more s h.0 t (ours OfHead true s h.0 h.1) (theirs OfHead h.2.0 h.0 t h.2.1)

  parts : (due : Option Pos) (c : Call) (ok : Bool) (s t : A × B × H × W) → PartsDid did did' due c ok s t → Both s t
  parts due OfHead ok s t h = heads ok s t h
  parts due (OfSeek x) ok s t h = subst (Both s) h (both_none s)
  parts due (OfNext y) ok s t h = in_turn (OneCall did did' due y) Both both_none both_more (one due y) ok s t h

  pub merges : (m : Merge A B) (h : H) (w : W) (c : Call) (ok : Bool) (n : Merge A B) (g : H) (v : W) → merge_did did did' m h w c ok n g v → P m.ours.stream n.ours.stream × Q m.theirs.stream n.theirs.stream × (g ≡ h) × (v ≡ w)
  merges m h w c ok n g v d = parts m.due c ok (merge_state m h w) (merge_state n g v) d.calls
