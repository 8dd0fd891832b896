-- What each call of the parts of a merge keeps, a call of the merge keeps, and so do the calls of a reader.
use Rattle.std.proofs.Common.{ℕ, zero, suc, inl, inr, Bool, true, false, Option, subst}
use Rattle.rc_position.specs.declared.positions.Pos.{Pos}
use Rattle.rc_stream.specs.declared.merges.Merge.{Merge}
use Rattle.rc_stream.specs.Did.{Call, Call.OfHead, Call.OfSeek, Call.OfNext, Deed, HeadsOnce, InTurn, IsOurs, IsTheirs, OneCall, OurCall, PartsDid, StepsInTurn, TheirCall, merge_did, merge_state}
use Rattle.rc_reader.specs.Steps.{OneStep, OpenCalls}

-- steps that keep something keep it in turn
module _ {S : Type 0} (step : Bool → S → S → Type 0) (P : S → S → Type 0) (none : (s : S) → P s s) (more : (s t u : S) → P s t → P t u → P s u) (each : (ok : Bool) (s t : S) → step ok s t → P s t) where
  many : (n : ℕ) (s t : S) → StepsInTurn (step true) n s t → P s t
  many zero s t e = subst (P s) e (none s)
  many (suc n) s t h = more s h.0 t (each true s h.0 h.1) (many n h.0 t h.2)

  pub in_turn : (ok : Bool) (s t : S) → InTurn step ok s t → P s t
  in_turn true s t h = many h.0 s t h.1
  in_turn false s t h = elim h.2 as (λ _. P s t) [
    | inl same ↦ subst (P s) same (many h.1.0 s h.0 h.1.1)
    | inr last ↦ more s h.0 t (many h.1.0 s h.0 h.1.1) (each false h.0 t last)
  ]

-- of two parts, a home and a store
module _ {A B H W : Type 0} (did : Deed A H W) (did' : Deed B H W) (P : A × B × H × W → A × B × H × W → Type 0) (none : (s : A × B × H × W) → P s s) (more : (s t u : A × B × H × W) → P s t → P t u → P s u) where
  pub heads : ((ok : Bool) (s t : A × B × H × W) → OurCall did OfHead ok s t → P s t) → ((ok : Bool) (s t : A × B × H × W) → TheirCall did' OfHead ok s t → P s t) → (ok : Bool) (s t : A × B × H × W) → HeadsOnce did did' ok s t → P s t
  heads ours theirs true s t h = more s h.0 t (ours true s h.0 h.1) (theirs true h.0 t h.2)
  heads ours theirs false s t (inl h) = ours false s t h
  heads ours theirs false s t (inr h) = more s h.0 t (ours true s h.0 h.1) (theirs h.2.0 h.0 t h.2.1)

  one : (due : Option Pos) (y : Pos) → ((c : Call) (ok : Bool) (s t : A × B × H × W) → IsOurs due c → OurCall did c ok s t → P s t) → ((c : Call) (ok : Bool) (s t : A × B × H × W) → IsTheirs due y c → TheirCall did' c ok s t → P s t) → (ok : Bool) (s t : A × B × H × W) → OneCall did did' due y ok s t → P s t
  one due y ours theirs ok s t (inl h) = ours h.0 ok s t h.1 h.2
  one due y ours theirs ok s t (inr h) = theirs h.0 ok s t h.1 h.2

  pub nexts : (due : Option Pos) (y : Pos) → ((c : Call) (ok : Bool) (s t : A × B × H × W) → IsOurs due c → OurCall did c ok s t → P s t) → ((c : Call) (ok : Bool) (s t : A × B × H × W) → IsTheirs due y c → TheirCall did' c ok s t → P s t) → (ok : Bool) (s t : A × B × H × W) → InTurn (OneCall did did' due y) ok s t → P s t
  nexts due y ours theirs ok s t h = in_turn (OneCall did did' due y) P none more (one due y ours theirs) ok s t h

  module _ (ours : (c : Call) (ok : Bool) (s t : A × B × H × W) → OurCall did c ok s t → P s t) (theirs : (c : Call) (ok : Bool) (s t : A × B × H × W) → TheirCall did' c ok s t → P s t) where
    parts : (due : Option Pos) (c : Call) (ok : Bool) (s t : A × B × H × W) → PartsDid did did' due c ok s t → P s t
    parts due OfHead ok s t h = heads (ours OfHead) (theirs OfHead) ok s t h
    parts due (OfSeek x) ok s t h = subst (P s) h (none s)
    parts due (OfNext y) ok s t h = nexts due y (λ c ok s t _ d. ours c ok s t d) (λ c ok s t _ d. theirs c ok s t d) ok s t h

    pub merges : (m : Merge A B) (h : H) (w : W) (c : Call) (ok : Bool) (n : Merge A B) (g : H) (v : W) → merge_did did did' m h w c ok n g v → P (merge_state m h w) (merge_state n g v)
    merges m h w c ok n g v d = parts m.due c ok (merge_state m h w) (merge_state n g v) d.calls

-- of a stream, a home and a store
module _ {S H W : Type 0} (did : Deed S H W) (P : S × H × W → S × H × W → Type 0) (none : (s : S × H × W) → P s s) (more : (s t u : S × H × W) → P s t → P t u → P s u) where
  pub reads : (c : Call) → ((ok : Bool) (s t : S × H × W) → OneStep did c ok s t → P s t) → (ok : Bool) (s t : S × H × W) → InTurn (OneStep did c) ok s t → P s t
  reads c each ok s t h = in_turn (OneStep did c) P none more each ok s t h

  module _ (x : Pos) (head : (ok : Bool) (s t : S × H × W) → OneStep did OfHead ok s t → P s t) (seek : (ok : Bool) (s t : S × H × W) → OneStep did (OfSeek x) ok s t → P s t) where
    pub opens : (ok : Bool) (s t : S × H × W) → OpenCalls did x ok s t → P s t
    opens true s t h = more s h.0 t (head true s h.0 h.1) (seek true h.0 t h.2)
    opens false s t (inl h) = head false s t h
    opens false s t (inr h) = elim h.2 as (λ _. P s t) [
      | inl same ↦ subst (P s) same (head true s h.0 h.1)
      | inr last ↦ more s h.0 t (head true s h.0 h.1) (seek false h.0 t last)
    ]
