-- What a call of a stream did to it, to its home and to its store.
--     ReachesEnd      a position is not before the end of a call up to another one
--     InTurn       steps one after another, of which a refused one is the last
--     MergeDid    a call of a merge is a chain of calls of its parts; and which seek is due afterwards
--     Spends      what calls ask for is bounded by what is left to be asked for
--     IsQuiet     a settled stream asks for nothing
use Rattle.std.specs.Prelude.{◌≡◌, ◌⊎◌, ◌≤◌, ◌+◌, ◌&&◌, ℕ, zero, suc, ⊤, Bool, true, false, IsTrue, Option, Some, None, Result, Ok, Err}
use Rattle.rc_position.specs.declared.positions.Pos.{Pos}
use Rattle.rc_stream.specs.declared.streams.StreamErr.{StreamErr}
use Rattle.rc_stream.specs.declared.merges.Merge.{Merge}
use Rattle.rc_stream.specs.Moving.{unpeeked_stream}
use Rattle.rc_stream.specs.Stream.{Stream}
use Rattle.rc_stream.specs.Places.{Reaches, bound_of}

-- a call: for the head, to go on to a position, or for the next no further than a position
pub data Call : Type 0 where
  OfHead : Call
  OfSeek : Pos → Call
  OfNext : Pos → Call

-- whether a call was answered and not refused
abbrev pub has_answer : {T : Type 0} → Result T StreamErr → Bool
has_answer (Ok value) = true
has_answer (Err e) = false

-- a position is not before the end of a call up to x: not before x, or not before the first of a stream that is stood for
abbrev pub ReachesEnd : (Stream → Type 0) → Pos → Pos → Type 0
ReachesEnd seen x y = Reaches x y ⊎ ((s : Stream) × seen s × Reaches (bound_of x s.left) y)

-- so many steps, one after another
abbrev pub StepsInTurn : {S : Type 0} → (S → S → Type 0) → ℕ → S → S → Type 0
StepsInTurn step zero s t = s ≡ t
StepsInTurn {S} step (suc n) s t = (u : S) × step s u × StepsInTurn step n u t

-- any number of steps, one after another
abbrev pub Many : {S : Type 0} → (S → S → Type 0) → S → S → Type 0
Many step s t = (n : ℕ) × StepsInTurn step n s t

-- steps that were answered, one after another; where the whole was refused, a refused step is the last of them, or none was refused
abbrev pub InTurn : {S : Type 0} → (Bool → S → S → Type 0) → Bool → S → S → Type 0
InTurn step true s t = Many (step true) s t
InTurn {S} step false s t = (u : S) × Many (step true) s u × ((u ≡ t) ⊎ step false u t)

-- what calls of a stream do, with whether they were answered
abbrev pub Deed : Type 0 → Type 0 → Type 0 → Type 1
Deed S H W = S → H → W → Call → Bool → S → H → W → Type 0

-- two parts, a home and a store, before and after a call of the first part
abbrev pub OurCall : {A B H W : Type 0} → Deed A H W → Call → Bool → A × B × H × W → A × B × H × W → Type 0
OurCall did c ok s t = did s.0 s.2 s.3 c ok t.0 t.2 t.3 × (t.1 ≡ s.1)

-- the same of a call of the second part
abbrev pub TheirCall : {A B H W : Type 0} → Deed B H W → Call → Bool → A × B × H × W → A × B × H × W → Type 0
TheirCall did c ok s t = did s.1 s.2 s.3 c ok t.1 t.2 t.3 × (t.0 ≡ s.0)

-- of the first part: a seek that is due, or a call for the next
abbrev pub IsOurs : Option Pos → Call → Type 0
IsOurs due OfHead = ⊥
IsOurs due (OfSeek x) = due ≡ Some x
IsOurs due (OfNext x) = ⊤

-- of the second part: a seek that is due, or a call for the next no further than y
abbrev pub IsTheirs : Option Pos → Pos → Call → Type 0
IsTheirs due y OfHead = ⊥
IsTheirs due y (OfSeek x) = due ≡ Some x
IsTheirs due y (OfNext x) = x ≡ y

-- a call of one of two parts, where a seek may be due, for the next of both no further than y
abbrev pub OneCall : {A B H W : Type 0} → Deed A H W → Deed B H W → Option Pos → Pos → Bool → A × B × H × W → A × B × H × W → Type 0
OneCall did did' due y ok s t = ((c : Call) × IsOurs due c × OurCall did c ok s t) ⊎ ((c : Call) × IsTheirs due y c × TheirCall did' c ok s t)

-- the head of the first part and then that of the second, each once; where one is refused, none follows
abbrev pub HeadsOnce : {A B H W : Type 0} → Deed A H W → Deed B H W → Bool → A × B × H × W → A × B × H × W → Type 0
HeadsOnce {A} {B} {H} {W} did did' true s t = (u : A × B × H × W) × OurCall did OfHead true s u × TheirCall did' OfHead true u t
HeadsOnce {A} {B} {H} {W} did did' false s t = OurCall did OfHead false s t ⊎ ((u : A × B × H × W) × OurCall did OfHead true s u × ((ok : Bool) × TheirCall did' OfHead ok u t))

-- what the calls of two parts are in a call of both: each head once; none where both are to go on; seeks that are due and calls for the
-- next, of the second part none past the end
abbrev pub PartsDid : {A B H W : Type 0} → Deed A H W → Deed B H W → Option Pos → Call → Bool → A × B × H × W → A × B × H × W → Type 0
PartsDid did did' due OfHead ok s t = HeadsOnce did did' ok s t
PartsDid did did' due (OfSeek x) ok s t = s ≡ t
PartsDid did did' due (OfNext y) ok s t = InTurn (OneCall did did' due y) ok s t

-- the seek that is due after an answered call: the one that was; where both are to go on that one; and none once the next was asked for
abbrev pub IsDueNow : Option Pos → Call → Bool → Option Pos → Type 0
IsDueNow due OfHead true now = now ≡ due
IsDueNow due OfHead false now = ⊤
IsDueNow due (OfSeek x) true now = now ≡ Some x
IsDueNow due (OfSeek x) false now = ⊤
IsDueNow due (OfNext y) true now = now ≡ None
IsDueNow due (OfNext y) false now = ⊤

-- a call of a merge of two parts, where a seek may be due before it and after it
pub record MergeDid {A B H W : Type 0} (did : Deed A H W) (did' : Deed B H W) (due now : Option Pos) (c : Call) (ok : Bool) (s t : A × B × H × W) : Type 0 where
  pub calls : PartsDid did did' due c ok s t
  pub leaves : IsDueNow due c ok now

-- the two streams of a merge, its home and its store
abbrev pub merge_state : {A B H W : Type 0} → Merge A B → H → W → A × B × H × W
merge_state m h w = (m.ours.stream, m.theirs.stream, h, w)

-- a call of a merge, by its parts' calls
abbrev pub merge_did : {A B H W : Type 0} → Deed A H W → Deed B H W → Deed (Merge A B) H W
merge_did did did' m h w c ok n g v = MergeDid did did' m.due n.due c ok (merge_state m h w) (merge_state n g v)

-- what is left to be asked for is all that calls ask for: an answered one leaves that much less, and a refused one asks for no more
pub record Spends {S H W : Type 0} (did : Deed S H W) (left : S → ℕ) (asks : W → ℕ) : Type 0 where
  pub answered : (s : S) (h : H) (w : W) (c : Call) (t : S) (g : H) (v : W) → did s h w c true t g v → asks v + left t ≤ asks w + left s
  pub refused : (s : S) (h : H) (w : W) (c : Call) (t : S) (g : H) (v : W) → did s h w c false t g v → asks v ≤ asks w + left s

-- a stream that is settled asks for nothing, and stays settled; where its head was answered it is settled
pub record IsQuiet {S H W : Type 0} (did : Deed S H W) (settled : S → Bool) (asks : W → ℕ) : Type 0 where
  pub quiet : (s : S) (h : H) (w : W) (c : Call) (ok : Bool) (t : S) (g : H) (v : W) → IsTrue (settled s) → did s h w c ok t g v → (asks v ≡ asks w) × IsTrue (settled t)
  pub head : (s : S) (h : H) (w : W) (t : S) (g : H) (v : W) → did s h w OfHead true t g v → IsTrue (settled t)

-- what both parts of a merge may still ask for
abbrev pub both_left : {A B : Type 0} → (A → ℕ) → (B → ℕ) → Merge A B → ℕ
both_left left left' m = left m.ours.stream + left' m.theirs.stream

-- whether both parts of a merge are settled
abbrev pub both_settled : {A B : Type 0} → (A → Bool) → (B → Bool) → Merge A B → Bool
both_settled settled settled' m = settled m.ours.stream && settled' m.theirs.stream

-- a new merge of two parts: nothing is held of them, and no seek is due
abbrev pub IsNewMerge : {A B : Type 0} → A → B → Merge A B → Type 0
IsNewMerge a b m = m ≡ record { ours = unpeeked_stream a; theirs = unpeeked_stream b; due = None }
