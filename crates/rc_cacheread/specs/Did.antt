-- What a call of a reader did: calls of its parts, one after another.
--     IsAnswered     a stream as a call left it that was answered
--     ReaderCall     a call of the snapshot, of the stream below, or of the filler
--     ReaderFilled   what calls leave of what is known
--     AnswersBelow   the stream below answers a call
--     Unanswered     what a call leaves that was answered while the stream below answered none
--     IsGoneTo       where a call for the head or a seek leaves the place
--     ReaderDid      a call of a reader: which calls, none but the snapshot's where what is passed is known, and that it is known afterwards
use Rattle.std.specs.Prelude.{◌≡◌, ◌⊎◌, ◌≤◌, Bool, true, false, ⊤, []}
use Rattle.rc_position.specs.declared.positions.Pos.{Pos}
use Rattle.rc_position.specs.Position.{IsBefore}
use Rattle.rc_mutation.specs.declared.fragments.HeadAt.{HeadAt}
use Rattle.rc_stream.specs.Did.{Call, InTurn, OfHead, OfNext, OfSeek}
use Rattle.rc_stream.specs.Places.{Reaches}
use Rattle.rc_stream.specs.Snapshot.{SameKnown, There, Unlost}
use Rattle.rc_cacheread.specs.declared.readers.CacheReader.{CacheReader}
use Rattle.rc_cacheread.specs.Passing.{IsKnownFrom, IsKnownOver}
use Rattle.rc_cacheread.specs.Sharing.{IsStaticRowKnown, OfBelow, OfFiller, OfKnown, StaysReader}
use Rattle.rc_cacheread.specs.declared.spots.Spot.{Spot}
use Rattle.rc_cacheread.specs.Spots.{front, stand}

-- a call of a snapshot over its home
abbrev pub KnownStep : {K H : Type 0} → (K → H → Call → Bool → K → H → Type 0) → Bool → K × H → K × H → Type 0
KnownStep did ok s t = (c : Call) × did s.0 s.1 c ok t.0 t.1

-- of the stream below: its head where that of the reader is asked for; where the next is, up to y, a seek to there or before, and a call no further than y
abbrev pub IsBelow : Call → Call → Type 0
IsBelow OfHead d = d ≡ OfHead
IsBelow (OfSeek x) d = ⊥
IsBelow (OfNext y) d = (d ≡ OfNext y) ⊎ ((x : Pos) × (d ≡ OfSeek x) × Reaches x y)

-- a stream as a call left it that was answered
abbrev pub IsAnswered : {F H W : Type 0} → (F → H → W → Call → Bool → F → H → W → Type 0) → F → Type 0
IsAnswered {F} {H} {W} did t = (f : F) × (h : H) × (w : W) × (d : Call) × (g : H) × (v : W) × did f h w d true t g v

-- a call of the snapshot, of the stream below, or of the filler; a fill is never refused, and stands behind a call of the stream below that was answered
abbrev pub ReaderCall : {K F P H W : Type 0} → OfKnown K H → OfBelow F H W → OfFiller P H → Call → Bool → K × F × P × H × W → K × F × P × H × W → Type 0
ReaderCall kn be fi c ok s t =
    (KnownStep kn.did ok (s.0, s.3) (t.0, t.3) × (t.1 ≡ s.1) × (t.2 ≡ s.2) × (t.4 ≡ s.4))
    ⊎ (((d : Call) × IsBelow c d × be.did s.1 s.3 s.4 d ok t.1 t.3 t.4 × (t.0 ≡ s.0) × (t.2 ≡ s.2))
    ⊎ ((ok ≡ true) × IsAnswered be.did s.1 × fi.fills s.2 s.3 t.2 t.3 × (t.0 ≡ s.0) × (t.1 ≡ s.1) × (t.4 ≡ s.4)))

-- a reader with its home and its store
abbrev pub reader_state : {K F P H W : Type 0} → CacheReader K F P → H → W → K × F × P × H × W
reader_state r h w = (r.known, r.below, r.filler, h, w)

-- only the snapshot was called
abbrev pub CallsSnapshotAlone : {K F P H W : Type 0} → OfKnown K H → Bool → K × F × P × H × W → K × F × P × H × W → Type 0
CallsSnapshotAlone kn ok s t = InTurn (KnownStep kn.did) ok (s.0, s.3) (t.0, t.3) × (t.1 ≡ s.1) × (t.2 ≡ s.2) × (t.4 ≡ s.4)

-- what a call passes is known: the static row; or, of the slice, each position from the place on and up to y, but for those inside a row
abbrev pub IsKnownFor : Call → (Pos → There → Type 0) → (HeadAt → Type 0) → (x to : Pos) → Type 0
IsKnownFor OfHead knows heads x to = IsStaticRowKnown heads
IsKnownFor (OfSeek y) knows heads x to = ⊤
IsKnownFor (OfNext y) knows heads x to = (z : Pos) → Reaches x z → Reaches z y → IsBefore z to → IsKnownFrom knows x z

-- what a call passed is known: the static row, if the head was answered; or each position from the place before the call on and before the place after it; a seek passes over nothing
abbrev pub IsFilledFor : Call → Bool → (Pos → There → Type 0) → (HeadAt → Type 0) → (x y : Pos) → Type 0
IsFilledFor OfHead true knows heads x y = IsStaticRowKnown heads
IsFilledFor OfHead false knows heads x y = ⊤
IsFilledFor (OfSeek z) ok knows heads x y = ⊤
IsFilledFor (OfNext z) ok knows heads x y = IsKnownOver knows x y

-- after calls: what may be filled still may be, and what was lost is not forgotten; where it may be filled and nothing was lost, what was known still is, and this is now
pub record ReaderFilled {K P H : Type 0} (kn : OfKnown K H) (fi : OfFiller P H) (k : K) (p : P) (h : H) (l : K) (q : P) (g : H) (this : Type 0) : Type 0 where
  pub still : fi.may p h → fi.may q g
  pub lost : fi.lost h ≤ fi.lost g
  pub each : Unlost (fi.may p h) (fi.lost h) (fi.lost g) ((x : Pos) (v : There) → kn.knows k h x v → kn.knows l g x v)
  pub static_row : Unlost (fi.may p h) (fi.lost h) (fi.lost g) (IsStaticRowKnown (kn.heads k h) → IsStaticRowKnown (kn.heads l g))
  pub now : Unlost (fi.may p h) (fi.lost h) (fi.lost g) this

-- the stream below, as it is, answers a call over this store, over whichever home
abbrev pub AnswersBelow : {F H W : Type 0} → OfBelow F H W → F → W → Type 0
AnswersBelow {F} {H} {W} be f w = (d : Call) × (h : H) × (t : F) × (g : H) × (v : W) × be.did f h w d true t g v

-- after an answered call, while the stream below answered none: that and the store are as they were, the snapshot knows what it knew, and this holds
pub record Unanswered {K F P H W : Type 0} (kn : OfKnown K H) (r : CacheReader K F P) (h : H) (w : W) (n : CacheReader K F P) (g : H) (v : W) (this : Type 0) : Type 0 where
  pub below : n.below ≡ r.below
  pub store : v ≡ w
  pub same : SameKnown (kn.knows r.known h) (kn.knows n.known g)
  pub now : this

-- an answered seek to x leaves the place where it was, or goes to x, which is not before it; and it goes there where nothing is due
pub record IsSoughtTo (x : Pos) (s t : Spot) : Type 0 where
  pub stands : (stand t ≡ stand s) ⊎ (Reaches (stand s) x × (stand t ≡ x))
  pub idle : front s ≡ [] → Reaches (stand s) x → stand t ≡ x

-- a call for the head leaves the place, and what is due there; a seek leaves the place where it was, or goes where it is sent
abbrev pub IsGoneTo : Call → Bool → Spot → Spot → Type 0
IsGoneTo OfHead ok s t = t ≡ s
IsGoneTo (OfSeek x) true s t = IsSoughtTo x s t
IsGoneTo (OfSeek x) false s t = stand t ≡ stand s
IsGoneTo (OfNext y) ok s t = ⊤

-- a call of a reader is a chain of calls of its parts, a refused one last, and goes on, to the same end; where what it passes is known, of the snapshot alone, and it still is known; where the filler may fill and nothing was lost, what it passed is known afterwards; so it is where the stream below answered nothing; of the writes of which it was a reader it is one still
pub record ReaderDid {K F P H W : Type 0} (kn : OfKnown K H) (be : OfBelow F H W) (fi : OfFiller P H) (r : CacheReader K F P) (h : H) (w : W) (c : Call) (ok : Bool) (n : CacheReader K F P) (g : H) (v : W) : Type 0 where
  pub calls : InTurn (ReaderCall kn be fi c) ok (reader_state r h w) (reader_state n g v)
  pub on : Reaches (stand r.spot) (stand n.spot)
  pub gone : IsGoneTo c ok r.spot n.spot
  pub to : n.to ≡ r.to
  pub quiet : IsKnownFor c (kn.knows r.known h) (kn.heads r.known h) (stand r.spot) r.to → CallsSnapshotAlone kn ok (reader_state r h w) (reader_state n g v) × IsKnownFor c (kn.knows n.known g) (kn.heads n.known g) (stand n.spot) n.to
  pub filled : ReaderFilled kn fi r.known r.filler h n.known n.filler g (IsFilledFor c ok (kn.knows n.known g) (kn.heads n.known g) (stand r.spot) (stand n.spot))
  pub unanswered : ok ≡ true → (AnswersBelow be r.below w → ⊥) → Unanswered kn r h w n g v (IsFilledFor c ok (kn.knows n.known g) (kn.heads n.known g) (stand r.spot) (stand n.spot))
  pub stays : StaysReader kn be fi r h w n g v

-- what calls of a reader may make of a home and a store: calls of its parts, whichever they are
pub record ReaderMoves {K F P H W : Type 0} (kn : OfKnown K H) (be : OfBelow F H W) (fi : OfFiller P H) (h : H) (w : W) (g : H) (v : W) : Type 0 where
  pub s : K × F × P
  pub t : K × F × P
  pub c : Call
  pub ok : Bool
  pub calls : InTurn (ReaderCall kn be fi c) ok (s.0, s.1, s.2, h, w) (t.0, t.1, t.2, g, v)
