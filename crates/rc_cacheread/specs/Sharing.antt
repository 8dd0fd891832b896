-- How the parts of a reader go together over a home and a store: what each leaves to the others.
--     Fits       a stream below is in order, from the place on
--     Leads      what all streams say that may stand below is what writes say
--     IsFillerOf    a filler is that of a snapshot, over whichever home
--     Fit        the calls of all parts may be made, and what is known is what all writes say for which the filler stands
--     Shares     a call of one part leaves the others as they need to be
--     IsReaderOf, StaysReader    the writes that a reader reads; it is afterwards a reader of those of which it was one
--     IsReady    all that a reader needs
--     SeesOf, Sees    it stands for a stream of these writes; it stands for a stream
use Rattle.std.specs.Prelude.{◌≡◌, ◌↔◌, ◌⊎◌, ◌≤◌, ℕ, Bool, true, false, IsTrue, List, ◌++◌, Option, None}
use Rattle.rc_cell.specs.declared.rows.Row.{Row}
use Rattle.rc_cell.specs.declared.writes.Tomb.{Tomb}
use Rattle.rc_position.specs.declared.positions.Pos.{Pos}
use Rattle.rc_position.specs.Position.{IsBefore}
use Rattle.rc_mutation.specs.declared.fragments.Frag.{Frag}
use Rattle.rc_mutation.specs.declared.fragments.HeadAt.{HeadAt}
use Rattle.rc_mutation.specs.declared.mutations.Mutation.{Mutation}
use Rattle.rc_mutation.specs.Source.{source_at_head, source_at_static}
use Rattle.rc_stream.specs.Did.{Call}
use Rattle.rc_stream.specs.Merging.{IsOrdered}
use Rattle.rc_stream.specs.Places.{Reaches}
use Rattle.rc_stream.specs.Snapshot.{SameKnown, SayThere, There, Unlost}
use Rattle.rc_stream.specs.Stream.{Stream}
use Rattle.rc_cacheread.specs.declared.readers.CacheReader.{CacheReader}
use Rattle.rc_cacheread.specs.declared.readers.Stage.{Stage}
use Rattle.rc_cacheread.specs.declared.readers.Stage.TheVariants.{Away, Sought, Within}
use Rattle.rc_cacheread.specs.declared.spots.Spot.{Spot}
use Rattle.rc_cacheread.specs.Reading.{AreRowsApart, Reads, StandFrom, said_at}
use Rattle.rc_cacheread.specs.Spots.{front, stand, tomb_told}

-- ---- the words of the parts

-- what a contract sees of a snapshot that is read by its parts
pub record OfKnown (K H : Type 0) : Type 1 where
  pub ready : K → H → Type 0
  pub place : K → Pos
  pub knows : K → H → Pos → There → Type 0
  pub heads : K → H → HeadAt → Type 0
  pub did : K → H → Call → Bool → K → H → Type 0

-- what a contract sees of the stream below
pub record OfBelow (F H W : Type 0) : Type 1 where
  pub ready : F → H → W → Type 0
  pub seen : F → H → W → Stream → Type 0
  pub ahead : F → Pos → Type 0
  pub moves : H → W → H → W → Type 0
  pub did : F → H → W → Call → Bool → F → H → W → Type 0

-- what a contract sees of a filler
pub record OfFiller (P H : Type 0) : Type 1 where
  pub ready : P → H → Type 0
  pub fits : P → Pos → Type 0
  pub may : P → H → Type 0
  pub lost : H → ℕ
  pub stands : P → H → List Mutation → Type 0
  pub knows : P → H → Pos → There → Type 0
  pub knows_statics : P → H → Row → Type 0
  pub fills : P → H → P → H → Type 0

-- these words together
abbrev pub of_known : {K H : Type 0} → (K → H → Type 0) → (K → Pos) → (K → H → Pos → There → Type 0) → (K → H → HeadAt → Type 0) → (K → H → Call → Bool → K → H → Type 0) → OfKnown K H
of_known a b c d e = record { ready = a; place = b; knows = c; heads = d; did = e }

-- these words together
abbrev pub of_below : {F H W : Type 0} → (F → H → W → Type 0) → (F → H → W → Stream → Type 0) → (F → Pos → Type 0) → (H → W → H → W → Type 0) → (F → H → W → Call → Bool → F → H → W → Type 0) → OfBelow F H W
of_below a b c d e = record { ready = a; seen = b; ahead = c; moves = d; did = e }

-- these words together
abbrev pub of_filler : {P H : Type 0} → (P → H → Type 0) → (P → Pos → Type 0) → (P → H → Type 0) → (H → ℕ) → (P → H → List Mutation → Type 0) → (P → H → Pos → There → Type 0) → (P → H → Row → Type 0) → (P → H → P → H → Type 0) → OfFiller P H
of_filler a b c d e f g h = record { ready = a; fits = b; may = c; lost = d; stands = e; knows = f; knows_statics = g; fills = h }

-- ---- what one part leaves to the others

-- the filler is that of this snapshot, over whichever home: it knows what the snapshot knows, the static row too; where it is ready and stands for writes the snapshot can be read, and where it stands for writes their partition tombstone is at the head
pub record IsFillerOf {K P H : Type 0} (kn : OfKnown K H) (fi : OfFiller P H) (k : K) (p : P) : Type 0 where
  pub reads : (g : H) (writes : List Mutation) → fi.ready p g → fi.stands p g writes → kn.ready k g
  pub same : (g : H) → SameKnown (fi.knows p g) (kn.knows k g)
  pub same_statics : (g : H) (row : Row) (at : HeadAt) → kn.heads k g at → fi.knows_statics p g row ↔ (IsTrue at.known × (at.head.statics ≡ row))
  pub pts : (g : H) (writes : List Mutation) → fi.stands p g writes → (at : HeadAt) → kn.heads k g at → at.head.pt ≡ source_at_head writes

-- the calls of all parts may be made; the filler is the snapshot's; what is known is what all writes say for which the filler stands; the filler knows what the snapshot knows
pub record Fit {K F P H W : Type 0} (kn : OfKnown K H) (be : OfBelow F H W) (fi : OfFiller P H) (k : K) (b : F) (p : P) (h : H) (w : W) : Type 0 where
  pub known : kn.ready k h
  pub below : be.ready b h w
  pub filler : fi.ready p h
  pub pair : IsFillerOf kn fi k p
  pub sound : (writes : List Mutation) → fi.stands p h writes → (x : Pos) (v : There) → kn.knows k h x v → SayThere writes x v
  pub sound_statics : (writes : List Mutation) → fi.stands p h writes → (at : HeadAt) → kn.heads k h at → IsTrue at.known → source_at_static writes ≡ at.head.statics
  pub same : SameKnown (fi.knows p h) (kn.knows k h)
  pub same_statics : (row : Row) → fi.knows_statics p h row → (at : HeadAt) → kn.heads k h at → IsTrue at.known

-- the static row is known
abbrev pub IsStaticRowKnown : (HeadAt → Type 0) → Type 0
IsStaticRowKnown heads = (at : HeadAt) → heads at → IsTrue at.known

-- the partition tombstone is as it was, what may be filled still may be, and what was lost is not forgotten; where nothing was lost, a static row that was known still is
pub record Kept {K P H : Type 0} (kn : OfKnown K H) (fi : OfFiller P H) (k : K) (p : P) (h : H) (l : K) (q : P) (g : H) : Type 0 where
  pub pts : (at : HeadAt) → kn.heads l g at → (before : HeadAt) × kn.heads k h before × (before.head.pt ≡ at.head.pt)
  pub may : fi.may p h → fi.may q g
  pub lost : fi.lost h ≤ fi.lost g
  pub static_row : Unlost (fi.may p h) (fi.lost h) (fi.lost g) (IsStaticRowKnown (kn.heads k h) → IsStaticRowKnown (kn.heads l g))

-- the filler stands for the writes for which it stood
abbrev pub StillStands : {P H : Type 0} → OfFiller P H → P → H → P → H → Type 0
StillStands fi p h q g = (writes : List Mutation) → fi.stands p h writes → fi.stands q g writes

-- a call of one part leaves what the others need, and for which writes the filler stands is changed by fills alone; each position fits the filler; over a home a snapshot has one head, and knows one thing at a position
pub record Shares {K F P H W : Type 0} (kn : OfKnown K H) (be : OfBelow F H W) (fi : OfFiller P H) : Type 0 where
  pub after_known : (k : K) (b : F) (p : P) (h : H) (w : W) (c : Call) (ok : Bool) (l : K) (g : H) → Fit kn be fi k b p h w → kn.did k h c ok l g
      → Fit kn be fi l b p g w × Kept kn fi k p h l p g × StillStands fi p h p g × ((at : HeadAt) → kn.heads l g at → kn.heads k h at) × ((s : Stream) → be.seen b h w s → be.seen b g w s)
  pub after_below : (k : K) (b c : F) (p : P) (h : H) (w : W) (g : H) (v : W) → Fit kn be fi k b p h w → be.moves h w g v → be.ready c g v
      → Fit kn be fi k c p g v × Kept kn fi k p h k p g × StillStands fi p h p g × SameKnown (kn.knows k h) (kn.knows k g)
  pub after_fill : (k : K) (b : F) (p : P) (h : H) (w : W) (q : P) (g : H) → Fit kn be fi k b p h w → fi.fills p h q g
      → Fit kn be fi k b q g w × Kept kn fi k p h k q g × ((s : Stream) → be.seen b h w s → be.seen b g w s)
  pub fits : (p : P) (x : Pos) → fi.fits p x
  pub one_head : (k : K) (h : H) (a b : HeadAt) → kn.heads k h a → kn.heads k h b → a ≡ b
  pub one_there : (k : K) (h : H) (x : Pos) (v w : There) → kn.knows k h x v → kn.knows k h x w → v ≡ w

-- ---- the stream below

-- a stream below is in order; where it was sought, it stands from x on, and the tombstone before it is none, or the one in force at x
abbrev pub Fits : Stage → Pos → Option Tomb → Stream → Type 0
Fits Away x tomb t = IsOrdered t.left × AreRowsApart t.left
Fits Sought x tomb t = IsOrdered t.left × AreRowsApart t.left × StandFrom x t.left × (t.tomb ≡ None)
Fits Within x tomb t = IsOrdered t.left × AreRowsApart t.left × StandFrom x t.left × (t.tomb ≡ tomb)

-- what each stream says that may stand below is what writes say, from x on and before `to`; and its static row is theirs
pub record Leads (writes : List Mutation) (seen : Stream → Type 0) (stage : Stage) (x to : Pos) (tomb : Option Tomb) : Type 0 where
  pub each : (y : Pos) (v : There) → Reaches x y → IsBefore y to → ((t : Stream) → seen t → Fits stage x tomb t → v ≡ said_at y t.tomb t.left) → SayThere writes y v
  pub static_row : (row : Row) → ((t : Stream) → seen t → Fits stage x tomb t → row ≡ t.head.statics) → source_at_static writes ≡ row

-- the head is known, and each position from x on and before `to`
pub record IsAllKnown (knows : Pos → There → Type 0) (heads : HeadAt → Type 0) (x to : Pos) : Type 0 where
  pub each : (y : Pos) → Reaches x y → IsBefore y to → ((v : There) × knows y v)
  pub head : IsStaticRowKnown heads

-- a stream stands below that says what these fragments say, from the place on and before `to`
pub record IsSaidBelow (seen : Stream → Type 0) (stage : Stage) (to : Pos) (s : Spot) (fs : List Frag) (statics : Row) : Type 0 where
  pub stream : Stream
  pub stands : seen stream
  pub fits : Fits stage (stand s) s.tomb stream
  pub says : (y : Pos) → Reaches (stand s) y → IsBefore y to → said_at y stream.tomb stream.left ≡ said_at y s.tomb fs
  pub static_row : stream.head.statics ≡ statics

-- ---- the reader

-- the snapshot's place is where nothing was read from, or before it where it lags
abbrev pub IsPlaceAt : Bool → Pos → Pos → Type 0
IsPlaceAt true place x = Reaches place x
IsPlaceAt false place x = place ≡ x

-- it is a reader of these writes: its filler stands for them; and all of the slice is known, or what may stand below is what they say there
pub record IsReaderOf {K F P H W : Type 0} (kn : OfKnown K H) (be : OfBelow F H W) (fi : OfFiller P H) (writes : List Mutation) (r : CacheReader K F P) (h : H) (w : W) : Type 0 where
  pub stands : fi.stands r.filler h writes
  pub covered : IsAllKnown (kn.knows r.known h) (kn.heads r.known h) (stand r.spot) r.to ⊎ Leads writes (be.seen r.below h w) r.stage (stand r.spot) r.to r.spot.tomb

-- it is a reader afterwards of the writes of which it was one
abbrev pub StaysReader : {K F P H W : Type 0} → OfKnown K H → OfBelow F H W → OfFiller P H → CacheReader K F P → H → W → CacheReader K F P → H → W → Type 0
StaysReader kn be fi r h w n g v = (writes : List Mutation) → IsReaderOf kn be fi writes r h w → IsReaderOf kn be fi writes n g v

-- all that a reader needs: its parts go together, and there are writes of which it is a reader
pub record IsReady {K F P H W : Type 0} (kn : OfKnown K H) (be : OfBelow F H W) (fi : OfFiller P H) (r : CacheReader K F P) (h : H) (w : W) : Type 0 where
  pub fit : Fit kn be fi r.known r.below r.filler h w
  pub shares : Shares kn be fi
  pub writes : List Mutation
  pub reads : IsReaderOf kn be fi writes r h w
  pub ahead : (x : Pos) → Reaches (stand r.spot) x → be.ahead r.below x
  pub place : IsPlaceAt r.lags (kn.place r.known) (stand r.spot)

-- it stands for a stream of these writes: what is due, and then what they say
pub record SeesOf {K F P H W : Type 0} (kn : OfKnown K H) (be : OfBelow F H W) (writes : List Mutation) (r : CacheReader K F P) (h : H) (w : W) (s : Stream) : Type 0 where
  pub rest : List Frag
  pub tomb : s.tomb ≡ tomb_told r.spot
  pub left : s.left ≡ front r.spot ++ rest
  pub reads : Reads (SayThere writes) (stand r.spot) r.to r.spot.tomb rest
  pub pt : (at : HeadAt) → kn.heads r.known h at → at.head.pt ≡ s.head.pt
  pub static_row : source_at_static writes ≡ s.head.statics
  pub below : IsAllKnown (kn.knows r.known h) (kn.heads r.known h) (stand r.spot) r.to ⊎ IsSaidBelow (be.seen r.below h w) r.stage r.to r.spot rest s.head.statics

-- it stands for a stream: one of writes of which it is a reader
pub record Sees {K F P H W : Type 0} (kn : OfKnown K H) (be : OfBelow F H W) (fi : OfFiller P H) (r : CacheReader K F P) (h : H) (w : W) (s : Stream) : Type 0 where
  pub writes : List Mutation
  pub reads : IsReaderOf kn be fi writes r h w
  pub says : SeesOf kn be writes r h w s
