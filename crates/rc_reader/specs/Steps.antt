-- What the calls of a reader did to its stream, its home and its store.
--     MayGive        a reader may be read on
--     OneStep        one call of a stream
--     OpenCalls        the head, and then a seek
--     GoesNoFurther  where a read ends
--     AreFoundBefore    where the first lines of a slice end
--     MovedOn        what any number of calls make of a home and a store
use Rattle.std.specs.Prelude.{◌≡◌, ◌⊎◌, ◌<◌, ℕ, Bool, true, false, length, Result, Ok, Err}
use Rattle.rc_position.specs.declared.positions.Pos.{Pos}
use Rattle.rc_position.specs.declared.slices.Slice.{Slice}
use Rattle.rc_stream.specs.declared.streams.StreamErr.{StreamErr}
use Rattle.rc_stream.specs.Did.{Call, Deed, Call.OfHead, Call.OfSeek}
use Rattle.rc_stream.specs.Moving.{Moves}
use Rattle.rc_stream.specs.Places.{Reaches}
use Rattle.rc_stream.specs.Stream.{Stream}
use Rattle.rc_reader.specs.declared.readers.Reader.{Reader}
use Rattle.rc_reader.specs.declared.work.Work.{Work}
use Rattle.rc_reader.specs.Left.{lines_before, slice_lines}

-- a reader may be read on over a home and a store: its stream is ready there
abbrev pub MayGive : {S H W : Type 0} → (S → H → W → Type 0) → Reader S → H → W → Type 0
MayGive ready r h w = ready r.stream h w

-- a stream, a home and a store, before and after this call of the stream
abbrev pub OneStep : {S H W : Type 0} → Deed S H W → Call → Bool → S × H × W → S × H × W → Type 0
OneStep did c ok s t = did s.0 s.1 s.2 c ok t.0 t.1 t.2

-- before and after a call for the head, and then a seek to x; where one was refused, none followed
abbrev pub OpenCalls : {S H W : Type 0} → Deed S H W → Pos → Bool → S × H × W → S × H × W → Type 0
OpenCalls {S} {H} {W} did x true s t = (u : S × H × W) × OneStep did OfHead true s u × OneStep did (OfSeek x) true u t
OpenCalls {S} {H} {W} did x false s t = OneStep did OfHead false s t ⊎ ((u : S × H × W) × OneStep did OfHead true s u × ((u ≡ t) ⊎ OneStep did (OfSeek x) false u t))

-- a read of so many lines takes nothing behind y: y is not before the end of the slice, or more lines are left before y, of one of the streams
-- that are stood for
abbrev pub GoesNoFurther : (Stream → Type 0) → Work → ℕ → Pos → Type 0
GoesNoFurther seen work count y = Reaches work.to y ⊎ ((s : Stream) × seen s × (count < length (lines_before y work s.left)))

-- the first lines of a slice, so many and one more, are found before y: y is not before the end of the slice, or more lines than these stand in the
-- slice before y, of one of the streams that are stood for
abbrev pub AreFoundBefore : (Stream → Type 0) → Slice → ℕ → Pos → Type 0
AreFoundBefore seen slice count y = Reaches slice.to y ⊎ ((s : Stream) × seen s × (count < length (slice_lines (record slice { to = y }) s)))

-- what any number of calls make of a home and a store
abbrev pub MovedOn : {H W : Type 0} → (H → W → H → W → Type 0) → H → W → H → W → Type 0
MovedOn moves h w g v = (n : ℕ) × Moves moves n h w g v

-- the stream of a reader that was opened, and the one that is given back where that was refused
abbrev pub stream_after : {S : Type 0} → Result (Reader S) (S × StreamErr) → S
stream_after (Ok r) = r.stream
stream_after (Err e) = e.0

-- an answer, or why it was refused, without the stream that is given back
abbrev pub without_stream : {S T : Type 0} → Result T (S × StreamErr) → Result T StreamErr
without_stream (Ok value) = Ok value
without_stream (Err e) = Err e.1
