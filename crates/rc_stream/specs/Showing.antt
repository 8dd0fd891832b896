-- What a stream turns out to stand for, whatever its store tells, and what its calls name as damaged.
--     IsFromStart    a stream in order, from its beginning
--     ShowsOne       a head shows for which of the streams that might be a stream stands
--     Blames         a refused call names as damaged what the stream may name
use Rattle.std.specs.Prelude.{◌≡◌, ◌⊎◌, ℕ, ⊤, None, Result, IfErr}
use Rattle.rc_mutation.specs.declared.fragments.Head.{Head}
use Rattle.rc_stream.specs.declared.streams.StreamErr.{StreamErr}
use Rattle.rc_stream.specs.declared.streams.StreamErr.TheVariants.{Fault, Damaged, NoMemory}
use Rattle.rc_stream.specs.Merging.{IsOrdered, merged_stream}
use Rattle.rc_stream.specs.Stream.{Stream}

-- a stream from its beginning: no tombstone is in force before its first, and its rows and changes are in order
abbrev pub IsFromStart : Stream → Type 0
IsFromStart s = (s.tomb ≡ None) × IsOrdered s.left

-- a head is that of a whole stream, one of those that might be, and this one is stood for
pub record ShowsOne (might stands : Stream → Type 0) (head : Head) : Type 0 where
  pub stream : Stream
  pub possible : might stream
  pub whole : IsFromStart stream
  pub stood : stands stream
  pub of_it : head ≡ stream.head

-- a stream is the merge of two, one of each kind
pub record MergesTwo (P Q : Stream → Type 0) (s : Stream) : Type 0 where
  pub ours : Stream
  pub theirs : Stream
  pub first : P ours
  pub second : Q theirs
  pub joins : s ≡ merged_stream ours theirs

-- files and offsets in them
abbrev pub FileSpots : Type 1
FileSpots = (file offset : ℕ) → Type 0

-- those of one kind or of another
abbrev pub EitherSpot : FileSpots → FileSpots → FileSpots
EitherSpot P Q file offset = P file offset ⊎ Q file offset

-- where a refusal names a file as damaged, it is at one of these spots
abbrev pub IsNamed : FileSpots → StreamErr → Type 0
IsNamed spots Fault = ⊤
IsNamed spots (Damaged file offset) = spots file offset
IsNamed spots NoMemory = ⊤

-- a call that may name these spots as damaged names no other one, and leaves no more to be named
pub record Blames {T : Type 0} (spots now : FileSpots) (result : Result T StreamErr) : Type 0 where
  pub named : IfErr result (IsNamed spots)
  pub less : (file offset : ℕ) → now file offset → spots file offset
