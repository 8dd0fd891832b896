-- A stream over tables, which is read at its first call.
use Rattle.std.specs.Prelude.{◌≡◌, ℕ, ◌+◌, ◌≤◌, ◌*◌, Bool, IsTrue, IsSome, List, Option, Some, None}
use Rattle.rc_outside.specs.Files.{Files}
use Rattle.rc_schema.specs.SchemaValue.{SchemaValue}
use Rattle.rc_mutation.specs.declared.mutations.Mutation.{Mutation}
use Rattle.rc_mutation.specs.Fragments.{fragments}
use Rattle.rc_mutation.specs.Source.{IsMutation}
use Rattle.rc_stream.specs.Stream.{Stream, stream_of}
use Rattle.rc_tfile.specs.declared.info.TableInfo.{TableInfo}
use Rattle.rc_tables.specs.Located.{WhereTold}
use Rattle.rc_stream.specs.Showing.{IsFromStart}
use Rattle.rc_stream.specs.declared.streams.StreamErr.TheVariants.{Damaged}
use Rattle.rc_tables.specs.Tables.{AreHeld, IsDamageOf, IsSomeJoin, IsStreamAt, listing}

-- what is known of the tables, their schema, the key, and what is left once it was read
pub record Lazy : Type 0 where
  pub infos : List TableInfo
  pub schema : SchemaValue
  pub key : List ℕ
  pub read : Option Stream

-- what was read, or else what the files hold
abbrev pub IsRead : Option Files → SchemaValue → List TableInfo → List ℕ → Option Stream → Stream → Type 0
IsRead files schema infos key None stream = IsStreamAt files schema infos key stream
IsRead files schema infos key (Some read) stream = stream ≡ read

-- over these files it stands for this stream (where the files are not told and it is not read yet, perhaps for none)
abbrev pub IsLazyOf : Option Files → Lazy → Stream → Type 0
IsLazyOf files t stream = IsRead files t.schema t.infos t.key t.read stream

-- its calls may be made over these files: where they are told, they are those of its tables
abbrev pub MayBeCalledOver : Option Files → Lazy → Type 0
MayBeCalledOver files t = WhereTold files (AreHeld files t.schema t.infos)

-- how many ranges may still be asked for: two of each table that lists the key, none once it was read
abbrev pub to_ask : Option Stream → ℕ → ℕ
to_ask None tables = 2 * tables
to_ask (Some read) tables = 0

-- the same of a stream
abbrev pub asks_left : Lazy → ℕ
asks_left t = to_ask t.read (listing t.key t.infos)

-- what a call, answered or refused, asked for: no more than was left to ask for; where it was answered, it and what is left to ask for are no
-- more than what was, and all is read; what was read stays so, and nothing is asked for any more
pub record DidAsk (ok : Bool) (t : Lazy) (before : ℕ) (t' : Lazy) (now : ℕ) : Type 0 where
  pub most : now ≤ before + asks_left t
  pub left : asks_left t' ≤ asks_left t
  pub sum : IsTrue ok → now + asks_left t' ≤ before + asks_left t
  pub read : IsTrue ok → IsSome t'.read
  pub quiet : IsSome t.read → (now ≡ before) × IsSome t'.read

-- a stream is that of a mutation that is the join of some changes of a key, at most one of each table that lists it, each within the limits and of the
-- schema
pub record IsSomeStream (schema : SchemaValue) (infos : List TableInfo) (key : List ℕ) (stream : Stream) : Type 0 where
  pub join : Mutation
  pub mutation : IsMutation join
  pub some : IsSomeJoin schema infos key join
  pub fragments : stream ≡ stream_of (fragments join)

-- what was read, or else what some files may give
abbrev pub MayRead : SchemaValue → List TableInfo → List ℕ → Option Stream → Stream → Type 0
MayRead schema infos key None stream = IsSomeStream schema infos key stream
MayRead schema infos key (Some read) stream = stream ≡ read

-- the streams that it may turn out to stand for, whatever the files hold
abbrev pub MayBe : Lazy → Stream → Type 0
MayBe t stream = MayRead t.schema t.infos t.key t.read stream

-- a stream that it might stand for is what was read, and of it this is left
pub record Settled (t t' : Lazy) (of left : Stream) : Type 0 where
  pub might : MayBe t of
  pub read : t'.read ≡ Some left

-- it is of the same tables, schema and key
pub record SameTables (t t' : Lazy) : Type 0 where
  pub infos : t'.infos ≡ t.infos
  pub schema : t'.schema ≡ t.schema
  pub key : t'.key ≡ t.key

-- what was read, if it was, is whole
abbrev pub IsFresh : Lazy → Type 0
IsFresh t = (s : Stream) → t.read ≡ Some s → IsFromStart s

-- a file, and an offset in it, that may be named as damaged: of a table that lists the key
abbrev pub MayBlame : Lazy → (file offset : ℕ) → Type 0
MayBlame t file offset = IsDamageOf t.schema t.key t.infos (Damaged file offset)
