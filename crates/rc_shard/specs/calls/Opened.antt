-- How a reader is opened over what tells what the tables say, and how its snapshots are taken back.
--     IsReadWhole, IsReadSource    what was read is a partition's stream from its beginning; it is that, and no snapshot
--     TellsBelow        it tells what the tables say, joined
--     IsOpenedOver      what is left to a reader that is opened
--     IsReaderPinned    behind the open readers stands one more, over it
--     AreBothReleased   both snapshots of what is written were taken back
--     IsSourceLetGo     a snapshot of the row cache was taken back, if there was one
--     AreHeldReleased   all snapshots of a reader were taken back
use Rattle.std.specs.Prelude.{◌≡◌, ◌++◌, ◌∷◌, [], ℕ, ⊤, List, Option, Some, None}
use Rattle.rc_position.specs.declared.slices.Slice.{Slice}
use Rattle.rc_schema.specs.SchemaValue.{SchemaValue}
use Rattle.rc_mutation.specs.declared.mutations.Mutation.{Mutation}
use Rattle.rc_mutation.specs.declared.mutations.Write.{Write}
use Rattle.rc_mutation.specs.Fragments.{fragments}
use Rattle.rc_mutation.specs.Source.{IsJoinOf, IsMutation}
use Rattle.rc_query.specs.declared.lines.OutLine.{OutLine}
use Rattle.rc_query.specs.Answer.{answer}
use Rattle.rc_memory.specs.Memory.{HasPin, Memory}
use Rattle.rc_chain.specs.declared.chains.Snap.{Snap}
use Rattle.rc_stream.specs.Stream.{stream_of}
use Rattle.rc_snapshots.specs.declared.snaps.Snaps.{Snaps}
use Rattle.rc_snapshots.specs.Seeing.{StillSees}
use Rattle.rc_lookup.specs.LetGo.{TakesNoMore}
use Rattle.rc_lookup.specs.Memtables.{HaveWrites, in_chains}
use Rattle.rc_lookup.specs.Readers.{IsNoneOf, IsReleasedIf}
use Rattle.rc_lookup.specs.Steps.{AreSameKeys}
use Rattle.rc_lookup.specs.Unstored.{Unstored}
use Rattle.rc_paging.specs.declared.forms.PartReader.{PartReader}
use Rattle.rc_paging.specs.declared.layers.HeldSnaps.{HeldSnaps}
use Rattle.rc_paging.specs.Forms.{ByForm}
use Rattle.rc_paging.specs.Pages.{StandsCached}
use Rattle.rc_machine.specs.State.{Reader}
use Rattle.rc_shard.specs.declared.readers.PartitionReader.{PartitionReader}
use Rattle.rc_shard.specs.declared.readers.Source.{Source}
use Rattle.rc_shard.specs.declared.readers.Source.TheVariants.{Cached, Read}
use Rattle.rc_shard.specs.Opening.{PinsPartition}
use Rattle.rc_shard.specs.Readers.{IsReadOver, cached_of}
use Rattle.rc_shard.specs.Releasing.{IsSnapGivenBack}
use Rattle.rc_shard.specs.calls.Caching.{KeepsCache}
use Rattle.rc_shard.specs.calls.Looking.{source_snap}
use Rattle.rc_shard.specs.calls.Storing.{KeepsUnstored}

-- what was read of a partition is the stream of a mutation from its beginning
abbrev pub IsReadWhole : Source → Type 0
IsReadWhole (Cached s) = ⊤
IsReadWhole (Read list) = (tabled : Mutation) × IsMutation tabled × (list ≡ stream_of (fragments tabled))

-- what tells what the tables say is what was read of them
abbrev pub IsReadSource : Source → Type 0
IsReadSource (Cached s) = ⊥
IsReadSource (Read list) = ⊤

-- changes are one mutation, to which others join
pub record AreJoined (below said : List Mutation) : Type 0 where
  pub join : Mutation
  pub is : below ≡ join ∷ []
  pub mutation : IsMutation join
  pub joined : IsJoinOf join said

-- what tells what the tables say tells this: a snapshot stands for it, joined; or it was read
abbrev pub TellsBelow : Memory → Source → (below said : List Mutation) → Type 0
TellsBelow m (Cached s) below said = StandsCached 131072 below m s × AreJoined below said
TellsBelow m (Read list) below said = (tabled : Mutation) × IsMutation tabled × (list ≡ stream_of (fragments tabled)) × IsJoinOf tabled said

-- what lies below a reader that is opened, where it reads over the row cache
abbrev pub below_if : Option Snap → List Mutation → List Mutation
below_if None below = []
below_if (Some s) below = below

-- A reader that is opened is left the answer in its slice to what the tables say, and then to what is sealed and written since; over the row cache it reads what the machine's reader does.
pub record IsOpenedOver (lines : PartReader → Memory → List Mutation → List OutLine → Type 0) (schema : SchemaValue) (m : Memory) (slice : Slice) (below said sealed active : List Mutation) (o : PartitionReader) : Type 0 where
  pub left : lines o.reader m (below_if (cached_of o) below) (answer (said ++ (sealed ++ active)) slice)
  pub over : (r : Reader) → r.slice ≡ slice → r.settled ≡ 0 → r.said ≡ said → r.writes ≡ sealed ++ active → ByForm (λ c. IsReadOver schema (below_if c.held.cached below) m c r) (λ _. ⊤) o.reader

-- behind the open readers stands one more, with this id, which pins a partition, over what tells what the tables say
abbrev pub IsReaderPinned : ℕ → List ℕ → Source → List (ℕ × PartitionReader) → Unstored 131072 → List (ℕ × PartitionReader) → Unstored 131072 → Type 0
IsReaderPinned id key source readers old readers' new = (o : PartitionReader) × (readers' ≡ readers ++ (id, o) ∷ []) × (cached_of o ≡ source_snap source) × PinsPartition key old new o

-- both snapshots of what is written were taken back; all others see what they saw
pub record AreBothReleased (snaps : Snaps) (old new : Unstored 131072) : Type 0 where
  pub stands : (schema : SchemaValue) (writes later : List Write) → HaveWrites schema old writes later → HaveWrites schema new writes later
  pub others : (s : Snap) → IsNoneOf snaps s → HasPin old.chains s.chain s.pin → StillSees s old.chains new.chains
  pub room : TakesNoMore old.chains new.chains
  pub released : (mid : Memory) × IsReleasedIf snaps.sealed old.chains mid × IsReleasedIf snaps.active mid new.chains
  pub keys : AreSameKeys old new

-- what was written stays, and what the row cache has; then the snapshot of it that was to be read was taken back, if there was one
abbrev pub IsSourceLetGo : Option Snap → SchemaValue → Unstored 131072 → Unstored 131072 → Type 0
IsSourceLetGo snap schema old new = (mid : Unstored 131072) × KeepsUnstored schema old mid × IsSnapGivenBack snap mid.chains new.chains × (new ≡ in_chains new.chains mid)

-- all snapshots of a reader were taken back: that of the row cache, if there was one, and then those of what is written
pub record AreHeldReleased (held : HeldSnaps) (old new : Unstored 131072) : Type 0 where
  pub mid : Memory
  pub past : IsSnapGivenBack held.cached old.chains mid
  pub both : AreBothReleased held.written (in_chains mid old) new
  pub cache : KeepsCache mid new.chains
  pub counts : new.chains.counts ≡ old.chains.counts
