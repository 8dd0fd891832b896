-- The open readers of a shard beside those of the machine.
--     written_snaps_of, cached_of    the snapshots that a reader holds: of what is written, and of the row cache
--     AreOfTwo, AreHeldThere      its snapshots are there
--     ShareNone, AreTwo      no two readers share a snapshot or an id
--     IsOfItsKey             the chain of a reader's snapshot is no other partition's
--     number_of_snaps, cached_readers    how many hold a snapshot of the row cache
--     WasOpened              the tables that a reader was opened over are the first ones
--     IsReadOver             a reader over the row cache reads what the machine's does
--     IsServed               an open reader is the machine's
use Rattle.std.specs.Prelude.{◌≡◌, ◌≤◌, ℕ, ⊤, List, [], ◌∷◌, ◌++◌, Option, Some, None, IfSome, MatchOption, sum_by}
use Rattle.rc_schema.specs.SchemaValue.{SchemaValue}
use Rattle.rc_mutation.specs.declared.mutations.Mutation.{Mutation}
use Rattle.rc_mutation.specs.Source.{IsJoinOf, IsMutation}
use Rattle.rc_query.specs.declared.lines.OutLine.{OutLine}
use Rattle.rc_memory.specs.Memory.{Memory}
use Rattle.rc_chain.specs.declared.chains.Snap.{Snap}
use Rattle.rc_snapshots.specs.declared.snaps.Snaps.{Snaps}
use Rattle.rc_snapshots.specs.Seeing.{AreThere}
use Rattle.rc_tfile.specs.declared.info.TableInfo.{TableInfo}
use Rattle.rc_tables.specs.Tables.{listing}
use Rattle.rc_lookup.specs.Found.{entry_number}
use Rattle.rc_lookup.specs.Readers.{IsNoneOf}
use Rattle.rc_cached.specs.Stands.{HasCacheSnapshot}
use Rattle.rc_opened.specs.Opened.{AreChangesOf}
use Rattle.rc_paging.specs.declared.forms.PartReader.{PartReader}
use Rattle.rc_paging.specs.declared.layers.HeldSnaps.{HeldSnaps}
use Rattle.rc_paging.specs.declared.pages.OpenReader.{OpenReader}
use Rattle.rc_paging.specs.Forms.{ByForm, held_by}
use Rattle.rc_paging.specs.Pages.{StandFor}
use Rattle.rc_paging.specs.Remainders.{IsRemainderOf}
use Rattle.rc_folder.specs.Tabled.{IsSaidByFirst}
use Rattle.rc_machine.specs.State.{Reader, State, rest_of}
use Rattle.rc_shard.specs.declared.readers.PartitionReader.{PartitionReader}

-- the snapshots that a reader holds of what stands in no table
abbrev pub written_snaps_of : PartitionReader → Snaps
written_snaps_of o = (held_by o.reader).written

-- the one that it holds of the row cache, if it reads over that
abbrev pub cached_of : PartitionReader → Option Snap
cached_of o = (held_by o.reader).cached

-- two snapshots are of two chains
abbrev pub AreOfTwo : Snaps → Type 0
AreOfTwo snaps = IfSome snaps.sealed (λ s. IfSome snaps.active (λ t. s.chain ≡ t.chain → ⊥))

-- a snapshot of the row cache is there, where there is one
abbrev pub IsCachedThere : Memory → Option Snap → Type 0
IsCachedThere m snap = IfSome snap (λ s. HasCacheSnapshot m s.chain s.pin)

-- what a reader holds is there, and its snapshots of what is written are of two chains
pub record AreHeldThere (m : Memory) (held : HeldSnaps) : Type 0 where
  pub written : AreThere m held.written
  pub two : AreOfTwo held.written
  pub cached : IsCachedThere m held.cached

-- a snapshot is not this one
abbrev pub IsOtherSnap : Option Snap → Snap → Type 0
IsOtherSnap snap t = IfSome snap (λ s. t.chain ≡ s.chain → t.pin ≡ s.pin → ⊥)

-- no snapshot of the one is of the other
pub record ShareNone (these those : HeldSnaps) : Type 0 where
  pub sealed : IfSome those.written.sealed (IsNoneOf these.written)
  pub active : IfSome those.written.active (IsNoneOf these.written)
  pub cached : IfSome those.cached (IsOtherSnap these.cached)

-- an open reader's id, and its snapshots
abbrev pub holding : ℕ × PartitionReader → ℕ × HeldSnaps
holding o = (o.0, held_by o.1.reader)

-- two open readers have ids of their own, and share no snapshot
pub record AreTwo (x y : ℕ × HeldSnaps) : Type 0 where
  pub ids : x.0 ≡ y.0 → ⊥
  pub snaps : ShareNone x.1 y.1

-- the chain of which a reader holds a snapshot of the row cache is no entry's but that of its partition
abbrev pub IsOfItsKey : List (List ℕ × ℕ) → ℕ × PartitionReader → Type 0
IsOfItsKey entries o = IfSome (cached_of o.1) (λ s. (key : List ℕ) → entry_number entries key ≡ Some s.chain → key ≡ o.1.key)

-- how many snapshots there are of one that may be
abbrev pub number_of_snaps : Option Snap → ℕ
number_of_snaps None = 0
number_of_snaps (Some s) = 1

-- how many open readers hold a snapshot of the row cache
abbrev pub cached_readers : List (ℕ × PartitionReader) → ℕ
cached_readers readers = sum_by (λ o. number_of_snaps (cached_of o.1)) readers

-- what lies below the snapshot of the row cache of a reader, if it reads over that
abbrev pub lies_below : (ℕ → List Mutation) → Option Snap → List Mutation
lies_below below None = []
lies_below below (Some s) = below s.chain

-- The tables that a reader was opened over are the first ones that the machine has now; as many of them list its partition as the machine knows, and this is what they may have said of it.
pub record WasOpened (st : State) (first : List TableInfo) (r : Reader) : Type 0 where
  pub later : List TableInfo
  pub are : st.infos ≡ first ++ later
  pub listed : r.listed ≡ listing r.key first
  pub said : IsSaidByFirst st first r.key r.said

-- A reader over the row cache has snapshots that stand for what the tables said to the machine's, joined, and for the changes that stood in none; it reads the same slice, and a page told it of a line exactly where something of the answer is settled.
pub record IsReadOver (schema : SchemaValue) (below : List Mutation) (m : Memory) (o : OpenReader) (r : Reader) : Type 0 where
  pub join : Mutation
  pub sealed : List Mutation
  pub active : List Mutation
  pub is : below ≡ join ∷ []
  pub mutation : IsMutation join
  pub joined : IsJoinOf join r.said
  pub written : r.writes ≡ sealed ++ active
  pub of_tables : AreChangesOf schema below
  pub of_sealed : AreChangesOf schema sealed
  pub of_active : AreChangesOf schema active
  pub stand : StandFor 131072 m o.held below sealed active
  pub slice : IsRemainderOf r.slice o.remainder
  pub settled : MatchOption o.behind (r.settled ≡ 0) (λ _. 1 ≤ r.settled)

-- Where the tables say this, these lines are left to a reader over memory.
module _ (lines : PartReader → Memory → List Mutation → List OutLine → Type 0) where
  -- Over what lies below the chains of the row cache, an open reader with its id is that of the machine: it reads the same partition, and is left what that one has not given yet; its snapshots are there, of two chains; and it was opened over the first tables.
  pub record IsServed (below : ℕ → List Mutation) (st : State) (m : Memory) (o : ℕ × PartitionReader) (r : ℕ × Reader) : Type 0 where
    pub id : o.0 ≡ r.0
    pub key : o.1.key ≡ r.1.key
    pub left : lines o.1.reader m (lies_below below (cached_of o.1)) (rest_of r.1)
    pub over : ByForm (λ c. IsReadOver st.schema (lies_below below c.held.cached) m c r.1) (λ _. ⊤) o.1.reader
    pub held : AreHeldThere m (held_by o.1.reader)
    pub opened : WasOpened st o.1.tables r.1
