-- For which writes a snapshot of a cache chain stands.
--     HasCacheSnapshot    a snapshot of a cache chain is there
--     HoldsRowsOf         each row that a version holds is of a schema, and stands at its key
--     StandsForWrites     what the snapshot knows is what these writes say
use Rattle.std.specs.Prelude.{◌≡◌, ℕ, List, Some, All, IfSome, IsTrue}
use Rattle.rc_cell.specs.Winner.{IsRow}
use Rattle.rc_position.specs.Position.{Place, row_pos}
use Rattle.rc_schema.specs.SchemaValue.{SchemaValue, is_schema}
use Rattle.rc_mutation.specs.declared.mutations.Mutation.{Mutation}
use Rattle.rc_mutation.specs.Source.{SameSource}
use Rattle.rc_writes.specs.Allowed.{ChangeFits, IsRowOf, IsStaticOf}
use Rattle.rc_core.specs.declared.entries.ChainKind.TheVariants.{Cache}
use Rattle.rc_core.specs.declared.entries.Entry.{Entry}
use Rattle.rc_core.specs.AtPlace.{EachEntry}
use Rattle.rc_core.specs.Chains.{IsChainContinuous, at_place, phase_at}
use Rattle.rc_core.specs.Continuity.{EachOf}
use Rattle.rc_core.specs.Steps.{IsChain, pin_at}
use Rattle.rc_core.specs.Version.{Version}
use Rattle.rc_memory.specs.Memory.{KeptChain, Memory, chain_at}
use Rattle.rc_memtable.specs.Writes.{AreSmall}
use Rattle.rc_evict.specs.Evictions.{IsPlaceUnlisted}

-- a snapshot of a cache chain is there, which pins the version of this number
pub record HasCacheSnapshot (m : Memory) (id pin : ℕ) : Type 0 where
  pub chain : KeptChain
  pub number : ℕ
  pub there : chain_at m id ≡ Some chain
  pub pinned : pin_at chain.chain.pins pin ≡ Some number
  pub cached : chain.chain.kind ≡ Cache

-- where an entry has a row, that is one of the schema, and the entry stands at the row's position
abbrev pub HasRowOf : SchemaValue → Entry → Type 0
HasRowOf schema e = IfSome e.row (λ row. (e.position ≡ row_pos e.position.prefix) × IsRowOf schema e.position.prefix row × IsRow row)

-- each row that a version holds is one of the schema, at its position, and so is its static row; its dummies may stand anywhere
pub record HoldsRowsOf (schema : SchemaValue) (v : Version) : Type 0 where
  pub entries : EachEntry (HasRowOf schema) v.entries
  pub statics : IfSome v.statics (λ row. IsStaticOf schema row × IsRow row)

-- The snapshot's chain is continuous, and what lies below the version that it pins says what these writes say. They fit a schema of which no object is larger than an eighth of a segment, as all rows of the chain do; and the entry at the place of an update that stands in the chain is out of the recency list.
pub record StandsForWrites (S : ℕ) (m : Memory) (id pin : ℕ) (writes : List Mutation) : Type 0 where
  pub snapshot : HasCacheSnapshot m id pin
  pub place : Place
  pub below : ℕ → List Mutation
  pub form : IsChain (at_place place snapshot.chain.chain)
  pub continuous : IsChainContinuous below (at_place place snapshot.chain.chain)
  pub unlisted : IsPlaceUnlisted place id snapshot.chain.chain m.recency
  pub source : SameSource (below (phase_at snapshot.chain.chain.versions snapshot.number)) writes
  pub schema : SchemaValue
  pub limits : IsTrue (is_schema schema)
  pub small : AreSmall S schema
  pub changes : All (ChangeFits schema) writes
  pub rows : EachOf (HoldsRowsOf schema) snapshot.chain.chain.versions
