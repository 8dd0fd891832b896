-- What the row cache of a shard has, between two steps.
--     IsJoinSaid    changes are what the tables say of a key, joined
--     HaveCached    entries are those of a cache that says what lies below it
use Rattle.std.specs.Prelude.{◌≡◌, ℕ, [], ◌∷◌, All, IsTrue, List, Some}
use Rattle.rc_schema.specs.SchemaValue.{SchemaValue, is_schema}
use Rattle.rc_writes.specs.Allowed.{ChangeFits}
use Rattle.rc_mutation.specs.declared.mutations.Mutation.{Mutation}
use Rattle.rc_mutation.specs.Source.{IsJoinOf, IsMutation}
use Rattle.rc_memory.specs.Memory.{Memory}
use Rattle.rc_lookup.specs.Entries.{AreEntries}
use Rattle.rc_lookup.specs.Found.{entry_number}
use Rattle.rc_lookup.specs.Saying.{CacheSays}
use Rattle.rc_lookup.specs.Footprint.{AreInUse, HaveOneVersion}
use Rattle.rc_lookup.specs.Writes.{AreSmall}
use Rattle.rc_machine.specs.State.{State}
use Rattle.rc_machine.specs.Steps.{IsSaid}

-- changes are one mutation, to which what the tables say of a key joins
pub record IsJoinSaid (m : State) (key : List ℕ) (changes : List Mutation) : Type 0 where
  pub join : Mutation
  pub said : List Mutation
  pub is : changes ≡ join ∷ []
  pub mutation : IsMutation join
  pub of_tables : IsSaid m key said
  pub joined : IsJoinOf join said

-- Each chain of the cache says what lies below it, which fits the schema, and these entries are the chains of the cache that are found by their keys: what lies below the chain of a key is what the tables say of it, joined. Each has one version and is in use. No object of the schema is larger than an eighth of a segment.
pub record HaveCached (schema : SchemaValue) (entries : List (List ℕ × ℕ)) (memory : Memory) (m : State) : Type 0 where
  pub limits : IsTrue (is_schema schema)
  pub small : AreSmall 131072 schema
  pub below : ℕ → List Mutation
  pub fit : (id : ℕ) → All (ChangeFits schema) (below id)
  pub says : CacheSays schema (λ id phase. below id) memory
  pub of_tables : (key : List ℕ) (id : ℕ) → entry_number entries key ≡ Some id → IsJoinSaid m key (below id)
  pub are : AreEntries entries memory
  pub one : HaveOneVersion memory
  pub used : AreInUse memory
