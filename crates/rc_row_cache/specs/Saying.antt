-- What chains of the row cache say of what lies below them.
--     Below           what lies below chains: by the number of a chain and the phase of a version, a list of writes
--     SaysBelow       a chain says what lies below it
--     CacheSays       so does each chain of the cache that is there, found by its key or not
--     with_below      what lies below, and other writes below one chain
--     phase_pinned    the phase of the version that a snapshot of a cache chain pins
--     PinsAlike       a snapshot of a cache chain pins a version of which the same lies below as before
--     AreFillsDone    fills through one snapshot, one after another
--     IsSameSince     below newest versions the same lies at another phase
use Rattle.std.specs.Prelude.{◌≡◌, ℕ, suc, true, false, List, Some, cond, length, nat_eq}
use Rattle.rc_position.specs.Position.{Head}
use Rattle.rc_schema.specs.SchemaValue.{SchemaValue}
use Rattle.rc_mutation.specs.declared.mutations.Mutation.{Mutation}
use Rattle.rc_mutation.specs.Source.{SameSource}
use Rattle.rc_core.specs.declared.entries.ChainKind.TheVariants.{Cache}
use Rattle.rc_core.specs.Chains.{IsChainContinuous, at_place, phase_at}
use Rattle.rc_core.specs.Continuity.{EachOf}
use Rattle.rc_core.specs.Steps.{IsChain}
use Rattle.rc_registry.specs.Registry.{IsNumberIn}
use Rattle.rc_memory.specs.Memory.{KeptChain, Memory, chain_at}
use Rattle.rc_stream.specs.Did.{Many}
use Rattle.rc_filler.specs.Fills.{IsFillDone}
use Rattle.rc_filler.specs.Stands.{HasCacheSnapshot, HoldsRowsOf}

-- what lies below chains: by the number of a chain, and the phase of a version of it, the writes to its partition that the tables of this phase hold
abbrev pub Below : Type 0
Below = ℕ → ℕ → List Mutation

-- No update stands in a chain. It is continuous: nothing that it holds is beyond what lies below the version that holds it, and what is known at a version that is read, or may be, is what lies below that. And each row that it holds is of the schema.
pub record SaysBelow (schema : SchemaValue) (below : ℕ → List Mutation) (k : KeptChain) : Type 0 where
  pub settled : k.chain.updating ≡ false
  pub form : IsChain (at_place Head k.chain)
  pub continuous : IsChainContinuous below (at_place Head k.chain)
  pub rows : EachOf (HoldsRowsOf schema) k.chain.versions

-- so does each chain of the cache that is there, of what lies below its own number: also one that is found by its key no more, and that a reader pins still
abbrev pub CacheSays : SchemaValue → Below → Memory → Type 0
CacheSays schema below m = (id : ℕ) (k : KeptChain) → chain_at m id ≡ Some k → k.chain.kind ≡ Cache → SaysBelow schema (below id) k

-- what lies below, but that these writes lie below the chain of this number
abbrev pub with_below : ℕ → (ℕ → List Mutation) → Below → Below
with_below id writes below i = cond (nat_eq id i) writes (below i)

-- the phase of the version that a snapshot pins
abbrev pub phase_pinned : {m : Memory} {id pin : ℕ} → HasCacheSnapshot m id pin → ℕ
phase_pinned h = phase_at h.chain.chain.versions h.number

-- where a snapshot of a cache chain was there it is there still, and below the version that it pins lies what says the same
abbrev pub PinsAlike : (before now : ℕ → List Mutation) → ℕ → ℕ → Memory → Memory → Type 0
PinsAlike before now id pin old new = (h : HasCacheSnapshot old id pin) → (n : HasCacheSnapshot new id pin) × SameSource (before (phase_pinned h)) (now (phase_pinned n))

-- below each chain of the cache that is found by its key, but those of these numbers, lies at this phase what says the same as what lies there at the phase of its newest version
abbrev pub IsSameSince : Below → List ℕ → ℕ → Memory → Type 0
IsSameSince below ids phase m = (id : ℕ) (k : KeptChain) → chain_at m id ≡ Some k → k.chain.kind ≡ Cache → k.chain.attached ≡ true → (IsNumberIn ids id → ⊥) →
    (newest : ℕ) → suc newest ≡ length k.chain.versions → SameSource (below id (phase_at k.chain.versions newest)) (below id phase)

-- any number of fills through one snapshot, one after another; room is made for each
abbrev pub AreFillsDone : ℕ → ℕ → ℕ → Memory → Memory → Type 0
AreFillsDone S id pin = Many (IsFillDone S id pin)
