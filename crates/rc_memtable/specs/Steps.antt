-- What a write does to the chains.
--     IsGrown      a chain got something in its newest version, which nobody pinned, or got that version first
--     AreOthersKept   all but one chain is as it was
--     IsApplied    one write more
use Rattle.std.specs.Prelude.{◌≡◌, ◌≤◌, ◌+◌, ◌/◌, ℕ, List, ◌++◌, ◌∷◌, [], Some, None, cond}
use Rattle.std.specs.Ordering.{eq_by_cmp}
use Rattle.lsa_region.specs.Region.{live_bytes}
use Rattle.rc_position.specs.Position.{bytes_cmp}
use Rattle.rc_schema.specs.SchemaValue.{SchemaValue}
use Rattle.rc_mutation.specs.declared.mutations.Write.{Write}
use Rattle.rc_writes.specs.Weight.{weight}
use Rattle.rc_core.specs.Chains.{IsPinned, upto}
use Rattle.rc_registry.specs.Registry.{IsNumberIn}
use Rattle.rc_memory.specs.Memory.{KeptChain, Memory, chain_at}
use Rattle.rc_memory.specs.Changes.{IsUnmoved, StandStill}
use Rattle.rc_memtable.specs.Writes.{HasWrites, chain_of}

-- what each snapshot sees is as it was, and so is all else of the chain but its versions
pub record IsGrown (old new : KeptChain) : Type 0 where
  pub kind : new.chain.kind ≡ old.chain.kind
  pub attached : new.chain.attached ≡ old.chain.attached
  pub updating : new.chain.updating ≡ old.chain.updating
  pub pins : new.chain.pins ≡ old.chain.pins
  pub passed : new.passed ≡ old.passed
  pub below : (j : ℕ) → IsPinned old.chain.pins j → upto new.chain.versions j ≡ upto old.chain.versions j

-- all chains but one, the recency list, the numbers to be told and the counts are as they were, and objects of other chains stand where they stood
pub record AreOthersKept (id : ℕ) (old new : Memory) : Type 0 where
  pub others : (i : ℕ) → (i ≡ id → ⊥) → chain_at new i ≡ chain_at old i
  pub recency : new.recency ≡ old.recency
  pub dropped : new.dropped ≡ old.dropped
  pub counts : new.counts ≡ old.counts
  pub still : StandStill (λ w. w.chain ≡ id) old new
  pub region : IsUnmoved old.region new.region

-- A write was put behind those that the memtable stood for. Its key has a chain, the one that it had, or a new one, whose number no chain had nor was to be told. What is live is more by at most the write's weight, and less by at most one object, which an eighth of a segment holds.
pub record IsApplied (S : ℕ) (schema : SchemaValue) (w : Write) (before now : List (List ℕ × ℕ)) (old new : Memory) : Type 0 where
  pub stands : (writes : List Write) → HasWrites schema before old writes → HasWrites schema now new (writes ++ w ∷ [])
  pub id : ℕ
  pub keys : (key : List ℕ) → chain_of now key ≡ cond (eq_by_cmp bytes_cmp w.key key) (Some id) (chain_of before key)
  pub had : (n : ℕ) → chain_of before w.key ≡ Some n → (n ≡ id) × ((k : KeptChain) → chain_at old id ≡ Some k → (now : KeptChain) × (chain_at new id ≡ Some now) × IsGrown k now)
  pub made : chain_of before w.key ≡ None → (chain_at old id ≡ None) × (IsNumberIn old.dropped id → ⊥)
  pub others : AreOthersKept id old new
  pub grows : live_bytes new.region ≤ live_bytes old.region + weight w.change
  pub shrinks : live_bytes old.region ≤ live_bytes new.region + S / 8
