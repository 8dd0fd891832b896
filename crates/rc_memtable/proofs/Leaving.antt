-- What leaves a memtable's chains as they were, or takes a snapshot of one back, leaves its writes.
use Rattle.std.proofs.Common.{inl, inr, ◌≡◌, ℕ, List, Some, refl, sym, ◌∙◌, subst}
use Rattle.rc_position.specs.Position.{Head}
use Rattle.rc_schema.specs.SchemaValue.{SchemaValue}
use Rattle.rc_mutation.specs.declared.mutations.Mutation.{Mutation}
use Rattle.rc_mutation.specs.declared.mutations.Write.{Write}
use Rattle.rc_mutation.specs.Source.{SameSource, changes_to}
use Rattle.rc_core.specs.Chains.{at_place}
use Rattle.rc_core.specs.laws.MemtableChains.{released-memtable}
use Rattle.rc_core.specs.laws.Written.{same-stands}
use Rattle.rc_memory.specs.Memory.{KeptChain, Memory, chain_at, on_chain, with_chains, without_snapshot}
use Rattle.rc_memtable.specs.Changes.{KeepsChanges}
use Rattle.rc_memtable.specs.Writes.{HasWrites, chain_of, names}
use Rattle.rc_memtable.proofs.Snapshots.{has-then, same-or-not}
use Rattle.rc_memtable.proofs.Steps.{chain-beside, chain-now}

pub beside-leaves : (schema : SchemaValue) (chains : List (List ℕ × ℕ)) (old new : Memory) (writes : List Write) → ((key : List ℕ) (id : ℕ) → chain_of chains key ≡ Some id → chain_at new id ≡ chain_at old id) →
    HasWrites schema chains old writes → HasWrites schema chains new writes
beside-leaves schema chains old new writes same = has-then schema chains old new writes (λ key id k e there. (k, same key id e ∙ there, λ changes h. h))

released-kept : (schema : SchemaValue) (pin : ℕ) (k : KeptChain) (changes : List Mutation) → KeepsChanges schema k.chain changes → KeepsChanges schema (without_snapshot pin k).chain changes
released-kept schema pin k changes h = record { kind = h.kind; attached = h.attached; form = released-memtable (at_place Head k.chain) pin h.form; stands = h.stands; fits = h.fits }

pub released-leaves : (schema : SchemaValue) (chains : List (List ℕ × ℕ)) (old : Memory) (id pin : ℕ) (writes : List Write) → HasWrites schema chains old writes → HasWrites schema chains (with_chains (on_chain id (without_snapshot pin) old.chains) old) writes
released-leaves schema chains old id pin writes = has-then schema chains old new writes (λ key i k e there. elim (same-or-not i id) [
  | inl same ↦ (let at : chain_at old id ≡ Some k = subst (λ (j : ℕ). chain_at old j ≡ Some k) same there in
      subst (λ (j : ℕ). (now : KeptChain) × (chain_at new j ≡ Some now) × ((changes : List Mutation) → KeepsChanges schema k.chain changes → KeepsChanges schema now.chain changes)) (sym same)
      (without_snapshot pin k, chain-now old new id (without_snapshot pin) k refl at, λ changes h. released-kept schema pin k changes h))
  | inr ne ↦ (k, chain-beside old new id _ i refl ne ∙ there, λ changes h. h)
])
  where
    new : Memory
    new = with_chains (on_chain id (without_snapshot pin) old.chains) old

pub alike-leaves : (schema : SchemaValue) (chains : List (List ℕ × ℕ)) (m : Memory) (writes others : List Write) → ((key : List ℕ) → names key others ≡ names key writes) → ((key : List ℕ) → SameSource (changes_to key writes) (changes_to key others)) →
    HasWrites schema chains m writes → HasWrites schema chains m others
alike-leaves schema chains m writes others named said h = record {
  keys = λ key. h.keys key ∙ sym (named key);
  kept = λ key id e. let k = h.kept key id e in (k.0, k.1, record { kind = k.2.kind; attached = k.2.attached; form = k.2.form; stands = same-stands (changes_to key writes) (changes_to key others) k.0.chain.versions (said key) k.2.stands; fits = k.2.fits });
  apart = h.apart;
}
