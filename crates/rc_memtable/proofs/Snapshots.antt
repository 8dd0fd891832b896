-- What a memtable stands for stays with a snapshot more, which sees it.
use Rattle.std.proofs.Common.{inl, inr, ◌≡◌, ◌⊎◌, ◌-◌, ℕ, zero, suc, cond, List, [], ◌∷◌, take, Some, length, refl, sym, ap, ◌∙◌, subst, arith}
use Rattle.std.specs.Prelude.{IfSome}
use Rattle.rc_position.specs.Position.{Head}
use Rattle.rc_schema.specs.SchemaValue.{SchemaValue}
use Rattle.rc_mutation.specs.declared.mutations.Mutation.{Mutation}
use Rattle.rc_mutation.specs.declared.mutations.Write.{Write}
use Rattle.rc_mutation.specs.Source.{changes_to}
use Rattle.rc_core.specs.declared.entries.ChainKind.TheVariants.{Memtable}
use Rattle.rc_core.specs.Chains.{Shown, at_place, upto}
use Rattle.rc_core.specs.StandsFor.{StandsFor}
use Rattle.rc_core.specs.Steps.{free_number, pin_at, pins_with}
use Rattle.rc_core.specs.laws.MemtableChains.{snapshot-memtable}
use Rattle.rc_core.specs.laws.Pins.{pin-given}
use Rattle.rc_memory.specs.Kept.{IsSoundChain}
use Rattle.rc_memory.specs.Memory.{IsSnapshotTaken, KeptChain, Memory, chain_at, snapshot_number, with_snapshot}
use Rattle.rc_memory.specs.laws.Places.{same_some}
use Rattle.rc_chain.specs.laws.PlaceBeside.{memtable-settled}
use Rattle.rc_memtable.specs.Changes.{KeepsChanges}
use Rattle.rc_memtable.specs.Writes.{HasWrites, chain_of}
use Rattle.rc_memtable.proofs.Steps.{chain-beside, chain-now, of-chain}

-- whether two numbers are one
pub same-or-not : (i j : ℕ) → (i ≡ j) ⊎ (i ≡ j → ⊥)
same-or-not zero zero = inl refl
same-or-not zero (suc j) = inr (λ e. omega (arith, e))
same-or-not (suc i) zero = inr (λ e. omega (arith, e))
same-or-not (suc i) (suc j) = elim (same-or-not i j) [ inl e ↦ inl (ap suc e) | inr ne ↦ inr (λ e. ne (omega (arith, e))) ]

pub take-all : {X : Type 0} (xs : List X) (n : ℕ) → n ≡ length xs → take n xs ≡ xs
take-all [] zero e = refl
take-all [] (suc n) e = refl
take-all (x ∷ xs) zero e = absurd (omega (arith, e))
take-all (x ∷ xs) (suc n) e = ap (λ l. x ∷ l) (take-all xs n (omega (arith, e)))

-- where each chain of a memtable keeps its changes, it stands for the same writes
pub has-then : (schema : SchemaValue) (chains : List (List ℕ × ℕ)) (m n : Memory) (writes : List Write) →
    ((key : List ℕ) (id : ℕ) (k : KeptChain) → chain_of chains key ≡ Some id → chain_at m id ≡ Some k → (now : KeptChain) × (chain_at n id ≡ Some now) × ((changes : List Mutation) → KeepsChanges schema k.chain changes → KeepsChanges schema now.chain changes)) →
    HasWrites schema chains m writes → HasWrites schema chains n writes
has-then schema chains m n writes each h = record {
  keys = h.keys;
  kept = λ key id e. let k = h.kept key id e in let q = each key id k.0 e k.1 in (q.0, q.1, q.2 (changes_to key writes) k.2);
  apart = h.apart;
}

-- the snapshot is of the newest version
pub newest-number : (c : Shown) → IsSoundChain c → c.kind ≡ Memtable → suc (snapshot_number c) ≡ length c.versions
newest-number c sound memtable =
    let number : snapshot_number c ≡ length c.versions - 1 = ap (λ b. cond b (length c.versions - 2) (length c.versions - 1)) (memtable-settled c sound memtable) in let some = sound.some in omega (arith, number, some)

snapshot-kept : (schema : SchemaValue) (k : KeptChain) (changes : List Mutation) → IsSoundChain k.chain → KeepsChanges schema k.chain changes → KeepsChanges schema (with_snapshot (snapshot_number k.chain) k).chain changes
snapshot-kept schema k changes sound h = record {
  kind = h.kind;
  attached = h.attached;
  form = snapshot-memtable (at_place Head k.chain) (snapshot_number k.chain) h.attached (newest-number k.chain sound h.kind) h.form;
  stands = h.stands;
  fits = h.fits;
}

module _ (m n : Memory) (id pin phase : ℕ) (taken : IsSnapshotTaken m n id pin phase) (sound : (i : ℕ) → IfSome (chain_at m i) (λ k. IsSoundChain k.chain)) where
  taken-now : (k : KeptChain) → chain_at m id ≡ Some k → chain_at n id ≡ Some (with_snapshot (snapshot_number k.chain) k)
  taken-now k there = chain-now m n id (λ k. with_snapshot (snapshot_number k.chain) k) k (ap (λ (o : Memory). o.chains) taken.now) there

  pub snapshot-stands : (schema : SchemaValue) (chains : List (List ℕ × ℕ)) (writes : List Write) → HasWrites schema chains m writes → HasWrites schema chains n writes
  snapshot-stands schema chains writes = has-then schema chains m n writes (λ key i k e there. elim (same-or-not i id) [
    | inl same ↦ (let at : chain_at m id ≡ Some k = subst (λ (j : ℕ). chain_at m j ≡ Some k) same there in
        subst (λ (j : ℕ). (now : KeptChain) × (chain_at n j ≡ Some now) × ((changes : List Mutation) → KeepsChanges schema k.chain changes → KeepsChanges schema now.chain changes)) (sym same)
        (with_snapshot (snapshot_number k.chain) k, taken-now k at, λ changes h. snapshot-kept schema k changes (of-chain (λ k. IsSoundChain k.chain) (chain_at m id) k at (sound id)) h))
    | inr ne ↦ (k, chain-beside m n id _ i (ap (λ (o : Memory). o.chains) taken.now) ne ∙ there, λ changes h. h)
  ])

  -- what it sees is what was written until then
  pub snapshot-sees : (schema : SchemaValue) (chains : List (List ℕ × ℕ)) (key : List ℕ) → chain_of chains key ≡ Some id → (writes : List Write) → HasWrites schema chains m writes →
      (k : KeptChain) → chain_at n id ≡ Some k → (j : ℕ) × (pin_at k.chain.pins pin ≡ Some j) × StandsFor (changes_to key writes) (upto k.chain.versions j)
  snapshot-sees schema chains key e writes h k now =
      let old = h.kept key id e in
      let s = of-chain (λ k. IsSoundChain k.chain) (chain_at m id) old.0 old.1 (sound id) in
      let same : with_snapshot (snapshot_number old.0.chain) old.0 ≡ k = same_some _ k (sym (taken-now old.0 old.1) ∙ now) in
      let number : pin ≡ free_number old.0.chain.pins = of-chain (λ k. pin ≡ free_number k.chain.pins) (chain_at m id) old.0 old.1 taken.number in
      subst (λ (q : KeptChain). (j : ℕ) × (pin_at q.chain.pins pin ≡ Some j) × StandsFor (changes_to key writes) (upto q.chain.versions j)) same (
        snapshot_number old.0.chain,
        ap (pin_at (pins_with (snapshot_number old.0.chain) old.0.chain.pins)) number ∙ pin-given (snapshot_number old.0.chain) old.0.chain.pins,
        subst (StandsFor (changes_to key writes)) (sym (take-all old.0.chain.versions (suc (snapshot_number old.0.chain)) (newest-number old.0.chain s old.2.kind))) old.2.stands,
      )
