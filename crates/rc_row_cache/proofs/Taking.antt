-- A snapshot of the chain of an entry: what is taken, that it may be filled, and what all others see.
use Rattle.std.proofs.Common.{◌≡◌, ◌-◌, ℕ, true, cond, List, Option, Some, None, IsSome, length, refl, sym, ap, ◌∙◌, subst, arith}
use Rattle.std.specs.Prelude.{IfSome, IsSomeAnd}
use Rattle.rc_position.specs.Position.{Head}
use Rattle.rc_schema.specs.SchemaValue.{SchemaValue}
use Rattle.rc_core.specs.Steps.{pin_at}
use Rattle.rc_memory.specs.Kept.{IsSoundChain}
use Rattle.rc_memory.specs.Memory.{HasPin, IsSnapshotTaken, KeptChain, Memory, chain_at, on_shown, shown_detached, snapshot_number}
use Rattle.rc_memory.specs.laws.Places.{same_some}
use Rattle.rc_chain.specs.declared.chains.Snap.{Snap}
use Rattle.rc_chain.specs.laws.PlaceBeside.{beside-none}
use Rattle.rc_entries.specs.Filling.{MayFill}
use Rattle.rc_entries.specs.Filled.{may-fill}
use Rattle.rc_entries.specs.Opening.{some-and}
use Rattle.rc_cursor.specs.Snapshots.{kind_in, versions_in, versions_upto}
use Rattle.rc_entries.specs.Detached.{IsDetached}
use Rattle.rc_entries.specs.Entries.{IsCached}
use Rattle.rc_entries.specs.Found.{entry_number}
use Rattle.rc_snapshots.specs.Seeing.{NothingIsLost, StillSees}
use Rattle.rc_row_cache.specs.Calls.{IsTakenOf}
use Rattle.rc_row_cache.specs.Saying.{Below, CacheSays}
use Rattle.rc_row_cache.proofs.Numbered.{changed-beside, changed-now, here-or-beside, there-or-not}
use Rattle.rc_row_cache.proofs.Snapshots.{SnapshotLaws, is, more, number-of, taken-there}

-- ---- what is seen

pub has-pin : (m : Memory) (id pin : ℕ) → HasPin m id pin → (k : KeptChain) × (chain_at m id ≡ Some k) × IsSome (pin_at k.chain.pins pin)
has-pin m id pin h = some-and (chain_at m id) (λ k. IsSome (pin_at k.chain.pins pin)) h

-- a chain that has the same versions, and whose snapshot pins what it pinned
pub still-sees : (s : Snap) (old new : Memory) (k now : KeptChain) → chain_at old s.chain ≡ Some k → chain_at new s.chain ≡ Some now → now.chain.versions ≡ k.chain.versions → now.chain.kind ≡ k.chain.kind → pin_at now.chain.pins s.pin ≡ pin_at k.chain.pins s.pin → IsSome (pin_at k.chain.pins s.pin) →
    StillSees s old new
still-sees s old new k now e f versions kind pins on = record {
  pin = subst (λ (o : Option KeptChain). IsSomeAnd o (λ q. IsSome (pin_at q.chain.pins s.pin))) (sym f) (subst (λ (o : Option ℕ). IsSome o) (sym pins) on);
  versions = ap (λ o. versions_in o s.pin) f ∙ (λ i. versions_upto (versions i) (pins i)) ∙ sym (ap (λ o. versions_in o s.pin) e);
  kind = ap kind_in f ∙ kind ∙ sym (ap kind_in e);
}

pub same-lost : (old new : Memory) → ((id : ℕ) → chain_at new id ≡ chain_at old id) → NothingIsLost old new
same-lost old new same s h = let k = has-pin old s.chain s.pin h in still-sees s old new k.0 k.0 k.1 (same s.chain ∙ k.1) refl refl refl k.2

pub detached-lost : (id : ℕ) (old new : Memory) → IsDetached id old new → NothingIsLost old new
detached-lost id old new d = there-or-not (chain_at old id)
    (λ e. same-lost old new (λ i. ap (λ (m : Memory). chain_at m i) (d.gone e)))
    (λ k e s h. (let q = has-pin old s.chain s.pin h in here-or-beside (λ i. s.chain ≡ i → StillSees s old new) id s.chain
    (λ same. still-sees s old new q.0 (on_shown shown_detached q.0) q.1 (ap (chain_at new) same ∙ changed-now old new id (on_shown shown_detached) (d.there k e).2.chains q.0 (sym (ap (chain_at old) same) ∙ q.1)) refl refl refl q.2)
    (λ ne same. still-sees s old new q.0 q.0 q.1 (changed-beside old new id (on_shown shown_detached) (d.there k e).2.chains s.chain ne ∙ q.1) refl refl refl q.2) refl))

-- ---- what is taken

pub sound-at : (m : Memory) (id : ℕ) (k : KeptChain) → chain_at m id ≡ Some k → ((i : ℕ) → IfSome (chain_at m i) (λ q. IsSoundChain q.chain)) → IsSoundChain k.chain
sound-at m id k e sound = subst (λ (o : Option KeptChain). IfSome o (λ q. IsSoundChain q.chain)) e (sound id)

pub attached-at : (m : Memory) (id : ℕ) (k : KeptChain) → chain_at m id ≡ Some k → IsCached m id → k.chain.attached ≡ true
attached-at m id k e c = ap (λ (q : KeptChain). q.chain.attached) (same_some k c.kept (sym e ∙ c.there)) ∙ c.attached

module _ (laws : SnapshotLaws) (old new : Memory) (s : Snap) (taken : IsSnapshotTaken old new s.chain s.pin s.phase) where
  pub taken-fresh : HasPin old s.chain s.pin → ⊥
  taken-fresh h =
      let k = has-pin old s.chain s.pin h in
      let none : pin_at k.0.chain.pins s.pin ≡ None = ap (pin_at k.0.chain.pins) (number-of laws s.chain s.pin s.phase old new taken k.0 k.1) ∙ laws.free k.0.chain.pins in
      not-some (pin_at k.0.chain.pins s.pin) none k.2
    where
      not-some : (o : Option ℕ) → o ≡ None → IsSome o → ⊥
      not-some None e on = cc
      not-some (Some j) e on = cc

  pub taken-lost : NothingIsLost old new
  taken-lost t h =
      let k = has-pin old t.chain t.pin h in
      let moved = is laws s.chain s.pin s.phase old new taken in
      here-or-beside (λ i. t.chain ≡ i → StillSees t old new) s.chain t.chain
      (λ same. (let there = sym (ap (chain_at old) same) ∙ k.1 in
      still-sees t old new k.0 (more k.0) k.1 (ap (chain_at new) same ∙ changed-now old new s.chain more moved k.0 there) refl refl
      (laws.others (snapshot_number k.0.chain) t.pin k.0 (λ e. taken-fresh (subst (λ p. HasPin old s.chain p) (e ∙ sym (number-of laws s.chain s.pin s.phase old new taken k.0 there)) (subst (λ i. HasPin old i t.pin) same h)))) k.2))
      (λ ne same. still-sees t old new k.0 k.0 k.1 (changed-beside old new s.chain more moved t.chain ne ∙ k.1) refl refl refl k.2) refl

  module _ (c : IsCached old s.chain) where
    pub taken-of : (key : List ℕ) (entries : List (List ℕ × ℕ)) → entry_number entries key ≡ Some s.chain → IsTakenOf key entries old new s
    taken-of key entries entry = record { entry = entry; taken = taken; there = taken-there laws s.chain s.pin s.phase old new taken c.kept c.there c.kind; fresh = taken-fresh }

    -- it may be filled, where no update stands in the chain
    pub taken-may : ((id : ℕ) → IfSome (chain_at old id) (λ k. IsSoundChain k.chain)) → (schema : SchemaValue) (below : Below) → CacheSays schema below old → MayFill new s.chain s.pin
    taken-may sound schema below says =
        let k = c.kept in
        let some = (subst (λ (o : Option KeptChain). IfSome o (λ q. IsSoundChain q.chain)) c.there (sound s.chain)).some in
        let settled = (says s.chain k c.there c.kind).settled in
        let number : snapshot_number k.chain ≡ length k.chain.versions - 1 = ap (λ b. cond b (length k.chain.versions - 2) (length k.chain.versions - 1)) settled in
        may-fill new s.chain s.pin (snapshot_number k.chain) (more k) (changed-now old new s.chain more (is laws s.chain s.pin s.phase old new taken) k c.there)
        (ap (pin_at (more k).chain.pins) (number-of laws s.chain s.pin s.phase old new taken k c.there) ∙ laws.given_at (snapshot_number k.chain) k)
        (record { newest = omega (arith, number, some); attached = c.attached; settled = beside-none k.chain.updating Head settled })
