-- A snapshot of a memtable's chain that is taken sees what was written, and once it is taken back all is as before.
use Rattle.std.proofs.Common.{inr, ◌≡◌, ⊎_elim, ℕ, zero, suc, List, [], ◌∷◌, Option, Some, None, refl, sym, ap, ◌∙◌, subst}
use Rattle.std.specs.Prelude.{IfSome}
use Rattle.rc_schema.specs.SchemaValue.{SchemaValue}
use Rattle.rc_mutation.specs.declared.mutations.Mutation.{Mutation}
use Rattle.rc_mutation.specs.declared.mutations.Write.{Write}
use Rattle.rc_core.specs.Chain.{IsEvenAt}
use Rattle.rc_core.specs.declared.entries.ChainKind.TheVariants.{Memtable}
use Rattle.rc_core.specs.Steps.{free_number, pin_at, pins_with, pins_without}
use Rattle.rc_core.specs.Version.{IsVersion}
use Rattle.rc_core.specs.laws.Pins.{pin-given}
use Rattle.rc_memory.specs.Changes.{OfVersion}
use Rattle.rc_memory.specs.Kept.{IsSoundChain}
use Rattle.rc_memory.specs.Memory.{IsSnapshotTaken, KeptChain, Memory, chain_at, on_chain, snapshot_number, with_chains, with_snapshot, without_snapshot}
use Rattle.rc_memory.specs.laws.Places.{no_some}
use Rattle.rc_memtable.specs.Changes.{KeepsChanges}
use Rattle.rc_memtable.specs.Partitions.{AreAsBefore, IsAsBefore}
use Rattle.rc_memtable.specs.Writes.{HasWrites}
use Rattle.rc_memtable.specs.calls.Reading.{IsSeenBy, SayChanges}
use Rattle.rc_memtable.proofs.Leaving.{released-leaves}
use Rattle.rc_memtable.proofs.Snapshots.{newest-number, same-or-not, snapshot-stands, take-all}
use Rattle.rc_memtable.proofs.Steps.{chain-beside, chain-now, its-form, of-chain}

-- ---- as before

same-chain : (k : KeptChain) → IsAsBefore k k
same-chain k = record { kind = refl; versions = refl; attached = refl; updating = refl; pins = λ pin. refl; passed = refl }

pub as-before : (m : Memory) → AreAsBefore m m
as-before m = record { there = λ id k e. (k, e, same-chain k); absent = λ id e. e; recency = refl; dropped = refl; counts = refl; region = refl; standing = refl }

pub before-of : (m n : Memory) → n ≡ m → AreAsBefore m n
before-of m n e = subst (AreAsBefore m) (sym e) (as-before m)

chain-then : (a b c : KeptChain) → IsAsBefore a b → IsAsBefore b c → IsAsBefore a c
chain-then a b c g h = record {
  kind = h.kind ∙ g.kind;
  versions = h.versions ∙ g.versions;
  attached = h.attached ∙ g.attached;
  updating = h.updating ∙ g.updating;
  pins = λ pin. h.pins pin ∙ g.pins pin;
  passed = h.passed ∙ g.passed;
}

pub before-then : (l m n : Memory) → AreAsBefore l m → AreAsBefore m n → AreAsBefore l n
before-then l m n g h = record {
  there = λ id k e. let a = g.there id k e in let b = h.there id a.0 a.1 in (b.0, b.1, chain-then k a.0 b.0 a.2 b.2);
  absent = λ id e. h.absent id (g.absent id e);
  recency = h.recency ∙ g.recency;
  dropped = h.dropped ∙ g.dropped;
  counts = h.counts ∙ g.counts;
  region = h.region ∙ g.region;
  standing = h.standing ∙ g.standing;
}

-- ---- a snapshot taken, and taken back

-- each number pins what it pinned
back-again : (version : ℕ) (pins : List (Option ℕ)) (i : ℕ) → pin_at (pins_without (free_number pins) (pins_with version pins)) i ≡ pin_at pins i
back-again version [] zero = refl
back-again version [] (suc i) = refl
back-again version (None ∷ ps) zero = refl
back-again version (None ∷ ps) (suc i) = refl
back-again version (Some p ∷ ps) zero = refl
back-again version (Some p ∷ ps) (suc i) = back-again version ps i

module _ (m n : Memory) (id chain pin phase : ℕ) (same : chain ≡ id) (taken : IsSnapshotTaken m n id pin phase) (sound : (i : ℕ) → IfSome (chain_at m i) (λ k. IsSoundChain k.chain)) where
  -- the chain with the snapshot
  with-one : KeptChain → KeptChain
  with-one k = with_snapshot (snapshot_number k.chain) k

  there-then : (k : KeptChain) → chain_at m id ≡ Some k → chain_at n id ≡ Some (with_snapshot (snapshot_number k.chain) k)
  there-then k e = chain-now m n id (λ k. with_snapshot (snapshot_number k.chain) k) k (ap (λ (o : Memory). o.chains) taken.now) e

  pin-is : (k : KeptChain) → chain_at m id ≡ Some k → pin ≡ free_number k.chain.pins
  pin-is k e = of-chain (λ k. pin ≡ free_number k.chain.pins) (chain_at m id) k e taken.number

  pub is-seen : (schema : SchemaValue) (changes : List Mutation) (k : KeptChain) → chain_at m id ≡ Some k → KeepsChanges schema k.chain changes → IsSeenBy n chain pin k.chain.versions
  is-seen schema changes k e keeps = subst (λ i. IsSeenBy n i pin k.chain.versions) (sym same) (record {
    kept = with_snapshot (snapshot_number k.chain) k;
    number = snapshot_number k.chain;
    there = there-then k e;
    kind = keeps.kind;
    pinned = ap (pin_at (pins_with (snapshot_number k.chain) k.chain.pins)) (pin-is k e) ∙ pin-given (snapshot_number k.chain) k.chain.pins;
    seen = take-all k.chain.versions (suc (snapshot_number k.chain)) (newest-number k.chain (of-chain (λ k. IsSoundChain k.chain) (chain_at m id) k e (sound id)) keeps.kind);
  })

  module _ (o : Memory) (released-is : o ≡ with_chains (on_chain chain (without_snapshot pin) n.chains) n) where
    back : o ≡ with_chains (on_chain id (without_snapshot pin) n.chains) n
    back = released-is ∙ ap (λ i. with_chains (on_chain i (without_snapshot pin) n.chains) n) same

    as-it-was : (k : KeptChain) → chain_at m id ≡ Some k → IsAsBefore k (without_snapshot pin (with_snapshot (snapshot_number k.chain) k))
    as-it-was k e = record {
      kind = refl;
      versions = refl;
      attached = refl;
      updating = refl;
      pins = λ i. ap (λ p. pin_at (pins_without p (pins_with (snapshot_number k.chain) k.chain.pins)) i) (pin-is k e) ∙ back-again (snapshot_number k.chain) k.chain.pins i;
      passed = refl;
    }

    beside : (i : ℕ) → (i ≡ id → ⊥) → chain_at o i ≡ chain_at m i
    beside i ne = chain-beside n o id _ i (ap (λ (q : Memory). q.chains) back) ne ∙ chain-beside m n id _ i (ap (λ (q : Memory). q.chains) taken.now) ne

    here : (k : KeptChain) → chain_at m id ≡ Some k → chain_at o id ≡ Some (without_snapshot pin (with_snapshot (snapshot_number k.chain) k))
    here k e = chain-now n o id (without_snapshot pin) (with_snapshot (snapshot_number k.chain) k) (ap (λ (q : Memory). q.chains) back) (there-then k e)

    -- the chain is there
    module _ (own : KeptChain) (is-there : chain_at m id ≡ Some own) where
      pub taken-back : AreAsBefore m o
      taken-back = record {
        there = λ i k e. ⊎_elim
            (λ (q : i ≡ id).
            let at : chain_at m id ≡ Some k = subst (λ j. chain_at m j ≡ Some k) q e in
            (without_snapshot pin (with_snapshot (snapshot_number k.chain) k), ap (chain_at o) q ∙ here k at, as-it-was k at))
            (λ ne. (k, beside i ne ∙ e, same-chain k))
            (same-or-not i id);
        absent = λ i e. ⊎_elim
            (λ (q : i ≡ id). absurd (no_some own (sym (subst (λ j. chain_at m j ≡ None) q e) ∙ is-there)))
            (λ ne. beside i ne ∙ e)
            (same-or-not i id);
        recency = ap (λ (q : Memory). q.recency) back ∙ ap (λ (q : Memory). q.recency) taken.now;
        dropped = ap (λ (q : Memory). q.dropped) back ∙ ap (λ (q : Memory). q.dropped) taken.now;
        counts = ap (λ (q : Memory). q.counts) back ∙ ap (λ (q : Memory). q.counts) taken.now;
        region = ap (λ (q : Memory). q.region) back ∙ ap (λ (q : Memory). q.region) taken.now;
        standing = ap (λ (q : Memory). q.standing) back ∙ ap (λ (q : Memory). q.standing) taken.now;
      }

    -- the memtable stands for what it stood for
    pub stands-back : (schema : SchemaValue) (keys : List (List ℕ × ℕ)) (writes : List Write) → HasWrites schema keys m writes → HasWrites schema keys o writes
    stands-back schema keys writes h = subst (λ q. HasWrites schema keys q writes) (sym back) (released-leaves schema keys n id pin writes (snapshot-stands m n id pin phase taken sound schema keys writes h))

-- ---- what its versions say

pub say-changes : (m : Memory) (id : ℕ) (schema : SchemaValue) (changes : List Mutation) (k : KeptChain) → chain_at m id ≡ Some k → KeepsChanges schema k.chain changes → ((i : ℕ) → IfSome (chain_at m i) (λ k. IsSoundChain k.chain)) → ((i j : ℕ) → OfVersion m i j (λ k v. IsVersion v)) →
    SayChanges schema k.chain.versions changes
say-changes m id schema changes k e keeps sound versions =
    let own = of-chain (λ k. IsSoundChain k.chain) (chain_at m id) k e (sound id) in
    let newest = newest-number k.chain own keeps.kind in
    record {
      stands = keeps.stands;
      inherit = keeps.form.flags;
      even = λ x. subst (λ vs. IsEvenAt Memtable vs x) (take-all k.chain.versions (suc (snapshot_number k.chain)) newest) (keeps.form.even (snapshot_number k.chain) (inr (keeps.attached, newest)) x);
      fits = keeps.fits;
      sound = (its-form m id k e sound versions).versions;
      some = own.some;
    }
