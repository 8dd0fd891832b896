-- A snapshot is taken back, and what was let go is freed with its last one.
use Rattle.std.proofs.Common.{inl, inr, ◌≡◌, ◌⊎◌, ℕ, Bool, true, false, List, Option, Some, None, IsSome, refl, sym, ap, ◌∙◌, subst}
use Rattle.std.specs.Prelude.{IfSome, IsSomeAnd}
use Rattle.std.specs.Option.{option_map}
use Rattle.rc_schema.specs.SchemaValue.{SchemaValue}
use Rattle.rc_mutation.specs.declared.mutations.Write.{Write}
use Rattle.rc_core.specs.declared.entries.ChainKind.TheVariants.{Memtable}
use Rattle.rc_core.specs.Steps.{pin_at}
use Rattle.rc_registry.specs.Registry.{AreFree}
use Rattle.rc_memory.specs.Memory.{HasPin, KeptChain, Memory, chain_at, on_chain, with_chains, without_snapshot}
use Rattle.rc_memory.specs.laws.Places.{same_some}
use Rattle.rc_evict.specs.Snap.{Snap}
use Rattle.rc_snapshots.specs.Snapshots.{kind_in}
use Rattle.rc_memtable.specs.LetGo.{IsFreedUnpinned}
use Rattle.rc_memtable.specs.Writes.{HasWrites}
use Rattle.rc_unstored.specs.declared.unstored.Unstored.{Unstored}
use Rattle.rc_unstored.specs.Memtables.{HaveWrites, in_chains}
use Rattle.rc_snapshots.specs.declared.snaps.Snaps.{Snaps}
use Rattle.rc_snapshots.specs.Seeing.{HasSnap, OthersStillSee, StillSees}
use Rattle.rc_unstored.specs.Readers.{IsNoneOf, IsReleased}
use Rattle.rc_unstored.specs.Steps.{AreSameKeys}
use Rattle.rc_unstored.proofs.Chains.{chain-beside, chain-done, chain-put, same-or-not, some-chain}
use Rattle.rc_unstored.proofs.Keeping.{beside-has}
use Rattle.rc_unstored.proofs.Pins.{PinIn, SeenIn, fewer-in, free-in, gone-in, in-then, same-in}

-- a chain over nothing is there
pub memtable-there : (o : Option KeptChain) → kind_in o ≡ Memtable → IsSomeAnd o (λ k. k.chain.kind ≡ Memtable)
memtable-there None e = absurd (cc)
memtable-there (Some k) e = e

module _ (s : Snap) (m n : Memory) (pin : HasPin m s.chain s.pin) where
  -- the memory without the snapshot
  abbrev mid : Memory
  mid = with_chains (on_chain s.chain (without_snapshot s.pin) m.chains) m

  its : (k : KeptChain) × (chain_at m s.chain ≡ Some k) × IsSome (pin_at k.chain.pins s.pin)
  its = some-chain (λ k. IsSome (pin_at k.chain.pins s.pin)) (chain_at m s.chain) pin

  mid-at : chain_at mid s.chain ≡ option_map (without_snapshot s.pin) (chain_at m s.chain)
  mid-at = chain-done m mid s.chain (without_snapshot s.pin) refl

  mid-there : chain_at mid s.chain ≡ Some (without_snapshot s.pin its.0)
  mid-there = mid-at ∙ ap (option_map (without_snapshot s.pin)) its.1

  mid-beside : (i : ℕ) → (i ≡ s.chain → ⊥) → chain_at mid i ≡ chain_at m i
  mid-beside i ne = chain-beside m mid s.chain (option_map (without_snapshot s.pin) (chain_at m s.chain)) i refl ne

  module _ (found : (k : KeptChain) → chain_at m s.chain ≡ Some k → k.chain.attached ≡ true → n ≡ mid) (freed : (k : KeptChain) → chain_at m s.chain ≡ Some k → k.chain.attached ≡ false → IsFreedUnpinned s.chain mid n) where
    pub released-as : IsReleased s m n
    released-as = record { found = found; freed = freed }

    -- it is gone, of a chain that is no longer found by its key, which nobody pins; or that is all
    abbrev IsFreed : Type 0
    IsFreed = (its.0.chain.attached ≡ false) × AreFree (without_snapshot s.pin its.0).chain.pins × (chain_at n s.chain ≡ None) × ((i : ℕ) → (i ≡ s.chain → ⊥) → chain_at n i ≡ chain_at mid i)

    by-freed : its.0.chain.attached ≡ false → IsFreed ⊎ (n ≡ mid)
    by-freed e = elim (freed its.0 its.1 e (without_snapshot s.pin its.0) mid-there) [
      | inl gone ↦ inl (e, gone.0, chain-put mid n s.chain None gone.1.chains, λ i ne. chain-beside mid n s.chain None i gone.1.chains ne)
      | inr same ↦ inr same.1
    ]

    by-found : (b : Bool) → its.0.chain.attached ≡ b → IsFreed ⊎ (n ≡ mid)
    by-found true e = inr (found its.0 its.1 e)
    by-found false e = by-freed e

    done : IsFreed ⊎ (n ≡ mid)
    done = by-found its.0.chain.attached refl

    beside : (i : ℕ) → (i ≡ s.chain → ⊥) → chain_at n i ≡ chain_at m i
    beside i ne = elim done [ inl gone ↦ gone.3 i ne ∙ mid-beside i ne | inr same ↦ ap (λ (q : Memory). chain_at q i) same ∙ mid-beside i ne ]

    -- ---- what memtables stand for

    module _ (released : (schema : SchemaValue) (chains : List (List ℕ × ℕ)) (old : Memory) (id pin : ℕ) (writes : List Write) → HasWrites schema chains old writes → HasWrites schema chains (with_chains (on_chain id (without_snapshot pin) old.chains) old) writes) where
      pub released-has : (schema : SchemaValue) (chains : List (List ℕ × ℕ)) (writes : List Write) → HasWrites schema chains m writes → HasWrites schema chains n writes
      released-has schema chains writes h = elim done [
        | inl gone ↦ beside-has schema chains m n writes (λ key id e. beside id (λ same.
            let k = h.kept key id e in
            let one : k.0 ≡ its.0 = same_some k.0 its.0 (sym k.1 ∙ ap (chain_at m) same ∙ its.1) in
            let no : true ≡ false = sym k.2.attached ∙ ap (λ (q : KeptChain). q.chain.attached) one ∙ gone.0 in absurd (cc))) h
        | inr same ↦ subst (λ (q : Memory). HasWrites schema chains q writes) (sym same) (released schema chains m s.chain s.pin writes h)
      ]

      pub both-released : {S : ℕ} (u : Unstored S) → u.chains ≡ m → (schema : SchemaValue) (writes later : List Write) → HaveWrites schema u writes later → HaveWrites schema (in_chains n u) writes later
      both-released u at schema writes later h = record {
        sealed = released-has schema u.sealed writes (subst (λ (q : Memory). HasWrites schema u.sealed q writes) at h.sealed);
        active = released-has schema u.active later (subst (λ (q : Memory). HasWrites schema u.active q later) at h.active);
        apart = h.apart;
      }

    -- ---- what snapshots see

    of-its-chain : (p : ℕ) → (p ≡ s.pin → ⊥) → SeenIn p (chain_at m s.chain) (chain_at n s.chain)
    of-its-chain p ne = in-then p (chain_at m s.chain) (chain_at mid s.chain) (chain_at n s.chain)
        (subst (SeenIn p (chain_at m s.chain)) (sym mid-at) (fewer-in (chain_at m s.chain) s.pin p ne))
        (elim done [
          | inl gone ↦ free-in (chain_at mid s.chain) (chain_at n s.chain) (without_snapshot s.pin its.0) mid-there gone.1 p
          | inr same ↦ same-in (chain_at mid s.chain) (chain_at n s.chain) (ap (λ (q : Memory). chain_at q s.chain) same) p
        ])

    any-chain : (t : Snap) → (t.chain ≡ s.chain → t.pin ≡ s.pin → ⊥) → SeenIn t.pin (chain_at m t.chain) (chain_at n t.chain)
    any-chain t ne = elim (same-or-not t.chain s.chain) [
      | inl same ↦ subst (λ (i : ℕ). SeenIn t.pin (chain_at m i) (chain_at n i)) (sym same) (of-its-chain t.pin (ne same))
      | inr off ↦ same-in (chain_at m t.chain) (chain_at n t.chain) (beside t.chain off) t.pin
    ]

    pub others-seen : OthersStillSee s m n
    others-seen t ne on = let x = any-chain t ne on in record { pin = x.0; versions = x.1; kind = x.2 }

    pub one-gone : HasPin n s.chain s.pin → ⊥
    one-gone on = elim done [
      | inl gone ↦ subst (λ (q : Option KeptChain). PinIn q s.pin) gone.2 on
      | inr same ↦ gone-in (chain_at m s.chain) s.pin (subst (λ (q : Option KeptChain). PinIn q s.pin) (ap (λ (z : Memory). chain_at z s.chain) same ∙ mid-at) on)
    ]

-- ---- two of them, one after the other

-- the second one is there once the first one was taken back
pub second-there : (m n : Memory) (a b : Option Snap) → IfSome b (HasSnap m) → IfSome a (λ s. IfSome b (λ t. s.chain ≡ t.chain → ⊥)) → ((s : Snap) → IfSome a (λ t. s.chain ≡ t.chain → s.pin ≡ t.pin → ⊥) → HasPin m s.chain s.pin → StillSees s m n) → IfSome b (HasSnap n)
second-there m n a None h apart others = tt
second-there m n None (Some t) h apart others = let k = others t tt h.pin in record { pin = k.pin; kind = k.kind ∙ h.kind }
second-there m n (Some s) (Some t) h apart others = let k = others t (λ same pin. apart (sym same)) h.pin in record { pin = k.pin; kind = k.kind ∙ h.kind }

-- what another one sees, once both were taken back
pub sees-past : (s : Snap) (snaps : Snaps) (a b c : Memory) → IsNoneOf snaps s → ((s : Snap) → IfSome snaps.sealed (λ x. s.chain ≡ x.chain → s.pin ≡ x.pin → ⊥) → HasPin a s.chain s.pin → StillSees s a b) →
    ((s : Snap) → IfSome snaps.active (λ x. s.chain ≡ x.chain → s.pin ≡ x.pin → ⊥) → HasPin b s.chain s.pin → StillSees s b c) → HasPin a s.chain s.pin → StillSees s a c
sees-past s snaps a b c none first second on = let x = first s none.0 on in let y = second s none.1 x.pin in record { pin = y.pin; versions = y.versions ∙ x.versions; kind = y.kind ∙ x.kind }

pub keys-then : {S : ℕ} (a b c : Unstored S) → AreSameKeys a b → AreSameKeys b c → AreSameKeys a c
keys-then a b c x y = record { sealed = y.sealed ∙ x.sealed; active = y.active ∙ x.active }
