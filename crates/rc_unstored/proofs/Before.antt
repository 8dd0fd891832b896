-- Where chains are as they were, but that a number of a snapshot may be free that none had.
use Rattle.std.proofs.Common.{inl, inr, ◌≡◌, ◌⊎◌, ℕ, suc, true, List, Option, Some, None, IsSome, length, refl, sym, ap, ◌∙◌, subst}
use Rattle.rc_schema.specs.SchemaValue.{SchemaValue}
use Rattle.rc_mutation.specs.declared.mutations.Mutation.{Mutation}
use Rattle.rc_mutation.specs.declared.mutations.Write.{Write}
use Rattle.rc_mutation.specs.Source.{changes_to}
use Rattle.rc_core.specs.declared.entries.ChainKind.TheVariants.{Memtable}
use Rattle.rc_core.specs.Chain.{IsEvenAt}
use Rattle.rc_core.specs.Chains.{AllInherit, IsPinned, upto}
use Rattle.rc_core.specs.Continuity.{EachOf}
use Rattle.rc_core.specs.StandsFor.{StandsFor}
use Rattle.rc_core.specs.Steps.{pin_at}
use Rattle.rc_core.specs.Version.{Version}
use Rattle.rc_core.specs.laws.Pins.{pin-is-pinned, pinned-by-number}
use Rattle.rc_memory.specs.Memory.{KeptChain, Memory, chain_at}
use Rattle.rc_snapshots.specs.Snapshots.{versions_upto}
use Rattle.rc_memtable.specs.Changes.{KeepsChanges}
use Rattle.rc_memtable.specs.Fits.{IsVersionUnder}
use Rattle.rc_memtable.specs.Partitions.{AreAsBefore, IsAsBefore}
use Rattle.rc_memtable.specs.Writes.{HasWrites}
use Rattle.rc_unstored.specs.declared.unstored.Unstored.{Unstored}
use Rattle.rc_unstored.specs.Memtables.{HaveWrites, in_chains}
use Rattle.rc_snapshots.specs.Seeing.{AreSameSnapshots}
use Rattle.rc_unstored.proofs.Pins.{KeptIn, PinIn, SeenIn, all-seen}

-- ---- nothing was done

same-chain : (k : KeptChain) → IsAsBefore k k
same-chain k = record { kind = refl; versions = refl; attached = refl; updating = refl; pins = λ pin. refl; passed = refl }

as-before : (m : Memory) → AreAsBefore m m
as-before m = record { there = λ id k e. (k, e, same-chain k); absent = λ id e. e; recency = refl; dropped = refl; counts = refl; region = refl; standing = refl }

pub before-of : (m n : Memory) → n ≡ m → AreAsBefore m n
before-of m n e = subst (AreAsBefore m) (sym e) (as-before m)

-- a chain that is not changed is as it was
pub before-same : (k : KeptChain) (o n : Option KeptChain) → o ≡ Some k → n ≡ o → (now : KeptChain) × (n ≡ Some now) × IsAsBefore k now
before-same k o n there same = (k, same ∙ there, same-chain k)

-- ---- what a memtable stands for

still-needed : (k n : KeptChain) → IsAsBefore k n → (j : ℕ) → IsPinned n.chain.pins j ⊎ ((n.chain.attached ≡ true) × (suc j ≡ length n.chain.versions)) → IsPinned k.chain.pins j ⊎ ((k.chain.attached ≡ true) × (suc j ≡ length k.chain.versions))
still-needed k n b j h = elim h [
  | inl on ↦ (let i = pinned-by-number n.chain.pins j on in inl (pin-is-pinned k.chain.pins i.0 j (sym (b.pins i.0) ∙ i.1)))
  | inr top ↦ inr (sym b.attached ∙ top.0, top.1 ∙ ap (λ (vs : List Version). length vs) b.versions)
]

before-keeps : (schema : SchemaValue) (k n : KeptChain) (changes : List Mutation) → IsAsBefore k n → KeepsChanges schema k.chain changes → KeepsChanges schema n.chain changes
before-keeps schema k n changes b h = record {
  kind = b.kind ∙ h.kind;
  attached = b.attached ∙ h.attached;
  form = record {
    flags = subst (EachOf AllInherit) (sym b.versions) h.form.flags;
    even = λ j on x. subst (λ (vs : List Version). IsEvenAt Memtable (upto vs j) x) (sym b.versions) (h.form.even j (still-needed k n b j on) x);
  };
  stands = subst (StandsFor changes) (sym b.versions) h.stands;
  fits = subst (EachOf (IsVersionUnder schema)) (sym b.versions) h.fits;
}

before-has : (schema : SchemaValue) (keys : List (List ℕ × ℕ)) (m n : Memory) (writes : List Write) → AreAsBefore m n → HasWrites schema keys m writes → HasWrites schema keys n writes
before-has schema keys m n writes b h = record {
  keys = h.keys;
  kept = λ key id e. let k = h.kept key id e in let q = b.there id k.0 k.1 in (q.0, q.1, before-keeps schema k.0 q.0 (changes_to key writes) q.2 k.2);
  apart = h.apart;
}

pub both-before : {S : ℕ} (schema : SchemaValue) (u : Unstored S) (n : Memory) (writes later : List Write) → AreAsBefore u.chains n → HaveWrites schema u writes later → HaveWrites schema (in_chains n u) writes later
both-before schema u n writes later b h = record { sealed = before-has schema u.sealed u.chains n writes b h.sealed; active = before-has schema u.active u.chains n later b h.active; apart = h.apart }

-- ---- what snapshots see

before-some : (k n : KeptChain) → IsAsBefore k n → KeptIn (Some k) (Some n)
before-some k n b pin on = (
  subst (λ (o : Option ℕ). IsSome o) (sym (b.pins pin)) on,
  ap (λ (o : Option ℕ). versions_upto n.chain.versions o) (b.pins pin) ∙ ap (λ (vs : List Version). versions_upto vs (pin_at k.chain.pins pin)) b.versions,
  b.kind,
)

before-in : (m n : Memory) → AreAsBefore m n → (i : ℕ) (o : Option KeptChain) → chain_at m i ≡ o → KeptIn o (chain_at n i)
before-in m n b i None e pin on = absurd on
before-in m n b i (Some k) e pin on = let q = b.there i k e in subst (λ (x : Option KeptChain). SeenIn pin (Some k) x) (sym q.1) (before-some k q.0 q.2 pin) on

before-less : (m n : Memory) → AreAsBefore m n → (i pin : ℕ) (o : Option KeptChain) → chain_at m i ≡ o → PinIn (chain_at n i) pin → PinIn o pin
before-less m n b i pin None e on = subst (λ (x : Option KeptChain). PinIn x pin) (b.absent i e) on
before-less m n b i pin (Some k) e on = let q = b.there i k e in subst (λ (o : Option ℕ). IsSome o) (q.2.pins pin) (subst (λ (x : Option KeptChain). PinIn x pin) q.1 on)

pub before-seen : (m n : Memory) → AreAsBefore m n → AreSameSnapshots m n
before-seen m n b = record { alike = all-seen m n (λ i. before-in m n b i (chain_at m i) refl); none_more = λ s on. before-less m n b s.chain s.pin (chain_at m s.chain) refl on }
