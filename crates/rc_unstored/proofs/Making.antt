-- What evictions, and so making room, leave of memtables and of what snapshots see.
use Rattle.std.proofs.Common.{◌≡◌, ℕ, List, Option, Some, None, IsSome, refl, sym, ap, ◌∙◌, subst}
use Rattle.rc_schema.specs.SchemaValue.{SchemaValue}
use Rattle.rc_mutation.specs.declared.mutations.Write.{Write}
use Rattle.rc_core.specs.declared.entries.ChainKind.TheVariants.{Memtable}
use Rattle.rc_core.specs.Chains.{IsPinned}
use Rattle.rc_core.specs.Steps.{pin_at}
use Rattle.rc_core.specs.laws.Pins.{pin-is-pinned}
use Rattle.rc_memory.specs.Memory.{HasPin, KeptChain, Member, Memory, chain_at}
use Rattle.rc_memory.specs.Recency.{IsRecency}
use Rattle.rc_evict.specs.Snap.{Snap}
use Rattle.rc_snapshots.specs.Snapshots.{kind_in}
use Rattle.rc_evict.specs.Evictions.{AreEvicted, IsRoomMade, evicted_of}
use Rattle.rc_memtable.specs.Writes.{HasWrites, chain_of}
use Rattle.rc_snapshots.specs.Seeing.{AllStillSee, HasSnap, StillSees}
use Rattle.rc_unstored.specs.declared.unstored.Unstored.{Unstored}
use Rattle.rc_unstored.specs.Memtables.{HaveWrites, in_chains}
use Rattle.rc_unstored.proofs.Chains.{is-chain, some-chain}
use Rattle.rc_unstored.proofs.Keeping.{both-beside}
use Rattle.rc_unstored.proofs.Pins.{same-in}

-- evictions touch no memtable's chain
abbrev pub SparesMemtables : Type 0
SparesMemtables = (went : List Member) (gone : List ℕ) (old new : Memory) (id : ℕ) (k : KeptChain) → IsRecency old → AreEvicted went gone old new → chain_at old id ≡ Some k → k.chain.kind ≡ Memtable → chain_at new id ≡ Some k

-- they drop no chain that a snapshot pins
abbrev pub SparesPinned : Type 0
SparesPinned = (went : List Member) (gone : List ℕ) (old new : Memory) (id j : ℕ) (k : KeptChain) → AreEvicted went gone old new → chain_at old id ≡ Some k → IsPinned k.chain.pins j → chain_at new id ≡ Some (evicted_of id went k)

-- and leave a chain its snapshots
abbrev pub LeavesPins : Type 0
LeavesPins = (id : ℕ) (went : List Member) (k : KeptChain) → (evicted_of id went k).chain.pins ≡ k.chain.pins

module _ (spares : SparesMemtables) (S : ℕ) (m n : Memory) (rule : IsRecency m) (went : List Member) (gone : List ℕ) (evicted : AreEvicted went gone m n) where
  memtable-same : (id : ℕ) (k : KeptChain) → chain_at m id ≡ Some k → k.chain.kind ≡ Memtable → chain_at n id ≡ chain_at m id
  memtable-same id k there kind = spares went gone m n id k rule evicted there kind ∙ sym there

  -- ---- what memtables stand for

  pub spared-beside : (schema : SchemaValue) (keys : List (List ℕ × ℕ)) (writes : List Write) → HasWrites schema keys m writes → (key : List ℕ) (id : ℕ) → chain_of keys key ≡ Some id → chain_at n id ≡ chain_at m id
  spared-beside schema keys writes h key id e = let k = h.kept key id e in memtable-same id k.0 k.1 k.2.kind

  pub both-spared : (schema : SchemaValue) (u : Unstored S) → u.chains ≡ m → (writes later : List Write) → HaveWrites schema u writes later → HaveWrites schema (in_chains n u) writes later
  both-spared schema u at writes later h = both-beside schema u n writes later
      (λ key id e. spared-beside schema u.sealed writes (subst (λ (q : Memory). HasWrites schema u.sealed q writes) at h.sealed) key id e ∙ ap (λ (q : Memory). chain_at q id) (sym at))
      (λ key id e. spared-beside schema u.active later (subst (λ (q : Memory). HasWrites schema u.active q later) at h.active) key id e ∙ ap (λ (q : Memory). chain_at q id) (sym at))
      h

  -- ---- what snapshots see

  still-sees : (s : Snap) → HasSnap m s → StillSees s m n
  still-sees s h =
      let k = some-chain (λ q. IsSome (pin_at q.chain.pins s.pin)) (chain_at m s.chain) h.pin in
      let x = same-in (chain_at m s.chain) (chain_at n s.chain) (memtable-same s.chain k.0 k.1 (sym (ap kind_in k.1) ∙ h.kind)) s.pin h.pin in
      record { pin = x.0; versions = x.1; kind = x.2 }

  module _ (pinned : SparesPinned) (pins : LeavesPins) where
    by-pin : (s : Snap) (k : KeptChain) → chain_at m s.chain ≡ Some k → (o : Option ℕ) → pin_at k.chain.pins s.pin ≡ o → IsSome o → HasPin n s.chain s.pin
    by-pin s k there None e on = absurd (cc)
    by-pin s k there (Some j) e on =
        is-chain (λ q. IsSome (pin_at q.chain.pins s.pin)) (chain_at n s.chain) (evicted_of s.chain went k)
        (pinned went gone m n s.chain j k evicted there (pin-is-pinned k.chain.pins s.pin j e))
        (subst (λ (ps : List (Option ℕ)). IsSome (pin_at ps s.pin)) (sym (pins s.chain went k)) (subst (λ (o : Option ℕ). IsSome o) (sym e) on))

    still-there : (s : Snap) → HasPin m s.chain s.pin → HasPin n s.chain s.pin
    still-there s on = let k = some-chain (λ q. IsSome (pin_at q.chain.pins s.pin)) (chain_at m s.chain) on in by-pin s k.0 k.1 (pin_at k.0.chain.pins s.pin) refl k.2

    pub spared-seen : AllStillSee m n
    spared-seen = record { see = still-sees; there = still-there }

-- ---- where room was made

module _ (spares : SparesMemtables) (S : ℕ) (m n : Memory) (rule : IsRecency m) (made : IsRoomMade S m n) where
  pub made-beside : (schema : SchemaValue) (keys : List (List ℕ × ℕ)) (writes : List Write) → HasWrites schema keys m writes → (key : List ℕ) (id : ℕ) → chain_of keys key ≡ Some id → chain_at n id ≡ chain_at m id
  made-beside = spared-beside spares S m n rule made.went made.gone made.evicted

  pub both-made : (schema : SchemaValue) (u : Unstored S) → u.chains ≡ m → (writes later : List Write) → HaveWrites schema u writes later → HaveWrites schema (in_chains n u) writes later
  both-made = both-spared spares S m n rule made.went made.gone made.evicted

  pub made-seen : SparesPinned → LeavesPins → AllStillSee m n
  made-seen = spared-seen spares S m n rule made.went made.gone made.evicted
