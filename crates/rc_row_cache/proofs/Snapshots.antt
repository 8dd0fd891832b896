-- What the cache says, and what snapshots pin, where a snapshot is taken, or taken back.
use Rattle.std.proofs.Common.{◌≡◌, ◌≢◌, ℕ, true, List, [], ◌∷◌, ◌++◌, Option, Some, None, length, refl, sym, ap, ◌∙◌, subst}
use Rattle.std.specs.Prelude.{IfSome}
use Rattle.rc_position.specs.Position.{Head, Place}
use Rattle.rc_schema.specs.SchemaValue.{SchemaValue}
use Rattle.rc_mutation.specs.declared.mutations.Mutation.{Mutation}
use Rattle.rc_core.specs.declared.entries.ChainKind.TheVariants.{Cache}
use Rattle.rc_core.specs.Chains.{IsChainContinuous, at_place, phase_at}
use Rattle.rc_core.specs.Steps.{IsChain, free_number, pin_at}
use Rattle.rc_core.specs.Version.{Version}
use Rattle.rc_core.specs.laws.Pins.{pin-is-pinned}
use Rattle.rc_registry.specs.Registry.{AreFree}
use Rattle.rc_memory.specs.Kept.{IsSoundChain}
use Rattle.rc_memory.specs.Memory.{KeptChain, Member, Memory, IsSnapshotTaken, IsVersionAt, chain_at, on_chain, snapshot_number, with_chains, with_snapshot, without_snapshot}
use Rattle.rc_chain.specs.Lives.{IsChainDropped}
use Rattle.rc_filler.specs.Stands.{HasCacheSnapshot}
use Rattle.rc_row_cache.specs.Saying.{Below, CacheSays, PinsAlike, phase_pinned}
use Rattle.rc_row_cache.proofs.Numbered.{chain-beside, changed-now, here-or-beside, none-is-none}
use Rattle.rc_row_cache.proofs.Cache.{changed-says, pins-changed, pins-same}

-- what is known of a snapshot that is taken
pub record SnapshotLaws : Type 0 where
  pub free : (pins : List (Option ℕ)) → pin_at pins (free_number pins) ≡ None
  pub given_at : (version : ℕ) (k : KeptChain) → pin_at (with_snapshot version k).chain.pins (free_number k.chain.pins) ≡ Some version
  pub others : (version pin : ℕ) (k : KeptChain) → pin ≢ free_number k.chain.pins → pin_at (with_snapshot version k).chain.pins pin ≡ pin_at k.chain.pins pin
  pub chain : (below : ℕ → List Mutation) (p : Place) (k : KeptChain) → IsSoundChain k.chain → k.chain.attached ≡ true → IsChainContinuous below (at_place p k.chain) → IsChainContinuous below (at_place p (with_snapshot (snapshot_number k.chain) k).chain)
  pub form : (p : Place) (k : KeptChain) → IsSoundChain k.chain → IsChain (at_place p k.chain) → IsChain (at_place p (with_snapshot (snapshot_number k.chain) k).chain)

-- and of one that is taken back
pub record ReleaseLaws : Type 0 where
  pub kept : (pin other : ℕ) (k : KeptChain) → other ≢ pin → pin_at (without_snapshot pin k).chain.pins other ≡ pin_at k.chain.pins other
  pub less_chain : (below : ℕ → List Mutation) (p : Place) (pin : ℕ) (k : KeptChain) → IsChainContinuous below (at_place p k.chain) → IsChainContinuous below (at_place p (without_snapshot pin k).chain)
  pub less_form : (p : Place) (pin : ℕ) (k : KeptChain) → IsChain (at_place p k.chain) → IsChain (at_place p (without_snapshot pin k).chain)

phase-of : (older : List Version) (v : Version) (newer : List Version) → phase_at (older ++ v ∷ newer) (length older) ≡ v.phase
phase-of [] v newer = refl
phase-of (o ∷ os) v newer = phase-of os v newer

version-phase : (vs : List Version) (j : ℕ) (v : Version) → IsVersionAt vs j v → phase_at vs j ≡ v.phase
version-phase vs j v at = ap (λ us. phase_at us j) at.split ∙ ap (phase_at (at.older ++ v ∷ at.newer)) (sym at.number) ∙ phase-of at.older v at.newer

-- the chain with one snapshot more
abbrev pub more : KeptChain → KeptChain
more k = with_snapshot (snapshot_number k.chain) k

module _ (laws : SnapshotLaws) (id pin phase : ℕ) (old new : Memory) (taken : IsSnapshotTaken old new id pin phase) where
  pub is : new.chains ≡ on_chain id more old.chains
  is = ap (λ (m : Memory). m.chains) taken.now

  pub number-of : (k : KeptChain) → chain_at old id ≡ Some k → pin ≡ free_number k.chain.pins
  number-of k e = subst (λ (o : Option KeptChain). IfSome o (λ q. pin ≡ free_number q.chain.pins)) e taken.number

  -- it is there, and pins a version of this phase
  pub taken-there : (k : KeptChain) → chain_at old id ≡ Some k → k.chain.kind ≡ Cache → (h : HasCacheSnapshot new id pin) × (phase_pinned h ≡ phase)
  taken-there k e cached =
      let v = subst (λ (o : Option KeptChain). IfSome o (λ q. (v : Version) × IsVersionAt q.chain.versions (snapshot_number q.chain) v × (phase ≡ v.phase))) e taken.version in (
        record {
          chain = more k;
          number = snapshot_number k.chain;
          there = changed-now old new id more is k e;
          pinned = ap (pin_at (more k).chain.pins) (number-of k e) ∙ laws.given_at (snapshot_number k.chain) k;
          cached = cached;
        },
        version-phase k.chain.versions (snapshot_number k.chain) v.0 v.1 ∙ sym v.2,
      )

  pub taken-says : (schema : SchemaValue) (below : Below) → ((k : KeptChain) → chain_at old id ≡ Some k → IsSoundChain k.chain × (k.chain.attached ≡ true)) → CacheSays schema below old → CacheSays schema below new
  taken-says schema below sound = changed-says schema below id more old new is (λ k. refl) (λ k e s. record {
    settled = s.settled;
    form = laws.form Head k (sound k e).0 s.form;
    continuous = laws.chain (below id) Head k (sound k e).0 (sound k e).1 s.continuous;
    rows = s.rows;
  })

  -- one that was there had another number
  pub taken-pins : (below : ℕ → List Mutation) (chain other : ℕ) → PinsAlike below below chain other old new
  taken-pins below chain other = pins-changed below chain other old new id more is (λ k. refl)
      (λ e k j there on. laws.others (snapshot_number k.chain) other k (λ same. none-is-none j (sym (laws.free k.chain.pins) ∙ ap (pin_at k.chain.pins) (sym same) ∙ on)) ∙ on) (λ k. refl)

module _ (laws : ReleaseLaws) (id pin : ℕ) (m : Memory) where
  pub released-says : (schema : SchemaValue) (below : Below) → CacheSays schema below m → CacheSays schema below (with_chains (on_chain id (without_snapshot pin) m.chains) m)
  released-says schema below = changed-says schema below id (without_snapshot pin) m (with_chains (on_chain id (without_snapshot pin) m.chains) m) refl (λ k. refl) (λ k e s. record {
    settled = s.settled;
    form = laws.less_form Head pin k s.form;
    continuous = laws.less_chain (below id) Head pin k s.continuous;
    rows = s.rows;
  })

  pub released-pins : (below : ℕ → List Mutation) (chain other : ℕ) → (chain ≡ id → other ≢ pin) → PinsAlike below below chain other m (with_chains (on_chain id (without_snapshot pin) m.chains) m)
  released-pins below chain other apart = pins-changed below chain other m (with_chains (on_chain id (without_snapshot pin) m.chains) m) id (without_snapshot pin) refl (λ k. refl) (λ e k j there on. laws.kept pin other k (apart e) ∙ on) (λ k. refl)

-- a chain goes that nobody pins
pub dropped-pins : (id : ℕ) (list : List Member) (old new : Memory) → IsChainDropped id list old new → ((k : KeptChain) → chain_at old id ≡ Some k → AreFree k.chain.pins) → (below : ℕ → List Mutation) (chain pin : ℕ) → PinsAlike below below chain pin old new
dropped-pins id list old new d free below chain pin h = pins-same below chain pin old new (λ k kind e. here-or-beside (λ i. chain_at old i ≡ Some h.chain → chain_at new i ≡ chain_at old i) id chain
    (λ there. absurd (free h.chain there h.number (pin-is-pinned h.chain.chain.pins pin h.number h.pinned)))
    (λ ne there. chain-beside old new id None d.chains chain ne) h.there ∙ e) h
