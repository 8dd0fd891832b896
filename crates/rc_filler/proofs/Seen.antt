-- What a snapshot of a cache chain sees, and that it is what the writes say for which it stands.
use Rattle.std.proofs.Common.{◌≡◌, ℕ, List, Option, Some, None, IsSome, refl, sym, ap, ◌∙◌, subst}
use Rattle.std.specs.Prelude.{◌↔◌, Bool, IsSomeAnd, IsTrue}
use Rattle.rc_cell.specs.declared.rows.Row.{Row}
use Rattle.rc_cell.specs.declared.writes.Tomb.{Tomb}
use Rattle.rc_cell.specs.Orders.{tomb_cmp}
use Rattle.rc_cell.specs.Winner.{greatest}
use Rattle.rc_position.specs.declared.positions.Pos.{Pos}
use Rattle.rc_position.specs.Position.{Head, Place}
use Rattle.rc_mutation.specs.declared.mutations.Mutation.{Mutation}
use Rattle.rc_mutation.specs.Source.{source_at, source_at_head, source_at_static}
use Rattle.rc_core.specs.declared.entries.ChainKind.{ChainKind}
use Rattle.rc_core.specs.declared.entries.ChainKind.TheVariants.{Cache}
use Rattle.rc_core.specs.Chain.{IsKnown, content, has_flag, states_at}
use Rattle.rc_core.specs.Chains.{IsChainContinuous, IsPinned, Shown, at_place, phase_at, upto}
use Rattle.rc_core.specs.Continuity.{IsContinuous, static_states, version_tombs}
use Rattle.rc_core.specs.Steps.{IsChain, MayPopulate, pin_at}
use Rattle.rc_core.specs.Version.{On, Version}
use Rattle.rc_core.specs.laws.Pins.{pin-is-pinned}
use Rattle.rc_memory.specs.Memory.{HasPin, KeptChain, Memory, chain_at}
use Rattle.rc_populate.specs.Filling.{MayFill}
use Rattle.rc_populate.specs.laws.Filled.{may-fill}
use Rattle.rc_populate.specs.laws.Opening.{some-and}
use Rattle.rc_stream.specs.Snapshot.{There}
use Rattle.rc_cursor.specs.Snapshots.{AreReadable, IsKnownAs, kind_in, versions_in, versions_upto}
use Rattle.rc_filler.specs.declared.fillers.CacheFiller.{CacheFiller}
use Rattle.rc_filler.specs.Stands.{HasCacheSnapshot, StandsForWrites}
use Rattle.rc_filler.specs.Fillers.{FillerKnows, FillerKnowsStatics, kind_filled, versions_filled}

-- ---- a snapshot that is there

module _ (m : Memory) (id pin : ℕ) (h : HasCacheSnapshot m id pin) where
  kind-seen : kind_in (chain_at m id) ≡ Cache
  kind-seen = ap kind_in h.there ∙ h.cached

  versions-seen : versions_in (chain_at m id) pin ≡ upto h.chain.chain.versions h.number
  versions-seen = ap (λ o. versions_in o pin) h.there ∙ ap (versions_upto h.chain.chain.versions) h.pinned

  -- what holds of what it sees
  pub as-seen : (P : ChainKind → List Version → Type 0) → P Cache (upto h.chain.chain.versions h.number) → P (kind_in (chain_at m id)) (versions_in (chain_at m id) pin)
  as-seen P k = subst (λ q. P q (versions_in (chain_at m id) pin)) (sym kind-seen) (subst (P Cache) (sym versions-seen) k)

  pub of-seen : (P : ChainKind → List Version → Type 0) → P (kind_in (chain_at m id)) (versions_in (chain_at m id) pin) → P Cache (upto h.chain.chain.versions h.number)
  of-seen P k = subst (P Cache) versions-seen (subst (λ q. P q (versions_in (chain_at m id) pin)) kind-seen k)

  pub pins-there : IsPinned h.chain.chain.pins h.number
  pins-there = pin-is-pinned h.chain.chain.pins pin h.number h.pinned

  pub has-pin : HasPin m id pin
  has-pin = subst (λ o. IsSomeAnd o (λ k. IsSome (pin_at k.chain.pins pin))) (sym h.there) (subst (λ (o : Option ℕ). IsSome o) (sym h.pinned) refl)

  -- it may be filled
  pub may-there : MayFill m id pin → MayPopulate (at_place Head h.chain.chain) h.number
  may-there may = subst (λ (o : Option ℕ). IsSomeAnd o (MayPopulate (at_place Head h.chain.chain))) h.pinned
      (subst (λ (o : Option KeptChain). IsSomeAnd o (λ k. IsSomeAnd (pin_at k.chain.pins pin) (MayPopulate (at_place Head k.chain)))) h.there may)

-- the chain and the number of a snapshot that may be filled
pub may-of : (m : Memory) (id pin : ℕ) → MayFill m id pin → (k : KeptChain) × (j : ℕ) × (chain_at m id ≡ Some k) × (pin_at k.chain.pins pin ≡ Some j) × MayPopulate (at_place Head k.chain) j
may-of m id pin h =
    let k = some-and (chain_at m id) (λ k. IsSomeAnd (pin_at k.chain.pins pin) (MayPopulate (at_place Head k.chain))) h in
    let j = some-and (pin_at k.0.chain.pins pin) (MayPopulate (at_place Head k.0.chain)) k.2 in (k.0, j.0, k.1, j.1, j.2)

-- ---- the writes it stands for

module _ (law : (below : ℕ → List Mutation) (p : Place) (c : Shown) (j : ℕ) → IsChain (at_place p c) → IsChainContinuous below (at_place p c) → IsPinned c.pins j → IsContinuous None (below (phase_at c.versions j)) (upto c.versions j))
    (S : ℕ) (m : Memory) (id pin : ℕ) (writes : List Mutation) (s : StandsForWrites S m id pin writes) where
  source : IsContinuous None (s.below (phase_at s.snapshot.chain.chain.versions s.snapshot.number)) (upto s.snapshot.chain.chain.versions s.snapshot.number)
  source = law s.below s.place s.snapshot.chain.chain s.snapshot.number s.form s.continuous (pins-there m id pin s.snapshot)

  pub said-there : (x : Pos) (v : There) → IsKnownAs Cache (upto s.snapshot.chain.chain.versions s.snapshot.number) x v → source_at writes x ≡ v
  said-there x v k = sym (s.source.clustered x) ∙ sym (source.clustered x tt k.known.at) ∙ k.there

  -- what is seen where a position is known
  pub content-there : (x : Pos) → IsKnown Cache (upto s.snapshot.chain.chain.versions s.snapshot.number) x → content (states_at (On x) (upto s.snapshot.chain.chain.versions s.snapshot.number)) ≡ source_at writes x
  content-there x k = source.clustered x tt k.at ∙ s.source.clustered x

  pub statics-there : IsTrue (has_flag Cache (static_states (upto s.snapshot.chain.chain.versions s.snapshot.number))) → (content (static_states (upto s.snapshot.chain.chain.versions s.snapshot.number))).0 ≡ source_at_static writes
  statics-there f = ap (λ (a : Row × Option Tomb). a.0) (source.statics tt f) ∙ s.source.statics

module _ (law : (below : ℕ → List Mutation) (p : Place) (c : Shown) (j : ℕ) → IsChain (at_place p c) → IsChainContinuous below (at_place p c) → IsPinned c.pins j → IsContinuous None (below (phase_at c.versions j)) (upto c.versions j)) where
  pub knows-said : (S : ℕ) (m : Memory) (f : CacheFiller) (writes : List Mutation) → StandsForWrites S m f.chain f.pin writes → (x : Pos) (v : There) → FillerKnows m f x v → source_at writes x ≡ v
  knows-said S m f writes s x v k = said-there law S m f.chain f.pin writes s x v (of-seen m f.chain f.pin s.snapshot (λ kind vs. IsKnownAs kind vs x v) k)

  pub statics-said : (S : ℕ) (m : Memory) (f : CacheFiller) (writes : List Mutation) → StandsForWrites S m f.chain f.pin writes → (row : Row) → FillerKnowsStatics m f row → source_at_static writes ≡ row
  statics-said S m f writes s row k =
      sym (statics-there law S m f.chain f.pin writes s (of-seen m f.chain f.pin s.snapshot (λ kind vs. IsTrue (has_flag kind (static_states vs))) k.0))
      ∙ of-seen m f.chain f.pin s.snapshot (λ kind vs. (content (static_states vs)).0 ≡ row) k.1

  pub head-said : (S : ℕ) (m : Memory) (f : CacheFiller) (writes : List Mutation) → StandsForWrites S m f.chain f.pin writes → greatest tomb_cmp (version_tombs (versions_filled m f)) ≡ source_at_head writes
  head-said S m f writes s = as-seen m f.chain f.pin s.snapshot (λ kind vs. greatest tomb_cmp (version_tombs vs) ≡ source_at_head writes) ((source law S m f.chain f.pin writes s).head tt ∙ s.source.head)

-- and it can be read
pub read-there : ((below : ℕ → List Mutation) (p : Place) (c : Shown) (j : ℕ) → c.kind ≡ Cache → IsChain (at_place p c) → IsChainContinuous below (at_place p c) → IsPinned c.pins j → AreReadable c.kind (upto c.versions j)) →
    (S : ℕ) (m : Memory) (f : CacheFiller) (writes : List Mutation) → StandsForWrites S m f.chain f.pin writes → HasPin m f.chain f.pin × AreReadable (kind_filled m f) (versions_filled m f)
read-there law S m f writes s = let k = s.snapshot in (
  has-pin m f.chain f.pin k,
  as-seen m f.chain f.pin k (λ kind vs. AreReadable kind vs) (subst (λ kind. AreReadable kind (upto k.chain.chain.versions k.number)) k.cached (law s.below s.place k.chain.chain k.number k.cached s.form s.continuous (pins-there m f.chain f.pin k))),
)

-- ---- whether a snapshot may be filled

-- a snapshot that is there, its chain and the number of its version
pub pin-there : (m : Memory) (id pin : ℕ) → HasPin m id pin → (k : KeptChain) × (j : ℕ) × (chain_at m id ≡ Some k) × (pin_at k.chain.pins pin ≡ Some j)
pin-there m id pin h =
    let k = some-and (chain_at m id) (λ k. IsSome (pin_at k.chain.pins pin)) h in
    let j = number (pin_at k.0.chain.pins pin) k.2 in (k.0, j.0, k.1, j.1)
  where
    number : (o : Option ℕ) → IsSome o → (j : ℕ) × (o ≡ Some j)
    number None h = absurd (cc)
    number (Some j) h = (j, refl)

pub may-told : (m : Memory) (id pin : ℕ) (b : Bool) → HasPin m id pin → ((k : KeptChain) (j : ℕ) → chain_at m id ≡ Some k → pin_at k.chain.pins pin ≡ Some j → IsTrue b ↔ MayPopulate (at_place Head k.chain) j) → IsTrue b ↔ MayFill m id pin
may-told m id pin b h told =
    let w = pin-there m id pin h in
    let both = told w.0 w.1 w.2 w.3 in (
      λ t. may-fill m id pin w.1 w.0 w.2 w.3 (both.0 t),
      λ may. both.1 (subst (λ (o : Option ℕ). IsSomeAnd o (MayPopulate (at_place Head w.0.chain))) w.3
          (subst (λ (o : Option KeptChain). IsSomeAnd o (λ k. IsSomeAnd (pin_at k.chain.pins pin) (MayPopulate (at_place Head k.chain)))) w.2 may)),
    )
