-- Room that is made leaves a snapshot of a cache chain, and the writes that it stands for.
use Rattle.std.proofs.Common.{◌≡◌, ℕ, List, Some, None, cond, get_or, length, sym, ap, ◌∙◌, subst}
use Rattle.rc_position.specs.Position.{Head, Place}
use Rattle.rc_mutation.specs.declared.mutations.Mutation.{Mutation}
use Rattle.rc_mutation.specs.Source.{SameSource}
use Rattle.rc_core.specs.Chains.{IsChainContinuous, IsPinned, at_place, phases}
use Rattle.rc_core.specs.Steps.{IsChain, pin_at}
use Rattle.rc_memory.specs.Memory.{KeptChain, Member, Memory, chain_at}
use Rattle.rc_memory.specs.Recency.{IsRecency}
use Rattle.rc_evict.specs.Evictions.{AreEvicted, IsPlaceUnlisted, evicted_of}
use Rattle.rc_populate.specs.Filling.{MayFill}
use Rattle.rc_populate.specs.laws.Filled.{may-fill}
use Rattle.rc_core.specs.laws.Pins.{pin-is-pinned}
use Rattle.rc_filler.specs.Stands.{HasCacheSnapshot, HoldsRowsOf, StandsForWrites}
use Rattle.rc_evict.specs.Evictions.{IsRoomMade}
use Rattle.rc_filler.proofs.Entries.{evicted-each}
use Rattle.rc_filler.proofs.OfSchema.{evicted-rows}
use Rattle.rc_filler.proofs.Seen.{may-of}

-- what is known of evictions
pub record EvictionLaws : Type 0 where
  pub kind : (id : ℕ) (went : List Member) (k : KeptChain) → (evicted_of id went k).chain.kind ≡ k.chain.kind
  pub attached : (id : ℕ) (went : List Member) (k : KeptChain) → (evicted_of id went k).chain.attached ≡ k.chain.attached
  pub updating : (id : ℕ) (went : List Member) (k : KeptChain) → (evicted_of id went k).chain.updating ≡ k.chain.updating
  pub pins : (id : ℕ) (went : List Member) (k : KeptChain) → (evicted_of id went k).chain.pins ≡ k.chain.pins
  pub passed : (id : ℕ) (went : List Member) (k : KeptChain) → (evicted_of id went k).passed ≡ k.passed
  pub count : (id : ℕ) (went : List Member) (k : KeptChain) → length (evicted_of id went k).chain.versions ≡ length k.chain.versions
  pub phases : (id : ℕ) (went : List Member) (k : KeptChain) → phases (evicted_of id went k).chain.versions ≡ phases k.chain.versions
  pub pinned : (went : List Member) (gone : List ℕ) (old new : Memory) (id j : ℕ) (k : KeptChain) → AreEvicted went gone old new → chain_at old id ≡ Some k → IsPinned k.chain.pins j → chain_at new id ≡ Some (evicted_of id went k)
  pub form : (p : Place) (id : ℕ) (went : List Member) (k : KeptChain) → IsChain (at_place p k.chain) → IsChain (at_place p (evicted_of id went k).chain)
  pub continuous : (below : ℕ → List Mutation) (p : Place) (went : List Member) (gone : List ℕ) (old new : Memory) (id : ℕ) (k : KeptChain) → IsRecency old → AreEvicted went gone old new → chain_at old id ≡ Some k →
      IsChain (at_place p k.chain) → IsPlaceUnlisted p id k.chain old.recency → IsChainContinuous below (at_place p k.chain) → IsChainContinuous below (at_place p (evicted_of id went k).chain)
  pub place : (p : Place) (went : List Member) (gone : List ℕ) (old new : Memory) (id : ℕ) (k : KeptChain) → AreEvicted went gone old new → IsPlaceUnlisted p id k.chain old.recency → IsPlaceUnlisted p id (evicted_of id went k).chain new.recency

module _ (laws : EvictionLaws) (S : ℕ) (old new : Memory) (r : IsRoomMade S old new) where
  pub room-chain : (id j : ℕ) (k : KeptChain) → chain_at old id ≡ Some k → IsPinned k.chain.pins j → chain_at new id ≡ Some (evicted_of id r.went k)
  room-chain id j k e on = laws.pinned r.went r.gone old new id j k r.evicted e on

  module _ (id pin : ℕ) where
    pub room-there : HasCacheSnapshot old id pin → HasCacheSnapshot new id pin
    room-there h = record {
      chain = evicted_of id r.went h.chain;
      number = h.number;
      there = room-chain id h.number h.chain h.there (pin-is-pinned h.chain.chain.pins pin h.number h.pinned);
      pinned = ap (λ ps. pin_at ps pin) (laws.pins id r.went h.chain) ∙ h.pinned;
      cached = laws.kind id r.went h.chain ∙ h.cached;
    }

    pub room-may : MayFill old id pin → MayFill new id pin
    room-may h =
        let w = may-of old id pin h in
        may-fill new id pin w.1 (evicted_of id r.went w.0) (room-chain id w.1 w.0 w.2 (pin-is-pinned w.0.chain.pins pin w.1 w.3)) (ap (λ ps. pin_at ps pin) (laws.pins id r.went w.0) ∙ w.3)
        (record {
          newest = w.4.newest ∙ sym (laws.count id r.went w.0);
          attached = laws.attached id r.went w.0 ∙ w.4.attached;
          settled = ap (λ b. cond b (Some Head) None) (laws.updating id r.went w.0) ∙ w.4.settled;
        })

    pub room-stands : (writes : List Mutation) → IsRecency old → StandsForWrites S old id pin writes → StandsForWrites S new id pin writes
    unfolding room-there
    room-stands writes rule s =
        let k = s.snapshot.chain in record {
          snapshot = room-there s.snapshot;
          place = s.place;
          below = s.below;
          form = laws.form s.place id r.went k s.form;
          continuous = laws.continuous s.below s.place r.went r.gone old new id k rule r.evicted s.snapshot.there s.form s.unlisted s.continuous;
          unlisted = laws.place s.place r.went r.gone old new id k r.evicted s.unlisted;
          source = subst (λ (ps : List ℕ). SameSource (s.below (get_or ps s.snapshot.number 0)) writes) (sym (laws.phases id r.went k)) s.source;
          schema = s.schema;
          limits = s.limits;
          small = s.small;
          changes = s.changes;
          rows = evicted-each (HoldsRowsOf s.schema) (evicted-rows s.schema) id r.went k s.rows;
        }
