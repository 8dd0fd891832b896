-- The versions that a snapshot sees, as they stand in the region.
use Rattle.std.proofs.Common.{◌≡◌, ℕ, zero, suc, ◌<◌, List, [], ◌∷◌, ◌++◌, Option, Some, IsSome, length, inl, inr, refl, sym, ap, ◌∙◌, subst, map, take}
use Rattle.std.specs.Prelude.{IsSomeAnd}
use Rattle.lsa_region.specs.Region.{View}
use Rattle.lsa_list.specs.declared.recency.List.{List as Slots}
use Rattle.rc_core.specs.Chains.{IsPinned, upto}
use Rattle.rc_core.specs.Steps.{pin_at}
use Rattle.rc_memory.specs.Partitions.{PartitionEntry, StandingVersion}
use Rattle.rc_registry.specs.declared.uses.Use.{Use}
use Rattle.rc_registry.specs.Registry.{Registry, use_at}
use Rattle.rc_memory.specs.declared.counts.Counts.{Counts}
use Rattle.rc_memory.specs.Memory.{KeptChain, Memory, HasPin, HasVersion, chain_at}
use Rattle.rc_memory.specs.Kept.{IsMemory}
use Rattle.rc_reading.specs.Reading.{AreUpTo, read_versions}
use Rattle.rc_chain.proofs.Bare.{some-chain}
use Rattle.rc_chain.proofs.Ended.{sound-of}
use Rattle.rc_chain.proofs.Reading.{chain-used, version-stands}
use Rattle.rc_memory.specs.laws.Places.{same_some}

pinned-is : (pins : List (Option ℕ)) (i j : ℕ) → pin_at pins i ≡ Some j → IsPinned pins j
pinned-is [] i j e = cc e
pinned-is (p ∷ ps) zero j e = inl e
pinned-is (p ∷ ps) (suc i) j e = inr (pinned-is ps i j e)

took : (older : List StandingVersion) (s : StandingVersion) (newer : List StandingVersion) (j : ℕ) → length older ≡ j → map (λ (t : StandingVersion). t.version) (older ++ (s ∷ [])) ≡ take (suc j) (map (λ (t : StandingVersion). t.version) (older ++ (s ∷ newer)))
took [] s newer zero e = refl
took [] s newer (suc j) e = cc e
took (o ∷ older) s newer zero e = cc e
took (o ∷ older) s newer (suc j) e = ap (λ l. o.version ∷ l) (took older s newer j (cc e))

module _ (S : ℕ) (slots : Slots) (v : View) (registry : Registry) (counts : Counts) (m : Memory) (h : IsMemory S slots v registry counts m) (id pin : ℕ) (u : Use) (got : use_at registry.uses id ≡ Some u) (n : ℕ)
    (told : (k : KeptChain) → chain_at m id ≡ Some k → pin_at k.chain.pins pin ≡ Some n) where
  module _ (has : HasPin m id pin) where
    here : (k : KeptChain) × (chain_at m id ≡ Some k) × IsSome (pin_at k.chain.pins pin)
    here = some-chain (chain_at m id) (λ k. IsSome (pin_at k.chain.pins pin)) has

    has-version : HasVersion m id n
    has-version = let k = here in subst (λ (o : Option KeptChain). IsSomeAnd o (λ q. n < length q.chain.versions)) (sym k.1) ((sound-of m id k.0 k.1 h.sound).pins n (pinned-is k.0.chain.pins pin n (told k.0 k.1)))

    -- the versions up to the one that the snapshot pins
    pub read-stands : (read : List StandingVersion) × AreUpTo v u.root n read × ((k : KeptChain) (j : ℕ) → chain_at m id ≡ Some k → pin_at k.chain.pins pin ≡ Some j → (read_versions read ≡ upto k.chain.versions j) × (k.chain.kind ≡ u.kind))
    read-stands =
        let s = version-stands slots v registry counts m h.held id n u has-version got in (
          s.number.older ++ (s.version ∷ []),
          record { slots = slots; front = s.front; older = s.number.older; last = s.version; newer = s.number.newer; back = s.back; listed = h.held.listed; stands = s.stands; below = s.number.number; are = refl },
          λ k j e pinned.
              let a = chain-used slots v registry counts m h.held id k u e got in let same = same_some s.partition a.0 (sym s.at ∙ a.1) in
              let number : n ≡ j = cc (sym (told k e) ∙ pinned) in (
                took s.number.older s.version s.number.newer n s.number.number
                    ∙ ap (λ l. take (suc n) (map (λ (t : StandingVersion). t.version) l)) (sym s.number.split)
                    ∙ ap (λ q. take (suc n) (map (λ (t : StandingVersion). t.version) q)) (ap (λ (p : PartitionEntry). p.versions) same)
                    ∙ ap (λ (x : KeptChain). take (suc n) x.chain.versions) (sym a.3)
                    ∙ ap (λ i. take (suc i) k.chain.versions) number,
                ap (λ (x : KeptChain). x.chain.kind) a.3,
              ),
        )
