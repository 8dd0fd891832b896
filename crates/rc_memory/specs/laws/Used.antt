-- A memory after the use of one chain changed.
use Rattle.std.proofs.Common.{◌≡◌, ℕ, zero, suc, ◌+◌, List, [], ◌∷◌, Bool, Option, Some, None, IsSome, refl, sym, ap, ◌∙◌, slice_index_or}
use Rattle.std.specs.Option.{option_map}
use Rattle.lsa_region.specs.Region.{View}
use Rattle.rc_partition.specs.List.{List as Slots}
use Rattle.rc_partition.specs.Partitions.{PartitionEntry}
use Rattle.rc_registry.specs.declared.uses.Use.{Use}
use Rattle.rc_registry.specs.Registry.{Registry, put_at_number, on_use, detached_use, set_updating, set_passed, with_pin, without_pin}
use Rattle.rc_registry.specs.Steps.{pins_with, pins_without}
use Rattle.rc_memory.specs.declared.counts.Counts.{Counts}
use Rattle.rc_memory.specs.Memory.{KeptChain, Memory, HasChain, mark_passed, on_chain, on_shown, shown_detached, shown_pinned, shown_updating, with_chains}
use Rattle.rc_memory.specs.Kept.{AreKept, HoldMemory, IsKeptChain, chain_of_use}
use Rattle.rc_memory.specs.laws.Put.{length-same}

module _ (f : Use → Use) (g : KeptChain → KeptChain) (root : (u : Use) → (f u).root ≡ u.root) (does : (u : Use) (p : PartitionEntry) → chain_of_use (f u) p ≡ g (chain_of_use u p)) where
  kept_used : (u : Option Use) (p : Option PartitionEntry) (c : Option KeptChain) → IsKeptChain u p c → IsKeptChain (option_map f u) p (option_map g c)
  kept_used None None c h = ap (option_map g) h
  kept_used None (Some p) c h = absurd h
  kept_used (Some u) None c h = absurd h
  kept_used (Some u) (Some p) c h = (h.0 ∙ sym (root u), ap (option_map g) h.1 ∙ ap (λ k. Some k) (sym (does u p)))

  are_kept_used : (us : List (Option Use)) (ps : List (Option PartitionEntry)) (cs : List (Option KeptChain)) (id : ℕ) → AreKept us ps cs → IsSome (slice_index_or cs id None)
      → AreKept (put_at_number id (option_map f (slice_index_or us id None)) us) ps (put_at_number id (option_map g (slice_index_or cs id None)) cs)
  are_kept_used [] [] [] id h some = cc some
  are_kept_used [] [] (c ∷ cs) id h some = absurd h
  are_kept_used [] (p ∷ ps) cs id h some = absurd h
  are_kept_used (u ∷ us) [] cs id h some = absurd h
  are_kept_used (u ∷ us) (p ∷ ps) [] id h some = absurd h
  are_kept_used (u ∷ us) (p ∷ ps) (c ∷ cs) zero h some = (kept_used u p c h.0, h.1)
  are_kept_used (u ∷ us) (p ∷ ps) (c ∷ cs) (suc id) h some = (h.0, are_kept_used us ps cs id h.1 some)

module _ (slots : Slots) (v : View) (registry : Registry) (counts : Counts) (m : Memory) (id : ℕ) (h : HoldMemory slots v registry counts m) (there : HasChain m id) where
  -- what is done to the use of a chain is done to the chain
  pub held-used : (f : Use → Use) (g : KeptChain → KeptChain) → ((u : Use) → (f u).root ≡ u.root) → ((u : Use) (p : PartitionEntry) → chain_of_use (f u) p ≡ g (chain_of_use u p)) → HoldMemory slots v (on_use id f registry) counts (with_chains (on_chain id g m.chains) m)
  held-used f g root does = record {
    well = h.well;
    region = h.region;
    kept = are_kept_used f g root does registry.uses m.standing m.chains id h.kept there;
    listed = h.listed;
    stands = h.stands;
    recency = h.recency;
    dropped = h.dropped;
    counted = h.counted;
    roots = h.roots ∙ ap (λ n. 2 + n) (sym (length-same m.chains id g));
  }

  pub held-detached : HoldMemory slots v (on_use id detached_use registry) counts (with_chains (on_chain id (on_shown shown_detached) m.chains) m)
  held-detached = held-used detached_use (on_shown shown_detached) (λ u. refl) (λ u p. refl)

  pub held-updating : (updating : Bool) → HoldMemory slots v (on_use id (set_updating updating) registry) counts (with_chains (on_chain id (on_shown (shown_updating updating)) m.chains) m)
  held-updating updating = held-used (set_updating updating) (on_shown (shown_updating updating)) (λ u. refl) (λ u p. refl)

  pub held-passed : (passed : Bool) → HoldMemory slots v (on_use id (set_passed passed) registry) counts (with_chains (on_chain id (mark_passed passed) m.chains) m)
  held-passed passed = held-used (set_passed passed) (mark_passed passed) (λ u. refl) (λ u p. refl)

  pub held-pinned : (version : ℕ) → HoldMemory slots v (on_use id (with_pin version) registry) counts (with_chains (on_chain id (on_shown (λ c. shown_pinned (pins_with version c.pins) c)) m.chains) m)
  held-pinned version = held-used (with_pin version) (on_shown (λ c. shown_pinned (pins_with version c.pins) c)) (λ u. refl) (λ u p. refl)

  pub held-released : (pin : ℕ) → HoldMemory slots v (on_use id (without_pin pin) registry) counts (with_chains (on_chain id (on_shown (λ c. shown_pinned (pins_without pin c.pins) c)) m.chains) m)
  held-released pin = held-used (without_pin pin) (on_shown (λ c. shown_pinned (pins_without pin c.pins) c)) (λ u. refl) (λ u p. refl)
