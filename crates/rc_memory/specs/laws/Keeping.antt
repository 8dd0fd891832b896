-- A memory that keeps its rules keeps them after each change.
use Rattle.std.proofs.Common.{◌≡◌, ◌≢◌, ℕ, suc, ◌<◌, Bool, true, List, [], ◌∷◌, ◌++◌, Some, None, length, refl, sym, subst}
use Rattle.std.specs.Prelude.{Contains, IsSomeAnd}
use Rattle.lsa_store.specs.declared.place.Ref.{Ref}
use Rattle.lsa_region.specs.declared.end.End.{End}
use Rattle.lsa_region.specs.declared.end.End.TheVariants.{Obj}
use Rattle.lsa_region.specs.Region.{View, link_of, IsWell, Renamed, SameObjects}
use Rattle.rc_partition.specs.List.{List as Slots}
use Rattle.rc_partition.specs.Recency.{IsElsewhere, IsList}
use Rattle.rc_registry.specs.Steps.{pins_with, pins_without}
use Rattle.rc_partition.specs.Partitions.{PartitionEntry}
use Rattle.rc_registry.specs.declared.uses.Use.{Use}
use Rattle.rc_registry.specs.Registry.{Registry, on_use, set_passed, with_pin, without_pin}
use Rattle.rc_memory.specs.declared.counts.Counts.{Counts}
use Rattle.rc_memory.specs.Memory.{KeptChain, Member, Memory, HasChain, IsObjectAt, chain_at, listed_as, mark_passed, under_new_names, on_chain, on_shown, shown_pinned, with_chains}
use Rattle.rc_memory.specs.Recency.{MayBeListed, MustBeListed}
use Rattle.rc_memory.specs.Room.{FitTogether}
use Rattle.rc_memory.specs.Kept.{IsMemory, IsSoundChain, chain_of_use}
use Rattle.rc_memory.specs.laws.Listed.{held-pushed, held-taken, held-touched}
use Rattle.rc_memory.specs.laws.Moved.{held-moved}
use Rattle.rc_memory.specs.laws.Recent.{rule-alike, rule-pushed, rule-same, rule-taken, rule-touched}
use Rattle.rc_memory.specs.laws.Rules.{each-on, sound-pinned, sound-released}
use Rattle.rc_memory.specs.laws.Used.{held-used}

module _ (S : ℕ) (slots : Slots) (v : View) (registry : Registry) (counts : Counts) (m : Memory) (id : ℕ) (h : IsMemory S slots v registry counts m) (there : HasChain m id) where
  -- what is done to the use of a chain alone
  pub memory-used : (f : Use → Use) (g : KeptChain → KeptChain) → ((u : Use) → (f u).root ≡ u.root) → ((u : Use) (p : PartitionEntry) → chain_of_use (f u) p ≡ g (chain_of_use u p))
      → ((k : KeptChain) → ((g k).chain.kind ≡ k.chain.kind) × ((g k).chain.versions ≡ k.chain.versions) × ((g k).chain.updating ≡ k.chain.updating))
      → ((k : KeptChain) → chain_at m id ≡ Some k → IsSoundChain k.chain → IsSoundChain (g k).chain) → IsMemory S slots v (on_use id f registry) counts (with_chains (on_chain id g m.chains) m)
  memory-used f g root does alike sound = record {
    held = held-used slots v registry counts m id h.held there f g root does;
    sound = each-on (λ k. IsSoundChain k.chain) m.chains id g h.sound sound;
    rule = rule-alike m (with_chains (on_chain id g m.chains) m) id g refl refl h.rule alike;
    fit = each-on (λ k. FitTogether S k.chain.versions) m.chains id g h.fit (λ k e fits. subst (FitTogether S) (sym (alike k).1) fits);
  }

  pub memory-passed : (passed : Bool) → IsMemory S slots v (on_use id (set_passed passed) registry) counts (with_chains (on_chain id (mark_passed passed) m.chains) m)
  memory-passed passed = memory-used (set_passed passed) (mark_passed passed) (λ u. refl) (λ u p. refl) (λ k. (refl, refl, refl)) (λ k e s. s)

  pub memory-pinned : (version : ℕ) → ((k : KeptChain) → chain_at m id ≡ Some k → version < length k.chain.versions) → ((k : KeptChain) → chain_at m id ≡ Some k → k.chain.updating ≡ true → suc version < length k.chain.versions)
      → IsMemory S slots v (on_use id (with_pin version) registry) counts (with_chains (on_chain id (on_shown (λ c. shown_pinned (pins_with version c.pins) c)) m.chains) m)
  memory-pinned version low inner = memory-used (with_pin version) (on_shown (λ c. shown_pinned (pins_with version c.pins) c)) (λ u. refl) (λ u p. refl) (λ k. (refl, refl, refl))
      (λ k e s. sound-pinned k.chain s version (low k e) (inner k e))

  pub memory-released : (pin : ℕ) → IsMemory S slots v (on_use id (without_pin pin) registry) counts (with_chains (on_chain id (on_shown (λ c. shown_pinned (pins_without pin c.pins) c)) m.chains) m)
  memory-released pin = memory-used (without_pin pin) (on_shown (λ c. shown_pinned (pins_without pin c.pins) c)) (λ u. refl) (λ u p. refl) (λ k. (refl, refl, refl)) (λ k e s. sound-released k.chain s pin)

module _ (S : ℕ) (slots : Slots) (old new : View) (registry : Registry) (counts : Counts) (m : Memory) (h : IsMemory S slots old registry counts m) where
  -- objects moved
  pub memory-moved : (names : List (Ref × Ref)) → Renamed old new names → IsWell new → IsMemory S slots new registry counts (under_new_names names new m)
  memory-moved names renamed well = record {
    held = held-moved slots old new registry counts m names h.held renamed well;
    sound = h.sound;
    rule = rule-same m (under_new_names names new m) refl h.rule refl;
    fit = h.fit;
  }

  module _ (elsewhere : (e : End) → IsElsewhere slots old e → link_of new e ≡ link_of old e) (objects : SameObjects old new) (well : IsWell new) where
    -- the list changed
    pub memory-pushed : (r : Ref) (w : Member) → IsObjectAt old m.standing r w → (Contains m.recency w → ⊥) → IsSomeAnd (chain_at m w.chain) (λ k. MayBeListed k.chain w.version w.position)
        → ((xs : List Ref) → IsList slots old xs → IsList slots new (xs ++ (r ∷ []))) → ((e : End) → link_of old e ≡ None → e ≢ Obj r 0 → e ≢ Obj r 1 → link_of new e ≡ None) → IsMemory S slots new registry counts (listed_as (m.recency ++ (w ∷ [])) new m)
    memory-pushed r w here off may list unset = record {
      held = held-pushed slots old new registry counts m h.held elsewhere objects well r w here list unset;
      sound = h.sound;
      rule = rule-pushed m (listed_as (m.recency ++ (w ∷ [])) new m) refl h.rule w refl off may;
      fit = h.fit;
    }

    pub memory-taken : (r : Ref) (front : List Member) (w : Member) (back : List Member) → m.recency ≡ front ++ (w ∷ back) → IsObjectAt old m.standing r w → (IsSomeAnd (chain_at m w.chain) (λ k. MustBeListed k.chain w.version w.position) → ⊥)
        → ((xs ys : List Ref) → IsList slots old (xs ++ (r ∷ ys)) → IsList slots new (xs ++ ys)) → link_of new (Obj r 0) ≡ None → link_of new (Obj r 1) ≡ None → ((e : End) → link_of old e ≡ None → link_of new e ≡ None)
        → IsMemory S slots new registry counts (listed_as (front ++ back) new m)
    memory-taken r front w back is here free list first second unset = record {
      held = held-taken slots old new registry counts m h.held elsewhere objects well r front w back is here list first second unset;
      sound = h.sound;
      rule = rule-taken m (listed_as (front ++ back) new m) refl h.rule front w back is refl free;
      fit = h.fit;
    }

    pub memory-touched : (r : Ref) (front : List Member) (w : Member) (back : List Member) → m.recency ≡ front ++ (w ∷ back) → IsObjectAt old m.standing r w
        → ((xs ys : List Ref) → IsList slots old (xs ++ (r ∷ ys)) → IsList slots new ((xs ++ ys) ++ (r ∷ []))) → ((e : End) → link_of old e ≡ None → link_of new e ≡ None) → IsMemory S slots new registry counts (listed_as ((front ++ back) ++ (w ∷ [])) new m)
    memory-touched r front w back is here list unset = record {
      held = held-touched slots old new registry counts m h.held elsewhere objects well r front w back is here list unset;
      sound = h.sound;
      rule = rule-touched m (listed_as ((front ++ back) ++ (w ∷ [])) new m) refl h.rule front w back is refl;
      fit = h.fit;
    }
