-- A memory after objects moved: the same, under new names.
use Rattle.std.proofs.Common.{◌≡◌, ℕ, suc, List, [], ◌∷◌, Option, Some, None, length, refl, sym, ap, ◌∙◌, subst, map}
use Rattle.std.specs.Option.{option_map}
use Rattle.std.proofs.lemmas.List.{map-append}
use Rattle.rc_position.specs.declared.positions.Pos.{Pos}
use Rattle.lsa_store.specs.declared.place.Ref.{Ref}
use Rattle.lsa_region.specs.Ends.{SlotCounts, named_as, end_as}
use Rattle.lsa_region.specs.Region.{View, body, IsWell, Renamed}
use Rattle.lsa_path.specs.laws.Renamed.{some-there}
use Rattle.rc_partition.specs.List.{List as Slots}
use Rattle.rc_partition.specs.Trees.{stands-renamed as entry-renamed}
use Rattle.rc_registry.specs.Version.{Version}
use Rattle.rc_partition.specs.Versions.{IsVersionOf}
use Rattle.rc_partition.specs.Staying.{version-kind}
use Rattle.rc_partition.specs.Partitions.{AreStanding, PartitionEntry, StandingVersion, partition_as, version_as}
use Rattle.rc_partition.specs.laws.Lists.{elem-map}
use Rattle.rc_partition.specs.laws.Moved.{stands-renamed}
use Rattle.rc_registry.specs.declared.uses.Use.{Use}
use Rattle.rc_registry.specs.Registry.{Registry}
use Rattle.rc_memory.specs.declared.counts.Counts.{Counts}
use Rattle.rc_memory.specs.Memory.{KeptChain, Memory, IsOfVersion, IsVersionAt, under_new_names}
use Rattle.rc_memory.specs.Kept.{AreKept, HoldMemory, IsKeptChain, present}
use Rattle.rc_memory.specs.laws.Places.{version-there}
use Rattle.rc_memory.specs.laws.Standing.{at-mapped, present-mapped, stand-mapped}

module _ (names : List (Ref × Ref)) where
  same_versions : (ss : List StandingVersion) → map (λ (s : StandingVersion). s.version) (map (version_as names) ss) ≡ map (λ (s : StandingVersion). s.version) ss
  same_versions [] = refl
  same_versions (s ∷ ss) = ap (λ l. s.version ∷ l) (same_versions ss)

  same_length : (ss : List StandingVersion) → length (map (version_as names) ss) ≡ length ss
  same_length [] = refl
  same_length (s ∷ ss) = ap suc (same_length ss)

  kept_moved : (u : Option Use) (p : Option PartitionEntry) (c : Option KeptChain) → IsKeptChain u p c → IsKeptChain u (option_map (partition_as names) p) c
  kept_moved None None c h = h
  kept_moved None (Some p) c h = absurd h
  kept_moved (Some u) None c h = absurd h
  kept_moved (Some u) (Some p) c h = (
    h.0,
    h.1 ∙ ap (λ (vs : List Version). Some (record {
      chain = record { kind = u.kind; versions = vs; attached = u.attached; updating = u.updating; pins = u.pins };
      passed = u.passed;
    })) (sym (same_versions p.versions)),
  )

  are_kept_moved : (us : List (Option Use)) (ps : List (Option PartitionEntry)) (cs : List (Option KeptChain)) → AreKept us ps cs → AreKept us (map (option_map (partition_as names)) ps) cs
  are_kept_moved [] [] [] h = tt
  are_kept_moved [] [] (c ∷ cs) h = absurd h
  are_kept_moved [] (p ∷ ps) cs h = absurd h
  are_kept_moved (u ∷ us) [] cs h = absurd h
  are_kept_moved (u ∷ us) (p ∷ ps) [] h = absurd h
  are_kept_moved (u ∷ us) (p ∷ ps) (c ∷ cs) h = (kept_moved u p c h.0, are_kept_moved us ps cs h.1)

  version_moved : (ss : List StandingVersion) (j : ℕ) (s : StandingVersion) → IsVersionAt ss j s → IsVersionAt (map (version_as names) ss) j (version_as names s)
  version_moved ss j s h = record {
    older = map (version_as names) h.older;
    newer = map (version_as names) h.newer;
    split = ap (map (version_as names)) h.split ∙ map-append (version_as names) h.older (s ∷ h.newer);
    number = same_length h.older ∙ h.number;
  }

module _ (slots : Slots) (old new : View) (registry : Registry) (counts : Counts) (m : Memory) (names : List (Ref × Ref)) where
  of_moved : Renamed old new names → IsWell old → (s : StandingVersion) → IsVersionOf old s.object s.entries s.version → (at : Option Pos) (r : Ref) → IsOfVersion old s at r → IsOfVersion new (version_as names s) at (named_as names r)
  of_moved renamed well s k None r h = renamed.links s.object 3 (some-there _ (body old s.object) (version-kind old s.object s.entries s.version k)) ∙ ap (option_map (end_as names)) h
  of_moved renamed well s k (Some x) r h = (elem-map (named_as names) s.entries r h.0, entry-renamed old new names renamed well r x h.1)

  -- all is held as before, under new names
  pub held-moved : HoldMemory slots old registry counts m → Renamed old new names → IsWell new → HoldMemory slots new registry counts (under_new_names names new m)
  held-moved h renamed well = record {
    well = well;
    region = refl;
    kept = are_kept_moved names registry.uses m.standing m.chains h.kept;
    listed = map (named_as names) h.listed;
    stands = subst (λ ps. AreStanding slots new ps (map (named_as names) h.listed)) (sym (present-mapped (partition_as names) m.standing))
        (stands-renamed old new names renamed h.well slots (present m.standing) h.listed h.stands);
    recency = stand-mapped old new m.standing (map (option_map (partition_as names)) m.standing) (named_as names) h.listed m.recency (λ r w k. record {
      partition = partition_as names k.partition;
      version = version_as names k.version;
      chain = at-mapped (partition_as names) m.standing w.chain ∙ ap (option_map (partition_as names)) k.chain;
      number = version_moved names k.partition.versions w.version k.version k.number;
      object = of_moved renamed h.well k.version (version-there slots old h.well m.standing h.listed h.stands w.chain w.version k.partition k.version k.chain k.number) w.position r k.object;
    }) h.recency;
    dropped = h.dropped;
    counted = h.counted;
    roots = ap (λ (c : SlotCounts). c.there) renamed.slots ∙ h.roots;
  }
