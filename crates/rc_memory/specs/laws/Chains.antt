-- A memory keeps its rules where a chain is made, and where it goes; where a version is put over those of a chain, and where one is dropped; and where an update ends, and a chain is found no longer.
use Rattle.std.proofs.Common.{◌≡◌, ◌≢◌, ℕ, zero, suc, ◌<◌, ◌≤◌, ◌/◌, true, false, List, [], ◌∷◌, ◌++◌, Option, Some, None, refl, sym, ap, ◌∙◌, subst, map, slice_index_or, arith}
use Rattle.std.specs.Prelude.{Contains, IfSome, IsSome}
use Rattle.std.specs.Option.{option_map}
use Rattle.std.proofs.lemmas.List.{length-append}
use Rattle.rc_cell.specs.declared.writes.Tomb.{Tomb}
use Rattle.rc_position.specs.declared.positions.Pos.{Pos}
use Rattle.rc_rowcode.specs.Objects.{dummy_size}
use Rattle.lsa_store.specs.declared.place.Ref.{Ref}
use Rattle.lsa_region.specs.declared.end.End.TheVariants.{Obj}
use Rattle.lsa_region.specs.declared.end.Root.{Root}
use Rattle.lsa_region.specs.Region.{View, link_of, slots_of, IsRootAdded, IsRootDropped, IsWell, SameButRoots}
use Rattle.rc_partition.specs.List.{List as Slots}
use Rattle.rc_registry.specs.ChainKind.{ChainKind}
use Rattle.rc_registry.specs.ChainKind.TheVariants.{Cache, Memtable}
use Rattle.rc_registry.specs.Flag.{Flag}
use Rattle.rc_registry.specs.Steps.{all_but, version_of}
use Rattle.rc_registry.specs.Version.{Version, end_position}
use Rattle.rc_partition.specs.Versions.{IsUnlisted, IsVersionOf}
use Rattle.rc_partition.specs.Partitions.{AreStanding, PartitionEntry, StandingVersion, among, partition_of, standing}
use Rattle.rc_partition.specs.laws.Lists.{elem-first, elem-later, elem-still}
use Rattle.rc_registry.specs.declared.uses.Use.{Use}
use Rattle.rc_registry.specs.Registry.{Registry, detached_use, new_use, on_use, put_at_number, set_updating, with_use, without_version}
use Rattle.rc_memory.specs.declared.counts.Counts.{Counts}
use Rattle.rc_memory.specs.Memory.{KeptChain, Member, Memory, HasChain, IsVersionAt, chain_at, chain_detached, chain_made, without_chain, empty_chain, fewer_versions, more_versions, on_chain, on_shown, with_new_chain, partition_without, renumbered_member, shown_detached, shown_updating, shown_with, shown_without, update_begun, update_ended, with_chains}
use Rattle.rc_memory.specs.Recency.{MayBeListed}
use Rattle.rc_memory.specs.Room.{FitTogether}
use Rattle.rc_memory.specs.Kept.{HoldMemory, IsMemory, IsSoundChain, chain_of_use}
use Rattle.rc_memory.specs.Changes.{CanDrop, LastIsListed, NothingListed, member_at}
use Rattle.rc_memory.specs.laws.At.{no-use, number-low, number-mapped}
use Rattle.rc_memory.specs.laws.Dropped.{renumbered-other, rule-fewer}
use Rattle.rc_memory.specs.laws.Listing.{rule-settled}
use Rattle.rc_memory.specs.laws.Opened.{held-closed, held-opened}
use Rattle.rc_memory.specs.laws.Places.{same_some}
use Rattle.rc_memory.specs.laws.Put.{put-at, used-at, IsUsedAs}
use Rattle.rc_memory.specs.laws.Recent.{at_there, rule-gone, rule-more, rule-new, rule-uncached}
use Rattle.rc_memory.specs.laws.Rules.{each-on, each-put, fit-fewer, fit-more, fit-none, sound-detached, sound-fewer, sound-more, sound-settled, sound-updating}
use Rattle.rc_memory.specs.laws.Used.{held-updating, held-used}
use Rattle.rc_memory.specs.laws.Versions.{all-but-is, held-added, held-dropped}

-- ---- lists

-- what is put at a number last stands there
put-put : {X : Type 0} (xs : List (Option X)) (n : ℕ) (a b : Option X) → put_at_number n a (put_at_number n b xs) ≡ put_at_number n a xs
put-put [] zero a b = refl
put-put [] (suc n) a b = ap (λ l. None ∷ l) (put-put [] n a b)
put-put (x ∷ xs) zero a b = refl
put-put (x ∷ xs) (suc n) a b = ap (λ l. x ∷ l) (put-put xs n a b)

mapped-twice : {X : Type 0} (f g : X → X) (o : Option X) → option_map g (option_map f o) ≡ option_map (λ x. g (f x)) o
mapped-twice f g None = refl
mapped-twice f g (Some x) = refl

-- two things done to a chain
on-on : (cs : List (Option KeptChain)) (id : ℕ) (f g : KeptChain → KeptChain) → on_chain id g (on_chain id f cs) ≡ on_chain id (λ k. g (f k)) cs
on-on cs id f g = ap (λ o. put_at_number id (option_map g o) (put_at_number id (option_map f (slice_index_or cs id None)) cs)) (put-at cs id (option_map f (slice_index_or cs id None)))
    ∙ put-put cs id (option_map g (option_map f (slice_index_or cs id None))) (option_map f (slice_index_or cs id None)) ∙ ap (λ o. put_at_number id o cs) (mapped-twice f g (slice_index_or cs id None))

still-mapped : (g : Member → Member) (ws : List Member) → ((w : Member) → Contains ws w → g w ≡ w) → map g ws ≡ ws
still-mapped g [] same = refl
still-mapped g (w ∷ ws) same = let one = same w (elem-first w ws) in let rest = still-mapped g ws (λ x on. same x (elem-later w x ws on)) in λ i. one i ∷ rest i

-- ---- a version put over the others of a chain

module _ (S : ℕ) (slots : Slots) (old new : View) (registry : Registry) (counts : Counts) (m : Memory) (h : IsMemory S slots old registry counts m) (well : IsWell new) (same_slots : slots_of new ≡ slots_of old) (id : ℕ) (p : PartitionEntry) (there : slice_index_or m.standing id None ≡ Some p) where
  user : IsUsedAs registry.uses m.chains id p
  user = used-at registry.uses m.standing m.chains id p h.held.kept there

  module _ (n : Ref) (flag : Flag) (pt : Option Tomb) (phase : ℕ) (room : dummy_size end_position ≤ S / 8)
      (added : (front : List PartitionEntry) (versions : List StandingVersion) (back : List PartitionEntry) (listed : List Ref) → AreStanding slots old (front ++ (partition_of p.root versions ∷ back)) listed
      → (end : Ref) × AreStanding slots new (front ++ (partition_of p.root (versions ++ (standing n (end ∷ []) (version_of flag pt phase) ∷ [])) ∷ back)) listed × IsUnlisted new end)
      (statics : (q : Ref) (refs : List Ref) (d : Version) → IsVersionOf old q refs d → link_of new (Obj q 3) ≡ link_of old (Obj q 3)) where
    -- of a memtable
    pub memory-more : ((k : KeptChain) → chain_at m id ≡ Some k → k.chain.kind ≡ Memtable) → (end : Ref) × IsMemory S slots new registry counts (more_versions id (standing n (end ∷ []) (version_of flag pt phase)) new m) × IsUnlisted new end
    memory-more memtable = let k = held-added slots old new registry counts m h.held well same_slots id p there n (version_of flag pt phase) added statics in (
      k.0,
      record {
        held = k.1;
        sound = each-on (λ q. IsSoundChain q.chain) m.chains id (on_shown (λ c. shown_with (c.versions ++ (version_of flag pt phase ∷ [])) c)) h.sound (λ q e sound. sound-more q.chain sound (version_of flag pt phase));
        rule = rule-uncached m (more_versions id (standing n (k.0 ∷ []) (version_of flag pt phase)) new m) id (on_shown (λ c. shown_with (c.versions ++ (version_of flag pt phase ∷ [])) c)) refl refl h.rule
            (λ q e. ((λ c. let clash : Memtable ≡ Cache = sym (memtable q e) ∙ c in cc), refl));
        fit = each-on (λ q. FitTogether S q.chain.versions) m.chains id (on_shown (λ c. shown_with (c.versions ++ (version_of flag pt phase ∷ [])) c)) h.fit (λ q e fits. fit-more S q.chain.versions flag pt phase room fits);
      },
      k.2,
    )

    -- of a cache chain, which is under update then
    pub memory-begun : ((k : KeptChain) → chain_at m id ≡ Some k → (k.chain.kind ≡ Cache) × (k.chain.attached ≡ true) × (k.chain.updating ≡ false))
        → (end : Ref) × IsMemory S slots new (on_use id (set_updating true) registry) counts (update_begun id (standing n (end ∷ []) (version_of flag pt phase)) new m) × IsUnlisted new end
    memory-begun ready = let k = held-added slots old new registry counts m h.held well same_slots id p there n (version_of flag pt phase) added statics in (
      k.0,
      record {
        held = held-updating slots new registry counts (more_versions id (standing n (k.0 ∷ []) (version_of flag pt phase)) new m) id k.1 has true;
        sound = subst (λ cs. (i : ℕ) → IfSome (slice_index_or cs i None) (λ q. IsSoundChain q.chain)) (sym both)
            (each-on (λ q. IsSoundChain q.chain) m.chains id begun h.sound (λ q e sound. sound-updating (shown_with (q.chain.versions ++ (version_of flag pt phase ∷ [])) q.chain) (sound-more q.chain sound (version_of flag pt phase)) (ready q e).0 (ready q e).1
            (omega (arith, length-append q.chain.versions (version_of flag pt phase ∷ []), sound.some)) (λ j on. omega (arith, length-append q.chain.versions (version_of flag pt phase ∷ []), sound.pins j on))));
        rule = rule-more m (update_begun id (standing n (k.0 ∷ []) (version_of flag pt phase)) new m) id begun both refl h.rule flag pt phase (λ q e. (refl, refl, (ready q e).2));
        fit = subst (λ cs. (i : ℕ) → IfSome (slice_index_or cs i None) (λ q. FitTogether S q.chain.versions)) (sym both)
            (each-on (λ q. FitTogether S q.chain.versions) m.chains id begun h.fit (λ q e fits. fit-more S q.chain.versions flag pt phase room fits));
      },
      k.2,
    )
      where
        begun : KeptChain → KeptChain
        begun q = on_shown (shown_updating true) (on_shown (λ c. shown_with (c.versions ++ (version_of flag pt phase ∷ [])) c) q)

        both : on_chain id (on_shown (shown_updating true)) (on_chain id (on_shown (λ c. shown_with (c.versions ++ (version_of flag pt phase ∷ [])) c)) m.chains) ≡ on_chain id begun m.chains
        both = on-on m.chains id (on_shown (λ c. shown_with (c.versions ++ (version_of flag pt phase ∷ [])) c)) (on_shown (shown_updating true))

        has : IsSome (slice_index_or (on_chain id (on_shown (λ c. shown_with (c.versions ++ (version_of flag pt phase ∷ [])) c)) m.chains) id None)
        has = subst (λ (o : Option KeptChain). IsSome o)
            (sym (put-at m.chains id (option_map (on_shown (λ c. shown_with (c.versions ++ (version_of flag pt phase ∷ [])) c)) (slice_index_or m.chains id None)) ∙ ap (option_map (on_shown (λ c. shown_with (c.versions ++ (version_of flag pt phase ∷ [])) c))) user.chain)) refl

-- ---- a chain is made

module _ (S : ℕ) (slots : Slots) (old mid new : View) (registry : Registry) (counts : Counts) (m : Memory) (h : IsMemory S slots old registry counts m) (id : ℕ) (root : Root) (kind : ChainKind) (none : chain_at m id ≡ None)
    (rooted : IsRootAdded old mid root) (same : SameButRoots old mid) (well_mid : IsWell mid) (well : IsWell new) (same_slots : slots_of new ≡ slots_of mid) (n : Ref) (flag : Flag) (pt : Option Tomb) (phase : ℕ) (room : dummy_size end_position ≤ S / 8)
    (added : (front : List PartitionEntry) (versions : List StandingVersion) (back : List PartitionEntry) (listed : List Ref) → AreStanding slots mid (front ++ (partition_of root versions ∷ back)) listed
    → (end : Ref) × AreStanding slots new (front ++ (partition_of root (versions ++ (standing n (end ∷ []) (version_of flag pt phase) ∷ [])) ∷ back)) listed × IsUnlisted new end)
    (statics : (q : Ref) (refs : List Ref) (d : Version) → IsVersionOf mid q refs d → link_of new (Obj q 3) ≡ link_of mid (Obj q 3)) where
  -- the new chain
  abbrev made : KeptChain
  made = on_shown (λ c. shown_with (c.versions ++ (version_of flag pt phase ∷ [])) c) (empty_chain kind)

  made-chains : on_chain id (on_shown (λ c. shown_with (c.versions ++ (version_of flag pt phase ∷ [])) c)) (put_at_number id (Some (empty_chain kind)) m.chains) ≡ put_at_number id (Some made) m.chains
  made-chains = ap (λ o. put_at_number id (option_map (on_shown (λ c. shown_with (c.versions ++ (version_of flag pt phase ∷ [])) c)) o) (put_at_number id (Some (empty_chain kind)) m.chains)) (put-at m.chains id (Some (empty_chain kind)))
      ∙ put-put m.chains id (Some made) (Some (empty_chain kind))

  made-sound : IsSoundChain made.chain
  made-sound = record { some = omega arith; pins = λ j on. absurd on; cached = λ u. cc u; attached = λ u. refl; below = λ u. cc u; unpinned = λ u. cc u }

  pub memory-made : (end : Ref) × IsMemory S slots new (with_use id (Some (new_use root kind)) registry) counts (chain_made id root kind (standing n (end ∷ []) (version_of flag pt phase)) new m) × IsUnlisted new end
  memory-made =
      let first = held-opened slots old mid registry counts m h.held rooted.links same well_mid id root kind rooted (no-use registry.uses m.standing m.chains id h.held.kept none) in
      let k = held-added slots mid new (with_use id (Some (new_use root kind)) registry) counts (with_new_chain id root kind mid m) first well same_slots id (partition_of root []) (put-at m.standing id (Some (partition_of root []))) n (version_of flag pt phase) added statics in (
        k.0,
        record {
          held = k.1;
          sound = subst (λ cs. (i : ℕ) → IfSome (slice_index_or cs i None) (λ q. IsSoundChain q.chain)) (sym made-chains) (each-put (λ q. IsSoundChain q.chain) m.chains id (Some made) h.sound made-sound);
          rule = rule-new m (chain_made id root kind (standing n (k.0 ∷ []) (version_of flag pt phase)) new m) id refl h.rule made flag pt phase made-chains none refl;
          fit = subst (λ cs. (i : ℕ) → IfSome (slice_index_or cs i None) (λ q. FitTogether S q.chain.versions)) (sym made-chains)
              (each-put (λ q. FitTogether S q.chain.versions) m.chains id (Some made) h.fit (fit-more S [] flag pt phase room (fit-none S)));
        },
        k.2,
      )

-- ---- an update ends, and a chain is found no longer

module _ (S : ℕ) (slots : Slots) (v : View) (registry : Registry) (counts : Counts) (m : Memory) (id : ℕ) (h : IsMemory S slots v registry counts m) (there : HasChain m id) (last : LastIsListed id m) where
  memory-over : (f : Use → Use) (g : KeptChain → KeptChain) → ((u : Use) → (f u).root ≡ u.root) → ((u : Use) (p : PartitionEntry) → chain_of_use (f u) p ≡ g (chain_of_use u p))
      → ((k : KeptChain) → ((g k).chain.kind ≡ k.chain.kind) × ((g k).chain.versions ≡ k.chain.versions) × ((g k).chain.updating ≡ false)) → ((k : KeptChain) → IsSoundChain k.chain → IsSoundChain (g k).chain)
      → IsMemory S slots v (on_use id f registry) counts (with_chains (on_chain id g m.chains) m)
  memory-over f g root does alike sound = record {
    held = held-used slots v registry counts m id h.held there f g root does;
    sound = each-on (λ k. IsSoundChain k.chain) m.chains id g h.sound (λ k e was. sound k was);
    rule = rule-settled m (with_chains (on_chain id g m.chains) m) id g refl refl h.rule alike (λ k e j w at u number l. last k j w at e u number l);
    fit = each-on (λ k. FitTogether S k.chain.versions) m.chains id g h.fit (λ k e fits. subst (FitTogether S) (sym (alike k).1) fits);
  }

  pub memory-ended : IsMemory S slots v (on_use id (set_updating false) registry) counts (update_ended id m)
  memory-ended = memory-over (set_updating false) (on_shown (shown_updating false)) (λ u. refl) (λ u p. refl) (λ k. (refl, refl, refl)) (λ k s. sound-settled k.chain s)

  pub memory-detached : IsMemory S slots v (on_use id detached_use registry) counts (chain_detached id m)
  memory-detached = memory-over detached_use (on_shown shown_detached) (λ u. refl) (λ u p. refl) (λ k. (refl, refl, refl)) (λ k s. sound-detached k.chain s)

-- ---- a version dropped

module _ (S : ℕ) (slots : Slots) (old new : View) (registry : Registry) (counts : Counts) (m : Memory) (h : IsMemory S slots old registry counts m) (well : IsWell new) (same_slots : slots_of new ≡ slots_of old) (id j : ℕ) (p : PartitionEntry) (s : StandingVersion)
    (there : slice_index_or m.standing id None ≡ Some p) (number : IsVersionAt p.versions j s)
    (dropped : (front : List PartitionEntry) (older : List StandingVersion) (t : StandingVersion) (newer : List StandingVersion) (back : List PartitionEntry) (listed : List Ref) → t.object ≡ s.object
    → AreStanding slots old (among front p.root older t newer back) listed → AreStanding slots new (front ++ (partition_of p.root (older ++ newer) ∷ back)) listed)
    (statics : (q : Ref) (refs : List Ref) (d : Version) → q ≢ s.object → IsVersionOf old q refs d → link_of new (Obj q 3) ≡ link_of old (Obj q 3)) where
  used : IsUsedAs registry.uses m.chains id p
  used = used-at registry.uses m.standing m.chains id p h.held.kept there

  at_number : IsVersionAt (chain_of_use used.used p).chain.versions j s.version
  at_number = number-mapped (λ (t : StandingVersion). t.version) p.versions j s number

  at_chain : (k : KeptChain) → chain_at m id ≡ Some k → IsVersionAt k.chain.versions j s.version
  at_chain k e = subst (λ (q : KeptChain). IsVersionAt q.chain.versions j s.version) (same_some (chain_of_use used.used p) k (sym used.chain ∙ e)) at_number

  fewer-fit : (k : KeptChain) → IsVersionAt k.chain.versions j s.version → FitTogether S k.chain.versions → FitTogether S (all_but j k.chain.versions)
  fewer-fit k at fits = fit-fewer S k.chain.versions (all_but j k.chain.versions) (λ w on. subst (λ l. Contains l w) (sym at.split)
      (elem-still at.older at.newer s.version w (subst (λ l. Contains l w) (ap (λ l. all_but j l) at.split ∙ all-but-is at.older s.version at.newer j at.number) on))) fits

  pub memory-fewer : ((k : KeptChain) → chain_at m id ≡ Some k → CanDrop k.chain j) → NothingListed id j m → IsMemory S slots new (on_use id (without_version j) registry) counts (fewer_versions id j new m)
  memory-fewer can free = record {
    held = held-dropped slots old new registry counts m h.held well same_slots id p there j s number dropped statics;
    sound = each-on (λ k. IsSoundChain k.chain) m.chains id (on_shown (shown_without j)) h.sound
        (λ k e sound. let d = can k e in sound-fewer k.chain j sound d.unpinned (number-low k.chain.versions j s.version (at_chain k e)) d.others d.settled d.below);
    rule = rule-fewer m (fewer_versions id j new m) id j (chain_of_use used.used p) s.version used.chain at_number refl refl h.rule free (can (chain_of_use used.used p) used.chain).settled;
    fit = each-on (λ k. FitTogether S k.chain.versions) m.chains id (on_shown (shown_without j)) h.fit (λ k e fits. fewer-fit k (at_chain k e) fits);
  }

-- ---- a chain goes, with its last version

module _ (S : ℕ) (slots : Slots) (old mid new : View) (registry : Registry) (counts : Counts) (m : Memory) (h : IsMemory S slots old registry counts m) (id : ℕ) (root : Root) (s : StandingVersion) (there : slice_index_or m.standing id None ≡ Some (partition_of root (s ∷ []))) (free : NothingListed id 0 m)
    (well_mid : IsWell mid) (same_slots : slots_of mid ≡ slots_of old)
    (dropped : (front : List PartitionEntry) (older : List StandingVersion) (t : StandingVersion) (newer : List StandingVersion) (back : List PartitionEntry) (listed : List Ref) → t.object ≡ s.object
    → AreStanding slots old (among front root older t newer back) listed → AreStanding slots mid (front ++ (partition_of root (older ++ newer) ∷ back)) listed)
    (statics : (q : Ref) (refs : List Ref) (d : Version) → q ≢ s.object → IsVersionOf old q refs d → link_of mid (Obj q 3) ≡ link_of old (Obj q 3)) (gone : IsRootDropped mid new root) (same : SameButRoots mid new) (well : IsWell new) where
  used_so : IsUsedAs registry.uses m.chains id (partition_of root (s ∷ []))
  used_so = used-at registry.uses m.standing m.chains id (partition_of root (s ∷ [])) h.held.kept there

  -- nothing of the chain is listed
  none-of : (j : ℕ) (at : Option Pos) → Contains m.recency (member_at id j at) → ⊥
  none-of j at on =
      let p = at_there (λ k. MayBeListed k.chain j at) (chain_at m id) (chain_of_use used_so.used (partition_of root (s ∷ []))) (h.rule.members (member_at id j at) on) used_so.chain in
      zero_only j (number-low (s.version ∷ []) j p.version p.number) on
    where
      zero_only : (i : ℕ) → i < 1 → Contains m.recency (member_at id i at) → ⊥
      zero_only zero low k = free at k
      zero_only (suc i) low k = absurd (omega (arith, low))

  still : map (renumbered_member id 0) m.recency ≡ m.recency
  still = still-mapped (renumbered_member id 0) m.recency (λ w on. renumbered-other id 0 w (λ e. none-of w.version w.position (subst (Contains m.recency) (λ i. record { chain = e i; version = w.version; position = w.position }) on)))

  bare : slice_index_or (fewer_versions id 0 mid m).standing id None ≡ Some (partition_of root [])
  bare = put-at m.standing id (option_map (partition_without 0) (slice_index_or m.standing id None)) ∙ ap (option_map (partition_without 0)) there

  held-gone : HoldMemory slots new (record { uses = put_at_number id None registry.uses; dropped = registry.dropped ++ (id ∷ []) }) counts (without_chain id new m)
  held-gone =
      let first = held-dropped slots old mid registry counts m h.held well_mid same_slots id (partition_of root (s ∷ [])) there 0 s (record { older = []; newer = []; split = refl; number = refl }) dropped statics in
      let second = held-closed slots mid new (on_use id (without_version 0) registry) counts (fewer_versions id 0 mid m) first gone.links same well id root gone bare in
      let uses = put-put registry.uses id None (option_map (without_version 0) (slice_index_or registry.uses id None)) in
      let chains = put-put m.chains id None (option_map (on_shown (shown_without 0)) (slice_index_or m.chains id None)) in
      let standing_so = put-put m.standing id None (option_map (partition_without 0) (slice_index_or m.standing id None)) in
      subst (λ (us : List (Option Use)). HoldMemory slots new (record { uses = us; dropped = registry.dropped ++ (id ∷ []) }) counts (without_chain id new m)) uses
      (subst (λ k. HoldMemory slots new (record { uses = put_at_number id None (on_use id (without_version 0) registry).uses; dropped = registry.dropped ++ (id ∷ []) }) counts k)
      (λ i. record { chains = chains i; recency = still i; dropped = m.dropped ++ (id ∷ []); counts = m.counts; region = new; standing = standing_so i }) second)

  pub memory-gone : IsMemory S slots new (record { uses = put_at_number id None registry.uses; dropped = registry.dropped ++ (id ∷ []) }) counts (without_chain id new m)
  memory-gone = record {
    held = held-gone;
    sound = each-put (λ k. IsSoundChain k.chain) m.chains id None h.sound tt;
    rule = rule-gone m (without_chain id new m) id refl h.rule refl none-of;
    fit = each-put (λ k. FitTogether S k.chain.versions) m.chains id None h.fit tt;
  }
