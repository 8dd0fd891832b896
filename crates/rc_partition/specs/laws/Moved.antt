-- Partitions after objects moved: the same, under new names.
use Rattle.std.proofs.Common.{◌≡◌, ◌≢◌, ℕ, List, [], ◌∷◌, Option, Some, None, IsSome, inl, inr, refl, sym, ap, ◌∙◌, subst, map, reverse}
use Rattle.std.specs.Prelude.{Contains, AllPairs}
use Rattle.std.specs.Option.{option_map}
use Rattle.lsa_store.specs.declared.place.Ref.{Ref}
use Rattle.lsa_region.specs.declared.end.End.{End}
use Rattle.lsa_region.specs.declared.end.End.TheVariants.{Obj, Slot}
use Rattle.lsa_region.specs.Ends.{named_as, end_as}
use Rattle.lsa_region.specs.Region.{View, body, link_of, IsWell, Renamed}
use Rattle.lsa_path.specs.Path.{IsPath}
use Rattle.lsa_path.specs.laws.Renamed.{path-renamed, some-there}
use Rattle.lsa_list.specs.declared.recency.List.{List as Slots}
use Rattle.lsa_list.specs.laws.Lists.{list-renamed}
use Rattle.rc_version.specs.Versions.{IsVersionOf, IsUnlisted, version_bytes}
use Rattle.rc_version.specs.laws.Moving.{version-renamed}
use Rattle.rc_version.specs.laws.Staying.{version-kind}
use Rattle.rc_partition.specs.Partitions.{StandingVersion, PartitionEntry, AreStanding, IsPartitionEntry, IsRowOfVersion, IsRowOfAny, heads_of, partition_as, partition_bytes, roots_of, version_as}
use Rattle.rc_partition.specs.laws.Apart.{row-recency}
use Rattle.rc_partition.specs.laws.Lists.{elem-map, elem-mapped, map-reversed, sum-mapped, sum-same}

module _ (old new : View) (names : List (Ref × Ref)) (renamed : Renamed old new names) (well : IsWell old) where
  objects_renamed : (vs : List StandingVersion) → heads_of (map (version_as names) vs) ≡ map (named_as names) (heads_of vs)
  objects_renamed [] = refl
  objects_renamed (s ∷ vs) = ap (λ l. named_as names s.object ∷ l) (objects_renamed vs)

  roots_renamed : (ps : List PartitionEntry) → roots_of (map (partition_as names) ps) ≡ roots_of ps
  roots_renamed [] = refl
  roots_renamed (p ∷ ps) = ap (λ l. p.root ∷ l) (roots_renamed ps)

  bytes_renamed : (p : PartitionEntry) → partition_bytes (partition_as names p) ≡ partition_bytes p
  bytes_renamed p = sum-mapped (version_as names) (λ (s : StandingVersion). version_bytes s.version) p.versions

  entry_renamed : (p : PartitionEntry) → IsPartitionEntry old p → IsPartitionEntry new (partition_as names p)
  entry_renamed p h = record {
    slot = renamed.kept p.root h.slot;
    chain = subst (λ l. IsPath 1 0 (link_of new) (Slot p.root) l None) (map-reversed (named_as names) (heads_of p.versions) ∙ ap reverse (sym (objects_renamed p.versions)))
        (path-renamed old new names renamed well 1 0 (Slot p.root) (reverse (heads_of p.versions)) None tt h.chain);
    versions = λ t on. let w = elem-mapped (version_as names) p.versions t on in
        subst (λ (q : StandingVersion). IsVersionOf new q.object q.entries q.version) w.2 (version-renamed old new names renamed well w.0.object w.0.entries w.0.version (h.versions w.0 w.1));
  }

  -- the mate of a link under new names was one before
  was_named : (o : Option End) (q : Ref) (f : ℕ) → option_map (end_as names) o ≡ Some (Obj q f) → (r : Ref) × (o ≡ Some (Obj r f)) × (named_as names r ≡ q)
  was_named None q f is = cc is
  was_named (Some (Slot s)) q f is = absurd (let clash : Slot s ≡ Obj q f = cc in cc)
  was_named (Some (Obj r g)) q f is = let same : Obj (named_as names r) g ≡ Obj q f = cc in let fields : g ≡ f = cc in (r, ap (λ n. Some (Obj r n)) fields, cc)

  module _ (t : StandingVersion) (k : IsVersionOf old t.object t.entries t.version) where
    row_renamed : (r : Ref) → IsRowOfVersion old t r → IsRowOfVersion new (version_as names t) (named_as names r)
    row_renamed r (inl on) = inl (elem-map (named_as names) t.entries r on)
    row_renamed r (inr link) = inr (renamed.links t.object 3 (some-there _ (body old t.object) (version-kind old t.object t.entries t.version k)) ∙ ap (option_map (end_as names)) link)

    row_was : (q : Ref) → IsRowOfVersion new (version_as names t) q → (r : Ref) × IsRowOfVersion old t r × (named_as names r ≡ q)
    row_was q (inl on) = let w = elem-mapped (named_as names) t.entries q on in (w.0, inl w.1, w.2)
    row_was q (inr link) =
        let w = was_named (link_of old (Obj t.object 3)) q 2 (sym (renamed.links t.object 3 (some-there _ (body old t.object) (version-kind old t.object t.entries t.version k))) ∙ link) in (w.0, inr w.1, w.2)

  module _ (slots : Slots) (partitions : List PartitionEntry) (listed : List Ref) (h : AreStanding slots old partitions listed) where
    unlisted_renamed : (r q : Ref) → IsSome (body old r) → named_as names r ≡ q → IsUnlisted old r → IsUnlisted new q
    unlisted_renamed r q live is unset = subst (IsUnlisted new) is (λ field low. renamed.links r field live ∙ ap (option_map (end_as names)) (unset field low))

    unlisted_at : (p : PartitionEntry) (t : StandingVersion) (q : Ref) → Contains (map (partition_as names) partitions) p → Contains p.versions t → IsRowOfVersion new t q → (Contains (map (named_as names) listed) q → ⊥) → IsUnlisted new q
    unlisted_at p t q on in_p row off =
        let a = elem-mapped (partition_as names) partitions p on in
        let b = elem-mapped (version_as names) a.0.versions t (subst (λ (x : PartitionEntry). Contains x.versions t) (sym a.2) in_p) in
        let stands = (h.entries a.0 a.1).versions b.0 b.1 in
        let r = row_was b.0 stands q (subst (λ (x : StandingVersion). IsRowOfVersion new x q) (sym b.2) row) in
        unlisted_renamed r.0 q (some-there _ (body old r.0) (row-recency old b.0 stands r.0 r.1)) r.2
        (h.unlisted r.0 (a.0, b.0, a.1, b.1, r.1) (λ in_list. off (subst (Contains (map (named_as names) listed)) r.2 (elem-map (named_as names) listed r.0 in_list))))

    pub stands-renamed : AreStanding slots new (map (partition_as names) partitions) (map (named_as names) listed)
    stands-renamed = record {
      apart = subst (AllPairs ◌≢◌) (sym (roots_renamed partitions)) h.apart;
      beside = λ p on. let w = elem-mapped (partition_as names) partitions p on in subst (λ (q : PartitionEntry). (q.root ≢ slots.front) × (q.root ≢ slots.back)) w.2 (h.beside w.0 w.1);
      entries = λ p on. let w = elem-mapped (partition_as names) partitions p on in subst (IsPartitionEntry new) w.2 (entry_renamed w.0 (h.entries w.0 w.1));
      list = list-renamed slots old new names renamed well listed h.list;
      owned = λ q on. let m = elem-mapped (named_as names) listed q on in let w = h.owned m.0 m.1 in subst (IsRowOfAny new (map (partition_as names) partitions)) m.2 (
        partition_as names w.0,
        version_as names w.1,
        elem-map (partition_as names) partitions w.0 w.2,
        elem-map (version_as names) w.0.versions w.1 w.3,
        row_renamed w.1 ((h.entries w.0 w.2).versions w.1 w.3) m.0 w.4,
      );
      unlisted = λ q w off. unlisted_at w.0 w.1 q w.2 w.3 w.4 off;
      whole = renamed.live ∙ h.whole ∙ sym (sum-mapped (partition_as names) partition_bytes partitions ∙ sum-same (λ p. partition_bytes (partition_as names p)) partition_bytes partitions (λ p on. bytes_renamed p));
    }
