-- One version of a partition changed, and all else stands as before with it in its place.
use Rattle.std.proofs.Common.{◌≡◌, ◌≢◌, ◌⊎◌, ℕ, ◌+◌, List, [], ◌∷◌, ◌++◌, Option, Some, None, IsSome, inl, inr, refl, sym, ap, ◌∙◌, subst, reverse, arith}
use Rattle.std.specs.Prelude.{IsSomeAnd, Contains, AllPairs, sum_by}
use Rattle.std.proofs.lemmas.List.{map-append}
use Rattle.lsa_kinds.specs.declared.kind.Kind.TheVariants.{Version as VersionKind}
use Rattle.lsa_pool.specs.Room.{live_sum}
use Rattle.lsa_store.specs.declared.place.Ref.{Ref}
use Rattle.lsa_region.specs.declared.end.Root.{Root}
use Rattle.lsa_region.specs.declared.end.End.TheVariants.{Obj, Slot}
use Rattle.lsa_region.specs.Region.{View, body, link_of, live_bytes, IsWell, IsSummed}
use Rattle.lsa_region.specs.laws.Ends.{no-end, some_and_none}
use Rattle.lsa_path.specs.Path.{IsPath}
use Rattle.lsa_path.specs.laws.Members.{all-from_members}
use Rattle.lsa_path.specs.laws.Passing.{path-entered}
use Rattle.lsa_path.specs.laws.Paths.{path-same}
use Rattle.lsa_path.specs.laws.Renamed.{some-there}
use Rattle.lsa_list.specs.declared.recency.List.{List as Slots}
use Rattle.lsa_list.specs.Recency.{HasRecency, AllHaveRecency}
use Rattle.rc_core.specs.Version.{Version}
use Rattle.rc_version.specs.Objects.{IsRewritten}
use Rattle.rc_version.specs.Versions.{IsVersionOf, IsKeptBut, IsUnlisted, IsWeighed, version_bytes}
use Rattle.rc_version.specs.laws.Staying.{version-kind}
use Rattle.rc_partition.specs.Partitions.{StandingVersion, PartitionEntry, AreStanding, IsPartitionEntry, IsRowOfVersion, IsRowOfAny, among, heads_of, partition_of, partition_bytes, roots_of, standing}
use Rattle.rc_partition.specs.laws.Apart.{entry-once, entries-apart, one-version, row-recency, row-version}
use Rattle.rc_partition.specs.laws.Lists.{elem-first, elem-here, elem-later, elem-map, elem-replaced, elem-split, elem-still, once-beside, sum-middle}
use Rattle.rc_partition.specs.laws.Whole.{each-stands, nothing-else}

-- ---- one among others

-- a version of partitions has a place among them
pub place-of : (partitions : List PartitionEntry) (p : PartitionEntry) (s : StandingVersion) → Contains partitions p → Contains p.versions s
    → (front : List PartitionEntry) × (older : List StandingVersion) × (newer : List StandingVersion) × (back : List PartitionEntry) × (partitions ≡ among front p.root older s newer back)
place-of partitions p s on in_p = let a = elem-split partitions p on in let b = elem-split p.versions s in_p in
    (a.0, b.0, b.1, a.1, a.2 ∙ ap (λ vs. a.0 ++ (partition_of p.root vs ∷ a.1)) b.2)

module _ (front back : List PartitionEntry) (root : Root) (older newer : List StandingVersion) where
  pub roots-among : (vs : List StandingVersion) → roots_of (front ++ (partition_of root vs ∷ back)) ≡ roots_of front ++ (root ∷ roots_of back)
  roots-among vs = map-append (λ (p : PartitionEntry). p.root) front (partition_of root vs ∷ back)

  pub objects-among : (s : StandingVersion) → heads_of (older ++ (s ∷ newer)) ≡ heads_of older ++ (s.object ∷ heads_of newer)
  objects-among s = map-append (λ (t : StandingVersion). t.object) older (s ∷ newer)

  -- a version of partitions among which s is: it is s, or beside it, or of another partition
  pub among-cases : (s : StandingVersion) (p : PartitionEntry) (t : StandingVersion) → Contains (among front root older s newer back) p → Contains p.versions t
      → (s ≡ t) ⊎ (Contains (older ++ newer) t ⊎ Contains (front ++ back) p)
  among-cases s p t on in_p = elim (elem-replaced front back (partition_of root (older ++ (s ∷ newer))) p on) [
    | inl same ↦ elim (elem-replaced older newer s t (subst (λ (q : PartitionEntry). Contains q.versions t) (sym same) in_p)) [
      | inl is ↦ inl is
      | inr beside ↦ inr (inl beside)
    ]
    | inr other ↦ inr (inr other)
  ]

  pub this-among : (s : StandingVersion) → Contains (among front root older s newer back) (partition_of root (older ++ (s ∷ newer)))
  this-among s = elem-here front back (partition_of root (older ++ (s ∷ newer)))

  pub other-among : (s : StandingVersion) (p : PartitionEntry) → Contains (front ++ back) p → Contains (among front root older s newer back) p
  other-among s p on = elem-still front back (partition_of root (older ++ (s ∷ newer))) p on

  pub bytes-among : (s : StandingVersion) → sum_by partition_bytes (among front root older s newer back)
      ≡ sum_by partition_bytes front + ((sum_by (λ (t : StandingVersion). version_bytes t.version) older + (version_bytes s.version + sum_by (λ (t : StandingVersion). version_bytes t.version) newer)) + sum_by partition_bytes back)
  bytes-among s = sum-middle partition_bytes front back (partition_of root (older ++ (s ∷ newer)))
      ∙ ap (λ n. sum_by partition_bytes front + (n + sum_by partition_bytes back)) (sum-middle (λ (t : StandingVersion). version_bytes t.version) older newer s)

weighed : (old new before after f o n b : ℕ) → new + before ≡ old + after → old ≡ f + ((o + (before + n)) + b) → new ≡ f + ((o + (after + n)) + b)
weighed old new before after f o n b weigh is = omega (arith, weigh, is)

pub some_or_none : {X : Type 0} (o : Option X) → IsSome o ⊎ (o ≡ None)
some_or_none None = inr refl
some_or_none (Some x) = inl refl

pub all-recency : (v : View) (xs : List Ref) → ((r : Ref) → Contains xs r → HasRecency v r) → AllHaveRecency v xs
all-recency v [] h = tt
all-recency v (x ∷ xs) h = (h x (elem-first x xs), all-recency v xs (λ r later. h r (elem-later x r xs later)))

-- what is not there is in no list
none_unlisted : (v : View) → IsWell v → (r : Ref) → body v r ≡ None → IsUnlisted v r
none_unlisted v well r none field low = no-end v well (Obj r field) (λ there. some_and_none (body v r) _ none there)

-- ---- what stays

module _ (slots : Slots) (old new : View) (front : List PartitionEntry) (root : Root) (older : List StandingVersion) (s : StandingVersion) (newer : List StandingVersion) (back : List PartitionEntry) (listed : List Ref)
    (well : IsWell old) (kept : IsKeptBut s.object old new) (h : AreStanding slots old (among front root older s newer back) listed) where
  abbrev this : PartitionEntry
  this = partition_of root (older ++ (s ∷ newer))

  this_stands : IsPartitionEntry old (partition_of root (older ++ (s ∷ newer)))
  this_stands = h.entries (partition_of root (older ++ (s ∷ newer))) (this-among front back root older newer s)

  pub s-stands : IsVersionOf old s.object s.entries s.version
  s-stands = this_stands.versions s (elem-here older newer s)

  other_root : (p : PartitionEntry) → Contains (front ++ back) p → p.root ≢ root
  other_root p on same = once-beside (roots_of front) (roots_of back) root (subst (AllPairs ◌≢◌) (roots-among front back root older newer (older ++ (s ∷ newer))) h.apart)
      (subst (λ l. Contains l root) (map-append (λ (q : PartitionEntry). q.root) front back) (subst (Contains (roots_of (front ++ back))) same (elem-map (λ (q : PartitionEntry). q.root) (front ++ back) p on)))

  -- another version is another object
  pub beside-differs : (t : StandingVersion) → Contains (older ++ newer) t → t.object ≢ s.object
  beside-differs t on same = once-beside (heads_of older) (heads_of newer) s.object
      (subst (AllPairs ◌≢◌) (objects-among front back root older newer s) (entry-once old well (partition_of root (older ++ (s ∷ newer))) this_stands))
      (subst (λ l. Contains l s.object) (map-append (λ (q : StandingVersion). q.object) older newer) (subst (Contains (heads_of (older ++ newer))) same (elem-map (λ (q : StandingVersion). q.object) (older ++ newer) t on)))

  pub other-differs : (p : PartitionEntry) → Contains (front ++ back) p → (t : StandingVersion) → Contains p.versions t → t.object ≢ s.object
  other-differs p on t in_p same = entries-apart old well (partition_of root (older ++ (s ∷ newer))) p this_stands (h.entries p (other-among front back root older newer s p on)) (other_root p on) s.object
      (elem-map (λ (q : StandingVersion). q.object) (older ++ (s ∷ newer)) s (elem-here older newer s))
      (subst (Contains (heads_of p.versions)) same (elem-map (λ (q : StandingVersion). q.object) p.versions t in_p))

  beside_stands : (t : StandingVersion) → Contains (older ++ newer) t → IsVersionOf old t.object t.entries t.version
  beside_stands t on = this_stands.versions t (elem-still older newer s t on)

  other_stands : (p : PartitionEntry) → Contains (front ++ back) p → (t : StandingVersion) → Contains p.versions t → IsVersionOf old t.object t.entries t.version
  other_stands p on t in_p = (h.entries p (other-among front back root older newer s p on)).versions t in_p

  chain_kept : (p : PartitionEntry) (objects : List Ref) → IsPath 1 0 (link_of old) (Slot p.root) objects None → IsPath 1 0 (link_of new) (Slot p.root) objects None
  chain_kept p objects path = path-same 1 0 (link_of old) (link_of new) (Slot p.root) objects None (kept.links (Slot p.root) tt) (all-from_members 0 (λ e. link_of new e ≡ link_of old e) objects (λ r k. kept.links (Obj r 0) (omega arith))) path

  other_kept : (p : PartitionEntry) → Contains (front ++ back) p → IsPartitionEntry new p
  other_kept p on = let k = h.entries p (other-among front back root older newer s p on) in record {
    slot = kept.roots p.root k.slot;
    chain = chain_kept p (reverse (heads_of p.versions)) k.chain;
    versions = λ t in_p. kept.versions t.object t.entries t.version (other-differs p on t in_p) (k.versions t in_p);
  }

  -- rows of other versions
  rows_kept : (t : StandingVersion) → t.object ≢ s.object → IsVersionOf old t.object t.entries t.version → (r : Ref) → IsRowOfVersion old t r → IsRowOfVersion new t r
  rows_kept t ne k r (inl on) = inl on
  rows_kept t ne k r (inr link) = inr (kept.statics t.object t.entries t.version ne k ∙ link)

  rows_back : (t : StandingVersion) → t.object ≢ s.object → IsVersionOf old t.object t.entries t.version → (r : Ref) → IsRowOfVersion new t r → IsRowOfVersion old t r
  rows_back t ne k r (inl on) = inl on
  rows_back t ne k r (inr link) = inr (sym (kept.statics t.object t.entries t.version ne k) ∙ link)

  module _ (now : List Ref) (c : Version) (is : IsVersionOf new s.object now c) where
    abbrev s' : StandingVersion
    s' = standing s.object now c

    this_kept : IsPartitionEntry new (partition_of root (older ++ (standing s.object now c ∷ newer)))
    this_kept = record {
      slot = kept.roots root this_stands.slot;
      chain = subst (λ l. IsPath 1 0 (link_of new) (Slot root) (reverse l) None) (objects-among front back root older newer s ∙ sym (objects-among front back root older newer (standing s.object now c)))
          (chain_kept (partition_of root (older ++ (s ∷ newer))) (reverse (heads_of (older ++ (s ∷ newer)))) this_stands.chain);
      versions = λ t on. elim (elem-replaced older newer (standing s.object now c) t on) [
        | inl same ↦ subst (λ (q : StandingVersion). IsVersionOf new q.object q.entries q.version) same is
        | inr beside ↦ kept.versions t.object t.entries t.version (beside-differs t beside) (beside_stands t beside)
      ];
    }

    pub entries-kept : (p : PartitionEntry) → Contains (among front root older (standing s.object now c) newer back) p → IsPartitionEntry new p
    entries-kept p on = elim (elem-replaced front back (partition_of root (older ++ (standing s.object now c ∷ newer))) p on) [
      | inl same ↦ subst (IsPartitionEntry new) same this_kept
      | inr other ↦ other_kept p other
    ]

    -- a row of a version that stands there now
    row_now : (r : Ref) → IsRowOfAny old (among front root older s newer back) r → (IsRowOfVersion old s r → IsRowOfVersion new (standing s.object now c) r) → IsRowOfAny new (among front root older (standing s.object now c) newer back) r
    row_now r w rows = elim (among-cases front back root older newer s w.0 w.1 w.2 w.3) [
      | inl same ↦ (
        partition_of root (older ++ (standing s.object now c ∷ newer)),
        standing s.object now c,
        this-among front back root older newer (standing s.object now c),
        elem-here older newer (standing s.object now c),
        rows (subst (λ q. IsRowOfVersion old q r) (sym same) w.4),
      )
      | inr (inl beside) ↦ (
        partition_of root (older ++ (standing s.object now c ∷ newer)),
        w.1,
        this-among front back root older newer (standing s.object now c),
        elem-still older newer (standing s.object now c) w.1 beside,
        rows_kept w.1 (beside-differs w.1 beside) (beside_stands w.1 beside) r w.4,
      )
      | inr (inr other) ↦ (w.0, w.1, other-among front back root older newer (standing s.object now c) w.0 other, w.3, rows_kept w.1 (other-differs w.0 other w.1 w.3) (other_stands w.0 other w.1 w.3) r w.4)
    ]

    -- a version that stood there is no row now
    no_row : (t : StandingVersion) (p : PartitionEntry) → Contains (among front root older s newer back) p → Contains p.versions t → IsSomeAnd (body new t.object) (λ b. b.0 ≡ VersionKind)
    no_row t p on in_p = elim (among-cases front back root older newer s p t on in_p) [
      | inl same ↦ subst (λ (q : StandingVersion). IsSomeAnd (body new q.object) (λ b. b.0 ≡ VersionKind)) same (version-kind new s.object now c is)
      | inr (inl beside) ↦ version-kind new t.object t.entries t.version (kept.versions t.object t.entries t.version (beside-differs t beside) (beside_stands t beside))
      | inr (inr other) ↦ version-kind new t.object t.entries t.version (kept.versions t.object t.entries t.version (other-differs p other t in_p) (other_stands p other t in_p))
    ]

    apart_now : AllPairs ◌≢◌ (roots_of (among front root older (standing s.object now c) newer back))
    apart_now = subst (AllPairs ◌≢◌) (roots-among front back root older newer (older ++ (s ∷ newer)) ∙ sym (roots-among front back root older newer (older ++ (standing s.object now c ∷ newer)))) h.apart

    whole_now : IsWeighed old new s.version c → live_bytes new ≡ sum_by partition_bytes (among front root older (standing s.object now c) newer back)
    whole_now weigh = weighed (live_bytes old) (live_bytes new) (version_bytes s.version) (version_bytes c) (sum_by partition_bytes front) (sum_by (λ (t : StandingVersion). version_bytes t.version) older)
        (sum_by (λ (t : StandingVersion). version_bytes t.version) newer) (sum_by partition_bytes back) weigh (h.whole ∙ bytes-among front back root older newer s) ∙ sym (bytes-among front back root older newer (standing s.object now c))

    list_path : IsPath 0 1 (link_of new) (Slot slots.front) listed (Some (Slot slots.back))
    list_path = path-same 0 1 (link_of old) (link_of new) (Slot slots.front) listed (Some (Slot slots.back)) (kept.links (Slot slots.front) tt) (all-from_members 1 (λ e. link_of new e ≡ link_of old e) listed (λ r k. kept.links (Obj r 1) (omega arith))) h.list.path

    -- a row of the version that is listed is a row of it still: it is there, and of no other version
    row_stays : IsWell new → IsSummed new → IsWeighed old new s.version c → (r : Ref) → Contains listed r → IsRowOfVersion old s r → IsRowOfVersion new (standing s.object now c) r
    row_stays well_new summed_new weigh r on row =
        let a = path-entered 0 1 (link_of new) (Slot slots.front) listed (Some (Slot slots.back)) list_path r on in
        elim (each-stands new (among front root older (standing s.object now c) newer back) well_new summed_new apart_now entries-kept (whole_now weigh) r (some-there _ (body new r) (well_new.ends a.0 (Obj r 0) a.1))) [
          | inl head ↦ absurd (row-version old s s-stands r row (subst (λ q. IsSomeAnd (body old q) (λ b. b.0 ≡ VersionKind)) head.4 (head_was head.1 head.0 head.2 head.3)))
          | inr w ↦ of_this w.0 w.1 w.2 w.3 w.4
        ]
      where
        head_was : (t : StandingVersion) (p : PartitionEntry) → Contains (among front root older (standing s.object now c) newer back) p → Contains p.versions t → IsSomeAnd (body old t.object) (λ b. b.0 ≡ VersionKind)
        head_was t p in_all in_p = elim (among-cases front back root older newer (standing s.object now c) p t in_all in_p) [
          | inl same ↦ subst (λ (q : StandingVersion). IsSomeAnd (body old q.object) (λ b. b.0 ≡ VersionKind)) same (version-kind old s.object s.entries s.version s-stands)
          | inr (inl beside) ↦ version-kind old t.object t.entries t.version (beside_stands t beside)
          | inr (inr other) ↦ version-kind old t.object t.entries t.version (other_stands p other t in_p)
        ]

        of_this : (p : PartitionEntry) (t : StandingVersion) → Contains (among front root older (standing s.object now c) newer back) p → Contains p.versions t → IsRowOfVersion new t r → IsRowOfVersion new (standing s.object now c) r
        of_this p t in_all in_p this_row = elim (among-cases front back root older newer (standing s.object now c) p t in_all in_p) [
          | inl same ↦ subst (λ (q : StandingVersion). IsRowOfVersion new q r) (sym same) this_row
          | inr (inl beside) ↦ absurd (beside-differs t beside (sym (one-version old well s t s-stands (beside_stands t beside) r row (rows_back t (beside-differs t beside) (beside_stands t beside) r this_row))))
          | inr (inr other) ↦ absurd (other-differs p other t in_p (sym (one-version old well s t s-stands (other_stands p other t in_p) r row (rows_back t (other-differs p other t in_p) (other_stands p other t in_p) r this_row))))
        ]

    module _ (summed : IsSummed old) (weigh : IsWeighed old new s.version c) (rows : (r : Ref) → Contains listed r → IsRowOfVersion old s r → IsRowOfVersion new (standing s.object now c) r) (fresh : (r : Ref) → body old r ≡ None → IsUnlisted new r) where
      owned_now : (r : Ref) → Contains listed r → IsRowOfAny new (among front root older (standing s.object now c) newer back) r
      owned_now r on = row_now r (h.owned r on) (rows r on)

      -- a row that is in no list
      unlisted_now : (r : Ref) → IsRowOfAny new (among front root older (standing s.object now c) newer back) r → (Contains listed r → ⊥) → IsUnlisted new r
      unlisted_now r w off = elim (some_or_none (body old r)) [
        | inl live ↦ elim (nothing-else slots old (among front root older s newer back) listed well summed h r live) [
          | inl head ↦ absurd (row-version new w.1 ((entries-kept w.0 w.2).versions w.1 w.3) r w.4 (subst (λ q. IsSomeAnd (body new q) (λ b. b.0 ≡ VersionKind)) head.4 (no_row head.1 head.0 head.2 head.3)))
          | inr row ↦ λ field low. kept.links (Obj r field) low ∙ h.unlisted r row off field low
        ]
        | inr none ↦ fresh r none
      ]

      pub stands-changed : AreStanding slots new (among front root older (standing s.object now c) newer back) listed
      stands-changed = record {
        apart = apart_now;
        beside = λ p on. elim (elem-replaced front back (partition_of root (older ++ (standing s.object now c ∷ newer))) p on) [
          | inl same ↦ subst (λ (q : PartitionEntry). (q.root ≢ slots.front) × (q.root ≢ slots.back)) same (h.beside (partition_of root (older ++ (s ∷ newer))) (this-among front back root older newer s))
          | inr other ↦ h.beside p (other-among front back root older newer s p other)
        ];
        entries = entries-kept;
        list = record {
          path = list_path;
          recent = all-recency new listed (λ r on. let w = owned_now r on in row-recency new w.1 ((entries-kept w.0 w.2).versions w.1 w.3) r w.4);
        };
        owned = owned_now;
        unlisted = unlisted_now;
        whole = whole_now weigh;
      }

-- what the version has of listed rows, and what is new, is told by what is live
pub stands-settled : (slots : Slots) (old new : View) (front : List PartitionEntry) (root : Root) (older : List StandingVersion) (s : StandingVersion) (newer : List StandingVersion) (back : List PartitionEntry) (listed : List Ref)
    → IsWell old → IsSummed old → IsWell new → IsSummed new → IsKeptBut s.object old new → AreStanding slots old (among front root older s newer back) listed → (now : List Ref) (c : Version) → IsVersionOf new s.object now c → IsWeighed old new s.version c
    → AreStanding slots new (among front root older (standing s.object now c) newer back) listed
stands-settled slots old new front root older s newer back listed well summed well_new summed_new kept h now c is weigh = stands-changed slots old new front root older s newer back listed well kept h now c is summed weigh
    (row_stays slots old new front root older s newer back listed well kept h now c is well_new summed_new weigh) (λ r none field low. kept.links (Obj r field) low ∙ none_unlisted old well r none field low)

-- ---- bytes alone were changed

module _ (old new : View) (r : Ref) (rewritten : IsRewritten old new r) where
  pub rewritten-weighed : (before after : Version) → version_bytes after ≡ version_bytes before → IsWeighed old new before after
  rewritten-weighed before after same = λ i. live_bytes_same i + version_bytes_same i
    where
      live_bytes_same : live_bytes new ≡ live_bytes old
      live_bytes_same = ap (λ us. live_sum us) rewritten.0.1.usages

      version_bytes_same : version_bytes before ≡ version_bytes after
      version_bytes_same = sym same

  pub rewritten-fresh : IsWell old → (q : Ref) → body old q ≡ None → IsUnlisted new q
  rewritten-fresh well q none field low = rewritten.0.1.links (Obj q field) ∙ none_unlisted old well q none field low

  pub rewritten-row : (s : StandingVersion) (c : Version) (q : Ref) → IsRowOfVersion old s q → IsRowOfVersion new (standing s.object s.entries c) q
  rewritten-row s c q (inl on) = inl on
  rewritten-row s c q (inr link) = inr (rewritten.0.1.links (Obj s.object 3) ∙ link)
