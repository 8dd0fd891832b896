-- A version that was made and put over those of a partition.
use Rattle.std.proofs.Common.{◌≡◌, ◌≢◌, ◌⊎◌, ℕ, ◌+◌, List, [], ◌∷◌, ◌++◌, Some, None, inl, inr, sym, ap, ◌∙◌, subst, reverse, arith}
use Rattle.std.specs.Prelude.{IsSomeAnd, Contains, AllPairs, sum_by}
use Rattle.std.proofs.lemmas.List.{map-append, reverse-append}
use Rattle.lsa_kinds.specs.declared.kind.Kind.TheVariants.{Version as VersionKind}
use Rattle.lsa_pool.specs.Room.{live_sum}
use Rattle.lsa_store.specs.declared.place.Ref.{Ref}
use Rattle.lsa_region.specs.declared.end.Root.{Root}
use Rattle.lsa_region.specs.declared.end.End.{End}
use Rattle.lsa_region.specs.declared.end.End.TheVariants.{Obj, Slot}
use Rattle.lsa_region.specs.Region.{View, body, link_of, live_bytes, IsEnd, IsWell, IsSummed, SameObjects}
use Rattle.lsa_region.specs.laws.Ends.{some_and_none}
use Rattle.lsa_path.specs.Path.{IsPath, IsOutside, IsInserted}
use Rattle.lsa_path.specs.laws.Members.{all-from_members}
use Rattle.lsa_path.specs.laws.Passing.{path-entered}
use Rattle.lsa_path.specs.laws.Paths.{path-same}
use Rattle.lsa_list.specs.declared.recency.List.{List as Slots}
use Rattle.rc_core.specs.Version.{Version}
use Rattle.rc_version.specs.Versions.{HasStatics, IsKeptBut, IsUnlisted, IsVersionOf, version_bytes}
use Rattle.rc_version.specs.laws.Staying.{version-kind}
use Rattle.rc_partition.specs.Partitions.{StandingVersion, PartitionEntry, AreStanding, IsPartitionEntry, IsRowOfVersion, IsRowOfAny, heads_of, partition_bytes, partition_of, roots_of, standing}
use Rattle.rc_partition.specs.laws.Apart.{entries-apart, one-version, row-recency, row-version}
use Rattle.rc_partition.specs.laws.Changed.{all-recency, roots-among, some_or_none}
use Rattle.rc_partition.specs.laws.Lists.{elem-cases, elem-first, elem-here, elem-left, elem-map, elem-mapped, elem-none, elem-pushed, elem-replaced, elem-reversed, elem-still, elem-unreversed, once-beside, sum-middle}
use Rattle.rc_partition.specs.laws.Whole.{nothing-else}
use Rattle.rc_partition.proofs.Chains.{IsBeside, IsChainStep, kept-beside, beside-then, rows-beside, rows-were, entry-beside, chain-beside, chain-version, inserted-step}

-- the partitions of other root slots
pub other-root : (front back : List PartitionEntry) (root : Root) (vs : List StandingVersion) → AllPairs ◌≢◌ (roots_of (front ++ (partition_of root vs ∷ back))) → (p : PartitionEntry) → Contains (front ++ back) p → p.root ≢ root
other-root front back root vs once p on same = once-beside (roots_of front) (roots_of back) root (subst (AllPairs ◌≢◌) (map-append (λ (q : PartitionEntry). q.root) front (partition_of root vs ∷ back)) once)
    (subst (λ l. Contains l root) (map-append (λ (q : PartitionEntry). q.root) front back) (subst (Contains (roots_of (front ++ back))) same (elem-map (λ (q : PartitionEntry). q.root) (front ++ back) p on)))

objects_pushed : (vs : List StandingVersion) (s : StandingVersion) → reverse (heads_of (vs ++ (s ∷ []))) ≡ s.object ∷ reverse (heads_of vs)
objects_pushed vs s = ap reverse (map-append (λ (t : StandingVersion). t.object) vs (s ∷ [])) ∙ reverse-append (heads_of vs) (s.object ∷ [])

more : (new mid old f o b n : ℕ) → new ≡ mid → mid ≡ old + n → old ≡ f + (o + b) → new ≡ f + ((o + (n + 0)) + b)
more new mid old f o b n same made is = omega (arith, same, made, is)

module _ (slots : Slots) (old mid new : View) (front : List PartitionEntry) (root : Root) (vs : List StandingVersion) (back : List PartitionEntry) (listed : List Ref) (h : AreStanding slots old (front ++ (partition_of root vs ∷ back)) listed)
    (well : IsWell old) (summed : IsSummed old) (n end : Ref) (c : Version) (fresh : body old n ≡ None) (kept : IsKeptBut n old mid) where
  this_stands : IsPartitionEntry old (partition_of root vs)
  this_stands = h.entries (partition_of root vs) (elem-here front back (partition_of root vs))

  -- no version that stands there is the new one
  pub not-new : (p : PartitionEntry) → IsPartitionEntry old p → (t : StandingVersion) → Contains p.versions t → t.object ≢ n
  not-new p k t on same = some_and_none (body old n) _ fresh (subst (λ q. IsSomeAnd (body old q) (λ b. b.0 ≡ VersionKind)) same (version-kind old t.object t.entries t.version (k.versions t on)))

  -- before it is put over the others
  pub mid-path : IsPath 1 0 (link_of mid) (Slot root) (reverse (heads_of vs)) None
  mid-path = path-same 1 0 (link_of old) (link_of mid) (Slot root) (reverse (heads_of vs)) None (kept.links (Slot root) tt) (all-from_members 0 (λ e. link_of mid e ≡ link_of old e) (reverse (heads_of vs)) (λ r k. kept.links (Obj r 0) (omega arith))) this_stands.chain

  pub mid-slot : IsEnd mid (Slot root)
  mid-slot = kept.roots root this_stands.slot

  module _ (well_mid : IsWell mid) (is : IsVersionOf mid n (end ∷ []) c) (none : c.statics ≡ None) (bytes : version_bytes c ≡ 152) (unlisted : (r : Ref) → body old r ≡ None → IsUnlisted mid r) (live : live_bytes mid ≡ live_bytes old + 152)
      (ins : IsInserted (link_of mid) (link_of new) (Slot root) (Obj n 1) (Obj n 0)) (outside : (e : End) → IsOutside 1 0 e → Slot root ≢ e → link_of new e ≡ link_of mid e)
      (path : IsPath 1 0 (link_of new) (Slot root) (n ∷ reverse (heads_of vs)) None) (same : SameObjects mid new) where
    mid_this : IsPartitionEntry mid (partition_of root vs)
    mid_this = record { slot = mid-slot; chain = mid-path; versions = λ t on. kept.versions t.object t.entries t.version (not-new (partition_of root vs) this_stands t on) (this_stands.versions t on) }

    -- it is in no chain yet
    loose : (p : PartitionEntry) → IsPartitionEntry mid p → Contains (heads_of p.versions) n → ⊥
    loose p k on = let a = path-entered 1 0 (link_of mid) (Slot p.root) (reverse (heads_of p.versions)) None k.chain n (elem-reversed (heads_of p.versions) n on) in
        let clash : None ≡ Some a.0 = sym (unlisted n fresh 1 (omega arith)) ∙ well_mid.paired.mates a.0 (Obj n 1) a.1 in cc

    -- its end dummy was not there
    end_fresh : body old end ≡ None
    end_fresh = elim (some_or_none (body old end)) [
      | inr gone ↦ gone
      | inl there ↦ elim (nothing-else slots old (front ++ (partition_of root vs ∷ back)) listed well summed h end there) [
        | inl head ↦ absurd (row-version mid (standing n (end ∷ []) c) is end (inl (elem-first end []))
            (subst (λ q. IsSomeAnd (body mid q) (λ b. b.0 ≡ VersionKind)) head.4
            (version-kind mid head.1.object head.1.entries head.1.version (kept.versions head.1.object head.1.entries head.1.version (not-new head.0 (h.entries head.0 head.2) head.1 head.3) ((h.entries head.0 head.2).versions head.1 head.3)))))
        | inr w ↦ let k = (h.entries w.0 w.2).versions w.1 w.3 in let ne = not-new w.0 (h.entries w.0 w.2) w.1 w.3 in
            absurd (ne (one-version mid well_mid w.1 (standing n (end ∷ []) c) (kept.versions w.1.object w.1.entries w.1.version ne k) is end
            (rows-beside n root old mid (kept-beside n root old mid kept) w.1 ne k end w.4) (inl (elem-first end []))))
      ]
    ]

    step_links : IsChainStep root (n ∷ reverse (heads_of vs)) mid new
    step_links = inserted-step root mid new same n (reverse (heads_of vs)) mid-path ins outside

    new_version : IsVersionOf new n (end ∷ []) c
    new_version = chain-version root (n ∷ reverse (heads_of vs)) mid new step_links n (end ∷ []) c is

    -- the head is no row
    heads_kind : (o : Ref) → Contains (n ∷ reverse (heads_of vs)) o → IsSomeAnd (body mid o) (λ b. b.0 ≡ VersionKind)
    heads_kind o on = elim (elem-cases n o (reverse (heads_of vs)) on) [
      | inl here ↦ subst (λ q. IsSomeAnd (body mid q) (λ b. b.0 ≡ VersionKind)) here (version-kind mid n (end ∷ []) c is)
      | inr later ↦ let t = elem-mapped (λ (s : StandingVersion). s.object) vs o (elem-unreversed (heads_of vs) o later) in
          subst (λ q. IsSomeAnd (body mid q) (λ b. b.0 ≡ VersionKind)) t.2 (version-kind mid t.0.object t.0.entries t.0.version (kept.versions t.0.object t.0.entries t.0.version (not-new (partition_of root vs) this_stands t.0 t.1) (this_stands.versions t.0 t.1)))
    ]

    pub end-unlisted : IsUnlisted new end
    end-unlisted field low = step_links.others end field (λ on. row-version mid (standing n (end ∷ []) c) is end (inl (elem-first end [])) (heads_kind end on)) ∙ unlisted end end_fresh field low

    -- the only row of the new version
    only_end : (r : Ref) → IsRowOfVersion new (standing n (end ∷ []) c) r → end ≡ r
    only_end r (inl on) = elim (elem-cases end r [] on) [ inl same ↦ same | inr later ↦ absurd (elem-none r later) ]
    only_end r (inr link) = absurd (let clash : None ≡ Some (Obj r 2) = sym (subst (HasStatics new n) none new_version.statics) ∙ link in cc)

    root_beside : (root ≢ slots.front) × (root ≢ slots.back)
    root_beside = h.beside (partition_of root vs) (elem-here front back (partition_of root vs))

    step : IsBeside n root old new
    step = beside-then n root old mid new (kept-beside n root old mid kept)
        (chain-beside root (n ∷ reverse (heads_of vs)) mid new step_links n heads_kind
        (λ p ne k o in_p on. elim (elem-cases n o (reverse (heads_of vs)) on) [
          | inl here ↦ loose p k (subst (Contains (heads_of p.versions)) (sym here) in_p)
          | inr later ↦ entries-apart mid well_mid (partition_of root vs) p mid_this k ne o (elem-unreversed (heads_of vs) o later) in_p
        ]))
        (λ p ne k t on. not-new p k t on)

    beside : (p : PartitionEntry) → Contains (front ++ back) p → IsPartitionEntry new p
    beside p on = let k = h.entries p (elem-still front back (partition_of root vs) p on) in entry-beside n root old new step p (other-root front back root vs h.apart p on) (not-new p k) k

    this_now : IsPartitionEntry new (partition_of root (vs ++ (standing n (end ∷ []) c ∷ [])))
    this_now = record {
      slot = step.there root this_stands.slot;
      chain = subst (λ l. IsPath 1 0 (link_of new) (Slot root) l None) (sym (objects_pushed vs (standing n (end ∷ []) c))) path;
      versions = λ t on. elim (elem-pushed vs (standing n (end ∷ []) c) t on) [
        | inl before ↦ step.versions t.object t.entries t.version (not-new (partition_of root vs) this_stands t before) (this_stands.versions t before)
        | inr same ↦ subst (λ (q : StandingVersion). IsVersionOf new q.object q.entries q.version) same new_version
      ];
    }

    entries_now : (p : PartitionEntry) → Contains (front ++ (partition_of root (vs ++ (standing n (end ∷ []) c ∷ [])) ∷ back)) p → IsPartitionEntry new p
    entries_now p on = elim (elem-replaced front back (partition_of root (vs ++ (standing n (end ∷ []) c ∷ []))) p on) [ inl same ↦ subst (IsPartitionEntry new) same this_now | inr other ↦ beside p other ]

    -- a row that was there is one now
    row_now : (r : Ref) → IsRowOfAny old (front ++ (partition_of root vs ∷ back)) r → IsRowOfAny new (front ++ (partition_of root (vs ++ (standing n (end ∷ []) c ∷ [])) ∷ back)) r
    row_now r w =
        let k = h.entries w.0 w.2 in let row = rows-beside n root old new step w.1 (not-new w.0 k w.1 w.3) (k.versions w.1 w.3) r w.4 in
        elim (elem-replaced front back (partition_of root vs) w.0 w.2) [
          | inl same ↦ (
            partition_of root (vs ++ (standing n (end ∷ []) c ∷ [])),
            w.1,
            elem-here front back (partition_of root (vs ++ (standing n (end ∷ []) c ∷ []))),
            elem-left vs (standing n (end ∷ []) c ∷ []) w.1 (subst (λ (q : PartitionEntry). Contains q.versions w.1) (sym same) w.3),
            row,
          )
          | inr other ↦ (w.0, w.1, elem-still front back (partition_of root (vs ++ (standing n (end ∷ []) c ∷ []))) w.0 other, w.3, row)
        ]

    -- a row now is the end dummy, or was there
    row_was : (r : Ref) → IsRowOfAny new (front ++ (partition_of root (vs ++ (standing n (end ∷ []) c ∷ [])) ∷ back)) r → (end ≡ r) ⊎ IsRowOfAny old (front ++ (partition_of root vs ∷ back)) r
    row_was r w = elim (elem-replaced front back (partition_of root (vs ++ (standing n (end ∷ []) c ∷ []))) w.0 w.2) [
      | inl same ↦ elim (elem-pushed vs (standing n (end ∷ []) c) w.1 (subst (λ (q : PartitionEntry). Contains q.versions w.1) (sym same) w.3)) [
        | inl before ↦ inr (
          partition_of root vs,
          w.1,
          elem-here front back (partition_of root vs),
          before,
          rows-were n root old new step w.1 (not-new (partition_of root vs) this_stands w.1 before) (this_stands.versions w.1 before) r w.4,
        )
        | inr is_new ↦ inl (only_end r (subst (λ q. IsRowOfVersion new q r) (sym is_new) w.4))
      ]
      | inr other ↦ let k = h.entries w.0 (elem-still front back (partition_of root vs) w.0 other) in
          inr (w.0, w.1, elem-still front back (partition_of root vs) w.0 other, w.3, rows-were n root old new step w.1 (not-new w.0 k w.1 w.3) (k.versions w.1 w.3) r w.4)
    ]

    row_unlisted : (r : Ref) → IsRowOfAny old (front ++ (partition_of root vs ∷ back)) r → IsUnlisted old r → IsUnlisted new r
    row_unlisted r w unset field low = let k = h.entries w.0 w.2 in step.rows w.1 (not-new w.0 k w.1 w.3) (k.versions w.1 w.3) r w.4 field low ∙ unset field low

    pub stands-added : AreStanding slots new (front ++ (partition_of root (vs ++ (standing n (end ∷ []) c ∷ [])) ∷ back)) listed
    stands-added = record {
      apart = subst (AllPairs ◌≢◌) (roots-among front back root [] [] vs ∙ sym (roots-among front back root [] [] (vs ++ (standing n (end ∷ []) c ∷ [])))) h.apart;
      beside = λ p on. elim (elem-replaced front back (partition_of root (vs ++ (standing n (end ∷ []) c ∷ []))) p on) [
        | inl is_this ↦ subst (λ (q : PartitionEntry). (q.root ≢ slots.front) × (q.root ≢ slots.back)) is_this root_beside
        | inr other ↦ h.beside p (elem-still front back (partition_of root vs) p other)
      ];
      entries = entries_now;
      list = record {
        path = path-same 0 1 (link_of old) (link_of new) (Slot slots.front) listed (Some (Slot slots.back)) (step.slots slots.front (λ e. root_beside.0 (sym e)))
            (all-from_members 1 (λ e. link_of new e ≡ link_of old e) listed (λ r on. let w = h.owned r on in let k = h.entries w.0 w.2 in step.rows w.1 (not-new w.0 k w.1 w.3) (k.versions w.1 w.3) r w.4 1 (omega arith))) h.list.path;
        recent = all-recency new listed (λ r on. let w = row_now r (h.owned r on) in row-recency new w.1 ((entries_now w.0 w.2).versions w.1 w.3) r w.4);
      };
      owned = λ r on. row_now r (h.owned r on);
      unlisted = λ r w off. elim (row_was r w) [ inl same ↦ subst (IsUnlisted new) same end-unlisted | inr row ↦ row_unlisted r row (h.unlisted r row off) ];
      whole = more (live_bytes new) (live_bytes mid) (live_bytes old) (sum_by partition_bytes front) (sum_by (λ (t : StandingVersion). version_bytes t.version) vs) (sum_by partition_bytes back) 152 (ap (λ us. live_sum us) same.usages) live
          (h.whole ∙ sum-middle partition_bytes front back (partition_of root vs))
          ∙ sym (sum-middle partition_bytes front back (partition_of root (vs ++ (standing n (end ∷ []) c ∷ [])))
          ∙ ap (λ b. sum_by partition_bytes front + (b + sum_by partition_bytes back)) (sum-middle (λ (t : StandingVersion). version_bytes t.version) vs [] (standing n (end ∷ []) c) ∙ ap (λ b. sum_by (λ (t : StandingVersion). version_bytes t.version) vs + (b + 0)) bytes));
    }
