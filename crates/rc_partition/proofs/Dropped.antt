-- A version that was taken out of a partition and freed.
use Rattle.std.proofs.Common.{◌≡◌, ◌≢◌, ℕ, zero, suc, ◌+◌, ◌≤◌, List, [], ◌∷◌, ◌++◌, append_assoc, Some, None, inl, inr, sym, ap, ◌∙◌, subst, reverse, arith}
use Rattle.std.specs.Prelude.{IsSomeAnd, Contains, AllPairs, sum_by}
use Rattle.std.proofs.lemmas.List.{map-append, reverse-append}
use Rattle.lsa_kinds.specs.declared.kind.Kind.TheVariants.{Version as VersionKind}
use Rattle.lsa_pool.specs.Room.{live_sum}
use Rattle.lsa_store.specs.declared.place.Ref.{Ref}
use Rattle.lsa_region.specs.declared.end.Root.{Root}
use Rattle.lsa_region.specs.declared.end.End.{End}
use Rattle.lsa_region.specs.declared.end.End.TheVariants.{Obj, Slot}
use Rattle.lsa_region.specs.Region.{View, body, link_of, live_bytes, IsEnd, IsWell, SameObjects}
use Rattle.lsa_path.specs.Path.{IsPath, IsOutside, IsTakenOut}
use Rattle.lsa_path.specs.laws.Members.{all-from_members}
use Rattle.lsa_path.specs.laws.Passing.{path-entered}
use Rattle.lsa_path.specs.laws.Paths.{path-same}
use Rattle.lsa_list.specs.declared.recency.List.{List as Slots}
use Rattle.rc_core.specs.Version.{Version, EndsWithDummy}
use Rattle.rc_version.specs.Versions.{HasStatics, IsKeptBut, IsUnlisted, IsVersionOf, bytes_at, entries_bytes, statics_bytes, version_bytes}
use Rattle.rc_version.specs.laws.Holding.{one-held}
use Rattle.rc_version.specs.laws.Staying.{version-kind}
use Rattle.rc_partition.specs.Partitions.{StandingVersion, PartitionEntry, AreStanding, IsPartitionEntry, IsRowOfVersion, IsRowOfAny, among, heads_of, partition_bytes, partition_of}
use Rattle.rc_partition.specs.laws.Apart.{entry-once, entries-apart, row-recency, row-version}
use Rattle.rc_partition.specs.laws.Changed.{all-recency, among-cases, bytes-among, other-among, roots-among, this-among}
use Rattle.rc_partition.specs.laws.Lists.{elem-cases, elem-here, elem-map, elem-mapped, elem-none, elem-replaced, elem-still, elem-unreversed, once-beside, sum-middle, sum-without}
use Rattle.rc_partition.proofs.Added.{other-root}
use Rattle.rc_partition.proofs.Chains.{IsBeside, IsChainStep, kept-beside, beside-then, rows-beside, rows-were, entry-beside, chain-beside, chain-version, taken-step}

-- a version of its end dummy alone takes 152 bytes
pub bare-bytes : (v : View) (n end : Ref) (c : Version) → IsVersionOf v n (end ∷ []) c → c.statics ≡ None → version_bytes c ≡ 152
bare-bytes v n end c h none =
    let one = one-held v end c.entries h.entries in let ends = subst EndsWithDummy one.1 h.version.ends in
    (λ i. 64 + (statics_bytes (none i) + entries_bytes (one.1 i))) ∙ (λ i. 64 + (0 + (bytes_at (ends.0 i) (ends.1 i) + 0)))

objects_behind : (older newer : List StandingVersion) (s : StandingVersion) → reverse (heads_of (older ++ (s ∷ newer))) ≡ reverse (heads_of newer) ++ (s.object ∷ reverse (heads_of older))
objects_behind older newer s = ap reverse (map-append (λ (t : StandingVersion). t.object) older (s ∷ newer)) ∙ reverse-append (heads_of older) (s.object ∷ heads_of newer)
    ∙ ap (λ l. l ++ reverse (heads_of older)) (reverse-append (s.object ∷ []) (heads_of newer)) ∙ append_assoc (reverse (heads_of newer)) (s.object ∷ []) (reverse (heads_of older))

objects_without : (older newer : List StandingVersion) → reverse (heads_of (older ++ newer)) ≡ reverse (heads_of newer) ++ reverse (heads_of older)
objects_without older newer = ap reverse (map-append (λ (t : StandingVersion). t.object) older newer) ∙ reverse-append (heads_of older) (heads_of newer)

less : (new mid old f o n b s : ℕ) → new + 152 ≡ mid → mid ≡ old → old ≡ f + ((o + (s + n)) + b) → s ≡ 152 → new ≡ f + ((o + n) + b)
less new mid old f o n b s freed same is bytes = omega (arith, freed, same, is, bytes)

-- where a version stands among those of a partition
module _ (slots : Slots) (old : View) (front : List PartitionEntry) (root : Root) (older : List StandingVersion) (s : StandingVersion) (newer : List StandingVersion) (back : List PartitionEntry) (listed : List Ref)
    (h : AreStanding slots old (among front root older s newer back) listed) (well : IsWell old) where
  pub this-stands : IsPartitionEntry old (partition_of root (older ++ (s ∷ newer)))
  this-stands = h.entries (partition_of root (older ++ (s ∷ newer))) (this-among front back root older newer s)

  pub s-stands : IsVersionOf old s.object s.entries s.version
  s-stands = this-stands.versions s (elem-here older newer s)

  pub chain-is : IsPath 1 0 (link_of old) (Slot root) (reverse (heads_of newer) ++ (s.object ∷ reverse (heads_of older))) None
  chain-is = subst (λ l. IsPath 1 0 (link_of old) (Slot root) l None) (objects_behind older newer s) this-stands.chain

  pub slot-is : IsEnd old (Slot root)
  slot-is = this-stands.slot

  heads_kind : (o : Ref) → Contains (reverse (heads_of newer) ++ (s.object ∷ reverse (heads_of older))) o → IsSomeAnd (body old o) (λ b. b.0 ≡ VersionKind)
  heads_kind o on =
      let t = elem-mapped (λ (q : StandingVersion). q.object) (older ++ (s ∷ newer)) o (elem-unreversed (heads_of (older ++ (s ∷ newer))) o (subst (λ l. Contains l o) (sym (objects_behind older newer s)) on)) in
      subst (λ q. IsSomeAnd (body old q) (λ b. b.0 ≡ VersionKind)) t.2 (version-kind old t.0.object t.0.entries t.0.version (this-stands.versions t.0 t.1))

  chain_apart : (p : PartitionEntry) → p.root ≢ root → IsPartitionEntry old p → (o : Ref) → Contains (heads_of p.versions) o → Contains (reverse (heads_of newer) ++ (s.object ∷ reverse (heads_of older))) o → ⊥
  chain_apart p ne k o in_p on = entries-apart old well (partition_of root (older ++ (s ∷ newer))) p this-stands k ne o
      (elem-unreversed (heads_of (older ++ (s ∷ newer))) o (subst (λ l. Contains l o) (sym (objects_behind older newer s)) on)) in_p

  differs : (p : PartitionEntry) → p.root ≢ root → IsPartitionEntry old p → (t : StandingVersion) → Contains p.versions t → t.object ≢ s.object
  differs p ne k t on same = chain_apart p ne k s.object (subst (Contains (heads_of p.versions)) same (elem-map (λ (q : StandingVersion). q.object) p.versions t on))
      (elem-here (reverse (heads_of newer)) (reverse (heads_of older)) s.object)

  module _ (mid : View) (out : IsTakenOut (link_of old) (link_of mid) (Obj s.object 1) (Obj s.object 0)) (outside : (e : End) → IsOutside 1 0 e → Slot root ≢ e → link_of mid e ≡ link_of old e) (same : SameObjects old mid) where
    links : IsChainStep root (reverse (heads_of newer) ++ (s.object ∷ reverse (heads_of older))) old mid
    links = taken-step root old mid same well.paired s.object (reverse (heads_of newer)) (reverse (heads_of older)) chain-is out outside

    -- it is still what it was, and in no chain
    pub taken-version : IsVersionOf mid s.object s.entries s.version
    taken-version = chain-version root (reverse (heads_of newer) ++ (s.object ∷ reverse (heads_of older))) old mid links s.object s.entries s.version s-stands

    pub taken-unlisted : IsUnlisted mid s.object
    taken-unlisted field low = both field low
      where
        both : (field : ℕ) → field ≤ 1 → link_of mid (Obj s.object field) ≡ None
        both zero low = out.back
        both (suc zero) low = out.front
        both (suc (suc field)) low = absurd (omega (arith, low))

    pub taken-row : (r : Ref) → IsRowOfVersion old s r → IsUnlisted old r → IsUnlisted mid r
    taken-row r row unset field low = links.others r field (λ on. row-version old s s-stands r row (heads_kind r on)) ∙ unset field low

    module _ (end : Ref) (entries : s.entries ≡ end ∷ []) (none : s.version.statics ≡ None) (unlisted : IsUnlisted old end)
        (new : View) (kept : IsKeptBut s.object mid new) (live : live_bytes new + 152 ≡ live_bytes mid) (path : IsPath 1 0 (link_of mid) (Slot root) (reverse (heads_of newer) ++ reverse (heads_of older)) None) where
      step : IsBeside s.object root old new
      step = beside-then s.object root old mid new (chain-beside root (reverse (heads_of newer) ++ (s.object ∷ reverse (heads_of older))) old mid links s.object heads_kind chain_apart) (kept-beside s.object root mid new kept) differs

      beside_stands : (t : StandingVersion) → Contains (older ++ newer) t → IsVersionOf old t.object t.entries t.version
      beside_stands t on = this-stands.versions t (elem-still older newer s t on)

      beside_differs : (t : StandingVersion) → Contains (older ++ newer) t → t.object ≢ s.object
      beside_differs t on same = once-beside (heads_of older) (heads_of newer) s.object (subst (AllPairs ◌≢◌) (map-append (λ (q : StandingVersion). q.object) older (s ∷ newer)) (entry-once old well (partition_of root (older ++ (s ∷ newer))) this-stands))
          (subst (λ l. Contains l s.object) (map-append (λ (q : StandingVersion). q.object) older newer) (subst (Contains (heads_of (older ++ newer))) same (elem-map (λ (q : StandingVersion). q.object) (older ++ newer) t on)))

      root_differs : (p : PartitionEntry) → Contains (front ++ back) p → p.root ≢ root
      root_differs p on = other-root front back root (older ++ (s ∷ newer)) h.apart p on

      other_stands : (p : PartitionEntry) → Contains (front ++ back) p → IsPartitionEntry old p
      other_stands p on = h.entries p (other-among front back root older newer s p on)

      this_now : IsPartitionEntry new (partition_of root (older ++ newer))
      this_now = record {
        slot = step.there root this-stands.slot;
        chain = path-same 1 0 (link_of mid) (link_of new) (Slot root) (reverse (heads_of (older ++ newer))) None (kept.links (Slot root) tt)
            (all-from_members 0 (λ e. link_of new e ≡ link_of mid e) (reverse (heads_of (older ++ newer))) (λ r k. kept.links (Obj r 0) (omega arith)))
            (subst (λ l. IsPath 1 0 (link_of mid) (Slot root) l None) (sym (objects_without older newer)) path);
        versions = λ t on. step.versions t.object t.entries t.version (beside_differs t on) (beside_stands t on);
      }

      entries_now : (p : PartitionEntry) → Contains (front ++ (partition_of root (older ++ newer) ∷ back)) p → IsPartitionEntry new p
      entries_now p on = elim (elem-replaced front back (partition_of root (older ++ newer)) p on) [
        | inl is ↦ subst (IsPartitionEntry new) is this_now
        | inr other ↦ entry-beside s.object root old new step p (root_differs p other) (differs p (root_differs p other) (other_stands p other)) (other_stands p other)
      ]

      -- its end dummy is in no list
      not_listed : Contains listed end → ⊥
      not_listed on = let a = path-entered 0 1 (link_of old) (Slot slots.front) listed (Some (Slot slots.back)) h.list.path end on in
          let clash : None ≡ Some a.0 = sym (unlisted 0 (omega arith)) ∙ well.paired.mates a.0 (Obj end 0) a.1 in cc

      only_end : (r : Ref) → IsRowOfVersion old s r → end ≡ r
      only_end r (inl on) = elim (elem-cases end r [] (subst (λ l. Contains l r) entries on)) [ inl is ↦ is | inr later ↦ absurd (elem-none r later) ]
      only_end r (inr link) = absurd (let clash : None ≡ Some (Obj r 2) = sym (subst (HasStatics old s.object) none s-stands.statics) ∙ link in cc)

      row_now : (r : Ref) → Contains listed r → IsRowOfAny old (among front root older s newer back) r → IsRowOfAny new (front ++ (partition_of root (older ++ newer) ∷ back)) r
      row_now r on w = elim (among-cases front back root older newer s w.0 w.1 w.2 w.3) [
        | inl is ↦ absurd (not_listed (subst (Contains listed) (sym (only_end r (subst (λ q. IsRowOfVersion old q r) (sym is) w.4))) on))
        | inr (inl beside) ↦ (
          partition_of root (older ++ newer),
          w.1,
          elem-here front back (partition_of root (older ++ newer)),
          beside,
          rows-beside s.object root old new step w.1 (beside_differs w.1 beside) (beside_stands w.1 beside) r w.4,
        )
        | inr (inr other) ↦ (
          w.0,
          w.1,
          elem-still front back (partition_of root (older ++ newer)) w.0 other,
          w.3,
          rows-beside s.object root old new step w.1 (differs w.0 (root_differs w.0 other) (other_stands w.0 other) w.1 w.3) ((other_stands w.0 other).versions w.1 w.3) r w.4,
        )
      ]

      -- a row now was one of another version
      row_was : (r : Ref) → IsRowOfAny new (front ++ (partition_of root (older ++ newer) ∷ back)) r → (IsRowOfAny old (among front root older s newer back) r) × ((field : ℕ) → field ≤ 1 → link_of new (Obj r field) ≡ link_of old (Obj r field))
      row_was r w = elim (elem-replaced front back (partition_of root (older ++ newer)) w.0 w.2) [
        | inl is ↦
            let beside : Contains (older ++ newer) w.1 = subst (λ (q : PartitionEntry). Contains q.versions w.1) (sym is) w.3 in
            let row = rows-were s.object root old new step w.1 (beside_differs w.1 beside) (beside_stands w.1 beside) r w.4 in (
              (partition_of root (older ++ (s ∷ newer)), w.1, this-among front back root older newer s, elem-still older newer s w.1 beside, row),
              (λ field low. step.rows w.1 (beside_differs w.1 beside) (beside_stands w.1 beside) r row field low),
            )
        | inr other ↦
            let ne = differs w.0 (root_differs w.0 other) (other_stands w.0 other) w.1 w.3 in
            let row = rows-were s.object root old new step w.1 ne ((other_stands w.0 other).versions w.1 w.3) r w.4 in (
              (w.0, w.1, other-among front back root older newer s w.0 other, w.3, row),
              (λ field low. step.rows w.1 ne ((other_stands w.0 other).versions w.1 w.3) r row field low),
            )
      ]

      root_beside : (root ≢ slots.front) × (root ≢ slots.back)
      root_beside = h.beside (partition_of root (older ++ (s ∷ newer))) (this-among front back root older newer s)

      listed_links : (r : Ref) → Contains listed r → link_of new (Obj r 1) ≡ link_of old (Obj r 1)
      listed_links r on = (row_was r (row_now r on (h.owned r on))).1 1 (omega arith)

      bytes : version_bytes s.version ≡ 152
      bytes = bare-bytes old s.object end s.version (subst (λ l. IsVersionOf old s.object l s.version) entries s-stands) none

      pub stands-dropped : AreStanding slots new (front ++ (partition_of root (older ++ newer) ∷ back)) listed
      stands-dropped = record {
        apart = subst (AllPairs ◌≢◌) (roots-among front back root older newer (older ++ (s ∷ newer)) ∙ sym (roots-among front back root older newer (older ++ newer))) h.apart;
        beside = λ p on. elim (elem-replaced front back (partition_of root (older ++ newer)) p on) [
          | inl is ↦ subst (λ (q : PartitionEntry). (q.root ≢ slots.front) × (q.root ≢ slots.back)) is root_beside
          | inr other ↦ h.beside p (other-among front back root older newer s p other)
        ];
        entries = entries_now;
        list = record {
          path = path-same 0 1 (link_of old) (link_of new) (Slot slots.front) listed (Some (Slot slots.back)) (step.slots slots.front (λ e. root_beside.0 (sym e))) (all-from_members 1 (λ e. link_of new e ≡ link_of old e) listed listed_links) h.list.path;
          recent = all-recency new listed (λ r on. let w = row_now r on (h.owned r on) in row-recency new w.1 ((entries_now w.0 w.2).versions w.1 w.3) r w.4);
        };
        owned = λ r on. row_now r on (h.owned r on);
        unlisted = λ r w off. let was = row_was r w in λ field low. was.1 field low ∙ h.unlisted r was.0 off field low;
        whole = less (live_bytes new) (live_bytes mid) (live_bytes old) (sum_by partition_bytes front) (sum_by (λ (t : StandingVersion). version_bytes t.version) older) (sum_by (λ (t : StandingVersion). version_bytes t.version) newer)
            (sum_by partition_bytes back) (version_bytes s.version) live (ap (λ us. live_sum us) same.usages) (h.whole ∙ bytes-among front back root older newer s) bytes
            ∙ sym (sum-middle partition_bytes front back (partition_of root (older ++ newer)) ∙ ap (λ b. sum_by partition_bytes front + (b + sum_by partition_bytes back)) (sum-without (λ (t : StandingVersion). version_bytes t.version) older newer));
      }
