-- A memory after a version was put over those of a chain, and after one was dropped.
use Rattle.std.proofs.Common.{◌≡◌, ◌≢◌, ℕ, zero, suc, ◌+◌, Bool, true, false, cond, List, [], ◌∷◌, ◌++◌, Option, Some, None, length, inl, inr, refl, sym, ap, ◌∙◌, subst, map, take, drop, slice_index_or, nat_eq, eq-eqb, ne_eqb}
use Rattle.std.specs.Prelude.{Contains}
use Rattle.std.specs.Option.{option_map}
use Rattle.std.proofs.lemmas.List.{map-append}
use Rattle.lsa_pool.specs.laws.Usages.{decided}
use Rattle.lsa_store.specs.declared.place.Ref.{Ref}
use Rattle.lsa_region.specs.declared.end.End.TheVariants.{Obj}
use Rattle.lsa_region.specs.Ends.{SlotCounts}
use Rattle.lsa_region.specs.Region.{View, link_of, slots_of, IsWell}
use Rattle.rc_partition.specs.List.{List as Slots}
use Rattle.rc_registry.specs.Steps.{all_but, number_after_removal}
use Rattle.rc_registry.specs.Version.{Version}
use Rattle.rc_partition.specs.Versions.{IsUnlisted, IsVersionOf, MayChange}
use Rattle.rc_partition.specs.Staying.{kept-same}
use Rattle.rc_partition.specs.Partitions.{AreStanding, IsRowOfVersion, PartitionEntry, StandingVersion, among, partition_of, standing}
use Rattle.rc_partition.specs.laws.Apart.{one-version}
use Rattle.rc_partition.specs.laws.Changed.{beside-differs, other-among, other-differs, this-among}
use Rattle.rc_partition.specs.laws.Lists.{elem-here, elem-replaced, elem-still}
use Rattle.rc_registry.specs.Registry.{Registry, on_use, put_at_number, without_version}
use Rattle.rc_memory.specs.declared.counts.Counts.{Counts}
use Rattle.rc_memory.specs.Memory.{Member, Memory, IsObjectAt, IsOfVersion, IsVersionAt, more_versions, fewer_versions, on_chain, on_shown, partition_and, partition_without, renumbered_member, shown_without, shown_with}
use Rattle.rc_memory.specs.Kept.{AreKept, HoldMemory, StandAt, chain_of_use, present}
use Rattle.rc_memory.specs.laws.Changed.{of-stays}
use Rattle.rc_memory.specs.laws.Listed.{listed-at, one-at}
use Rattle.rc_memory.specs.laws.Places.{heads, same_some, tails, version-place, version-there}
use Rattle.rc_memory.specs.laws.Put.{kept-put, length-same, placed, put-at, put-beside, put-same, used-at, IsUsedAs}
use Rattle.rc_memory.specs.laws.Standing.{row-of, stand-each}

-- ---- versions by number

module _ {X : Type 0} where
  joined_thrice : (xs ys zs : List X) → (xs ++ ys) ++ zs ≡ xs ++ (ys ++ zs)
  joined_thrice [] ys zs = refl
  joined_thrice (x ∷ xs) ys zs = ap (λ l. x ∷ l) (joined_thrice xs ys zs)

  -- more behind them
  pub still-at : (xs ys : List X) (j : ℕ) (x : X) → IsVersionAt xs j x → IsVersionAt (xs ++ ys) j x
  still-at xs ys j x h = record { older = h.older; newer = h.newer ++ ys; split = ap (λ l. l ++ ys) h.split ∙ joined_thrice h.older (x ∷ h.newer) ys; number = h.number }

  -- one out of the middle
  pub all-but-is : (older : List X) (s : X) (newer : List X) (j : ℕ) → length older ≡ j → take j (older ++ (s ∷ newer)) ++ drop (suc j) (older ++ (s ∷ newer)) ≡ older ++ newer
  all-but-is [] s newer zero e = refl
  all-but-is [] s newer (suc j) e = cc e
  all-but-is (o ∷ older) s newer zero e = cc e
  all-but-is (o ∷ older) s newer (suc j) e = ap (λ l. o ∷ l) (all-but-is older s newer j (cc e))

  pub without-at : (older newer : List X) (s x : X) (olds news : List X) → older ++ (s ∷ newer) ≡ olds ++ (x ∷ news) → length olds ≢ length older → IsVersionAt (older ++ newer) (number_after_removal (length older) (length olds)) x
  without-at [] newer s x [] news e ne = absurd (ne refl)
  without-at [] newer s x (y ∷ olds) news e ne = record { older = olds; newer = news; split = tails s y newer (olds ++ (x ∷ news)) e; number = refl }
  without-at (o ∷ older) newer s x [] news e ne = record { older = []; newer = older ++ newer; split = ap (λ z. z ∷ (older ++ newer)) (heads o x (older ++ (s ∷ newer)) news e); number = refl }
  without-at (o ∷ older) newer s x (y ∷ olds) news e ne =
      let k = without-at older newer s x olds news (tails o y (older ++ (s ∷ newer)) (olds ++ (x ∷ news)) e) (λ same. ne (ap suc same)) in
      record { older = o ∷ k.older; newer = k.newer; split = ap (λ l. o ∷ l) k.split; number = ap suc k.number }

map_length : (ss : List StandingVersion) → length (map (λ (s : StandingVersion). s.version) ss) ≡ length ss
map_length [] = refl
map_length (s ∷ ss) = ap suc (map_length ss)

-- objects at their places, and these renumbered
pub stand-renumbered : (v w : View) (st new : List (Option PartitionEntry)) (g : Member → Member) (refs : List Ref) (ws : List Member) → ((r : Ref) (x : Member) → Contains ws x → IsObjectAt v st r x → IsObjectAt w new r (g x)) → StandAt v st refs ws → StandAt w new refs (map g ws)
stand-renumbered v w st new g [] [] each h = tt
stand-renumbered v w st new g [] (x ∷ ws) each h = absurd h
stand-renumbered v w st new g (r ∷ refs) [] each h = absurd h
stand-renumbered v w st new g (r ∷ refs) (x ∷ ws) each h = (each r x (elem-here [] ws x) h.0, stand-renumbered v w st new g refs ws (λ q y on. each q y (elem-still [] ws x y on)) h.1)

-- ---- a version more

module _ (slots : Slots) (old new : View) (registry : Registry) (counts : Counts) (m : Memory) (h : HoldMemory slots old registry counts m) (id : ℕ) (p : PartitionEntry) (there : slice_index_or m.standing id None ≡ Some p) (t : StandingVersion)
    (well : IsWell new) (stands : AreStanding slots new ((placed m.standing id).front ++ (partition_of p.root (p.versions ++ (t ∷ [])) ∷ (placed m.standing id).back)) h.listed)
    (same_slots : slots_of new ≡ slots_of old) (statics : (n : Ref) (refs : List Ref) (d : Version) → IsVersionOf old n refs d → link_of new (Obj n 3) ≡ link_of old (Obj n 3)) where
  more : IsUsedAs registry.uses m.chains id p
  more = used-at registry.uses m.standing m.chains id p h.kept there

  more_standing : put_at_number id (option_map (partition_and t) (slice_index_or m.standing id None)) m.standing ≡ put_at_number id (Some (partition_of p.root (p.versions ++ (t ∷ [])))) m.standing
  more_standing = ap (λ o. put_at_number id (option_map (partition_and t) o) m.standing) there

  more_chains : on_chain id (on_shown (λ c. shown_with (c.versions ++ (t.version ∷ [])) c)) m.chains ≡ put_at_number id (Some (chain_of_use more.used (partition_of p.root (p.versions ++ (t ∷ []))))) m.chains
  more_chains = ap (λ o. put_at_number id (option_map (on_shown (λ c. shown_with (c.versions ++ (t.version ∷ [])) c)) o) m.chains) more.chain
      ∙ ap (λ (vs : List Version). put_at_number id (Some (record { chain = record { kind = more.used.kind; versions = vs; attached = more.used.attached; updating = more.used.updating; pins = more.used.pins }; passed = more.used.passed })) m.chains)
      (sym (map-append (λ (s : StandingVersion). s.version) p.versions (t ∷ [])))

  more_stands : AreStanding slots new (present (put_at_number id (Some (partition_of p.root (p.versions ++ (t ∷ [])))) m.standing)) h.listed
  more_stands = subst (λ ps. AreStanding slots new ps h.listed) (sym ((placed m.standing id).with_one (partition_of p.root (p.versions ++ (t ∷ []))))) stands

  module _ (r : Ref) (w : Member) (a : IsObjectAt old m.standing r w) where
    was : IsVersionOf old a.version.object a.version.entries a.version.version
    was = version-there slots old h.well m.standing h.listed h.stands w.chain w.version a.partition a.version a.chain a.number

    stays_at : (q : PartitionEntry) → slice_index_or (put_at_number id (Some (partition_of p.root (p.versions ++ (t ∷ [])))) m.standing) w.chain None ≡ Some q → IsVersionAt q.versions w.version a.version
        → IsObjectAt new (put_at_number id (Some (partition_of p.root (p.versions ++ (t ∷ [])))) m.standing) r w
    stays_at q chain number = record {
      partition = q;
      version = a.version;
      chain = chain;
      number = number;
      object = of-stays old new a.version was
          (version-there slots new well (put_at_number id (Some (partition_of p.root (p.versions ++ (t ∷ [])))) m.standing) h.listed more_stands w.chain w.version q a.version chain number)
          (statics a.version.object a.version.entries a.version.version was) w.position r a.object;
    }

    still_object : IsObjectAt new (put_at_number id (Some (partition_of p.root (p.versions ++ (t ∷ [])))) m.standing) r w
    still_object = elim (decided w.chain id) [
      | inr ne ↦ stays_at a.partition (put-beside m.standing id (Some (partition_of p.root (p.versions ++ (t ∷ [])))) w.chain ne ∙ a.chain) a.number
      | inl here ↦
          let same_p = same_some a.partition p (sym a.chain ∙ ap (λ n. slice_index_or m.standing n None) here ∙ there) in
          stays_at (partition_of p.root (p.versions ++ (t ∷ [])))
          (ap (λ n. slice_index_or (put_at_number id (Some (partition_of p.root (p.versions ++ (t ∷ [])))) m.standing) n None) here ∙ put-at m.standing id (Some (partition_of p.root (p.versions ++ (t ∷ [])))))
          (still-at p.versions (t ∷ []) w.version a.version (subst (λ (q : PartitionEntry). IsVersionAt q.versions w.version a.version) same_p a.number))
    ]

  pub held-more : HoldMemory slots new registry counts (more_versions id t new m)
  held-more = record {
    well = well;
    region = refl;
    kept = subst (λ ps. AreKept registry.uses ps (on_chain id (on_shown (λ c. shown_with (c.versions ++ (t.version ∷ [])) c)) m.chains)) (sym more_standing)
        (subst (AreKept registry.uses (put_at_number id (Some (partition_of p.root (p.versions ++ (t ∷ [])))) m.standing)) (sym more_chains)
        (subst (λ us. AreKept us (put_at_number id (Some (partition_of p.root (p.versions ++ (t ∷ [])))) m.standing) (put_at_number id (Some (chain_of_use more.used (partition_of p.root (p.versions ++ (t ∷ []))))) m.chains)) (put-same registry.uses id more.used more.at)
        (kept-put registry.uses m.standing m.chains id (Some more.used) (Some (partition_of p.root (p.versions ++ (t ∷ [])))) (Some (chain_of_use more.used (partition_of p.root (p.versions ++ (t ∷ []))))) h.kept (more.root, refl))));
    listed = h.listed;
    stands = subst (λ st. AreStanding slots new (present st) h.listed) (sym more_standing) more_stands;
    recency = subst (λ st. StandAt new st h.listed m.recency) (sym more_standing)
        (stand-each old new m.standing (put_at_number id (Some (partition_of p.root (p.versions ++ (t ∷ [])))) m.standing) h.listed m.recency (λ r w in_refs on a. still_object r w a) h.recency);
    dropped = h.dropped;
    counted = h.counted;
    roots = ap (λ (k : SlotCounts). k.there) same_slots ∙ h.roots ∙ ap (λ k. 2 + k) (sym (length-same m.chains id (on_shown (λ c. shown_with (c.versions ++ (t.version ∷ [])) c))));
  }

-- ---- a version less

module _ (slots : Slots) (old new : View) (registry : Registry) (counts : Counts) (m : Memory) (h : HoldMemory slots old registry counts m) (id j : ℕ) (p : PartitionEntry) (s : StandingVersion)
    (there : slice_index_or m.standing id None ≡ Some p) (number : IsVersionAt p.versions j s) where
  pub stands-whole : AreStanding slots old (among (placed m.standing id).front p.root number.older s number.newer (placed m.standing id).back) h.listed
  stands-whole = subst (λ ps. AreStanding slots old ps h.listed) ((placed m.standing id).there p there ∙ ap (λ vs. (placed m.standing id).front ++ (partition_of p.root vs ∷ (placed m.standing id).back)) number.split) h.stands

  module _ (well : IsWell new) (stands : AreStanding slots new ((placed m.standing id).front ++ (partition_of p.root (number.older ++ number.newer) ∷ (placed m.standing id).back)) h.listed)
      (same_slots : slots_of new ≡ slots_of old) (statics : (n : Ref) (refs : List Ref) (d : Version) → n ≢ s.object → IsVersionOf old n refs d → link_of new (Obj n 3) ≡ link_of old (Obj n 3)) where
    less : IsUsedAs registry.uses m.chains id p
    less = used-at registry.uses m.standing m.chains id p h.kept there

    less-is : partition_without j p ≡ partition_of p.root (number.older ++ number.newer)
    less-is = ap (λ vs. partition_of p.root vs) (ap (λ l. take j l ++ drop (suc j) l) number.split ∙ all-but-is number.older s number.newer j number.number)

    less_standing : put_at_number id (option_map (partition_without j) (slice_index_or m.standing id None)) m.standing ≡ put_at_number id (Some (partition_of p.root (number.older ++ number.newer))) m.standing
    less_standing = ap (λ o. put_at_number id (option_map (partition_without j) o) m.standing) there ∙ ap (λ q. put_at_number id (Some q) m.standing) less-is

    less_versions : all_but j (map (λ (t : StandingVersion). t.version) p.versions) ≡ map (λ (t : StandingVersion). t.version) (number.older ++ number.newer)
    less_versions = ap (λ l. all_but j (map (λ (t : StandingVersion). t.version) l)) number.split
        ∙ ap (λ l. all_but j l) (map-append (λ (t : StandingVersion). t.version) number.older (s ∷ number.newer))
        ∙ all-but-is (map (λ (t : StandingVersion). t.version) number.older) s.version (map (λ (t : StandingVersion). t.version) number.newer) j (map_length number.older ∙ number.number)
        ∙ sym (map-append (λ (t : StandingVersion). t.version) number.older number.newer)

    less_chains : on_chain id (on_shown (shown_without j)) m.chains ≡ put_at_number id (Some (chain_of_use (without_version j less.used) (partition_of p.root (number.older ++ number.newer)))) m.chains
    less_chains = ap (λ o. put_at_number id (option_map (on_shown (shown_without j)) o) m.chains) less.chain
        ∙ ap (λ (vs : List Version). put_at_number id (Some (record {
          chain = record { kind = less.used.kind; versions = vs; attached = less.used.attached; updating = less.used.updating; pins = map (option_map (number_after_removal j)) less.used.pins };
          passed = less.used.passed;
        })) m.chains) less_versions

    less_uses : put_at_number id (Some (without_version j less.used)) registry.uses ≡ put_at_number id (option_map (without_version j) (slice_index_or registry.uses id None)) registry.uses
    less_uses = ap (λ o. put_at_number id (option_map (without_version j) o) registry.uses) (sym less.at)

    less_stands : AreStanding slots new (present (put_at_number id (Some (partition_of p.root (number.older ++ number.newer))) m.standing)) h.listed
    less_stands = subst (λ ps. AreStanding slots new ps h.listed) (sym ((placed m.standing id).with_one (partition_of p.root (number.older ++ number.newer)))) stands

    s_stands : IsVersionOf old s.object s.entries s.version
    s_stands = version-there slots old h.well m.standing h.listed h.stands id j p s there number

    -- no object of it is listed
    no_member : (r : Ref) → IsRowOfVersion old s r → Contains h.listed r → ⊥
    no_member r row on = let w = stands.owned r on in elim (elem-replaced (placed m.standing id).front (placed m.standing id).back (partition_of p.root (number.older ++ number.newer)) w.0 w.2) [
      | inl same ↦
          let beside : Contains (number.older ++ number.newer) w.1 = subst (λ (q : PartitionEntry). Contains q.versions w.1) (sym same) w.3 in
          other_row w.1 (beside-differs slots old old (placed m.standing id).front p.root number.older s number.newer (placed m.standing id).back h.listed h.well (kept-same (MayChange old s.object) s.object old) stands-whole w.1 beside)
          ((stands-whole.entries (partition_of p.root (number.older ++ (s ∷ number.newer))) (this-among (placed m.standing id).front (placed m.standing id).back p.root number.older number.newer s)).versions w.1 (elem-still number.older number.newer s w.1 beside)) w.4
      | inr other ↦ other_row w.1 (other-differs slots old old (placed m.standing id).front p.root number.older s number.newer (placed m.standing id).back h.listed h.well (kept-same (MayChange old s.object) s.object old) stands-whole w.0 other w.1 w.3)
          ((stands-whole.entries w.0 (other-among (placed m.standing id).front (placed m.standing id).back p.root number.older number.newer s w.0 other)).versions w.1 w.3) w.4
    ] where
      other_row : (t : StandingVersion) → t.object ≢ s.object → IsVersionOf old t.object t.entries t.version → IsRowOfVersion new t r → ⊥
      other_row t ne k now = ne (sym (one-version old h.well s t s_stands k r row (back now)))
        where
          back : IsRowOfVersion new t r → IsRowOfVersion old t r
          back (inl on_t) = inl on_t
          back (inr link) = inr (sym (statics t.object t.entries t.version ne k) ∙ link)

    module _ (r : Ref) (w : Member) (on : Contains m.recency w) (a : IsObjectAt old m.standing r w) where
      stood : IsVersionOf old a.version.object a.version.entries a.version.version
      stood = version-there slots old h.well m.standing h.listed h.stands w.chain w.version a.partition a.version a.chain a.number

      this_place : a.version.object ≡ s.object → (w.chain ≡ id) × (w.version ≡ j)
      this_place e = version-place slots old h.well m.standing h.listed h.stands w.chain id w.version j a.partition p a.version s a.chain there a.number number e

      renumbered_to : (q : PartitionEntry) (k : ℕ) → a.version.object ≢ s.object → slice_index_or (put_at_number id (Some (partition_of p.root (number.older ++ number.newer))) m.standing) w.chain None ≡ Some q → IsVersionAt q.versions k a.version
          → IsObjectAt new (put_at_number id (Some (partition_of p.root (number.older ++ number.newer))) m.standing) r (record { chain = w.chain; version = k; position = w.position })
      renumbered_to q k ne chain at = record {
        partition = q;
        version = a.version;
        chain = chain;
        number = at;
        object = of-stays old new a.version stood
            (version-there slots new well (put_at_number id (Some (partition_of p.root (number.older ++ number.newer))) m.standing) h.listed less_stands w.chain k q a.version chain at)
            (statics a.version.object a.version.entries a.version.version ne stood) w.position r a.object;
      }

      named : (b : Bool) → nat_eq w.chain id ≡ b → record { chain = w.chain; version = cond b (number_after_removal j w.version) w.version; position = w.position } ≡ renumbered_member id j w
      named b e = λ i. record { chain = w.chain; version = cond (sym e i) (number_after_removal j w.version) w.version; position = w.position }

      less_object : IsObjectAt new (put_at_number id (Some (partition_of p.root (number.older ++ number.newer))) m.standing) r (renumbered_member id j w)
      less_object = elim (decided w.chain id) [
        | inr ne ↦ subst (IsObjectAt new (put_at_number id (Some (partition_of p.root (number.older ++ number.newer))) m.standing) r) (named false (ne_eqb w.chain id ne))
            (renumbered_to a.partition w.version (λ e. ne (this_place e).0) (put-beside m.standing id (Some (partition_of p.root (number.older ++ number.newer))) w.chain ne ∙ a.chain) a.number)
        | inl here ↦ in_chain here
      ] where
        in_chain : w.chain ≡ id → IsObjectAt new (put_at_number id (Some (partition_of p.root (number.older ++ number.newer))) m.standing) r (renumbered_member id j w)
        in_chain here =
            let same_p = same_some a.partition p (sym a.chain ∙ ap (λ n. slice_index_or m.standing n None) here ∙ there) in
            let at_p : IsVersionAt p.versions w.version a.version = subst (λ (q : PartitionEntry). IsVersionAt q.versions w.version a.version) same_p a.number in
            elim (decided w.version j) [
              | inl same ↦ absurd (no_member r (row-of old s w.position r (subst (λ t. IsOfVersion old t w.position r) (one-at p.versions j a.version s (subst (λ n. IsVersionAt p.versions n a.version) same at_p) number) a.object))
                  (listed-at slots old registry counts m h r w a on))
              | inr ne ↦ subst (IsObjectAt new (put_at_number id (Some (partition_of p.root (number.older ++ number.newer))) m.standing) r) (named true (eq-eqb w.chain id here))
                  (renumbered_to (partition_of p.root (number.older ++ number.newer)) (number_after_removal j w.version) (λ e. ne (this_place e).1)
                  (ap (λ n. slice_index_or (put_at_number id (Some (partition_of p.root (number.older ++ number.newer))) m.standing) n None) here ∙ put-at m.standing id (Some (partition_of p.root (number.older ++ number.newer))))
                  (subst (λ n. IsVersionAt (number.older ++ number.newer) n a.version) (λ i. number_after_removal (number.number i) (at_p.number i))
                  (without-at number.older number.newer s a.version at_p.older at_p.newer (sym number.split ∙ at_p.split) (λ e. ne (sym at_p.number ∙ e ∙ number.number)))))
            ]

    pub held-less : HoldMemory slots new (on_use id (without_version j) registry) counts (fewer_versions id j new m)
    held-less = record {
      well = well;
      region = refl;
      kept = subst (λ us. AreKept us (put_at_number id (option_map (partition_without j) (slice_index_or m.standing id None)) m.standing) (on_chain id (on_shown (shown_without j)) m.chains)) less_uses
          (subst (λ ps. AreKept (put_at_number id (Some (without_version j less.used)) registry.uses) ps (on_chain id (on_shown (shown_without j)) m.chains)) (sym less_standing)
          (subst (AreKept (put_at_number id (Some (without_version j less.used)) registry.uses) (put_at_number id (Some (partition_of p.root (number.older ++ number.newer))) m.standing)) (sym less_chains)
          (kept-put registry.uses m.standing m.chains id (Some (without_version j less.used)) (Some (partition_of p.root (number.older ++ number.newer))) (Some (chain_of_use (without_version j less.used) (partition_of p.root (number.older ++ number.newer)))) h.kept (less.root, refl))));
      listed = h.listed;
      stands = subst (λ st. AreStanding slots new (present st) h.listed) (sym less_standing) less_stands;
      recency = subst (λ st. StandAt new st h.listed (map (renumbered_member id j) m.recency)) (sym less_standing)
          (stand-renumbered old new m.standing (put_at_number id (Some (partition_of p.root (number.older ++ number.newer))) m.standing) (renumbered_member id j) h.listed m.recency less_object h.recency);
      dropped = h.dropped;
      counted = h.counted;
      roots = ap (λ (k : SlotCounts). k.there) same_slots ∙ h.roots ∙ ap (λ k. 2 + k) (sym (length-same m.chains id (on_shown (shown_without j))));
    }

-- ---- what calls are told

module _ (slots : Slots) (old new : View) (registry : Registry) (counts : Counts) (m : Memory) (h : HoldMemory slots old registry counts m) (well : IsWell new) (same_slots : slots_of new ≡ slots_of old) (id : ℕ) (p : PartitionEntry) (there : slice_index_or m.standing id None ≡ Some p) where
  -- a version put over the others of a partition, among whichever others
  pub held-added : (n : Ref) (c : Version)
      → ((front : List PartitionEntry) (versions : List StandingVersion) (back : List PartitionEntry) (listed : List Ref) → AreStanding slots old (front ++ (partition_of p.root versions ∷ back)) listed
      → (end : Ref) × AreStanding slots new (front ++ (partition_of p.root (versions ++ (standing n (end ∷ []) c ∷ [])) ∷ back)) listed × IsUnlisted new end)
      → ((q : Ref) (refs : List Ref) (d : Version) → IsVersionOf old q refs d → link_of new (Obj q 3) ≡ link_of old (Obj q 3)) → (end : Ref) × HoldMemory slots new registry counts (more_versions id (standing n (end ∷ []) c) new m) × IsUnlisted new end
  held-added n c added statics =
      let k = added (placed m.standing id).front p.versions (placed m.standing id).back h.listed (subst (λ ps. AreStanding slots old ps h.listed) ((placed m.standing id).there p there) h.stands) in
      (k.0, held-more slots old new registry counts m h id p there (standing n (k.0 ∷ []) c) well k.1 same_slots statics, k.2)

  -- one dropped
  pub held-dropped : (j : ℕ) (s : StandingVersion) → IsVersionAt p.versions j s
      → ((front : List PartitionEntry) (older : List StandingVersion) (t : StandingVersion) (newer : List StandingVersion) (back : List PartitionEntry) (listed : List Ref) → t.object ≡ s.object
      → AreStanding slots old (among front p.root older t newer back) listed → AreStanding slots new (front ++ (partition_of p.root (older ++ newer) ∷ back)) listed)
      → ((q : Ref) (refs : List Ref) (d : Version) → q ≢ s.object → IsVersionOf old q refs d → link_of new (Obj q 3) ≡ link_of old (Obj q 3)) → HoldMemory slots new (on_use id (without_version j) registry) counts (fewer_versions id j new m)
  held-dropped j s number dropped statics = held-less slots old new registry counts m h id j p s there number well
      (dropped (placed m.standing id).front number.older s number.newer (placed m.standing id).back h.listed refl (stands-whole slots old new registry counts m h id j p s there number)) same_slots statics
