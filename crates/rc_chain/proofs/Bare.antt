-- A version of which its end dummy alone is left, as it stands in the region.
use Rattle.std.proofs.Common.{◌≡◌, ℕ, List, [], ◌∷◌, ◌++◌, Option, Some, None, refl, sym, ap, ◌∙◌, subst, slice_index_or, map}
use Rattle.std.specs.Prelude.{Contains, IsSomeAnd}
use Rattle.lsa_store.specs.declared.place.Ref.{Ref}
use Rattle.lsa_region.specs.declared.end.Root.{Root}
use Rattle.lsa_region.specs.declared.end.End.TheVariants.{Slot}
use Rattle.lsa_region.specs.Region.{View, link_of, IsEnd}
use Rattle.lsa_list.specs.declared.recency.List.{List as Slots}
use Rattle.rc_core.specs.declared.entries.Entry.{Entry}
use Rattle.rc_core.specs.Version.{Version}
use Rattle.rc_object.specs.Objects.{HoldsEntry}
use Rattle.rc_version.specs.Versions.{HoldEntries, IsUnlisted}
use Rattle.rc_version.specs.laws.Objects.{holds-stands}
use Rattle.rc_memory.specs.Partitions.{AreStanding, PartitionEntry, StandingVersion, among, partition_of}
use Rattle.rc_memory.specs.Lists.{elem-here}
use Rattle.rc_reading.specs.Roots.{empty-unset}
use Rattle.rc_registry.specs.declared.uses.Use.{Use}
use Rattle.rc_registry.specs.Registry.{Registry, use_at}
use Rattle.rc_memory.specs.declared.counts.Counts.{Counts}
use Rattle.rc_memory.specs.Memory.{KeptChain, Memory, IsVersionAt, IsVersionObject, chain_at}
use Rattle.rc_memory.specs.Kept.{HoldMemory}
use Rattle.rc_memory.specs.Changes.{NothingListed, member_at}
use Rattle.rc_memory.specs.laws.Listed.{unlisted-at}
use Rattle.rc_memory.specs.laws.Places.{same_some, version-there}
use Rattle.rc_chain.specs.Lives.{IsEndAlone}
use Rattle.rc_memory.specs.laws.At.{present-split}
use Rattle.rc_chain.proofs.Living.{versioned}
use Rattle.rc_chain.proofs.Making.{IsTakenAway}
use Rattle.rc_chain.proofs.Reading.{chain-kept, chain-stands, number-mapped, number-one}

one-held : (v : View) (refs : List Ref) (e : Entry) → HoldEntries v refs (e ∷ []) → (r : Ref) × (refs ≡ r ∷ []) × HoldsEntry v r e
one-held v [] e h = absurd h
one-held v (r ∷ []) e h = (r, refl, h.0)
one-held v (r ∷ q ∷ refs) e h = absurd h.1

one-version : (ss : List StandingVersion) (v : Version) → map (λ (s : StandingVersion). s.version) ss ≡ v ∷ [] → (s : StandingVersion) × (ss ≡ s ∷ [])
one-version [] v e = cc e
one-version (s ∷ []) v e = (s, refl)
one-version (s ∷ t ∷ ss) v e = cc e

pub some-chain : {X : Type 0} (o : Option X) (P : X → Type 0) → IsSomeAnd o P → (x : X) × (o ≡ Some x) × P x
some-chain None P h = absurd h
some-chain (Some x) P h = (x, refl, h)

-- a version of its end dummy alone, where it stands
pub record IsBareAt (slots : Slots) (v : View) (m : Memory) (listed : List Ref) (id j : ℕ) (n : Ref) (slot : Root) : Type 0 where
  pub partition : PartitionEntry
  pub version : StandingVersion
  pub end : Ref
  pub front : List PartitionEntry
  pub back : List PartitionEntry
  pub root : partition.root ≡ slot
  pub there : slice_index_or m.standing id None ≡ Some partition
  pub number : IsVersionAt partition.versions j version
  pub object : version.object ≡ n
  pub entries : version.entries ≡ end ∷ []
  pub statics : version.version.statics ≡ None
  pub unlisted : IsUnlisted v end
  pub stands : AreStanding slots v (among front slot number.older version number.newer back) listed

-- the root slot of a partition of no version is there, and names nothing
pub slot-there : (slots : Slots) (v : View) (front : List PartitionEntry) (root : Root) (back : List PartitionEntry) (listed : List Ref) → AreStanding slots v (front ++ (partition_of root [] ∷ back)) listed → IsEnd v (Slot root) × (link_of v (Slot root) ≡ None)
slot-there slots v front root back listed h = ((h.entries (partition_of root []) (elem-here front back (partition_of root []))).slot, empty-unset slots v v front back root listed h)

module _ (slots : Slots) (v : View) (registry : Registry) (counts : Counts) (m : Memory) (h : HoldMemory slots v registry counts m) where
  -- the version of a chain is the one that stands there
  pub version-same : (id j : ℕ) (k : KeptChain) (c : Version) (p : PartitionEntry) (s : StandingVersion) → chain_at m id ≡ Some k → IsVersionAt k.chain.versions j c → slice_index_or m.standing id None ≡ Some p → IsVersionAt p.versions j s → c ≡ s.version
  version-same id j k c p s e at there number =
      let a = chain-kept slots v registry counts m h id k e in let same = same_some p a.partition (sym there ∙ a.stands) in
      number-one k.chain.versions j c s.version at (subst (λ (x : KeptChain). IsVersionAt x.chain.versions j s.version) (sym a.same)
      (number-mapped (λ (t : StandingVersion). t.version) a.partition.versions j s (subst (λ (q : PartitionEntry). IsVersionAt q.versions j s) same number)))

  pub bare-at : (id j : ℕ) (n : Ref) (u : Use) → use_at registry.uses id ≡ Some u → IsSomeAnd (chain_at m id) (λ k. (c : Version) × IsVersionAt k.chain.versions j c × IsEndAlone c) → NothingListed id j m → IsVersionObject m id j n
      → IsBareAt slots v m h.listed id j n u.root
  bare-at id j n u got some free is =
      let k = some-chain (chain_at m id) (λ k. (c : Version) × IsVersionAt k.chain.versions j c × IsEndAlone c) some in let a = versioned (slice_index_or m.standing id None) j n is in
      let st = chain-stands slots v registry counts m h id k.0 u k.1 got in let same = same_some a.0 st.partition (sym a.2 ∙ st.at) in
      let c = version-same id j k.0 k.2.0 a.0 a.1 k.1 k.2.1 a.2 a.3 in
      let number : IsVersionAt st.partition.versions j a.1 = subst (λ (q : PartitionEntry). IsVersionAt q.versions j a.1) same a.3 in
      let w = version-there slots v h.well m.standing h.listed h.stands id j a.0 a.1 a.2 a.3 in
      let one = one-held v a.1.entries k.2.2.alone.0 (subst (HoldEntries v a.1.entries) (ap (λ (x : Version). x.entries) (sym c) ∙ k.2.2.alone.1) w.entries) in record {
        partition = st.partition;
        version = a.1;
        end = one.0;
        front = st.front;
        back = st.back;
        root = st.root;
        there = st.at;
        number = number;
        object = a.4;
        entries = one.1;
        statics = ap (λ (x : Version). x.statics) (sym c) ∙ k.2.2.statics;
        unlisted = unlisted-at slots v registry counts m h one.0 (member_at id j (Some k.2.2.alone.0.position))
            (record { partition = a.0; version = a.1; chain = a.2; number = a.3; object = (subst (λ l. Contains l one.0) (sym one.1) (elem-here [] [] one.0), holds-stands v one.0 k.2.2.alone.0 one.2) }) (free (Some k.2.2.alone.0.position));
        stands = subst (λ vs. AreStanding slots v (st.front ++ (partition_of u.root vs ∷ st.back)) h.listed) number.split st.stands;
      }

  -- the only version of a chain
  pub alone-at : (id : ℕ) (n : Ref) (root : Root) (b : IsBareAt slots v m h.listed id 0 n root) (k : KeptChain) (c : Version) → chain_at m id ≡ Some k → k.chain.versions ≡ c ∷ [] → slice_index_or m.standing id None ≡ Some (partition_of root (b.version ∷ []))
  alone-at id n root b k c e one =
      let a = chain-kept slots v registry counts m h id k e in let same = same_some b.partition a.partition (sym b.there ∙ a.stands) in
      let s = one-version a.partition.versions c (ap (λ (x : KeptChain). x.chain.versions) (sym a.same) ∙ one) in
      let versions : b.partition.versions ≡ s.0 ∷ [] = ap (λ (q : PartitionEntry). q.versions) same ∙ s.1 in
      let this : b.version ≡ s.0 = number-one (s.0 ∷ []) 0 b.version s.0 (subst (λ l. IsVersionAt l 0 b.version) versions b.number) (record { older = []; newer = []; split = refl; number = refl }) in
      b.there ∙ (λ i. Some (partition_of (b.root i) ((versions ∙ ap (λ x. x ∷ []) (sym this)) i)))

  -- after it was dropped the root slot of the chain is there, and names nothing
  pub slot-after : (new : View) (id : ℕ) (n : Ref) (root : Root) (b : IsBareAt slots v m h.listed id 0 n root) (k : KeptChain) (c : Version) → chain_at m id ≡ Some k → k.chain.versions ≡ c ∷ [] → IsTakenAway v new root b.version.object → IsEnd new (Slot root) × (link_of new (Slot root) ≡ None)
  slot-after new id n root b k c e one t =
      let amid = present-split m.standing id (partition_of root (b.version ∷ [])) (alone-at id n root b k c e one) in
      slot-there slots new amid.front root amid.back h.listed (t.dropped slots amid.front [] b.version [] amid.back h.listed refl (subst (λ ps. AreStanding slots v ps h.listed) amid.split h.stands))
