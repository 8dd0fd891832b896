-- Versions that stand in a region share nothing: each object is a version once, and a part of one version only.
use Rattle.std.proofs.Common.{◌≡◌, ◌≢◌, ◌⊎◌, ℕ, List, [], ◌∷◌, Option, Some, None, inl, inr, refl, sym, ◌∙◌, subst, reverse}
use Rattle.std.specs.Prelude.{IsSomeAnd, Contains, AllPairs}
use Rattle.std.specs.List.{flat_map}
use Rattle.std.proofs.lemmas.List.{map-append}
use Rattle.rc_cell.specs.declared.rows.Row.{Row}
use Rattle.lsa_kinds.specs.declared.kind.Kind.{Kind}
use Rattle.lsa_kinds.specs.declared.kind.Kind.TheVariants.{Version as VersionKind, RowEntry, Dummy, Static}
use Rattle.lsa_store.specs.declared.place.Ref.{Ref}
use Rattle.lsa_region.specs.declared.end.Root.{Root}
use Rattle.lsa_region.specs.declared.end.End.TheVariants.{Obj, Slot}
use Rattle.lsa_region.specs.Region.{View, body, link_of, IsWell}
use Rattle.lsa_region.specs.laws.Refs.{refs_decided}
use Rattle.lsa_path.specs.laws.Passing.{path-once, paths-disjoint}
use Rattle.lsa_path.specs.laws.Paths.{same_object}
use Rattle.lsa_list.specs.Recency.{HasRecency}
use Rattle.rc_version.specs.Entries.{IsEntryKind}
use Rattle.rc_version.specs.Trees.{no_entry_at}
use Rattle.rc_version.specs.Objects.{HoldsStatic}
use Rattle.rc_version.specs.Versions.{HasStatics, IsVersionOf, IsStaticsOf}
use Rattle.rc_version.specs.laws.Staying.{version-kind, entries-kind, versions-apart}
use Rattle.rc_partition.specs.Partitions.{StandingVersion, PartitionEntry, IsPartitionEntry, IsRowOfVersion, heads_of, roots_of}
use Rattle.rc_partition.specs.laws.Lists.{elem-first, elem-later, elem-map, elem-mapped, elem-parted, elem-reversed, once-none, once-both, once-head, once-reversed, once-tail}

pub fields_differ : ◌≢◌ {A = ℕ} 1 0
fields_differ e = cc

pub same_root : (r s : Root) → Slot r ≡ Slot s → r ≡ s
same_root r s e = cc

-- ---- the objects of versions

module _ (v : View) (well : IsWell v) where
  -- no two versions of a partition are one object
  pub entry-once : (p : PartitionEntry) → IsPartitionEntry v p → AllPairs ◌≢◌ (heads_of p.versions)
  entry-once p h = once-reversed (heads_of p.versions) (path-once 1 0 fields_differ (link_of v) well.paired (Slot p.root) (reverse (heads_of p.versions)) None tt h.chain)

  -- nor are two of two partitions
  pub entries-apart : (p q : PartitionEntry) → IsPartitionEntry v p → IsPartitionEntry v q → q.root ≢ p.root → (o : Ref) → Contains (heads_of p.versions) o → Contains (heads_of q.versions) o → ⊥
  entries-apart p q h k ne o a b = paths-disjoint 1 0 fields_differ (link_of v) well.paired (Slot p.root) (Slot q.root) (reverse (heads_of p.versions)) (reverse (heads_of q.versions)) None None tt tt
      (λ e. ne (same_root q.root p.root e)) h.chain k.chain o (elem-reversed (heads_of p.versions) o a) (elem-reversed (heads_of q.versions) o b)

-- all versions of partitions
abbrev pub versions_of : List PartitionEntry → List StandingVersion
versions_of partitions = flat_map (λ p. p.versions) partitions

module _ (v : View) (well : IsWell v) where
  pub objects-once : (ps : List PartitionEntry) → AllPairs ◌≢◌ (roots_of ps) → ((p : PartitionEntry) → Contains ps p → IsPartitionEntry v p) → AllPairs ◌≢◌ (heads_of (versions_of ps))
  objects-once [] once h = once-none
  objects-once (p ∷ ps) once h = subst (AllPairs ◌≢◌) (sym (map-append (λ (s : StandingVersion). s.object) p.versions (versions_of ps)))
      (once-both (heads_of p.versions) (heads_of (versions_of ps)) (entry-once v well p (h p (elem-first p ps)))
      (objects-once ps (once-tail p.root (roots_of ps) once) (λ q later. h q (elem-later p q ps later)))
      (λ o a b. let t = elem-mapped (λ (s : StandingVersion). s.object) (versions_of ps) o b in let q = elem-parted (λ (x : PartitionEntry). x.versions) ps t.0 t.1 in
      entries-apart v well p q.0 (h p (elem-first p ps)) (h q.0 (elem-later p q.0 ps q.1))
      (λ e. once-head p.root (roots_of ps) once (subst (Contains (roots_of ps)) e (elem-map (λ (x : PartitionEntry). x.root) ps q.0 q.1)))
      o a (subst (Contains (heads_of q.0.versions)) t.2 (elem-map (λ (s : StandingVersion). s.object) q.0.versions t.0 q.2))))

-- ---- what is of a version

no_static : (kind : Kind) → kind ≡ Static → kind ≡ VersionKind → ⊥
no_static kind a b = let clash : Static ≡ VersionKind = sym a ∙ b in cc

static_apart : (o : Option (Kind × List ℕ)) → IsSomeAnd o (λ b. b.0 ≡ Static) → IsSomeAnd o (λ b. b.0 ≡ VersionKind) → ⊥
static_apart None a b = a
static_apart (Some k) a b = no_static k.0 a b

no_static_entry : (kind : Kind) → kind ≡ Static → IsEntryKind kind → ⊥
no_static_entry kind a (inl b) = let clash : Static ≡ RowEntry = sym a ∙ b in cc
no_static_entry kind a (inr b) = let clash : Static ≡ Dummy = sym a ∙ b in cc

pub entry_apart : (o : Option (Kind × List ℕ)) → IsSomeAnd o (λ b. b.0 ≡ Static) → IsSomeAnd o (λ b. IsEntryKind b.0) → ⊥
entry_apart None a b = a
entry_apart (Some k) a b = no_static_entry k.0 a b

row_kind : (o : Option (Kind × List ℕ)) → (IsSomeAnd o (λ b. b.0 ≡ VersionKind) → ⊥) → IsSomeAnd o (λ b. (b.0 ≡ Static) ⊎ IsEntryKind b.0) → IsSomeAnd o (λ b. b.0 ≢ VersionKind)
row_kind None never h = h
row_kind (Some b) never h = λ is. never is

-- the static row of a version is there
pub static-holds : (v : View) (n r : Ref) (row : Option Row) → HasStatics v n row → IsStaticsOf v n r → (it : Row) × (row ≡ Some it) × HoldsStatic v r it
static-holds v n r None h link = absurd (let clash : None ≡ Some (Obj r 2) = sym h ∙ link in cc)
static-holds v n r (Some row) h link = let ends : Some (Obj h.0 2) ≡ Some (Obj r 2) = sym h.1 ∙ link in let same : h.0 ≡ r = cc in (row, refl, subst (λ s. HoldsStatic v s row) same h.2)

module _ (v : View) (s : StandingVersion) (h : IsVersionOf v s.object s.entries s.version) where
  pub static-kind : (r : Ref) → IsStaticsOf v s.object r → IsSomeAnd (body v r) (λ b. b.0 ≡ Static)
  static-kind r link = let w = static-holds v s.object r s.version.statics h.statics link in subst (λ (o : Option (Kind × List ℕ)). IsSomeAnd o (λ b. b.0 ≡ Static)) (sym w.2.0) refl

  -- a row is no version
  pub row-version : (r : Ref) → IsRowOfVersion v s r → IsSomeAnd (body v r) (λ b. b.0 ≡ VersionKind) → ⊥
  row-version r (inl k) is = no_entry_at (body v r) is (entries-kind v s.object s.entries s.version h r k)
  row-version r (inr link) is = static_apart (body v r) (static-kind r link) is

  pub row-recency : (r : Ref) → IsRowOfVersion v s r → HasRecency v r
  row-recency r (inl k) = row_kind (body v r) (row-version r (inl k)) (some_entry (body v r) (entries-kind v s.object s.entries s.version h r k))
    where
      some_entry : (o : Option (Kind × List ℕ)) → IsSomeAnd o (λ b. IsEntryKind b.0) → IsSomeAnd o (λ b. (b.0 ≡ Static) ⊎ IsEntryKind b.0)
      some_entry None k = k
      some_entry (Some b) k = inr k
  row-recency r (inr link) = row_kind (body v r) (row-version r (inr link)) (some_static (body v r) (static-kind r link))
    where
      some_static : (o : Option (Kind × List ℕ)) → IsSomeAnd o (λ b. b.0 ≡ Static) → IsSomeAnd o (λ b. (b.0 ≡ Static) ⊎ IsEntryKind b.0)
      some_static None k = k
      some_static (Some b) k = inl k

-- a row of two versions
module _ (v : View) (well : IsWell v) (s t : StandingVersion) (h : IsVersionOf v s.object s.entries s.version) (k : IsVersionOf v t.object t.entries t.version) where
  rows_apart : s.object ≢ t.object → (r : Ref) → IsRowOfVersion v s r → IsRowOfVersion v t r → ⊥
  rows_apart ne r (inl a) (inl b) = versions-apart v well s.object t.object ne s.entries t.entries h.tree k.tree r a b
  rows_apart ne r (inl a) (inr b) = entry_apart (body v r) (static-kind v t k r b) (entries-kind v s.object s.entries s.version h r a)
  rows_apart ne r (inr a) (inl b) = entry_apart (body v r) (static-kind v s h r a) (entries-kind v t.object t.entries t.version k r b)
  rows_apart ne r (inr a) (inr b) =
      let ends : Some (Obj s.object 3) ≡ Some (Obj t.object 3) = sym (well.paired.mates (Obj s.object 3) (Obj r 2) a) ∙ well.paired.mates (Obj t.object 3) (Obj r 2) b in
      let same : Obj s.object 3 ≡ Obj t.object 3 = cc in ne (same_object s.object t.object 3 3 same)

  -- is a row of one
  pub one-version : (r : Ref) → IsRowOfVersion v s r → IsRowOfVersion v t r → s.object ≡ t.object
  one-version r a b = elim (refs_decided s.object t.object) [ inl same ↦ same | inr ne ↦ absurd (rows_apart ne r a b) ]

  -- no part of one version is a part of another one
  pub parts-apart : s.object ≢ t.object → (r : Ref) → (s.object ≡ r) ⊎ IsRowOfVersion v s r → (t.object ≡ r) ⊎ IsRowOfVersion v t r → ⊥
  parts-apart ne r (inl a) (inl b) = ne (a ∙ sym b)
  parts-apart ne r (inl a) (inr b) = row-version v t k r b (subst (λ q. IsSomeAnd (body v q) (λ b. b.0 ≡ VersionKind)) a (version-kind v s.object s.entries s.version h))
  parts-apart ne r (inr a) (inl b) = row-version v s h r a (subst (λ q. IsSomeAnd (body v q) (λ b. b.0 ≡ VersionKind)) b (version-kind v t.object t.entries t.version k))
  parts-apart ne r (inr a) (inr b) = rows_apart ne r a b
