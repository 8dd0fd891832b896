-- A listed static row stays where the version has no entries but those that it had, and what was not there.
use Rattle.std.proofs.Common.{◌≡◌, ◌≢◌, ◌⊎◌, ℕ, List, ◌∷◌, ◌++◌, Option, Some, None, inl, inr, sym, ◌∙◌, subst, slice_index_or}
use Rattle.std.specs.Prelude.{IsSomeAnd, Contains}
use Rattle.rc_position.specs.declared.positions.Pos.{Pos}
use Rattle.lsa_kinds.specs.declared.kind.Kind.{Kind}
use Rattle.lsa_kinds.specs.declared.kind.Kind.TheVariants.{Static}
use Rattle.lsa_store.specs.declared.place.Ref.{Ref}
use Rattle.lsa_region.specs.declared.end.Root.{Root}
use Rattle.lsa_region.specs.Region.{View, body, IsSummed, IsWell}
use Rattle.rc_partition.specs.List.{List as Slots}
use Rattle.rc_registry.specs.Version.{Version}
use Rattle.rc_partition.specs.Versions.{IsKeptBut, IsStaticsOf, IsVersionOf, IsWeighed}
use Rattle.rc_partition.specs.Staying.{entries-kind}
use Rattle.rc_partition.specs.Partitions.{AreStanding, IsRowOfVersion, IsRowOfAny, PartitionEntry, StandingVersion, among, partition_of, standing}
use Rattle.rc_partition.specs.laws.Apart.{entry_apart, one-version, static-kind}
use Rattle.rc_partition.specs.laws.Changed.{among-cases, beside-differs, other-among, other-differs, s-stands, this-among}
use Rattle.rc_partition.specs.laws.Lists.{elem-still}
use Rattle.rc_registry.specs.Registry.{Registry}
use Rattle.rc_memory.specs.declared.counts.Counts.{Counts}
use Rattle.rc_memory.specs.Memory.{Member, Memory, IsOfVersion, IsVersionAt, version_changed}
use Rattle.rc_memory.specs.Kept.{HoldMemory}
use Rattle.rc_memory.specs.laws.Changed.{held-changed, stands-after, stands_before}
use Rattle.rc_memory.specs.laws.Listed.{listed-at}
use Rattle.rc_memory.specs.laws.Put.{placed}

module _ (slots : Slots) (old new : View) (front : List PartitionEntry) (root : Root) (older : List StandingVersion) (s : StandingVersion) (newer : List StandingVersion) (back : List PartitionEntry) (listed : List Ref)
    (well : IsWell old) (kept : IsKeptBut s.object old new) (h : AreStanding slots old (among front root older s newer back) listed) (now : List Ref) (c : Version)
    (parts : (q : Ref) → Contains now q → Contains s.entries q ⊎ (body old q ≡ None)) where
  never : (r : Ref) → IsStaticsOf old s.object r → Contains now r → ⊥
  never r static on = elim (parts r on) [
    | inl entry ↦ entry_apart (body old r) (static-kind old s (s-stands slots old new front root older s newer back listed well kept h) r static) (entries-kind old s.object s.entries s.version (s-stands slots old new front root older s newer back listed well kept h) r entry)
    | inr none ↦ subst (λ (o : Option (Kind × List ℕ)). IsSomeAnd o (λ b. b.0 ≡ Static)) none (static-kind old s (s-stands slots old new front root older s newer back listed well kept h) r static)
  ]

  -- a row of another version now was one before
  other_row : (t : StandingVersion) → t.object ≢ s.object → IsVersionOf old t.object t.entries t.version → (r : Ref) → IsStaticsOf old s.object r → IsRowOfVersion new t r → ⊥
  other_row t ne k r static row = ne (sym (one-version old well s t (s-stands slots old new front root older s newer back listed well kept h) k r (inr static) (was row)))
    where
      was : IsRowOfVersion new t r → IsRowOfVersion old t r
      was (inl on) = inl on
      was (inr link) = inr (sym (kept.statics t.object t.entries t.version ne k) ∙ link)

  pub static-stays : (r : Ref) → IsStaticsOf old s.object r → IsRowOfAny new (among front root older (standing s.object now c) newer back) r → IsStaticsOf new s.object r
  static-stays r static w = elim (among-cases front back root older newer (standing s.object now c) w.0 w.1 w.2 w.3) [
    | inl same ↦ own (subst (λ t. IsRowOfVersion new t r) (sym same) w.4)
    | inr (inl beside) ↦ absurd (other_row w.1 (beside-differs slots old new front root older s newer back listed well kept h w.1 beside)
        ((h.entries (partition_of root (older ++ (s ∷ newer))) (this-among front back root older newer s)).versions w.1 (elem-still older newer s w.1 beside)) r static w.4)
    | inr (inr other) ↦ absurd (other_row w.1 (other-differs slots old new front root older s newer back listed well kept h w.0 other w.1 w.3)
        ((h.entries w.0 (other-among front back root older newer s w.0 other)).versions w.1 w.3) r static w.4)
  ] where
    own : IsRowOfVersion new (standing s.object now c) r → IsStaticsOf new s.object r
    own (inl on) = absurd (never r static on)
    own (inr link) = link

module _ (slots : Slots) (old new : View) (registry : Registry) (counts : Counts) (m : Memory) (h : HoldMemory slots old registry counts m)
    (id j : ℕ) (p : PartitionEntry) (s : StandingVersion) (there : slice_index_or m.standing id None ≡ Some p) (number : IsVersionAt p.versions j s) (now : List Ref) (c : Version)
    (kept_but : IsKeptBut s.object old new) (is : IsVersionOf new s.object now c) (summed : IsSummed old) (well : IsWell new) (summed_new : IsSummed new) (weigh : IsWeighed old new s.version c) where
  -- so it is enough to say of entries that they stand where they stood
  pub held-entries : ((q : Ref) → Contains now q → Contains s.entries q ⊎ (body old q ≡ None))
      → ((x : Pos) (r : Ref) → Contains m.recency (record { chain = id; version = j; position = Some x }) → IsOfVersion old s (Some x) r → IsOfVersion new (standing s.object now c) (Some x) r)
      → HoldMemory slots new registry counts (version_changed id j (standing s.object now c) new m)
  held-entries parts entries = held-changed slots old new registry counts m h id j p s there number now c kept_but is rows summed well summed_new weigh
    where
      row_at : (at : Option Pos) (r : Ref) → Contains m.recency (record { chain = id; version = j; position = at }) → IsOfVersion old s at r → IsOfVersion new (standing s.object now c) at r
      row_at None r on a = static-stays slots old new (placed m.standing id).front p.root number.older s number.newer (placed m.standing id).back h.listed h.well kept_but
          (stands_before slots old new registry counts m h id j p s there number now c) now c parts r a
          ((stands-after slots old new registry counts m h id j p s there number now c kept_but is summed well summed_new weigh).owned r
          (listed-at slots old registry counts m h r (record { chain = id; version = j; position = None }) (record { partition = p; version = s; chain = there; number = number; object = a }) on))
      row_at (Some x) r on a = entries x r on a

      rows : (w : Member) (r : Ref) → Contains m.recency w → w.chain ≡ id → w.version ≡ j → IsOfVersion old s w.position r → IsOfVersion new (standing s.object now c) w.position r
      rows w r on chain version a = row_at w.position r (subst (Contains m.recency) (λ i. record { chain = chain i; version = version i; position = w.position }) on) a
