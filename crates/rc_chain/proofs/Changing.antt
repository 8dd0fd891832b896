-- One version of a chain changed: the memory then, and what is said of it.
use Rattle.std.proofs.Common.{◌≡◌, ◌≢◌, ◌/◌, ◌<◌, ◌≤◌, ◌⊎◌, ℕ, List, [], ◌∷◌, ◌++◌, Option, Some, None, IsSome, length, inl, inr, refl, sym, ap, ◌∙◌, subst, map, slice_index_or, arith, true, false, zero, suc}
use Rattle.std.specs.Prelude.{Contains, IfSome, IsSomeAnd}
use Rattle.std.specs.Cmp.{tied_itself}
use Rattle.std.specs.Option.{option_map}
use Rattle.std.specs.Ordering.{is_gt}
use Rattle.std.specs.declared.cmp.Ordering.TheVariants.{Less, Equal, Greater}
use Rattle.lsa_pool.specs.Room.{spare_of}
use Rattle.rc_cell.specs.declared.rows.Row.{Row}
use Rattle.rc_cell.specs.Winner.{IsRow}
use Rattle.rc_cell.specs.laws.{IsRow-joined_row, joined_row-one}
use Rattle.rc_position.specs.declared.comps.Comp.{Comp}
use Rattle.rc_position.specs.declared.positions.Pos.{Pos}
use Rattle.rc_position.specs.declared.positions.Weight.TheVariants.{After, At}
use Rattle.rc_position.specs.Position.{IsBefore, pos_cmp, row_pos}
use Rattle.rc_position.specs.laws.Orders.{pos_cmp_same, pos_cmp_total}
use Rattle.rc_position.specs.laws.Bounds.{last_pos-greatest}
use Rattle.rc_rowcode.specs.Objects.{dummy_size, static_size}
use Rattle.rc_rowcode.specs.Spelling.{row_code}
use Rattle.lsa_store.specs.declared.place.Ref.{Ref}
use Rattle.lsa_region.specs.declared.end.End.TheVariants.{Obj}
use Rattle.lsa_region.specs.Region.{View, link_of}
use Rattle.lsa_list.specs.declared.recency.List.{List as Slots}
use Rattle.lsa_tree.specs.laws.Orders.{stands-once}
use Rattle.rc_core.specs.declared.entries.ChainKind.{ChainKind}
use Rattle.rc_core.specs.declared.entries.ChainKind.TheVariants.{Cache, Memtable}
use Rattle.rc_core.specs.declared.entries.Entry.{Entry}
use Rattle.rc_core.specs.declared.entries.Flag.{Flag}
use Rattle.rc_core.specs.AtPlace.{HasEntryAt}
use Rattle.rc_core.specs.Change.{drop_at, gap_split, join_row_at, joined_onto}
use Rattle.rc_core.specs.Continuity.{with_entries, without_statics}
use Rattle.rc_core.specs.Steps.{join_flagged_statics, join_statics, on_version, row_joined, set_statics}
use Rattle.rc_core.specs.Version.{Ascend, EndsWithDummy, Finding, IsVersion, On, Version, end_position, entry_answers, finding_in}
use Rattle.rc_core.specs.laws.Order.{split-ends, split-is}
use Rattle.rc_core.specs.laws.Placed.{ahead_of, has-split, not_end, stands-has}
use Rattle.rc_core.specs.laws.Spots.{ascend-tail, join_row-there, position-reached, split-stands, turn_to}
use Rattle.rc_object.specs.Objects.{HasRoomFor, HoldsEntry, HoldsStatic, entry_length}
use Rattle.rc_object.specs.laws.Spelled.{coded_of}
use Rattle.rc_version.specs.Versions.{HasStatics, HoldEntries, IsVersionOf, bytes_at, joined_bytes}
use Rattle.rc_version.specs.laws.Objects.{holds-stands}
use Rattle.rc_memory.specs.Partitions.{PartitionEntry, StandingVersion}
use Rattle.rc_memory.specs.Lists.{elem-cases, elem-first, elem-here, elem-later, elem-left, elem-none}
use Rattle.rc_registry.specs.Registry.{Registry, put_at_number}
use Rattle.rc_memory.specs.declared.counts.Counts.{Counts}
use Rattle.rc_memory.specs.Memory.{KeptChain, Member, Memory, HasVersion, IsMemberObject, IsOfVersion, IsVersionAt, IsVersionObject, chain_at, on_chain, on_shown, on_version_of, shown_with}
use Rattle.rc_memory.specs.Kept.{HoldMemory, IsMemory, IsSoundChain, chain_of_use}
use Rattle.rc_memory.specs.Room.{FitTogether, HasRowAt, HasStaticRow}
use Rattle.rc_memory.specs.Recency.{HasObject, IsLastInner, IsUnderUpdate, MayBeListed, MustBeListed}
use Rattle.rc_memory.specs.Changes.{AtAlone, FitsChanged, IsRenewed, IsRenewedWhereNone, IsVersionChanged, IsWithout, KeepsLast, KeepsRows, LastIsListed, Nowhere, OfVersion, member_at}
use Rattle.rc_memory.specs.laws.At.{found-version, number-low, number-mapped, version-is}
use Rattle.rc_memory.specs.laws.Changing.{memory-dropped, memory-joined, memory-marked, memory-split, memory-statics, memory-undone}
use Rattle.rc_memory.specs.laws.Entries.{before-differs, keeps-split, only-split}
use Rattle.rc_memory.specs.laws.Listed.{one-at}
use Rattle.rc_memory.specs.laws.Listing.{listed-decided}
use Rattle.rc_memory.specs.laws.Places.{no_some, same_some, version-there}
use Rattle.rc_memory.specs.laws.Put.{put-at, used-at}
use Rattle.rc_memory.specs.laws.Recent.{at_there, on-is, there_at}
use Rattle.rc_memory.specs.laws.Rows.{fit-split}
use Rattle.rc_memory.specs.laws.Rules.{length-on}
use Rattle.rc_memory.specs.laws.Still.{still-then, unmoved-then}
use Rattle.rc_recency.specs.Holding.{HasRoomLike, HasRoomToJoin, HoldsAfter, IsHeldVersion, IsOffMemtable}
use Rattle.rc_chain.proofs.Made.{on-alike}
use Rattle.rc_chain.proofs.Making.{HasBecome}

-- ---- objects of a version

-- what holds of the version of a number of a chain holds of whichever is of that number
pub of-version : (m : Memory) (id j : ℕ) (P : KeptChain → Version → Type 0) (k : KeptChain) (c : Version) → chain_at m id ≡ Some k → IsVersionAt k.chain.versions j c → P k c → OfVersion m id j P
of-version m id j P k c there number p q d e on =
    let same = same_some k q (sym there ∙ e) in let one = one-at q.chain.versions j c d (subst (λ (x : KeptChain). IsVersionAt x.chain.versions j c) same number) on in
    subst (P q) one (subst (λ x. P x c) same p)

-- an object at a position of a version
pub member-position : (m : Memory) (r : Ref) (w : Member) (x : Pos) → w.position ≡ Some x → IsMemberObject m r w → IsMemberObject m r (member_at w.chain w.version (Some x))
member-position m r w x is a = record { partition = a.partition; version = a.version; chain = a.chain; number = a.number; object = subst (λ at. IsOfVersion m.region a.version at r) is a.object }

-- one of the objects of entries holds one of these
held-among : (v : View) (refs : List Ref) (es : List Entry) → HoldEntries v refs es → (r : Ref) → Contains refs r → (y : Entry) × Contains es y × HoldsEntry v r y
held-among v [] [] h r k = absurd (elem-none r k)
held-among v [] (e ∷ es) h r k = absurd h
held-among v (q ∷ refs) [] h r k = absurd h
held-among v (q ∷ refs) (e ∷ es) h r k = elim (elem-cases q r refs k) [
  | inl same ↦ (e, elem-first e es, subst (λ p. HoldsEntry v p e) same h.0)
  | inr later ↦ let a = held-among v refs es h.1 r later in (a.0, elem-later e a.0 es a.1, a.2)
]

-- an object is an entry at a position of a version of a chain
pub record IsEntryOf (v : View) (m : Memory) (r : Ref) (w : Member) (x : Pos) : Type 0 where
  pub chain : KeptChain
  pub version : Version
  pub entry : Entry
  pub there : chain_at m w.chain ≡ Some chain
  pub number : IsVersionAt chain.chain.versions w.version version
  pub among : Contains version.entries entry
  pub position : entry.position ≡ x
  pub held : HoldsEntry v r entry

module _ (slots : Slots) (v : View) (registry : Registry) (counts : Counts) (m : Memory) (h : HoldMemory slots v registry counts m) (r : Ref) (w : Member) where
  -- an object at a place is of a version that is there
  pub member-version : IsMemberObject m r w → HasVersion m w.chain w.version
  member-version a =
      let user = used-at registry.uses m.standing m.chains w.chain a.partition h.kept a.chain in let at = number-mapped (λ (s : StandingVersion). s.version) a.partition.versions w.version a.version a.number in
      subst (λ (o : Option KeptChain). IsSomeAnd o (λ k. w.version < length k.chain.versions)) (sym user.chain) (number-low (map (λ (s : StandingVersion). s.version) a.partition.versions) w.version a.version.version at)

  pub member-entry : (x : Pos) → w.position ≡ Some x → IsMemberObject m r w → IsEntryOf v m r w x
  member-entry x is a =
      let user = used-at registry.uses m.standing m.chains w.chain a.partition h.kept a.chain in
      let own : IsOfVersion v a.version (Some x) r = subst (λ at. IsOfVersion v a.version at r) is (subst (λ z. IsOfVersion z a.version w.position r) h.region a.object) in
      let y = held-among v a.version.entries a.version.version.entries (version-there slots v h.well m.standing h.listed h.stands w.chain w.version a.partition a.version a.chain a.number).entries r own.0 in record {
        chain = chain_of_use user.used a.partition;
        version = a.version.version;
        entry = y.0;
        there = user.chain;
        number = number-mapped (λ (s : StandingVersion). s.version) a.partition.versions w.version a.version a.number;
        among = y.1;
        position = stands-once v r y.0.position x (holds-stands v r y.0 y.2) own.1;
        held = y.2;
      }

object-of : (o : Option PartitionEntry) (j : ℕ) (n : Ref) → IsSomeAnd o (λ p. (s : StandingVersion) × IsVersionAt p.versions j s × (s.object ≡ n)) → (p : PartitionEntry) × (s : StandingVersion) × (o ≡ Some p) × IsVersionAt p.versions j s × (s.object ≡ n)
object-of None j n is = absurd is
object-of (Some p) j n is = (p, is.0, refl, is.1, is.2)

-- a static row of a version of a chain
pub record IsStaticOf (v : View) (m : Memory) (r : Ref) (w : Member) : Type 0 where
  pub chain : KeptChain
  pub version : Version
  pub row : Row
  pub there : chain_at m w.chain ≡ Some chain
  pub number : IsVersionAt chain.chain.versions w.version version
  pub statics : version.statics ≡ Some row
  pub held : HoldsStatic v r row

same_end : (a b : Ref) → Some (Obj a 2) ≡ Some (Obj b 2) → a ≡ b
same_end a b e = cc e

static-held : (v : View) (n r : Ref) (o : Option Row) → HasStatics v n o → link_of v (Obj n 3) ≡ Some (Obj r 2) → (row : Row) × (o ≡ Some row) × HoldsStatic v r row
static-held v n r None h e = absurd (no_some (Obj r 2) (sym h ∙ e))
static-held v n r (Some row) h e = (row, refl, subst (λ q. HoldsStatic v q row) (same_end h.0 r (sym h.1 ∙ e)) h.2)

pub member-static : (slots : Slots) (v : View) (registry : Registry) (counts : Counts) (m : Memory) → HoldMemory slots v registry counts m → (r : Ref) (w : Member) → w.position ≡ None → IsMemberObject m r w → IsStaticOf v m r w
member-static slots v registry counts m h r w is a =
    let user = used-at registry.uses m.standing m.chains w.chain a.partition h.kept a.chain in
    let own : IsOfVersion v a.version None r = subst (λ at. IsOfVersion v a.version at r) is (subst (λ z. IsOfVersion z a.version w.position r) h.region a.object) in
    let o = static-held v a.version.object r a.version.version.statics (version-there slots v h.well m.standing h.listed h.stands w.chain w.version a.partition a.version a.chain a.number).statics own in record {
      chain = chain_of_use user.used a.partition;
      version = a.version.version;
      row = o.0;
      there = user.chain;
      number = number-mapped (λ (s : StandingVersion). s.version) a.partition.versions w.version a.version a.number;
      statics = o.1;
      held = o.2;
    }

-- ---- rows at positions

-- an entry that answers at a position with a row stands there
row-there : (x : Pos) (es : List Entry) (row : Row) → (finding_in (On x) es).row ≡ Some row → (e : Entry) × Contains es e × (e.position ≡ x) × (e.row ≡ Some row)
row-there x [] row is = absurd (no_some row is)
row-there x (e ∷ es) row is = (elim (pos_cmp x e.position) as (λ r. pos_cmp x e.position ≡ r → (entry_answers r e (finding_in (On x) es)).row ≡ Some row → (d : Entry) × Contains (e ∷ es) d × (d.position ≡ x) × (d.row ≡ Some row)) [
  | Less ↦ λ _ none. absurd (no_some row none)
  | Equal ↦ λ at here. (e, elem-first e es, sym (pos_cmp_same x e.position at), here)
  | Greater ↦ λ _ later. let d = row-there x es row later in (d.0, elem-later e d.0 es d.1, d.2, d.3)
]) refl is

at-among : (es : List Entry) (y : Entry) → Contains es y → HasEntryAt y.position es
at-among [] y on = absurd (elem-none y on)
at-among (e ∷ es) y on = elim (elem-cases e y es on) [ inl same ↦ inl (ap (λ (z : Entry). z.position) same) | inr later ↦ inr (at-among es y later) ]

-- and each entry answers at its position
seen-of : (x : Pos) (es : List Entry) (y : Entry) → Ascend es → Contains es y → y.position ≡ x → (finding_in (On x) es).row ≡ y.row
seen-of x [] y a on is = absurd (elem-none y on)
seen-of x (e ∷ es) y a on is = elim (elem-cases e y es on) [
  | inl same ↦ ap (λ r. (entry_answers r e (finding_in (On x) es)).row) (ap (pos_cmp x) (ap (λ (z : Entry). z.position) same ∙ is) ∙ tied_itself pos_cmp_total x) ∙ ap (λ (z : Entry). z.row) same
  | inr later ↦ ap (λ r. (entry_answers r e (finding_in (On x) es)).row) (turn_to e.position x Less (ahead_of x e es a (subst (λ z. HasEntryAt z es) is (at-among es y later)))) ∙ seen-of x es y (ascend-tail e es a) later is
]

end-there : (es : List Entry) → EndsWithDummy es → HasEntryAt end_position es
end-there [] ends = absurd ends
end-there (e ∷ []) ends = inl ends.0
end-there (e ∷ f ∷ es) ends = inr (end-there (f ∷ es) ends)

-- rows stand before the end
before-end : (x : Pos) (es : List Entry) (row : Row) → Ascend es → EndsWithDummy es → (finding_in (On x) es).row ≡ Some row → IsBefore x end_position
before-end x [] row a ends is = absurd ends
before-end x (e ∷ []) row a ends is = absurd ((elim (pos_cmp x e.position) as (λ r. (entry_answers r e (finding_in (On x) [])).row ≡ Some row → ⊥) [
  | Less ↦ λ k. no_some row k
  | Equal ↦ λ k. no_some row (sym ends.1 ∙ k)
  | Greater ↦ λ k. no_some row k
]) is)
before-end x (e ∷ f ∷ es) row a ends is = (elim (pos_cmp x e.position) as (λ r. pos_cmp x e.position ≡ r → (entry_answers r e (finding_in (On x) (f ∷ es))).row ≡ Some row → IsBefore x end_position) [
  | Less ↦ λ _ k. absurd (no_some row k)
  | Equal ↦ λ at k. subst (λ z. IsBefore z end_position) (sym (pos_cmp_same x e.position at)) (ahead_of end_position e (f ∷ es) a (end-there (f ∷ es) ends))
  | Greater ↦ λ _ k. before-end x (f ∷ es) row a.1 ends k
]) refl is

pub row-inner : (key : List Comp) → row_pos key ≢ end_position
row-inner key e = let clash : At ≡ After = ap (λ (x : Pos). x.weight) e in cc

-- what is joined is a row, and alone it is itself
joined-row : (o : Option Row) (row : Row) → IsRow row → IsRow (joined_onto o row)
joined-row None row is = is
joined-row (Some old) row is = IsRow-joined_row (old ∷ row ∷ [])

one-row : (row other : Row) → Contains (row ∷ []) other → row ≡ other
one-row row other on = elim (elem-cases row other [] on) [ inl same ↦ same | inr later ↦ absurd (elem-none other later) ]

-- a scratch space of a segment's size has room for the entry of a row that fits, and for the code of a static row
entry-inside : (S space : ℕ) (x : Pos) (row : Row) → space ≡ S → bytes_at x (Some row) ≤ S / 8 → entry_length x (Some row) ≤ space
entry-inside S space x row is fits = omega (arith, is, fits)

pub static-inside : (S space : ℕ) (row : Row) → space ≡ S → static_size row ≤ S / 8 → length (row_code row) ≤ space
static-inside S space row is fits = omega (arith, is, fits)

-- a scratch space of a segment's size has room for the entry of a dummy that fits
pub dummy-inside : (S space : ℕ) (x : Pos) → space ≡ S → dummy_size x ≤ S / 8 → entry_length x None ≤ space
dummy-inside S space x is fits = omega (arith, is, fits)

-- what is said of a version that was changed in no place, and of the list that was not
abbrev pub IsMarked : ℕ → ℕ → (Version → Version) → Memory → Memory → Type 0
IsMarked id j f m n = IsVersionChanged id j f Nowhere m n × (n.recency ≡ m.recency)

-- what is said of one that was split at a position, where the entry is this object
pub record IsSplitAt (id j : ℕ) (x : Pos) (r : Ref) (m n : Memory) : Type 0 where
  pub changed : IsVersionChanged id j (λ c. with_entries (gap_split x c.entries) c) Nowhere m n
  pub recency : OfVersion m id j (λ k v. IsRenewedWhereNone k.chain.kind v (member_at id j (Some x)) m.recency n.recency)
  pub here : IsMemberObject n r (member_at id j (Some x))

-- what is said of one of which an object was taken out
abbrev pub IsTakenOut : ℕ → ℕ → (Version → Version) → Option Pos → Memory → Memory → Type 0
IsTakenOut id j f at m n = IsVersionChanged id j f (AtAlone (member_at id j at)) m n × IsWithout (member_at id j at) m.recency n.recency

-- what is said of one of which an object was made anew
pub record IsMadeAnew (id j : ℕ) (f : Version → Version) (at : Option Pos) (m n : Memory) : Type 0 where
  pub changed : IsVersionChanged id j f (AtAlone (member_at id j at)) m n
  pub recency : OfVersion m id j (λ k v. IsRenewed k.chain.kind (member_at id j at) m.recency n.recency)

module _ (S : ℕ) (slots : Slots) (old : View) (registry : Registry) (counts : Counts) (m : Memory) (h : IsMemory S slots old registry counts m) where
  -- a dummy at an entry's position fits
  pub entry-fits : (r : Ref) (w : Member) (x : Pos) → IsEntryOf old m r w x → dummy_size x ≤ S / 8
  entry-fits r w x e =
      let fit : FitTogether S e.chain.chain.versions = subst (λ (o : Option KeptChain). IfSome o (λ k. FitTogether S k.chain.versions)) e.there (h.fit w.chain) in
      let among : Contains e.chain.chain.versions e.version = subst (λ vs. Contains vs e.version) (sym e.number.split) (elem-here e.number.older e.number.newer e.version) in
      subst (λ y. dummy_size y ≤ S / 8) e.position (fit.positions e.version e.entry among e.among)

  -- there is room for one
  pub room-like : (space : ℕ) → space ≡ S → (r : Ref) (w : Member) (x : Pos) (e : IsEntryOf old m r w x) → dummy_size x ≤ spare_of S old.usages → HasRoomFor S old (dummy_size e.entry.position) space (entry_length e.entry.position None)
  room-like space is r w x e spare = subst (λ y. HasRoomFor S old (dummy_size y) space (entry_length y None)) (sym e.position) (record { fits = entry-fits r w x e; spare = spare; inside = dummy-inside S space x is (entry-fits r w x e) })

  module _ (id j : ℕ) (has : HasVersion m id j) where
    -- the version of a number, by its object
    pub held-version : (n : Ref) → IsVersionObject m id j n → (k : KeptChain) × (c : Version) × IsHeldVersion slots old registry counts m id j k c n
    held-version n is = let a = found-version m id j has in (a.0, a.1, record { held = h.held; chain = a.2; number = a.3; object = is })

    -- it stands there with some entries
    pub version-refs : (n : Ref) → IsVersionObject m id j n → (k : KeptChain) (c : Version) → chain_at m id ≡ Some k → IsVersionAt k.chain.versions j c → (refs : List Ref) × IsVersionOf old n refs c
    version-refs n is k c there number =
        let a = object-of (slice_index_or m.standing id None) j n is in let user = used-at registry.uses m.standing m.chains id a.0 h.held.kept a.2 in let used = chain_of_use user.used a.0 in
        let at = subst (λ (x : KeptChain). IsVersionAt x.chain.versions j c) (same_some k used (sym there ∙ user.chain)) number in
        let value = one-at used.chain.versions j a.1.version c (number-mapped (λ (s : StandingVersion). s.version) a.0.versions j a.1 a.3) at in
        (a.1.entries, subst (λ o. IsVersionOf old o a.1.entries c) a.4 (subst (IsVersionOf old a.1.object a.1.entries) value (version-there slots old h.held.well m.standing h.held.listed h.held.stands id j a.0 a.1 a.2 a.3)))

    split-fits : (x : Pos) → dummy_size x ≤ S / 8 → FitsChanged S id j (λ c. with_entries (gap_split x c.entries) c) m
    split-fits x fits = of (chain_at m id) (h.fit id)
      where
        of : (o : Option KeptChain) → IfSome o (λ k. FitTogether S k.chain.versions) → IfSome o (λ k. FitTogether S (on_version j (λ c. with_entries (gap_split x c.entries) c) k.chain.versions))
        of None fit = tt
        of (Some k) fit = fit-split S j x k.chain.versions fits fit

    -- nothing of a memtable's chain is listed
    pub off-memtable : (kind : ChainKind) (at : Option Pos) (k : KeptChain) → chain_at m id ≡ Some k → kind ≡ k.chain.kind → IsOffMemtable kind (member_at id j at) m
    off-memtable kind at k there same memtable on =
        let p = at_there (λ q. MayBeListed q.chain j at) (chain_at m id) k (h.rule.members (member_at id j at) on) there in let clash : Memtable ≡ Cache = sym memtable ∙ same ∙ p.cached in cc

    module _ (k : KeptChain) (c : Version) (there : chain_at m id ≡ Some k) (number : IsVersionAt k.chain.versions j c) where
      changed-among : (f : Version → Version) → Contains (on_version j f k.chain.versions) (f c)
      changed-among f = subst (λ vs. Contains vs (f c)) (sym (on-is k.chain.versions j c f number)) (elem-here number.older number.newer (f c))

      fit-there : (f : Version → Version) → FitsChanged S id j f m → FitTogether S (on_version j f k.chain.versions)
      fit-there f fits = subst (λ (o : Option KeptChain). IfSome o (λ q. FitTogether S (on_version j f q.chain.versions))) there fits

      -- a row joined fits, and so does a static row
      pub joined-fits : (x : Pos) (row : Row) → IsRow row → FitsChanged S id j (row_joined x row) m → joined_bytes x row c ≤ S / 8
      joined-fits x row coded fits =
          let all = joined_onto (finding_in (On x) c.entries).row row in
          let here = row-there x (join_row_at x row c.entries) all (ap (λ (a : Finding). a.row) (join_row-there x row c.entries (version-is slots old registry counts m h.held id j k c there number).ends)) in
          subst (λ r. bytes_at x (Some r) ≤ S / 8) (joined_row-one all (joined-row (finding_in (On x) c.entries).row row coded)) ((fit-there (row_joined x row) fits).rows x all []
          (λ r on. subst (HasRowAt (on_version j (row_joined x row) k.chain.versions) x) (one-row all r on) (row_joined x row c, here.0, changed-among (row_joined x row), here.1, here.2, here.3)))

      pub static-fits : (f : Version → Version) (row : Row) → IsRow row → (f c).statics ≡ Some (joined_onto c.statics row) → FitsChanged S id j f m → static_size (joined_onto c.statics row) ≤ S / 8
      static-fits f row coded is fits =
          let all = joined_onto c.statics row in
          subst (λ r. static_size r ≤ S / 8) (joined_row-one all (joined-row c.statics row coded)) ((fit-there f fits).statics all []
          (λ r on. subst (HasStaticRow (on_version j f k.chain.versions)) (one-row all r on) (f c, changed-among f, is)))

      -- there is room for them
      pub room-joined : (space : ℕ) → space ≡ S → (x : Pos) (row : Row) → IsRow row → FitsChanged S id j (row_joined x row) m → joined_bytes x row c ≤ spare_of S old.usages → HasRoomToJoin S old space x row c
      room-joined space is x row coded fits spare = let fit = joined-fits x row coded fits in
          record { fits = fit; spare = spare; inside = entry-inside S space x (joined_onto (finding_in (On x) c.entries).row row) is fit }

      -- two changes that are alike for this version
      changed-alike : (f g : Version → Version) (these : Member → Type 0) (n : Memory) → f c ≡ g c → IsVersionChanged id j f these m n → IsVersionChanged id j g these m n
      changed-alike f g these n same is = record { chains = is.chains ∙ on-alike m.chains id (on_shown (on_version_of j f)) (on_shown (on_version_of j g)) alike; dropped = is.dropped; counts = is.counts; still = is.still; region = is.region }
        where
          alike : (q : KeptChain) → chain_at m id ≡ Some q → on_shown (on_version_of j f) q ≡ on_shown (on_version_of j g) q
          alike q e =
              let at = subst (λ (x : KeptChain). IsVersionAt x.chain.versions j c) (same_some k q (sym there ∙ e)) number in
              ap (λ (vs : List Version). on_shown (shown_with vs) q) (on-is q.chain.versions j c f at ∙ ap (λ v. at.older ++ (v ∷ at.newer)) same ∙ sym (on-is q.chain.versions j c g at))

    module _ (new : View) where
      -- its marks changed, or its head
      pub marked-here : (f : Version → Version) → KeepsRows f → HoldsAfter slots new registry counts (IsMarked id j f m) → HasBecome S slots new registry counts (IsMarked id j f m)
      marked-here f keeps (n, held, is) = (n, memory-marked S slots old new registry counts m n h held id j f is.0.chains has keeps is.1, is)

      -- it was split
      pub split-here : (kind : ChainKind) (x : Pos) (r : Ref) (k : KeptChain) (c : Version) → chain_at m id ≡ Some k → IsVersionAt k.chain.versions j c → kind ≡ k.chain.kind → dummy_size x ≤ S / 8 → KeepsLast id j (λ d. with_entries (gap_split x d.entries) d) m
          → HoldsAfter slots new registry counts (λ n. IsVersionChanged id j (λ d. with_entries (gap_split x d.entries) d) Nowhere m n × IsRenewedWhereNone kind c (member_at id j (Some x)) m.recency n.recency × IsMemberObject n r (member_at id j (Some x)))
          → HasBecome S slots new registry counts (IsSplitAt id j x r m)
      split-here kind x r k c there number same fits last (n, held, is) =
          let list = of-version m id j (λ q v. IsRenewedWhereNone q.chain.kind v (member_at id j (Some x)) m.recency n.recency) k c there number (subst (λ y. IsRenewedWhereNone y c (member_at id j (Some x)) m.recency n.recency) same is.1) in
          (n, memory-split S slots old new registry counts m n h held id j has x is.0.chains list (split-fits x fits) last, record { changed = is.0; recency = list; here = is.2 })

      -- it was split at the position of an entry of another version
      pub split-like-here : (kind : ChainKind) (e : Ref) (w : Member) (x : Pos) → IsEntryOf old m e w x → (r : Ref) (k : KeptChain) (c : Version) → chain_at m id ≡ Some k → IsVersionAt k.chain.versions j c → kind ≡ k.chain.kind → KeepsLast id j (λ d. with_entries (gap_split x d.entries) d) m
          → ((y : Entry) → HoldsEntry old e y → HoldsAfter slots new registry counts (λ n. IsVersionChanged id j (λ d. with_entries (gap_split y.position d.entries) d) Nowhere m n × IsRenewedWhereNone kind c (member_at id j (Some y.position)) m.recency n.recency × IsMemberObject n r (member_at id j (Some y.position))))
          → HasBecome S slots new registry counts (IsSplitAt id j x r m)
      split-like-here kind e w x is r k c there number same last after = split-here kind x r k c there number same (entry-fits e w x is) last
          (subst (λ z. HoldsAfter slots new registry counts (λ n. IsVersionChanged id j (λ d. with_entries (gap_split z d.entries) d) Nowhere m n × IsRenewedWhereNone kind c (member_at id j (Some z)) m.recency n.recency × IsMemberObject n r (member_at id j (Some z)))) is.position (after is.entry is.held))

      -- an entry was taken out, or its static row
      pub dropped-here : (x : Pos) → x ≢ end_position → HoldsAfter slots new registry counts (IsTakenOut id j (λ d. with_entries (drop_at x d.entries) d) (Some x) m) → HasBecome S slots new registry counts (IsTakenOut id j (λ d. with_entries (drop_at x d.entries) d) (Some x) m)
      dropped-here x inner (n, held, is) = (n, memory-dropped S slots old new registry counts m n h held id j has x inner is.0.chains is.1, is)

      pub undone-here : HoldsAfter slots new registry counts (IsTakenOut id j without_statics None m) → HasBecome S slots new registry counts (IsTakenOut id j without_statics None m)
      undone-here (n, held, is) = (n, memory-undone S slots old new registry counts m n h held id j has is.0.chains is.1, is)

      module _ (kind : ChainKind) (k : KeptChain) (c : Version) (there : chain_at m id ≡ Some k) (number : IsVersionAt k.chain.versions j c) (same : kind ≡ k.chain.kind) where
        renewed-list : (at : Option Pos) (n : Memory) → IsRenewed kind (member_at id j at) m.recency n.recency → OfVersion m id j (λ q v. IsRenewed q.chain.kind (member_at id j at) m.recency n.recency)
        renewed-list at n list = of-version m id j (λ q v. IsRenewed q.chain.kind (member_at id j at) m.recency n.recency) k c there number (subst (λ y. IsRenewed y (member_at id j at) m.recency n.recency) same list)

        -- a row was joined
        pub joined-here : (x : Pos) (row : Row) (r : Ref) → x ≢ end_position → FitsChanged S id j (row_joined x row) m → KeepsLast id j (row_joined x row) m
            → HoldsAfter slots new registry counts (λ n. IsVersionChanged id j (row_joined x row) (AtAlone (member_at id j (Some x))) m n × IsRenewed kind (member_at id j (Some x)) m.recency n.recency × IsMemberObject n r (member_at id j (Some x)))
            → HasBecome S slots new registry counts (λ n. IsMadeAnew id j (row_joined x row) (Some x) m n × IsMemberObject n r (member_at id j (Some x)))
        joined-here x row r inner fits last (n, held, is) = let list = renewed-list (Some x) n is.1 in
            (n, memory-joined S slots old new registry counts m n h held id j has x row inner is.0.chains list fits last, (record { changed = is.0; recency = list }, is.2))

        -- a static row was
        pub statics-here : (f : Version → Version) (P : Memory → Type 0) → ((v : Version) → ((f v).entries ≡ v.entries) × IsSome (f v).statics) → FitsChanged S id j f m
            → HoldsAfter slots new registry counts (λ n. IsVersionChanged id j f (AtAlone (member_at id j None)) m n × IsRenewed kind (member_at id j None) m.recency n.recency × P n)
            → HasBecome S slots new registry counts (λ n. IsMadeAnew id j f None m n × P n)
        statics-here f P does fits (n, held, is) = let list = renewed-list None n is.1 in
            (n, memory-statics S slots old new registry counts m n h held id j f is.0.chains has does list fits, (record { changed = is.0; recency = list }, is.2))

        -- it was set to the row that is joined
        pub flagged-here : (row : Row) (flag : Flag) → FitsChanged S id j (join_flagged_statics row flag) m
            → HoldsAfter slots new registry counts (λ n. IsVersionChanged id j (set_statics (Some (joined_onto c.statics row)) flag) (AtAlone (member_at id j None)) m n × IsRenewed kind (member_at id j None) m.recency n.recency)
            → HasBecome S slots new registry counts (IsMadeAnew id j (join_flagged_statics row flag) None m)
        flagged-here row flag fits (n, held, is) =
            let all = statics-here (join_flagged_statics row flag) (λ o. o ≡ o) (λ v. (refl, refl)) fits
            (n, held, (changed-alike k c there number (set_statics (Some (joined_onto c.statics row)) flag) (join_flagged_statics row flag) (AtAlone (member_at id j None)) n refl is.0, is.1, refl)) in (all.0, all.1, all.2.0)

-- what stands at a place of another version: the row of its entry, or its static row
abbrev pub SaysRow : Memory → Member → Pos → Row → Type 0
SaysRow m w x row = OfVersion m w.chain w.version (λ k v. (finding_in (On x) v.entries).row ≡ Some row)

abbrev pub SaysStatics : Memory → Member → Row → Type 0
SaysStatics m w row = OfVersion m w.chain w.version (λ k v. v.statics ≡ Some row)

module _ (S : ℕ) (slots : Slots) (old : View) (registry : Registry) (counts : Counts) (m : Memory) (h : IsMemory S slots old registry counts m) (e : Ref) (w : Member) (a : IsMemberObject m e w) where
  pub entry-here : (x : Pos) → w.position ≡ Some x → IsEntryOf old m e w x
  entry-here x is = member-entry slots old registry counts m h.held e w x is a

  pub static-here : w.position ≡ None → IsStaticOf old m e w
  static-here is = member-static slots old registry counts m h.held e w is a

  module _ (x : Pos) (is : w.position ≡ Some x) (row : Row) (said : SaysRow m w x row) where
    entry-version : IsVersion (entry-here x is).version
    entry-version = let en = entry-here x is in version-is slots old registry counts m h.held w.chain w.version en.chain en.version en.there en.number

    -- the entry holds the row, which is one, and stands before the end
    pub entry-row : (entry-here x is).entry.row ≡ Some row
    entry-row = let en = entry-here x is in sym (seen-of x en.version.entries en.entry entry-version.ascend en.among en.position) ∙ said en.chain en.version en.there en.number

    entry-coded : IsRow row
    entry-coded = let en = entry-here x is in (coded_of old e row (inr (en.entry, en.held, entry-row))).ascending

    entry-inner : IsBefore x end_position
    entry-inner = let en = entry-here x is in before-end x en.version.entries row entry-version.ascend entry-version.ends (said en.chain en.version en.there en.number)

    -- no other row stands there
    pub one-said : (other : Row) → SaysRow m w x other → other ≡ row
    one-said other too = let en = entry-here x is in same_some other row (sym (too en.chain en.version en.there en.number) ∙ said en.chain en.version en.there en.number)

  -- the static row is the one that its version has
  pub static-row : (is : w.position ≡ None) (row : Row) → SaysStatics m w row → HoldsStatic old e row
  static-row is row said = let st = static-here is in subst (HoldsStatic old e) (same_some st.row row (sym st.statics ∙ said st.chain st.version st.there st.number)) st.held

  pub static-said : (is : w.position ≡ None) → SaysStatics m w (static-here is).row
  static-said is = let st = static-here is in of-version m w.chain w.version (λ k v. v.statics ≡ Some st.row) st.chain st.version st.there st.number st.statics

  module _ (id j : ℕ) (has : HasVersion m id j) (k : KeptChain) (c : Version) (there : chain_at m id ≡ Some k) (number : IsVersionAt k.chain.versions j c)
      (entry : (x : Pos) → w.position ≡ Some x → (row : Row) × SaysRow m w x row × OfVersion m id j (λ q v. joined_bytes x row v ≤ spare_of S m.region.usages) × FitsChanged S id j (row_joined x row) m × KeepsLast id j (row_joined x row) m)
      (statics : (row : Row) → w.position ≡ None → SaysStatics m w row → OfVersion m id j (λ q v. static_size (joined_onto v.statics row) ≤ spare_of S m.region.usages) × FitsChanged S id j (join_statics row) m) where
    -- there is room to join what stands there
    pub room-like-joined : (space : ℕ) → space ≡ S → HasRoomLike S old space e c
    room-like-joined space size = of w.position refl
      where
        of : (p : Option Pos) → w.position ≡ p → HasRoomLike S old space e c
        of (Some x) is =
            let q = entry x is in let en = entry-here x is in let spare = subst (λ (v : View). joined_bytes x q.0 c ≤ spare_of S v.usages) h.held.region (q.2 k c there number) in
            inl (
              en.entry,
              q.0,
              en.held,
              entry-row x is q.0 q.1,
              subst (λ y. IsBefore y end_position) (sym en.position) (entry-inner x is q.0 q.1),
              subst (λ y. HasRoomToJoin S old space y q.0 c) (sym en.position) (room-joined S slots old registry counts m h id j has k c there number space size x q.0 (entry-coded x is q.0 q.1) q.3 spare),
            )
        of None is =
            let st = static-here is in let q = statics st.row is (static-said is) in let spare = subst (λ (v : View). static_size (joined_onto c.statics st.row) ≤ spare_of S v.usages) h.held.region (q.0 k c there number) in
            let fits = static-fits S slots old registry counts m h id j has k c there number (join_statics st.row) st.row (coded_of old e st.row (inl st.held)).ascending refl q.1 in
            inr (st.row, st.held, record { fits = fits; spare = spare; inside = static-inside S space (joined_onto c.statics st.row) size fits })

    module _ (new : View) (kind : ChainKind) (same : kind ≡ k.chain.kind) (r : Ref)
        (joined : (y : Entry) (row : Row) → HoldsEntry old e y → y.row ≡ Some row → IsOffMemtable kind (member_at id j (Some y.position)) m
        → HoldsAfter slots new registry counts (λ n. IsVersionChanged id j (row_joined y.position row) (AtAlone (member_at id j (Some y.position))) m n × IsRenewed kind (member_at id j (Some y.position)) m.recency n.recency × IsMemberObject n r (member_at id j (Some y.position))))
        (set : (row : Row) → HoldsStatic old e row → IsOffMemtable kind (member_at id j None) m
        → HoldsAfter slots new registry counts (λ n. IsVersionChanged id j (join_statics row) (AtAlone (member_at id j None)) m n × IsRenewed kind (member_at id j None) m.recency n.recency × IsMemberObject n r (member_at id j None))) where
      -- the row of an entry was joined
      pub like-entry : (x : Pos) → w.position ≡ Some x → (row : Row) → SaysRow m w x row → HasBecome S slots new registry counts (λ n. IsMadeAnew id j (row_joined x row) (Some x) m n × IsMemberObject n r (member_at id j (Some x)))
      like-entry x is row said =
          let en = entry-here x is in let q = entry x is in let one = one-said x is row said q.0 q.1 in
          joined-here S slots old registry counts m h id j has new kind k c there number same x row r (not_end x (entry-inner x is row said)) (subst (λ z. FitsChanged S id j (row_joined x z) m) one q.3) (subst (λ z. KeepsLast id j (row_joined x z) m) one q.4)
          (subst (λ z. HoldsAfter slots new registry counts (λ n. IsVersionChanged id j (row_joined z row) (AtAlone (member_at id j (Some z))) m n × IsRenewed kind (member_at id j (Some z)) m.recency n.recency × IsMemberObject n r (member_at id j (Some z)))) en.position
          (joined en.entry row en.held (entry-row x is row said) (off-memtable S slots old registry counts m h id j has kind (Some en.entry.position) k there same)))

      -- a static row was
      pub like-statics : w.position ≡ None → (row : Row) → SaysStatics m w row → HasBecome S slots new registry counts (λ n. IsMadeAnew id j (join_statics row) None m n × IsMemberObject n r (member_at id j None))
      like-statics is row said = statics-here S slots old registry counts m h id j has new kind k c there number same (join_statics row) (λ n. IsMemberObject n r (member_at id j None)) (λ v. (refl, refl)) (statics row is said).1
          (set row (static-row is row said) (off-memtable S slots old registry counts m h id j has kind None k there same))

      -- whichever it was
      pub like-either : (n : Memory) × IsMemory S slots new registry counts n
      like-either = of w.position refl
        where
          of : (p : Option Pos) → w.position ≡ p → (n : Memory) × IsMemory S slots new registry counts n
          of (Some x) is = let q = entry x is in let it = like-entry x is q.0 q.1 in (it.0, it.1)
          of None is = let it = like-statics is (static-here is).row (static-said is) in (it.0, it.1)

-- ---- one change after another

put-put : {X : Type 0} (xs : List (Option X)) (n : ℕ) (a b : Option X) → put_at_number n a (put_at_number n b xs) ≡ put_at_number n a xs
put-put [] zero a b = refl
put-put [] (suc n) a b = ap (λ l. None ∷ l) (put-put [] n a b)
put-put (x ∷ xs) zero a b = refl
put-put (x ∷ xs) (suc n) a b = ap (λ l. x ∷ l) (put-put xs n a b)

on-both : (j : ℕ) (f g : Version → Version) (vs : List Version) → on_version j g (on_version j f vs) ≡ on_version j (λ v. g (f v)) vs
on-both j f g [] = refl
on-both zero f g (v ∷ vs) = refl
on-both (suc j) f g (v ∷ vs) = ap (λ l. v ∷ l) (on-both j f g vs)

both-chains : (id j : ℕ) (f g : Version → Version) (cs : List (Option KeptChain)) → on_chain id (on_shown (on_version_of j g)) (on_chain id (on_shown (on_version_of j f)) cs) ≡ on_chain id (on_shown (on_version_of j (λ v. g (f v)))) cs
both-chains id j f g cs =
    ap (λ o. put_at_number id (option_map (on_shown (on_version_of j g)) o) (on_chain id (on_shown (on_version_of j f)) cs)) (put-at cs id (option_map (on_shown (on_version_of j f)) (slice_index_or cs id None)))
    ∙ put-put cs id (option_map (on_shown (on_version_of j g)) (option_map (on_shown (on_version_of j f)) (slice_index_or cs id None))) (option_map (on_shown (on_version_of j f)) (slice_index_or cs id None)) ∙ ap (λ o. put_at_number id o cs) (mapped (slice_index_or cs id None))
  where
    mapped : (o : Option KeptChain) → option_map (on_shown (on_version_of j g)) (option_map (on_shown (on_version_of j f)) o) ≡ option_map (on_shown (on_version_of j (λ v. g (f v)))) o
    mapped None = refl
    mapped (Some k) = ap (λ vs. Some (on_shown (shown_with vs) k)) (on-both j f g k.chain.versions)

pub changed-both : (id j : ℕ) (f g : Version → Version) (m n o : Memory) → IsVersionChanged id j f Nowhere m n → IsVersionChanged id j g Nowhere n o → IsVersionChanged id j (λ v. g (f v)) Nowhere m o
changed-both id j f g m n o a b = record {
  chains = b.chains ∙ ap (on_chain id (on_shown (on_version_of j g))) a.chains ∙ both-chains id j f g m.chains;
  dropped = b.dropped ∙ a.dropped;
  counts = b.counts ∙ a.counts;
  still = still-then Nowhere m n o a.still b.still;
  region = unmoved-then m.region n.region o.region a.region b.region;
}

-- the version is there still, and is the changed one
pub number-after : (j : ℕ) (f : Version → Version) (k : KeptChain) (c : Version) → IsVersionAt k.chain.versions j c → IsVersionAt (on_version j f k.chain.versions) j (f c)
number-after j f k c number = record { older = number.older; newer = number.newer; split = on-is k.chain.versions j c f number; number = number.number }

pub chain-after : (m n : Memory) (id j : ℕ) (f : Version → Version) → IsVersionChanged id j f Nowhere m n → (k : KeptChain) → chain_at m id ≡ Some k → chain_at n id ≡ Some (on_shown (on_version_of j f) k)
chain-after m n id j f changed k there = ap (λ cs. slice_index_or cs id None) changed.chains ∙ put-at m.chains id (option_map (on_shown (on_version_of j f)) (chain_at m id)) ∙ ap (option_map (on_shown (on_version_of j f))) there

module _ (m n : Memory) (id j : ℕ) (f : Version → Version) (changed : IsVersionChanged id j f Nowhere m n) (has : HasVersion m id j) where
  abbrev was : (k : KeptChain) × (v : Version) × (chain_at m id ≡ Some k) × IsVersionAt k.chain.versions j v
  was = found-version m id j has

  chain-then : chain_at n id ≡ Some (on_shown (on_version_of j f) was.0)
  chain-then = chain-after m n id j f changed was.0 was.2

  number-then : IsVersionAt (on_version j f was.0.chain.versions) j (f was.1)
  number-then = number-after j f was.0 was.1 was.3

  pub has-then : HasVersion n id j
  has-then = there_at (λ k. j < length k.chain.versions) (chain_at n id) (on_shown (on_version_of j f) was.0) (number-low (on_version j f was.0.chain.versions) j (f was.1) number-then) chain-then

  pub of-then : (P : KeptChain → Version → Type 0) → OfVersion m id j (λ k v. P (on_shown (on_version_of j f) k) (f v)) → OfVersion n id j P
  of-then P each = of-version n id j P (on_shown (on_version_of j f) was.0) (f was.1) chain-then number-then (each was.0 was.1 was.2 was.3)

-- after two splits an entry stands at both positions
pub split-twice : (x y : Pos) (es : List Entry) → EndsWithDummy es → HasEntryAt x (gap_split y (gap_split x es)) × HasEntryAt y (gap_split y (gap_split x es))
split-twice x y es ends =
    let first = split-ends x es ends in
    (has-split y x (gap_split x es) (stands-has x (gap_split x es) (split-stands x es (position-reached x es ends))), stands-has y (gap_split y (gap_split x es)) (split-stands y (gap_split x es) (position-reached y (gap_split x es) first)))

-- ---- the last entry of a version under update

-- where it is listed it is so after anything that is done
pub keeps-listed : (m : Memory) (id j : ℕ) (f : Version → Version) → LastIsListed id m → KeepsLast id j f m
keeps-listed m id j f last = of (chain_at m id) refl
  where
    of : (o : Option KeptChain) → chain_at m id ≡ o → IfSome o (λ k. (v : Version) → IsVersionAt k.chain.versions j v → IsUnderUpdate k.chain j → (at : Option Pos) → IsLastInner v at → IsLastInner (f v) at ⊎ Contains m.recency (member_at id j at))
    of None e = tt
    of (Some k) e = λ v number under at inner. inr (last k j v at e under number inner)

inner-before : (front : List Entry) (e end : Entry) → Ascend (front ++ (e ∷ end ∷ [])) → EndsWithDummy (front ++ (e ∷ end ∷ [])) → IsBefore e.position end_position
inner-before [] e end ascend ends = subst (IsBefore e.position) ends.0 ascend.0
inner-before (f ∷ []) e end ascend ends = inner-before [] e end ascend.1 ends
inner-before (f ∷ g ∷ front) e end ascend ends = inner-before (g ∷ front) e end ascend.1 ends

module _ (S : ℕ) (slots : Slots) (old : View) (registry : Registry) (counts : Counts) (m : Memory) (h : IsMemory S slots old registry counts m) (id j : ℕ) (last : LastIsListed id m) (x : Pos) (inner : x ≢ end_position) (n : Memory)
    (changed : IsVersionChanged id j (λ c. with_entries (gap_split x c.entries) c) Nowhere m n) (list : OfVersion m id j (λ k v. IsRenewedWhereNone k.chain.kind v (member_at id j (Some x)) m.recency n.recency)) (has : HasVersion m id j) where
  module _ (k : KeptChain) (c : Version) (there : chain_at m id ≡ Some k) (number : IsVersionAt k.chain.versions j c) (under : IsUnderUpdate k.chain j) where
    cached : k.chain.kind ≡ Cache
    cached = (at_if (chain_at m id) (h.sound id) there).cached under.0
      where
        at_if : (o : Option KeptChain) → IfSome o (λ q. IsSoundChain q.chain) → o ≡ Some k → IsSoundChain k.chain
        at_if o sound e = subst (λ (p : Option KeptChain). IfSome p (λ q. IsSoundChain q.chain)) e sound

    -- each of its entries before the end is listed
    each-listed : (at : Option Pos) → at ≢ Some end_position → HasObject c at → Contains m.recency (member_at id j at)
    each-listed at ne object = elim (listed-decided m.recency (member_at id j at)) [
      | inl on ↦ on
      | inr off ↦ h.rule.complete (member_at id j at) (there_at (λ q. MustBeListed q.chain j at) (chain_at m id) k
          (record { cached = cached; version = c; number = number; object = object; inner = ne; passed = λ u l. off (last k j c at there u number l) }) there)
    ]

    -- and so it is after a split, the entry there too
    module _ (ne : Some x ≢ Some end_position) where
      after-split : (at : Option Pos) → at ≢ Some end_position → HasObject c at ⊎ (at ≡ Some x) → Contains n.recency (member_at id j at)
      after-split at inside has_one = elim (listed-decided m.recency (member_at id j (Some x))) [
        | inl on ↦ let same = (list k c there number).there (object on) in
            subst (λ l. Contains l (member_at id j at)) (sym same) (elim has_one [ inl was_there ↦ each-listed at inside was_there | inr here ↦ subst (λ y. Contains m.recency (member_at id j y)) (sym here) on ])
        | inr off ↦ made off (subst (λ y. IsRenewed y (member_at id j (Some x)) m.recency n.recency) cached ((list k c there number).made (λ object_there. off (each-listed (Some x) ne object_there))))
      ]
        where
          object : Contains m.recency (member_at id j (Some x)) → HasObject c (Some x)
          object on = let p = at_there (λ q. MayBeListed q.chain j (Some x)) (chain_at m id) k (h.rule.members (member_at id j (Some x)) on) there in subst (λ v. HasObject v (Some x)) (one-at k.chain.versions j p.version c p.number number) p.object

          made : (Contains m.recency (member_at id j (Some x)) → ⊥) → IsRenewed Cache (member_at id j (Some x)) m.recency n.recency → Contains n.recency (member_at id j at)
          made off (rest, out, is) = subst (λ l. Contains l (member_at id j at)) (sym is) (elim has_one [
            | inl was_there ↦ elem-left rest (member_at id j (Some x) ∷ []) (member_at id j at) (elim out [
              | inl same ↦ subst (λ l. Contains l (member_at id j at)) (sym same.1) (each-listed at inside was_there)
              | inr cut ↦ absurd (off (subst (λ l. Contains l (member_at id j (Some x))) (sym cut.2) (elem-here cut.0 cut.1 (member_at id j (Some x)))))
            ])
            | inr here ↦ subst (λ y. Contains (rest ++ (member_at id j (Some x) ∷ [])) (member_at id j y)) (sym here) (elem-here rest [] (member_at id j (Some x)))
          ])

  -- so the last entry of the split version is listed, whatever is done to it
  pub keeps-split-last : (f : Version → Version) → KeepsLast id j f n
  keeps-split-last f =
      let a = was m n id j (λ c. with_entries (gap_split x c.entries) c) changed has in
      subst (λ (o : Option KeptChain). IfSome o (λ k. (v : Version) → IsVersionAt k.chain.versions j v → IsUnderUpdate k.chain j → (at : Option Pos) → IsLastInner v at → IsLastInner (f v) at ⊎ Contains n.recency (member_at id j at)))
      (sym (chain-then m n id j (λ c. with_entries (gap_split x c.entries) c) changed has)) (each a.0 a.1 a.2 a.3)
    where
      each : (k : KeptChain) (c : Version) → chain_at m id ≡ Some k → IsVersionAt k.chain.versions j c → (v : Version) → IsVersionAt (on_version j (λ d. with_entries (gap_split x d.entries) d) k.chain.versions) j v
          → (k.chain.updating ≡ true) × (suc j ≡ length (on_version j (λ d. with_entries (gap_split x d.entries) d) k.chain.versions)) → (at : Option Pos) → IsLastInner v at → IsLastInner (f v) at ⊎ Contains n.recency (member_at id j at)
      each k c there number v on under at l =
          let one = one-at (on_version j (λ d. with_entries (gap_split x d.entries) d) k.chain.versions) j v (with_entries (gap_split x c.entries) c) on
          (number-after j (λ d. with_entries (gap_split x d.entries) d) k c number) in
          let is = split-is x c (version-is slots old registry counts m h.held id j k c there number) in
          let entries : gap_split x c.entries ≡ l.0 ++ (l.1 ∷ l.2 ∷ []) = ap (λ (z : Version). z.entries) (sym one) ∙ l.3 in
          let before = inner-before l.0 l.1 l.2 (subst Ascend entries is.ascend) (subst EndsWithDummy entries is.ends) in
          let here : HasObject (with_entries (gap_split x c.entries) c) (Some l.1.position) = subst (HasEntryAt l.1.position) (sym entries) (at-among (l.0 ++ (l.1 ∷ l.2 ∷ [])) l.1 (elem-here l.0 (l.2 ∷ []) l.1)) in
          inr (subst (λ y. Contains n.recency (member_at id j y)) (sym l.4) (after-split k c there number (under.0, under.1 ∙ length-on j (λ d. with_entries (gap_split x d.entries) d) k.chain.versions) (λ e. inner (same_some x end_position e)) (Some l.1.position)
          (λ e. before-differs l.1.position end_position before (same_some l.1.position end_position e)) (only-split c x (Some l.1.position) here)))

-- where an entry stands before another one it is not the end dummy
pub before-inner : (x y : Pos) → IsBefore x y → x ≢ end_position
before-inner x y before e =
    let after : pos_cmp y end_position ≡ Greater = ap (pos_cmp y) (sym e) ∙ turn_to x y Less before in let clash : true ≡ false = ap is_gt (sym after) ∙ last_pos-greatest y in cc

-- a second split makes an entry where there was none before the first one
pub split-both : (kind : ChainKind) (c : Version) (x y : Pos) (w : Member) → w.position ≡ Some y → x ≢ y → (old new : List Member) → IsRenewedWhereNone kind (with_entries (gap_split x c.entries) c) w old new → IsRenewedWhereNone kind c w old new
split-both kind c x y w is ne old new r = record {
  made = λ none. r.made (λ object. elim (only-split c x w.position object) [ inl there ↦ none there | inr here ↦ ne (same_some x y (sym here ∙ is)) ]);
  there = λ object. r.there (keeps-split c x w.position object);
}
