-- A memory after an object left the list, its version changed, and what was made came to the back of the list.
use Rattle.std.proofs.Common.{◌≡◌, ℕ, ◌+◌, ◌≤◌, List, Option, Some, None, refl, sym, ap, subst}
use Rattle.std.specs.Prelude.{Contains}
use Rattle.rc_position.specs.declared.positions.Pos.{Pos}
use Rattle.lsa_pool.specs.Room.{spare_of}
use Rattle.lsa_store.specs.declared.place.Ref.{Ref}
use Rattle.lsa_region.specs.Region.{View, IsSummed, IsWell}
use Rattle.lsa_list.specs.declared.recency.List.{List as Slots}
use Rattle.rc_core.specs.Change.{gap_split}
use Rattle.rc_core.specs.Continuity.{with_entries}
use Rattle.rc_core.specs.declared.entries.ChainKind.{ChainKind}
use Rattle.rc_core.specs.Version.{Version}
use Rattle.rc_object.specs.Objects.{HasRoomFor}
use Rattle.rc_version.specs.Versions.{IsEntryFound, IsSplit, IsUnlisted, IsVersionOf}
use Rattle.rc_version.specs.laws.Found.{split-standing}
use Rattle.rc_memory.specs.Partitions.{standing}
use Rattle.rc_registry.specs.Registry.{Registry}
use Rattle.rc_memory.specs.declared.counts.Counts.{Counts}
use Rattle.rc_memory.specs.Memory.{KeptChain, Member, Memory, IsMemberObject, IsOfVersion, listed_as}
use Rattle.rc_memory.specs.Changes.{IsRenewed, IsRenewedWhereNone, IsVersionChanged, IsWithout, Nowhere, member_at}
use Rattle.rc_memory.specs.Kept.{HoldMemory}
use Rattle.rc_memory.specs.laws.Listed.{unlisted-at}
use Rattle.rc_recency.specs.Holding.{HoldsAfter, IsHeldVersion, IsOffMemtable, IsRelisted, IsTakenOff}
use Rattle.rc_recency.specs.calls.Holding.{list_with}
use Rattle.rc_recency.proofs.Changed.{version-unchanged}
use Rattle.rc_recency.specs.laws.Held.{entry-found, own-member, standing-as, stands}
use Rattle.rc_recency.proofs.Made.{IsLater, IsLaterWith, later-split}
use Rattle.rc_recency.proofs.Relisted.{held-listed, listed-then, made-anew, member-listed, renewed-none, then-listed}

-- room is told by the segments' books
pub room-kept : (S : ℕ) (old mid : View) (size space needed : ℕ) → mid.usages ≡ old.usages → HasRoomFor S old size space needed → HasRoomFor S mid size space needed
room-kept S old mid size space needed same room = record { fits = room.fits; spare = subst (λ us. size ≤ spare_of S us) (sym same) room.spare; inside = room.inside }

-- what is spare is as it was beside other links
pub spare-kept : (S : ℕ) (slots : Slots) (old mid next last : View) (bytes : ℕ) → IsRelisted slots old mid → IsRelisted slots next last → spare_of S mid.usages ≤ spare_of S next.usages + bytes → spare_of S old.usages ≤ spare_of S last.usages + bytes
spare-kept S slots old mid next last bytes first second less =
    subst (λ us. spare_of S us ≤ spare_of S last.usages + bytes) first.objects.usages (subst (λ us. spare_of S mid.usages ≤ spare_of S us + bytes) (sym second.objects.usages) less)

-- ---- what stands once a place left the list

module _ (slots : Slots) (old mid : View) (registry : Registry) (counts : Counts) (m : Memory) (id j : ℕ) (k : KeptChain) (c : Version) (v : Ref) (h : IsHeldVersion slots old registry counts m id j k c v)
    (place : Option Pos) (t : IsTakenOff slots mid registry counts m (member_at id j place)) where
  pub held-mid : IsHeldVersion slots mid registry counts (listed_as t.list mid m) id j k c v
  held-mid = held-listed slots old mid registry counts m id j k c v t.list h t.held

  abbrev pub mid-entries : List Ref
  mid-entries = (standing-as slots mid registry counts (listed_as t.list mid m) id j k c v held-mid).entries

  pub stands-mid : IsVersionOf mid v (standing-as slots mid registry counts (listed_as t.list mid m) id j k c v held-mid).entries c
  stands-mid = stands slots mid registry counts (listed_as t.list mid m) id j k c v held-mid

  -- its object is in no list
  pub unlisted-mid : (r : Ref) → IsOfVersion mid (standing v (standing-as slots mid registry counts (listed_as t.list mid m) id j k c v held-mid).entries c) place r → IsUnlisted mid r
  unlisted-mid r o = unlisted-at slots mid registry counts (listed_as t.list mid m) t.held r (member_at id j place) (own-member slots mid registry counts (listed_as t.list mid m) id j k c v held-mid place r o) t.off

  module _ (f : Version → Version) (these : Member → Type 0) (relisted : IsRelisted slots old mid) (next : View) where
    -- the version changed, and the list is that without the place
    pub held-without : IsLater slots next registry counts id j f these (listed_as t.list mid m) → HoldsAfter slots next registry counts (λ n. IsVersionChanged id j f these m n × IsWithout (member_at id j place) m.recency n.recency)
    held-without l = (l.memory, l.held, (listed-then slots registry counts id j f these old mid m l.memory t.list h.held relisted t.held.well l.changed, subst (IsWithout (member_at id j place) m.recency) (sym l.recency) t.without))

    module _ (r : Ref) (l : IsLaterWith slots next registry counts id j f these (listed_as t.list mid m) r (member_at id j place)) where
      -- what was made is not listed yet
      pub off-later : Contains l.0.memory.recency (member_at id j place) → ⊥
      off-later on = t.off (subst (λ ws. Contains ws (member_at id j place)) l.0.recency on)

      -- and comes to the back
      pub held-renewed : (kind : ChainKind) (last : View) → IsRelisted slots next last → HoldMemory slots last registry counts (listed_as (list_with kind (member_at id j place) l.0.memory.recency) last l.0.memory) → IsOffMemtable kind (member_at id j place) m
          → HoldsAfter slots last registry counts (λ n. IsVersionChanged id j f these m n × IsRenewed kind (member_at id j place) m.recency n.recency × IsMemberObject n r (member_at id j place))
      held-renewed kind last second holds off =
          made-anew slots old mid next last registry counts m l.0.memory (member_at id j place) r kind id j f these h.held relisted t l.0.changed l.0.recency l.0.held l.1 second holds off

-- ---- a split

module _ (slots : Slots) (old : View) (registry : Registry) (counts : Counts) (m : Memory) (id j : ℕ) (k : KeptChain) (c : Version) (v : Ref) (h : IsHeldVersion slots old registry counts m id j k c v) (x : Pos) (kind : ChainKind) where
  -- where an entry stands there already
  pub split-there : (r : Ref) → IsEntryFound old (standing-as slots old registry counts m id j k c v h).entries c x (Some r)
      → HoldsAfter slots old registry counts (λ n. IsVersionChanged id j (λ d. with_entries (gap_split x d.entries) d) Nowhere m n × IsRenewedWhereNone kind c (member_at id j (Some x)) m.recency n.recency × IsMemberObject n r (member_at id j (Some x)))
  split-there r found = (
    m,
    h.held,
    (
      version-unchanged slots old registry counts m id j k c v h (λ d. with_entries (gap_split x d.entries) d) (ap (λ es. with_entries es c) (split-standing x c.entries (stands slots old registry counts m id j k c v h).version.ascend found.2)),
      record { made = λ none. absurd (none found.2); there = λ has. refl },
      own-member slots old registry counts m id j k c v h (Some x) r (found.0, found.1),
    ),
  )

  module _ (S : ℕ) (mid : View) (r : Ref) (none : IsEntryFound old (standing-as slots old registry counts m id j k c v h).entries c x None) (s : IsSplit S old mid v x r) (summed : IsSummed old) (well : IsWell mid) (summed_mid : IsSummed mid) where
    pub split-made : IsLaterWith slots mid registry counts id j (λ d. with_entries (gap_split x d.entries) d) Nowhere m r (member_at id j (Some x))
    split-made = later-split slots old mid registry counts m id j k c v h s.kept summed well summed_mid S x r s

    off_before : Contains m.recency (member_at id j (Some x)) → ⊥
    off_before = entry-found slots old registry counts m id j k c v h x None none

    pub split-off : Contains split-made.0.memory.recency (member_at id j (Some x)) → ⊥
    split-off on = off_before (subst (λ ws. Contains ws (member_at id j (Some x))) split-made.0.recency on)

    -- where one was made
    pub split-pushed : (new : View) → IsRelisted slots mid new → HoldMemory slots new registry counts (listed_as (list_with kind (member_at id j (Some x)) split-made.0.memory.recency) new split-made.0.memory)
        → HoldsAfter slots new registry counts (λ n. IsVersionChanged id j (λ d. with_entries (gap_split x d.entries) d) Nowhere m n × IsRenewedWhereNone kind c (member_at id j (Some x)) m.recency n.recency × IsMemberObject n r (member_at id j (Some x)))
    split-pushed new relisted holds = let l = split-made.0 in let list = list_with kind (member_at id j (Some x)) l.memory.recency in (
      listed_as list new l.memory,
      holds,
      (
        then-listed slots registry counts id j (λ d. with_entries (gap_split x d.entries) d) Nowhere mid new m l.memory list l.held relisted holds.well l.changed,
        record {
          made = λ no. subst (λ ws. IsRenewed kind (member_at id j (Some x)) m.recency (list_with kind (member_at id j (Some x)) ws)) (sym l.recency) (renewed-none kind (member_at id j (Some x)) m.recency off_before);
          there = λ has. absurd (none.1 has);
        },
        member-listed slots mid new registry counts l.memory list l.held relisted holds.well r (member_at id j (Some x)) split-made.1,
      ),
    )
