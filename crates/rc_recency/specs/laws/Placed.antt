-- What an object at a place of a version holds, and that a memtable has none that is listed.
use Rattle.std.proofs.Common.{◌≡◌, ℕ, List, [], ◌∷◌, Option, Some, None, inl, inr, sym, ◌∙◌, subst}
use Rattle.std.specs.Prelude.{Contains}
use Rattle.rc_cell.specs.declared.rows.Row.{Row}
use Rattle.rc_position.specs.declared.positions.Pos.{Pos}
use Rattle.lsa_store.specs.declared.place.Ref.{Ref}
use Rattle.lsa_region.specs.Region.{View}
use Rattle.lsa_list.specs.declared.recency.List.{List as Slots}
use Rattle.lsa_tree.specs.laws.Orders.{stands-once}
use Rattle.rc_core.specs.declared.entries.ChainKind.TheVariants.{Cache, Memtable}
use Rattle.rc_core.specs.declared.entries.Entry.{Entry}
use Rattle.rc_core.specs.Version.{Version}
use Rattle.rc_object.specs.Objects.{HoldsEntry, HoldsStatic}
use Rattle.rc_version.specs.Versions.{HoldEntries}
use Rattle.rc_version.specs.laws.Objects.{holds-stands}
use Rattle.rc_memory.specs.Apart.{static-holds}
use Rattle.rc_memory.specs.Lists.{elem-cases, elem-first, elem-later, elem-none}
use Rattle.rc_registry.specs.Registry.{Registry}
use Rattle.rc_memory.specs.declared.counts.Counts.{Counts}
use Rattle.rc_memory.specs.Memory.{KeptChain, Memory, IsMemberObject, chain_at}
use Rattle.rc_memory.specs.Recency.{IsRecency, MayBeListed}
use Rattle.rc_memory.specs.Changes.{member_at}
use Rattle.rc_memory.specs.laws.Recent.{at_there}
use Rattle.rc_recency.specs.Holding.{IsHeldVersion, IsOffMemtable}
use Rattle.rc_recency.specs.laws.Held.{own-object, standing-as, stands}

entry_of_refs : (v : View) (refs : List Ref) (es : List Entry) (r : Ref) → HoldEntries v refs es → Contains refs r → (y : Entry) × Contains es y × HoldsEntry v r y
entry_of_refs v [] es r h on = absurd (elem-none r on)
entry_of_refs v (q ∷ refs) [] r h on = absurd h
entry_of_refs v (q ∷ refs) (e ∷ es) r h on = elim (elem-cases q r refs on) [
  | inl same ↦ (e, elem-first e es, subst (λ z. HoldsEntry v z e) same h.0)
  | inr later ↦ let k = entry_of_refs v refs es r h.1 later in (k.0, elem-later e k.0 es k.1, k.2)
]

module _ (slots : Slots) (v : View) (registry : Registry) (counts : Counts) (m : Memory) (id j : ℕ) (k : KeptChain) (c : Version) (n : Ref) (h : IsHeldVersion slots v registry counts m id j k c n) (r : Ref) where
  -- an object at a position holds the entry of the version there
  pub placed-entry : (x : Pos) → IsMemberObject m r (member_at id j (Some x)) → (y : Entry) × Contains c.entries y × (y.position ≡ x) × HoldsEntry v r y
  placed-entry x here =
      let own = own-object slots v registry counts m id j k c n h (Some x) r here in
      let y = entry_of_refs v (standing-as slots v registry counts m id j k c n h).entries c.entries r (stands slots v registry counts m id j k c n h).entries own.0 in
      (y.0, y.1, stands-once v r y.0.position x (holds-stands v r y.0 y.2) own.1, y.2)

  -- one at no position holds its static row
  pub placed-static : IsMemberObject m r (member_at id j None) → (row : Row) × (c.statics ≡ Some row) × HoldsStatic v r row
  placed-static here = static-holds v n r c.statics (stands slots v registry counts m id j k c n h).statics (own-object slots v registry counts m id j k c n h None r here)

-- where the recency list keeps its rule it has nothing of a memtable
pub off-memtable : (m : Memory) (id j : ℕ) (at : Option Pos) (k : KeptChain) → IsRecency m → chain_at m id ≡ Some k → IsOffMemtable k.chain.kind (member_at id j at) m
off-memtable m id j at k rule there is on =
    let may = at_there (λ x. MayBeListed x.chain j at) (chain_at m id) k (rule.members (member_at id j at) on) there in
    let clash : Memtable ≡ Cache = sym is ∙ may.cached in cc
