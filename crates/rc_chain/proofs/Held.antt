-- What the object at a place holds, where region, recency list, table and counts hold a memory.
use Rattle.std.proofs.Common.{◌≡◌, ℕ, Option, Some, None, sym, subst}
use Rattle.std.specs.Prelude.{IsSomeAnd}
use Rattle.lsa_list.specs.declared.recency.List.{List as Slots}
use Rattle.lsa_region.specs.Region.{View}
use Rattle.lsa_store.specs.declared.place.Ref.{Ref}
use Rattle.rc_position.specs.declared.positions.Pos.{Pos}
use Rattle.rc_core.specs.Version.{Version}
use Rattle.rc_registry.specs.Registry.{Registry}
use Rattle.rc_memory.specs.declared.counts.Counts.{Counts}
use Rattle.rc_memory.specs.Kept.{HoldMemory}
use Rattle.rc_memory.specs.Memory.{KeptChain, Member, Memory, IsMemberObject, IsVersionAt, chain_at}
use Rattle.rc_memory.specs.Changes.{member_at}
use Rattle.rc_recency.specs.laws.Held.{version-of-member}
use Rattle.rc_recency.specs.laws.Placed.{placed-entry, placed-static}
use Rattle.rc_chain.specs.Held.{HoldsPlaced, IsHeldAt}

module _ (slots : Slots) (v : View) (registry : Registry) (counts : Counts) (m : Memory) (h : HoldMemory slots v registry counts m) (id j : ℕ) where
  holds : (at : Option Pos) (r : Ref) → IsMemberObject m r (member_at id j at) → (k : KeptChain) × (c : Version) × (chain_at m id ≡ Some k) × IsVersionAt k.chain.versions j c × HoldsPlaced v r at c
  holds None r here = let o = version-of-member slots v registry counts m h id j None r here in
      (o.0, here.version.version, o.1.chain, o.1.number, placed-static slots v registry counts m id j o.0 here.version.version here.version.object o.1 r here)
  holds (Some x) r here = let o = version-of-member slots v registry counts m h id j (Some x) r here in
      (o.0, here.version.version, o.1.chain, o.1.number, placed-entry slots v registry counts m id j o.0 here.version.version here.version.object o.1 r x here)

pub held-at : (slots : Slots) (v : View) (registry : Registry) (counts : Counts) (m : Memory) → HoldMemory slots v registry counts m → (r : Ref) (w : Member) → IsMemberObject m r w → IsHeldAt m r w
held-at slots v registry counts m h r w here =
    let o = holds slots v registry counts m h w.chain w.version w.position r here in
    subst (λ (x : Option KeptChain). IsSomeAnd x (λ k. (c : Version) × IsVersionAt k.chain.versions w.version c × HoldsPlaced m.region r w.position c)) (sym o.2)
    (o.1, o.3, subst (λ z. HoldsPlaced z r w.position o.1) (sym h.region) o.4)
