-- A memory after the recency list changed, and after a version of a chain changed as well.
use Rattle.std.proofs.Common.{◌≡◌, ◌≢◌, ℕ, zero, suc, List, [], ◌∷◌, ◌++◌, Some, None, inl, inr, refl, sym, ◌∙◌, subst, arith}
use Rattle.std.specs.Prelude.{Contains}
use Rattle.lsa_store.specs.declared.place.Ref.{Ref}
use Rattle.lsa_region.specs.declared.end.End.{End}
use Rattle.lsa_region.specs.declared.end.End.TheVariants.{Obj}
use Rattle.lsa_region.specs.Region.{View, link_of, IsWell, SameObjects}
use Rattle.lsa_list.specs.declared.recency.List.{List as Slots}
use Rattle.lsa_list.specs.Recency.{HasRecency, IsElsewhere, IsList}
use Rattle.lsa_list.specs.laws.Lists.{listed-set}
use Rattle.rc_core.specs.declared.entries.ChainKind.{ChainKind}
use Rattle.rc_core.specs.declared.entries.ChainKind.TheVariants.{Cache, Memtable}
use Rattle.rc_core.specs.Version.{Version}
use Rattle.rc_version.specs.Versions.{IsUnlisted}
use Rattle.rc_memory.specs.Apart.{row-recency}
use Rattle.rc_memory.specs.Lists.{elem-here, elem-split}
use Rattle.rc_registry.specs.Registry.{Registry}
use Rattle.rc_memory.specs.declared.counts.Counts.{Counts}
use Rattle.rc_memory.specs.Memory.{KeptChain, Member, Memory, IsMemberObject, IsObjectAt, listed_as}
use Rattle.rc_memory.specs.Changes.{IsRenewed, IsVersionChanged, IsWithout}
use Rattle.rc_memory.specs.Kept.{HoldMemory}
use Rattle.rc_memory.specs.laws.Listed.{held-pushed, held-taken, list-at, unlisted-at}
use Rattle.rc_memory.specs.laws.Listing.{listed-decided}
use Rattle.rc_memory.specs.laws.Places.{version-there}
use Rattle.rc_memory.specs.laws.Standing.{row-of}
use Rattle.rc_memory.specs.laws.Still.{changed-listed, listed-changed, still-listed, unmoved-listed}
use Rattle.rc_recency.specs.Holding.{HoldsAfter, IsHeldVersion, IsOffMemtable, IsRelisted, IsTakenOff}
use Rattle.rc_recency.specs.calls.Holding.{list_with}

-- nothing changed
pub relisted-itself : (slots : Slots) (v : View) → IsRelisted slots v v
relisted-itself slots v = record {
  links = λ e far. refl;
  objects = record { bodies = λ r. refl; ends = λ e there. there; gone = λ e there. there; spots = λ r. refl; slots = refl; usages = refl; epoch = refl; moved = refl; compacted = refl };
}

module _ (slots : Slots) (v : View) (registry : Registry) (counts : Counts) (m : Memory) (h : HoldMemory slots v registry counts m) where
  -- an object at a place, in the region
  pub at-place : (r : Ref) (w : Member) → IsMemberObject m r w → IsObjectAt v m.standing r w
  at-place r w a = subst (λ z. IsObjectAt z m.standing r w) h.region a

  -- it has the links of the recency list
  pub recency-at : (r : Ref) (w : Member) → IsMemberObject m r w → HasRecency v r
  recency-at r w here =
      let a = at-place r w here in
      row-recency v a.version (version-there slots v h.well m.standing h.listed h.stands w.chain w.version a.partition a.version a.chain a.number) r (row-of v a.version w.position r a.object)

  -- where a link of these is unset it is not listed
  pub off-list : (r : Ref) (w : Member) → IsMemberObject m r w → link_of v (Obj r 0) ≡ None → Contains m.recency w → ⊥
  off-list r w here unset on =
      let k = elem-split m.recency w on in let l = list-at slots v registry counts m h k.0 w k.1 r k.2 (at-place r w here) in
      (listed-set slots v h.well l.0 l.1 r l.2 (Obj r 0) unset).0 refl

-- ---- an object taken out and put at the back

module _ (slots : Slots) (v : View) (registry : Registry) (counts : Counts) (m : Memory) (h : HoldMemory slots v registry counts m) (r : Ref) (w : Member) (here : IsMemberObject m r w) where
  -- an object whose link is set is listed, and then it may be taken out
  pub set-listed : (e : End) → link_of v (Obj r 0) ≡ Some e → Contains m.recency w
  set-listed e is = elim (listed-decided m.recency w) [
    | inl on ↦ on
    | inr off ↦ absurd (let clash : None ≡ Some e = sym (unlisted-at slots v registry counts m h r w (at-place slots v registry counts m h r w here) off 0 (omega arith)) ∙ is in cc)
  ]

  pub list-there : Contains m.recency w → (xs : List Ref) × (ys : List Ref) × IsList slots v (xs ++ (r ∷ ys))
  list-there on = let k = elem-split m.recency w on in list-at slots v registry counts m h k.0 w k.1 r k.2 (at-place slots v registry counts m h r w here)

  pub unset-unlisted : link_of v (Obj r 0) ≡ None → IsUnlisted v r
  unset-unlisted unset = unlisted-at slots v registry counts m h r w (at-place slots v registry counts m h r w here) (off-list slots v registry counts m h r w here unset)

  pub taken-none : link_of v (Obj r 0) ≡ None → IsTakenOff slots v registry counts m w
  taken-none unset = let off = off-list slots v registry counts m h r w here unset in
      record { list = m.recency; held = subst (λ z. HoldMemory slots v registry counts (listed_as m.recency z m)) h.region h; without = inl (off, refl); off = off }

pub both-unset : (v : View) (r : Ref) → link_of v (Obj r 0) ≡ None → link_of v (Obj r 1) ≡ None → IsUnlisted v r
both-unset v r a b zero low = a
both-unset v r a b (suc zero) low = b
both-unset v r a b (suc (suc field)) low = absurd (omega (arith, low))

module _ (slots : Slots) (old new : View) (registry : Registry) (counts : Counts) (m : Memory) (h : HoldMemory slots old registry counts m)
    (elsewhere : (e : End) → IsElsewhere slots old e → link_of new e ≡ link_of old e) (objects : SameObjects old new) (well : IsWell new) (r : Ref) (w : Member) (here : IsMemberObject m r w) where
  pub taken-off : Contains m.recency w → ((xs ys : List Ref) → IsList slots old (xs ++ (r ∷ ys)) → IsList slots new (xs ++ ys)) → link_of new (Obj r 0) ≡ None → link_of new (Obj r 1) ≡ None → ((e : End) → link_of old e ≡ None → link_of new e ≡ None)
      → IsTakenOff slots new registry counts m w
  taken-off on removed first second unset =
      let k = elem-split m.recency w on in
      let held = held-taken slots old new registry counts m h elsewhere objects well r k.0 w k.1 k.2 (at-place slots old registry counts m h r w here) removed first second unset in
      let still = still-listed slots old new registry counts m h elsewhere objects well (k.0 ++ k.1) in
      record { list = k.0 ++ k.1; held = held; without = inr (k.0, k.1, k.2, refl); off = off-list slots new registry counts (listed_as (k.0 ++ k.1) new m) held r w (still.objects r w (λ t. t) here) first }

  pub pushed-back : ((xs : List Ref) → IsList slots old xs → IsList slots new (xs ++ (r ∷ []))) → ((e : End) → link_of old e ≡ None → e ≢ Obj r 0 → e ≢ Obj r 1 → link_of new e ≡ None) → HoldMemory slots new registry counts (listed_as (m.recency ++ (w ∷ [])) new m)
  pushed-back pushed unset = held-pushed slots old new registry counts m h elsewhere objects well r w (at-place slots old registry counts m h r w here) pushed unset

-- ---- a version changed, before the list did and after it

module _ (slots : Slots) (registry : Registry) (counts : Counts) (id j : ℕ) (f : Version → Version) (these : Member → Type 0) where
  pub listed-then : (old mid : View) (m n : Memory) (list : List Member) → HoldMemory slots old registry counts m → IsRelisted slots old mid → IsWell mid → IsVersionChanged id j f these (listed_as list mid m) n → IsVersionChanged id j f these m n
  listed-then old mid m n list h relisted well =
      listed-changed id j f these m n list mid (still-listed slots old mid registry counts m h relisted.links relisted.objects well list) (unmoved-listed slots old mid registry counts m h relisted.links relisted.objects well list)

  pub then-listed : (mid new : View) (m n : Memory) (list : List Member) → HoldMemory slots mid registry counts n → IsRelisted slots mid new → IsWell new → IsVersionChanged id j f these m n → IsVersionChanged id j f these m (listed_as list new n)
  then-listed mid new m n list h relisted well c =
      changed-listed id j f these m n list new c (still-listed slots mid new registry counts n h relisted.links relisted.objects well list) (unmoved-listed slots mid new registry counts n h relisted.links relisted.objects well list)

-- an object stands where it stood beside another recency list
pub member-listed : (slots : Slots) (old new : View) (registry : Registry) (counts : Counts) (m : Memory) (list : List Member) → HoldMemory slots old registry counts m → IsRelisted slots old new → IsWell new → (r : Ref) (w : Member) → IsMemberObject m r w → IsMemberObject (listed_as list new m) r w
member-listed slots old new registry counts m list h relisted well r w here = (still-listed slots old new registry counts m h relisted.links relisted.objects well list).objects r w (λ t. t) here

-- a version is held beside another recency list
pub held-listed : (slots : Slots) (old mid : View) (registry : Registry) (counts : Counts) (m : Memory) (id j : ℕ) (k : KeptChain) (c : Version) (n : Ref) (list : List Member)
    → IsHeldVersion slots old registry counts m id j k c n → HoldMemory slots mid registry counts (listed_as list mid m) → IsHeldVersion slots mid registry counts (listed_as list mid m) id j k c n
held-listed slots old mid registry counts m id j k c n list h held = record { held = held; chain = h.chain; number = h.number; object = h.object }

-- ---- what becomes of a place

pub without-none : (w : Member) (old new : List Member) → IsWithout w old new → (Contains old w → ⊥) → new ≡ old
without-none w old new (inl same) off = same.1
without-none w old new (inr k) off = absurd (off (subst (λ l. Contains l w) (sym k.2) (elem-here k.0 k.1 w)))

-- made anew
pub renewed : (kind : ChainKind) (w : Member) (old mid : List Member) → IsWithout w old mid → (kind ≡ Memtable → Contains old w → ⊥) → IsRenewed kind w old (list_with kind w mid)
renewed Memtable w old mid without off = without-none w old mid without (off refl)
renewed Cache w old mid without off = (mid, without, refl)

-- made where none was
pub renewed-none : (kind : ChainKind) (w : Member) (old : List Member) → (Contains old w → ⊥) → IsRenewed kind w old (list_with kind w old)
renewed-none Memtable w old off = refl
renewed-none Cache w old off = (old, inl (off, refl), refl)

-- a place left the list, the version changed, and its object came to the back
pub made-anew : (slots : Slots) (old mid next last : View) (registry : Registry) (counts : Counts) (m n : Memory) (w : Member) (r : Ref) (kind : ChainKind) (id j : ℕ) (f : Version → Version) (these : Member → Type 0)
    → HoldMemory slots old registry counts m → IsRelisted slots old mid → (t : IsTakenOff slots mid registry counts m w) → IsVersionChanged id j f these (listed_as t.list mid m) n → n.recency ≡ t.list
    → HoldMemory slots next registry counts n → IsMemberObject n r w → IsRelisted slots next last → HoldMemory slots last registry counts (listed_as (list_with kind w n.recency) last n) → IsOffMemtable kind w m
    → HoldsAfter slots last registry counts (λ z. IsVersionChanged id j f these m z × IsRenewed kind w m.recency z.recency × IsMemberObject z r w)
made-anew slots old mid next last registry counts m n w r kind id j f these h first t changed list held here second holds off = (
  listed_as (list_with kind w n.recency) last n,
  holds,
  (
    then-listed slots registry counts id j f these next last m n (list_with kind w n.recency) held second holds.well (listed-then slots registry counts id j f these old mid m n t.list h first t.held.well changed),
    subst (λ l. IsRenewed kind w m.recency (list_with kind w l)) (sym list) (renewed kind w m.recency t.list t.without off),
    member-listed slots next last registry counts n (list_with kind w n.recency) held second holds.well r w here,
  ),
)
