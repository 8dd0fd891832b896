-- The recency list by places: which object stands at a place, and a memory after the list changed.
use Rattle.std.proofs.Common.{◌≡◌, ◌≢◌, ℕ, List, [], ◌∷◌, ◌++◌, Option, Some, None, length, inl, inr, refl, sym, ap, ◌∙◌, subst}
use Rattle.std.specs.Prelude.{Contains}
use Rattle.rc_position.specs.declared.positions.Pos.{Pos}
use Rattle.lsa_store.specs.declared.place.Ref.{Ref}
use Rattle.lsa_region.specs.Ends.{SlotCounts}
use Rattle.lsa_region.specs.declared.end.End.{End}
use Rattle.lsa_region.specs.declared.end.End.TheVariants.{Obj}
use Rattle.lsa_region.specs.Region.{View, link_of, IsWell, SameObjects}
use Rattle.lsa_path.specs.laws.Paths.{same_object}
use Rattle.rc_partition.specs.List.{List as Slots}
use Rattle.rc_partition.specs.Recency.{IsElsewhere, IsList, first}
use Rattle.rc_partition.specs.Entries.{AreAscending}
use Rattle.rc_partition.specs.Found.{at-once}
use Rattle.rc_partition.specs.Orders.{ascending-split}
use Rattle.rc_partition.specs.Trees.{stands-same}
use Rattle.rc_partition.specs.Versions.{IsUnlisted, IsVersionOf}
use Rattle.rc_partition.specs.Staying.{version-kind}
use Rattle.rc_partition.specs.Partitions.{AreStanding, PartitionEntry, StandingVersion}
use Rattle.rc_partition.specs.laws.Lists.{elem-cases, elem-first, elem-later, elem-none, elem-split}
use Rattle.rc_partition.specs.laws.Listed.{stands-pushed, stands-removed, stands-touched, version-elsewhere}
use Rattle.rc_registry.specs.Registry.{Registry}
use Rattle.rc_memory.specs.declared.counts.Counts.{Counts}
use Rattle.rc_memory.specs.Memory.{Member, Memory, IsObjectAt, IsOfVersion, IsVersionAt, listed_as}
use Rattle.rc_memory.specs.Kept.{HoldMemory, StandAt, present}
use Rattle.rc_memory.specs.laws.Places.{heads, one-place, same_some, tails, version-there}
use Rattle.rc_memory.specs.laws.Standing.{object-row, stand-both, stand-each}

-- ---- one object at a place

module _ {X : Type 0} where
  same_spot : (us vs xs ys : List X) (s t : X) → us ++ (s ∷ vs) ≡ xs ++ (t ∷ ys) → length us ≡ length xs → s ≡ t
  same_spot [] vs [] ys s t e n = heads s t vs ys e
  same_spot [] vs (x ∷ xs) ys s t e n = cc n
  same_spot (u ∷ us) vs [] ys s t e n = cc n
  same_spot (u ∷ us) vs (x ∷ xs) ys s t e n = same_spot us vs xs ys s t (tails u x (us ++ (s ∷ vs)) (xs ++ (t ∷ ys)) e) (cc n)

  -- a number tells one version
  pub one-at : (xs : List X) (j : ℕ) (s t : X) → IsVersionAt xs j s → IsVersionAt xs j t → s ≡ t
  one-at xs j s t a b = same_spot a.older a.newer b.older b.newer s t (sym a.split ∙ b.split) (a.number ∙ sym b.number)

module _ (slots : Slots) (v : View) (well : IsWell v) (st : List (Option PartitionEntry)) (listed : List Ref) (stands : AreStanding slots v (present st) listed) where
  of_one : (s : StandingVersion) (at : Option Pos) (r q : Ref) → IsVersionOf v s.object s.entries s.version → IsOfVersion v s at r → IsOfVersion v s at q → r ≡ q
  of_one s None r q k a b = let same : Some (Obj r 2) ≡ Some (Obj q 2) = sym a ∙ b in same_object r q 2 2 (same_some (Obj r 2) (Obj q 2) same)
  of_one s (Some x) r q k a b = let w = elem-split s.entries r a.0 in
      at-once v x w.0 w.1 r q (subst (λ l. Contains l q) w.2 b.0) (ascending-split v w.0 w.1 r x a.1 (subst (λ l. AreAscending v l) w.2 k.tree.ascending)) b.1

  -- at a place stands one object
  pub one-object : (r q : Ref) (w : Member) → IsObjectAt v st r w → IsObjectAt v st q w → r ≡ q
  one-object r q w a b =
      let same = same_some a.partition b.partition (sym a.chain ∙ b.chain) in
      let version = one-at b.partition.versions w.version a.version b.version (subst (λ (p : PartitionEntry). IsVersionAt p.versions w.version a.version) same a.number) b.number in
      of_one b.version w.position r q (version-there slots v well st listed stands w.chain w.version b.partition b.version b.chain b.number) (subst (λ s. IsOfVersion v s w.position r) version a.object) b.object

  -- what is in one list is in the other
  pub stand-member : (refs : List Ref) (ws : List Member) (r : Ref) → StandAt v st refs ws → Contains refs r → (w : Member) × Contains ws w × IsObjectAt v st r w
  stand-member [] ws r h on = absurd (elem-none r on)
  stand-member (q ∷ refs) [] r h on = absurd h
  stand-member (q ∷ refs) (w ∷ ws) r h on = elim (elem-cases q r refs on) [
    | inl same ↦ (w, elem-first w ws, subst (λ x. IsObjectAt v st x w) same h.0)
    | inr later ↦ let k = stand-member refs ws r h.1 later in (k.0, elem-later w k.0 ws k.1, k.2)
  ]

  pub stand-object : (refs : List Ref) (ws : List Member) (w : Member) → StandAt v st refs ws → Contains ws w → (r : Ref) × Contains refs r × IsObjectAt v st r w
  stand-object refs [] w h on = absurd (elem-none w on)
  stand-object [] (x ∷ ws) w h on = absurd h
  stand-object (q ∷ refs) (x ∷ ws) w h on = elim (elem-cases x w ws on) [
    | inl same ↦ (q, elem-first q refs, subst (λ y. IsObjectAt v st q y) same h.0)
    | inr later ↦ let k = stand-object refs ws w h.1 later in (k.0, elem-later q k.0 refs k.1, k.2)
  ]

  module _ (refs : List Ref) (ws : List Member) (h : StandAt v st refs ws) (r : Ref) (w : Member) (here : IsObjectAt v st r w) where
    pub member-listed : Contains refs r → Contains ws w
    member-listed on = let k = stand-member refs ws r h on in subst (Contains ws) (sym (one-place slots v well st listed stands r w k.0 here k.2)) k.1

    pub listed-member : Contains ws w → Contains refs r
    listed-member on = let k = stand-object refs ws w h on in subst (Contains refs) (sym (one-object r k.0 w here k.2)) k.1

-- both lists are split at the same number
pub record IsSplitAt (v : View) (st : List (Option PartitionEntry)) (refs : List Ref) (front : List Member) (w : Member) (back : List Member) : Type 0 where
  pub before : List Ref
  pub object : Ref
  pub behind : List Ref
  pub split : refs ≡ before ++ (object ∷ behind)
  pub front_stands : StandAt v st before front
  pub here : IsObjectAt v st object w
  pub back_stands : StandAt v st behind back

pub stand-split : (v : View) (st : List (Option PartitionEntry)) (refs : List Ref) (front : List Member) (w : Member) (back : List Member) → StandAt v st refs (front ++ (w ∷ back)) → IsSplitAt v st refs front w back
stand-split v st [] [] w back h = absurd h
stand-split v st (r ∷ refs) [] w back h = record { before = []; object = r; behind = refs; split = refl; front_stands = tt; here = h.0; back_stands = h.1 }
stand-split v st [] (x ∷ front) w back h = absurd h
stand-split v st (r ∷ refs) (x ∷ front) w back h = let k = stand-split v st refs front w back h.1 in record {
  before = r ∷ k.before;
  object = k.object;
  behind = k.behind;
  split = ap (λ l. r ∷ l) k.split;
  front_stands = (h.0, k.front_stands);
  here = k.here;
  back_stands = k.back_stands;
}

-- ---- what calls of the list are told

module _ (slots : Slots) (v : View) (registry : Registry) (counts : Counts) (m : Memory) (h : HoldMemory slots v registry counts m) where
  -- an object is in the list of references where its place is in the recency list, and nowhere else
  pub listed-at : (r : Ref) (w : Member) → IsObjectAt v m.standing r w → Contains m.recency w → Contains h.listed r
  listed-at r w here on = listed-member slots v h.well m.standing h.listed h.stands h.listed m.recency h.recency r w here on

  pub at-listed : (r : Ref) (w : Member) → IsObjectAt v m.standing r w → Contains h.listed r → Contains m.recency w
  at-listed r w here on = member-listed slots v h.well m.standing h.listed h.stands h.listed m.recency h.recency r w here on

  -- where it is not, its links are unset
  pub unlisted-at : (r : Ref) (w : Member) → IsObjectAt v m.standing r w → (Contains m.recency w → ⊥) → IsUnlisted v r
  unlisted-at r w here off = h.stands.unlisted r (object-row v m.standing r w here) (λ on. off (at-listed r w here on))

  -- the list is split at an object where the recency list is at its place
  pub list-at : (front : List Member) (w : Member) (back : List Member) (r : Ref) → m.recency ≡ front ++ (w ∷ back) → IsObjectAt v m.standing r w → (xs : List Ref) × (ys : List Ref) × IsList slots v (xs ++ (r ∷ ys))
  list-at front w back r is here =
      let k = stand-split v m.standing h.listed front w back (subst (λ l. StandAt v m.standing h.listed l) is h.recency) in
      (k.before, k.behind, subst (IsList slots v) (k.split ∙ ap (λ q. k.before ++ (q ∷ k.behind)) (one-object slots v h.well m.standing h.listed h.stands k.object r w k.here here)) h.stands.list)

  -- the first object stands at the first place
  pub front-at : (r : Ref) → first h.listed ≡ Some r → (w : Member) × (back : List Member) × (m.recency ≡ w ∷ back) × IsObjectAt v m.standing r w
  front-at r is = at_first h.listed m.recency h.recency is
    where
      at_first : (refs : List Ref) (ws : List Member) → StandAt v m.standing refs ws → first refs ≡ Some r → (w : Member) × (back : List Member) × (ws ≡ w ∷ back) × IsObjectAt v m.standing r w
      at_first [] ws k e = absurd (let clash : None ≡ Some r = e in cc)
      at_first (q ∷ refs) [] k e = absurd k
      at_first (q ∷ refs) (w ∷ ws) k e = (w, ws, refl, subst (λ x. IsObjectAt v m.standing x w) (same_some q r e) k.0)

  pub none-at : first h.listed ≡ None → m.recency ≡ []
  none-at is = at_none h.listed m.recency h.recency is
    where
      at_none : (refs : List Ref) (ws : List Member) → StandAt v m.standing refs ws → first refs ≡ None → ws ≡ []
      at_none [] [] k e = refl
      at_none [] (w ∷ ws) k e = absurd k
      at_none (q ∷ refs) ws k e = absurd (let clash : None ≡ Some q = sym e in cc)

-- ---- the list changed

module _ (slots : Slots) (old new : View) (registry : Registry) (counts : Counts) (m : Memory) (h : HoldMemory slots old registry counts m)
    (elsewhere : (e : End) → IsElsewhere slots old e → link_of new e ≡ link_of old e) (objects : SameObjects old new) (well : IsWell new) where
  of_kept : (s : StandingVersion) (at : Option Pos) (r : Ref) → IsVersionOf old s.object s.entries s.version → IsOfVersion old s at r → IsOfVersion new s at r
  of_kept s None r k a = elsewhere (Obj s.object 3) (version-elsewhere slots old s.object 3 (version-kind old s.object s.entries s.version k)) ∙ a
  of_kept s (Some x) r k a = (a.0, stands-same old new r x (objects.bodies r) a.1)

  -- each object stands where it stood
  pub object_kept : (r : Ref) (w : Member) → IsObjectAt old m.standing r w → IsObjectAt new m.standing r w
  object_kept r w a = record {
    partition = a.partition;
    version = a.version;
    chain = a.chain;
    number = a.number;
    object = of_kept a.version w.position r (version-there slots old h.well m.standing h.listed h.stands w.chain w.version a.partition a.version a.chain a.number) a.object;
  }

  all_kept : (refs : List Ref) (ws : List Member) → StandAt old m.standing refs ws → StandAt new m.standing refs ws
  all_kept refs ws k = stand-each old new m.standing m.standing refs ws (λ r w on in_ws. object_kept r w) k

  held_listed : (refs : List Ref) (ws : List Member) → AreStanding slots new (present m.standing) refs → StandAt new m.standing refs ws → HoldMemory slots new registry counts (listed_as ws new m)
  held_listed refs ws stands k = record { well = well; region = refl; kept = h.kept; listed = refs; stands = stands; recency = k; dropped = h.dropped; counted = h.counted; roots = ap (λ (c : SlotCounts). c.there) objects.slots ∙ h.roots }

  -- one at the back
  pub held-pushed : (r : Ref) (w : Member) → IsObjectAt old m.standing r w → ((xs : List Ref) → IsList slots old xs → IsList slots new (xs ++ (r ∷ []))) → ((e : End) → link_of old e ≡ None → e ≢ Obj r 0 → e ≢ Obj r 1 → link_of new e ≡ None)
      → HoldMemory slots new registry counts (listed_as (m.recency ++ (w ∷ [])) new m)
  held-pushed r w here list unset = held_listed (h.listed ++ (r ∷ [])) (m.recency ++ (w ∷ []))
      (stands-pushed slots old new elsewhere objects (present m.standing) h.listed h.stands r (list h.listed h.stands.list) (object-row old m.standing r w here) unset)
      (stand-both new m.standing h.listed (r ∷ []) m.recency (w ∷ []) (all_kept h.listed m.recency h.recency) (object_kept r w here, tt))

  module _ (r : Ref) (front : List Member) (w : Member) (back : List Member) (is : m.recency ≡ front ++ (w ∷ back)) (here : IsObjectAt old m.standing r w) where
    parts : IsSplitAt old m.standing h.listed front w back
    parts = stand-split old m.standing h.listed front w back (subst (λ l. StandAt old m.standing h.listed l) is h.recency)

    listed_parts : h.listed ≡ parts.before ++ (r ∷ parts.behind)
    listed_parts = parts.split ∙ ap (λ q. parts.before ++ (q ∷ parts.behind)) (one-object slots old h.well m.standing h.listed h.stands parts.object r w parts.here here)

    stands_parts : AreStanding slots old (present m.standing) (parts.before ++ (r ∷ parts.behind))
    stands_parts = subst (AreStanding slots old (present m.standing)) listed_parts h.stands

    -- one taken out
    pub held-taken : ((xs ys : List Ref) → IsList slots old (xs ++ (r ∷ ys)) → IsList slots new (xs ++ ys)) → link_of new (Obj r 0) ≡ None → link_of new (Obj r 1) ≡ None → ((e : End) → link_of old e ≡ None → link_of new e ≡ None)
        → HoldMemory slots new registry counts (listed_as (front ++ back) new m)
    held-taken list first_unset second_unset unset = held_listed (parts.before ++ parts.behind) (front ++ back)
        (stands-removed slots old new elsewhere objects (present m.standing) parts.before parts.behind r stands_parts (list parts.before parts.behind stands_parts.list) first_unset second_unset unset)
        (stand-both new m.standing parts.before parts.behind front back (all_kept parts.before front parts.front_stands) (all_kept parts.behind back parts.back_stands))

    -- one made the most recent one
    pub held-touched : ((xs ys : List Ref) → IsList slots old (xs ++ (r ∷ ys)) → IsList slots new ((xs ++ ys) ++ (r ∷ []))) → ((e : End) → link_of old e ≡ None → link_of new e ≡ None)
        → HoldMemory slots new registry counts (listed_as ((front ++ back) ++ (w ∷ [])) new m)
    held-touched list unset = held_listed ((parts.before ++ parts.behind) ++ (r ∷ [])) ((front ++ back) ++ (w ∷ []))
        (stands-touched slots old new elsewhere objects (present m.standing) parts.before parts.behind r stands_parts (list parts.before parts.behind stands_parts.list) unset)
        (stand-both new m.standing (parts.before ++ parts.behind) (r ∷ []) (front ++ back) (w ∷ [])
        (stand-both new m.standing parts.before parts.behind front back (all_kept parts.before front parts.front_stands) (all_kept parts.behind back parts.back_stands)) (object_kept r w here, tt))
