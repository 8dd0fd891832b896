-- Objects of a chain that nobody finds or reads, which are freed one by one.
use Rattle.std.proofs.Common.{◌≡◌, ◌≢◌, ℕ, zero, suc, ◌<◌, List, [], ◌∷◌, ◌++◌, Option, Some, None, IsSome, is_some, Bool, true, false, cond, length, inl, inr, refl, sym, ap, ◌∙◌, subst, append_assoc, slice_index_or, arith}
use Rattle.std.specs.Prelude.{Contains, IfSome, IsSomeAnd}
use Rattle.std.specs.Cmp.{tied_itself}
use Rattle.std.specs.Option.{option_map}
use Rattle.std.specs.Ordering.{eq_by_cmp, is_eq}
use Rattle.std.specs.declared.cmp.Ordering.TheVariants.{Less}
use Rattle.rc_position.specs.declared.positions.Pos.{Pos}
use Rattle.rc_position.specs.Position.{pos_cmp}
use Rattle.rc_position.specs.laws.Orders.{pos_cmp_total}
use Rattle.lsa_region.specs.Region.{SameObjects}
use Rattle.rc_core.specs.declared.entries.ChainKind.TheVariants.{Memtable}
use Rattle.rc_core.specs.declared.entries.Entry.{Entry}
use Rattle.rc_core.specs.declared.entries.Flag.{Flag}
use Rattle.rc_core.specs.declared.entries.Flag.TheVariants.{Inherit}
use Rattle.rc_core.specs.AtPlace.{HasEntryAt}
use Rattle.rc_core.specs.Change.{at_entry, drop_at, lost_mark, mark, take_out, with_first_gap, with_gap}
use Rattle.rc_core.specs.Chains.{IsPinned}
use Rattle.rc_core.specs.Continuity.{with_entries}
use Rattle.rc_core.specs.Free.{free_entry}
use Rattle.rc_core.specs.Steps.{on_version, set_flags, with_flags}
use Rattle.rc_core.specs.Version.{Ascend, EndsWithDummy, Version, IsVersion, end_position}
use Rattle.rc_core.specs.laws.Placed.{ahead_of, not_end}
use Rattle.rc_core.specs.laws.Spots.{ascend-tail, turn_to}
use Rattle.rc_memory.specs.Lists.{elem-cases, elem-none}
use Rattle.rc_registry.specs.Registry.{AreFree, put_at_number}
use Rattle.rc_memory.specs.Memory.{KeptChain, Member, Memory, HasVersion, IsVersionAt, chain_at, listed_as, on_shown, on_version_of, shown_with}
use Rattle.rc_memory.specs.Recency.{IsLastInner}
use Rattle.rc_memory.specs.Kept.{IsSoundChain}
use Rattle.rc_memory.specs.Changes.{CanDrop, IsVersionChanged, IsWithout, Nowhere, OfVersion, StandStill, member_at}
use Rattle.rc_memory.specs.laws.At.{found-version, number-low}
use Rattle.rc_memory.specs.laws.Listed.{one-at}
use Rattle.rc_memory.specs.laws.Places.{same_some}
use Rattle.rc_memory.specs.laws.Recent.{there_at}
use Rattle.rc_memory.specs.laws.Still.{still-then, still-wider, unmoved-objects, unmoved-then}
use Rattle.rc_chain.specs.Lives.{IsEndAlone, IsChainDropped, IsLastDropped}
use Rattle.rc_chain.proofs.Bare.{some-chain}
use Rattle.rc_chain.proofs.Changing.{number-after}
use Rattle.rc_chain.proofs.Ended.{ends-last, has-among, last-inside, last-there, on-at, sound-of, true-false}
use Rattle.rc_chain.proofs.Ending.{bare-is, no-statics}
use Rattle.rc_chain.proofs.Made.{on-alike, on-twice}

-- ---- the last entry before the end taken out

-- an entry ahead of a position is not at it
apart_by : (x : Pos) (f : Entry) (es : List Entry) → Ascend (f ∷ es) → HasEntryAt x es → eq_by_cmp pos_cmp x f.position ≡ false
apart_by x f es a has = ap is_eq (turn_to f.position x Less (ahead_of x f es a has))

same_by : (x y : Pos) → x ≡ y → eq_by_cmp pos_cmp x y ≡ true
same_by x y same = subst (λ z. eq_by_cmp pos_cmp x z ≡ true) same (ap is_eq (tied_itself pos_cmp_total x))

has-last : (front : List Entry) (e end : Entry) → HasEntryAt end.position (front ++ (e ∷ end ∷ []))
has-last [] e end = inr (inl refl)
has-last (f ∷ front) e end = inr (has-last front e end)

-- where the gap before the end dummy, lost with the last entry before it, says nothing again, nothing is said where that entry was
quiet-last : (flag : Flag) (front : List Entry) (e end : Entry) → Ascend (front ++ (e ∷ end ∷ [])) → end.position ≡ end_position → flag ≡ end.at.flag
    → at_entry end_position (with_flags flag Inherit) (drop_at e.position (front ++ (e ∷ end ∷ []))) ≡ take_out (mark Inherit None) e.position (front ++ (e ∷ end ∷ []))
quiet-last flag [] e end a at same =
    let here = same_by e.position e.position refl in
    ap (λ b. at_entry end_position (with_flags flag Inherit) (cond b (with_gap lost_mark end ∷ []) (e ∷ take_out lost_mark e.position (end ∷ [])))) here
    ∙ ap (λ b. cond b (with_flags flag Inherit (with_gap lost_mark end)) (with_gap lost_mark end) ∷ []) (same_by end_position end.position (sym at))
    ∙ ap (λ g. record { position = end.position; row = end.row; at = mark g end.at.tomb; gap = mark Inherit None } ∷ []) same
    ∙ ap (λ b. cond b (with_gap (mark Inherit None) end ∷ []) (e ∷ take_out (mark Inherit None) e.position (end ∷ []))) (sym here)
quiet-last flag (f ∷ front) e end a at same =
    let es = front ++ (e ∷ end ∷ []) in
    let off = apart_by e.position f (front ++ (e ∷ end ∷ [])) a (has-among front e (end ∷ [])) in
    let before = apart_by end_position f (front ++ (e ∷ end ∷ [])) a (subst (λ x. HasEntryAt x (front ++ (e ∷ end ∷ []))) at (has-last front e end)) in
    ap (λ b. at_entry end_position (with_flags flag Inherit) (cond b (with_first_gap lost_mark es) (f ∷ drop_at e.position es))) off
    ∙ ap (λ b. cond b (with_flags flag Inherit f) f ∷ at_entry end_position (with_flags flag Inherit) (drop_at e.position es)) before
    ∙ ap (λ l. f ∷ l) (quiet-last flag front e end (ascend-tail f (front ++ (e ∷ end ∷ [])) a) at same)
    ∙ ap (λ b. cond b (with_first_gap (mark Inherit None) es) (f ∷ take_out (mark Inherit None) e.position es)) (sym off)

-- one entry alone stands at the end
only-end : (front : List Entry) (end y : Entry) → Ascend (front ++ (end ∷ [])) → end.position ≡ end_position → Contains (front ++ (end ∷ [])) y → y.position ≡ end_position → y ≡ end
only-end [] end y a at on is = elim (elem-cases end y [] on) [ inl this ↦ sym this | inr none ↦ absurd (elem-none y none) ]
only-end (f ∷ front) end y a at on is = elim (elem-cases f y (front ++ (end ∷ [])) on) [
  | inl this ↦ absurd (not_end f.position (ahead_of end_position f (front ++ (end ∷ [])) a (subst (λ x. HasEntryAt x (front ++ (end ∷ []))) at (has-among front end []))) (ap (λ (e : Entry). e.position) this ∙ is))
  | inr later ↦ only-end front end y (ascend-tail f (front ++ (end ∷ [])) a) at later is
]

module _ (v : Version) (x : Pos) (is : IsVersion v) (last : IsLastInner v (Some x)) where
  end_at : last.2.position ≡ end_position
  end_at = ends-last last.0 last.1 last.2 (subst EndsWithDummy last.3 is.ends)

  -- the entry at the end is the last one
  end_one : (y : Entry) → Contains v.entries y → y.position ≡ end_position → y ≡ last.2
  end_one y on at =
      let joined : v.entries ≡ (last.0 ++ (last.1 ∷ [])) ++ (last.2 ∷ []) = last.3 ∙ sym (append_assoc last.0 (last.1 ∷ []) (last.2 ∷ [])) in
      only-end (last.0 ++ (last.1 ∷ [])) last.2 y (subst Ascend joined is.ascend) end_at (subst (λ l. Contains l y) joined on) at

  pub quiet-freed : (flag : Flag) (y : Entry) → Contains v.entries y → y.position ≡ end_position → flag ≡ y.at.flag → set_flags end_position flag Inherit (with_entries (drop_at x v.entries) v) ≡ free_entry Memtable x v
  quiet-freed flag y on at same =
      let entries : at_entry end_position (with_flags flag Inherit) (drop_at x v.entries) ≡ take_out (mark Inherit None) x v.entries =
      subst (λ es. at_entry end_position (with_flags flag Inherit) (drop_at x es) ≡ take_out (mark Inherit None) x es) (sym last.3)
      (subst (λ z. at_entry end_position (with_flags flag Inherit) (drop_at z (last.0 ++ (last.1 ∷ last.2 ∷ []))) ≡ take_out (mark Inherit None) z (last.0 ++ (last.1 ∷ last.2 ∷ []))) (sym (same_some x last.1.position last.4))
      (quiet-last flag last.0 last.1 last.2 (subst Ascend last.3 is.ascend) end_at (same ∙ ap (λ (e : Entry). e.at.flag) (end_one y on at)))) in
      ap (λ es. with_entries es v) entries

-- ---- one change after another, which are one

module _ (f g h : Version → Version) where
  on-joined : (j : ℕ) (vs : List Version) → ((v : Version) → IsVersionAt vs j v → g (f v) ≡ h v) → on_version j g (on_version j f vs) ≡ on_version j h vs
  on-joined j [] same = refl
  on-joined zero (v ∷ vs) same = ap (λ w. w ∷ vs) (same v (record { older = []; newer = vs; split = refl; number = refl }))
  on-joined (suc j) (v ∷ vs) same = ap (λ l. v ∷ l) (on-joined j vs (λ w at. same w (record { older = v ∷ at.older; newer = at.newer; split = ap (λ l. v ∷ l) at.split; number = ap suc at.number })))

  pub changed-joined : (id j : ℕ) (these : Member → Type 0) (m n o : Memory) → IsVersionChanged id j f these m n → IsVersionChanged id j g Nowhere n o → OfVersion m id j (λ k v. g (f v) ≡ h v) → IsVersionChanged id j h these m o
  changed-joined id j these m n o a b same = record {
    chains = b.chains ∙ ap (λ cs. put_at_number id (option_map (on_shown (on_version_of j g)) (slice_index_or cs id None)) cs) a.chains ∙ on-twice m.chains id (on_shown (on_version_of j f)) (on_shown (on_version_of j g))
        ∙ on-alike m.chains id (λ k. on_shown (on_version_of j g) (on_shown (on_version_of j f) k)) (on_shown (on_version_of j h)) (λ k e. ap (λ vs. on_shown (shown_with vs) k) (on-joined j k.chain.versions (λ v at. same k v e at)));
    dropped = b.dropped ∙ a.dropped;
    counts = b.counts ∙ a.counts;
    still = still-then these m n o a.still (still-wider Nowhere these n o (λ w on. absurd on) b.still);
    region = unmoved-then m.region n.region o.region a.region b.region;
  }

-- the version is there still
pub has-changed : (m n : Memory) (id j : ℕ) (f : Version → Version) (these : Member → Type 0) → IsVersionChanged id j f these m n → HasVersion m id j → HasVersion n id j
has-changed m n id j f these changed has =
    let a = found-version m id j has in
    there_at (λ k. j < length k.chain.versions) (chain_at n id) (on_shown (on_version_of j f) a.0) (number-low (on_version j f a.0.chain.versions) j (f a.1) (number-after j f a.0 a.1 a.3))
    (ap (λ cs. slice_index_or cs id None) changed.chains ∙ on-at m.chains id (on_shown (on_version_of j f)) a.0 a.2)

-- ---- an entry freed

module _ (m : Memory) (id : ℕ) (x : Pos) (versions : (i l : ℕ) → OfVersion m i l (λ k v. IsVersion v)) (last : OfVersion m id 0 (λ k v. IsLastInner v (Some x))) where
  pub freed-there : OfVersion m id 0 (λ k v. HasEntryAt x v.entries)
  freed-there k v e at = last-there v (Some x) (last k v e at)

  pub freed-inner : HasVersion m id 0 → x ≢ end_position
  freed-inner has same = let a = found-version m id 0 has in last-inside a.1 (Some x) (versions id 0 a.0 a.1 a.2 a.3) (last a.0 a.1 a.2 a.3) (ap (λ y. Some y) same)

  -- in a memtable's chain, where the gap before the end says nothing again
  pub freed-memtable : (these : Member → Type 0) (one two : Memory) (flag : Flag) (y : Entry) → OfVersion m id 0 (λ k v. Contains v.entries y) → y.position ≡ end_position → flag ≡ y.at.flag
      → IsVersionChanged id 0 (λ c. with_entries (drop_at x c.entries) c) these m one → IsVersionChanged id 0 (set_flags end_position flag Inherit) Nowhere one two → IsVersionChanged id 0 (free_entry Memtable x) these m two
  freed-memtable these one two flag y on at same a b =
      changed-joined (λ c. with_entries (drop_at x c.entries) c) (set_flags end_position flag Inherit) (free_entry Memtable x) id 0 these m one two a b
      (λ k v e number. quiet-freed v x (versions id 0 k v e number) (last k v e number) flag y (on k v e number) at same)

-- ---- a chain that nobody finds or reads

module _ (m : Memory) (id : ℕ) (left : IsSomeAnd (chain_at m id) (λ k. (k.chain.attached ≡ false) × AreFree k.chain.pins)) (sound : (i : ℕ) → IfSome (chain_at m i) (λ q. IsSoundChain q.chain)) where
  abbrev left_one : (k : KeptChain) × (chain_at m id ≡ Some k) × ((k.chain.attached ≡ false) × AreFree k.chain.pins)
  left_one = some-chain (chain_at m id) (λ k. (k.chain.attached ≡ false) × AreFree k.chain.pins) left

  pub left-has : HasVersion m id 0
  left-has = let k = left_one in subst (λ (o : Option KeptChain). IsSomeAnd o (λ q. 0 < length q.chain.versions)) (sym k.1) (sound-of m id k.0 k.1 sound).some

  -- no update stands in it
  pub left-free : (k : KeptChain) → chain_at m id ≡ Some k → (k.chain.updating ≡ false) × AreFree k.chain.pins
  left-free k e =
      let q = left_one in let same : q.0 ≡ k = same_some q.0 k (sym q.1 ∙ e) in let detached : k.chain.attached ≡ false = subst (λ (x : KeptChain). x.chain.attached ≡ false) same q.2.0 in
      (settled k.chain.updating (λ u. true-false k.chain.attached ((sound-of m id k e sound).attached u) detached), subst (λ (x : KeptChain). AreFree x.chain.pins) same q.2.1)
    where
      settled : (b : Bool) → (b ≡ true → ⊥) → b ≡ false
      settled true none = absurd (none refl)
      settled false none = refl

  -- where there is neither a static row nor an entry before the end, the end dummy alone is left
  pub left-bare : ((i l : ℕ) → OfVersion m i l (λ k v. IsVersion v)) → OfVersion m id 0 (λ k v. is_some v.statics ≡ false) → OfVersion m id 0 (λ k v. (at : Option Pos) → IsLastInner v at → ⊥) → IsSomeAnd (chain_at m id) (λ k. (v : Version) × IsVersionAt k.chain.versions 0 v × IsEndAlone v)
  left-bare versions off none =
      let a = found-version m id 0 left-has in
      subst (λ (o : Option KeptChain). IsSomeAnd o (λ k. (v : Version) × IsVersionAt k.chain.versions 0 v × IsEndAlone v)) (sym a.2)
      (a.1, a.3, bare-is a.1 (versions id 0 a.0 a.1 a.2 a.3).ends (no-statics a.1 (off a.0 a.1 a.2 a.3)) (none a.0 a.1 a.2 a.3))

-- ---- the last version freed

module _ (m : Memory) (id : ℕ) (bare : IsSomeAnd (chain_at m id) (λ k. (v : Version) × IsVersionAt k.chain.versions 0 v × IsEndAlone v)) (free : (k : KeptChain) → chain_at m id ≡ Some k → (k.chain.updating ≡ false) × AreFree k.chain.pins) where
  pub bare-chain : IsSome (chain_at m id)
  bare-chain = let k = some-chain (chain_at m id) (λ k. (v : Version) × IsVersionAt k.chain.versions 0 v × IsEndAlone v) bare in subst IsSome (sym k.1) refl

  module _ (count : ℕ) (told : (k : KeptChain) → chain_at m id ≡ Some k → count ≡ length k.chain.versions) where
    pub free-can : 1 < count → (k : KeptChain) → chain_at m id ≡ Some k → CanDrop k.chain 0
    free-can more k e = let f = free k e in let is = told k e in record {
      unpinned = f.1 0;
      others = omega (arith, is, more);
      settled = λ u. absurd (true-false k.chain.updating u f.0);
      below = λ u. absurd (true-false k.chain.updating u f.0);
    }

    pub free-older : 1 < count → (k : KeptChain) → chain_at m id ≡ Some k → 1 < length k.chain.versions
    free-older more k e = let is = told k e in omega (arith, is, more)

    module _ (few : 1 < count → ⊥) (list : List Member) (one : Memory) (taken : one ≡ listed_as list one.region m) where
      alone : (vs : List Version) (v : Version) → IsVersionAt vs 0 v → (1 < length vs → ⊥) → vs ≡ v ∷ []
      alone [] v at none = absurd (let low = number-low [] 0 v at in omega (arith, low))
      alone (w ∷ []) v at none = ap (λ x. x ∷ []) (one-at (w ∷ []) 0 w v (record { older = []; newer = []; split = refl; number = refl }) at)
      alone (w ∷ x ∷ vs) v at none = absurd (none (omega arith))

      pub last-bare : IsSomeAnd (chain_at one id) (λ k. (v : Version) × (k.chain.versions ≡ v ∷ []) × IsEndAlone v)
      last-bare =
          let k = some-chain (chain_at m id) (λ k. (v : Version) × IsVersionAt k.chain.versions 0 v × IsEndAlone v) bare in
          subst (λ (x : Memory). IsSomeAnd (chain_at x id) (λ k. (v : Version) × (k.chain.versions ≡ v ∷ []) × IsEndAlone v)) (sym taken)
          (subst (λ (o : Option KeptChain). IsSomeAnd o (λ k. (v : Version) × (k.chain.versions ≡ v ∷ []) × IsEndAlone v)) (sym k.1)
          (k.2.0, alone k.0.chain.versions k.2.0 k.2.1 (λ more. few (let is = told k.0 k.1 in omega (arith, is, more))), k.2.2))

      pub last-free : (k : KeptChain) (j : ℕ) → chain_at one id ≡ Some k → IsPinned k.chain.pins j → ⊥
      last-free k j e on = (free k (ap (λ (x : Memory). chain_at x id) (sym taken) ∙ e)).1 j on

      module _ (without : IsWithout (member_at id 0 (Some end_position)) m.recency list) (objects : SameObjects m.region one.region) (still : StandStill Nowhere m one) where
        pub last-dropped : (two : Memory) → IsChainDropped id one.recency one two → IsLastDropped id m two
        last-dropped two d = record {
          list = list;
          recency = without;
          dropped = record {
            chains = d.chains ∙ ap (λ (x : Memory). put_at_number id None x.chains) taken;
            recency = d.recency ∙ ap (λ (x : Memory). x.recency) taken;
            dropped = d.dropped ∙ ap (λ (x : Memory). x.dropped ++ (id ∷ [])) taken;
            counts = d.counts ∙ ap (λ (x : Memory). x.counts) taken;
            objects = λ r w at ne. d.objects r w (still.objects r w (λ none. none) at) ne;
            region = unmoved-then m.region one.region two.region (unmoved-objects m.region one.region objects) d.region;
          };
        }
