-- Two versions that slots name, after each change.
use Rattle.std.proofs.Common.{◌≡◌, ◌≢◌, ℕ, zero, suc, ◌≤◌, List, Option, Some, None, IsSome, ◌⊎◌, inl, inr, ◌<◌, refl, sym, ap, ◌∙◌, subst, map, arith}
use Rattle.std.specs.Prelude.{IsSomeAnd, Contains}
use Rattle.std.specs.Option.{option_map}
use Rattle.lsa_kinds.specs.declared.kind.Kind.{Kind}
use Rattle.lsa_kinds.specs.declared.kind.Kind.TheVariants.{Version as VersionKind}
use Rattle.lsa_kinds.specs.Kinds.{links_of}
use Rattle.lsa_store.specs.declared.place.Ref.{Ref}
use Rattle.lsa_region.specs.declared.end.End.{End}
use Rattle.lsa_region.specs.declared.end.End.TheVariants.{Obj, Slot}
use Rattle.lsa_region.specs.declared.end.Root.{Root}
use Rattle.lsa_region.specs.Ends.{named_as, end_as}
use Rattle.lsa_region.specs.Paired.{IsTied, IsParted}
use Rattle.lsa_region.specs.Region.{View, body, link_of, IsEnd, IsWell, SameObjects, Renamed}
use Rattle.lsa_region.specs.laws.Ends.{no-end}
use Rattle.lsa_region.specs.laws.Names.{came}
use Rattle.lsa_region.specs.laws.Refs.{refs_decided}
use Rattle.lsa_path.specs.laws.Paths.{same_field, same_object}
use Rattle.lsa_path.specs.laws.Renamed.{some-there}
use Rattle.lsa_tree.specs.Entries.{IsEntryKind}
use Rattle.lsa_tree.specs.laws.Trees.{no_entry_at, same-read, top-kept, tree-linked, version-same}
use Rattle.rc_core.specs.Version.{Version}
use Rattle.rc_version.specs.Versions.{tree_of, IsVersionOf, IsUnlisted, IsKeptBeside, IsStaticsOf, HasStatics}
use Rattle.rc_version.specs.laws.Moving.{version-renamed}
use Rattle.rc_version.specs.laws.Objects.{holds-same, static-no_version}
use Rattle.rc_version.specs.laws.Staying.{version-kind, version-stays, entries-kind}
use Rattle.rc_version_walk.specs.Walking.{IsSomeVersion, IsPairOf, IsPair, IsHalfOf}

pub pair-swapped : (this other : Root) (v : View) (n m : Ref) → IsPairOf this other v n m → IsPairOf other this v m n
pair-swapped this other v n m h = record {
  first = h.second;
  second = h.first;
  differ = λ e. h.differ (sym e);
  alone = λ r no_m no_n. h.alone r no_n no_m;
  free_first = h.free_second;
  free_second = h.free_first;
  here = h.there;
  there = h.here;
}

-- the first version is changed, and all else is kept
pub pair-kept : (this other : Root) (v w : View) (n m : Ref) (these : Ref → Type 0) → IsPairOf this other v n m → IsKeptBeside these n v w → IsSomeVersion w n → IsPairOf this other w n m
pair-kept this other v w n m these h k now = record {
  first = k.links (Slot this) tt ∙ h.first;
  second = k.links (Slot other) tt ∙ h.second;
  differ = h.differ;
  alone = λ r no_n no_m field out. k.links (Obj r field) out ∙ h.alone r no_n no_m field out;
  free_first = k.links (Obj n 0) (omega arith) ∙ h.free_first;
  free_second = k.links (Obj m 0) (omega arith) ∙ h.free_second;
  here = now;
  there = (h.there.0, h.there.1, k.versions m h.there.0 h.there.1 (λ e. h.differ (sym e)) h.there.2);
}

-- no object of the first version but the head is named from outside
module _ (this other : Root) (v : View) (n m : Ref) (h : IsPairOf this other v n m) where
  is_version : (r : Ref) → IsSomeVersion v r → IsSomeAnd (body v r) (λ b. b.0 ≡ VersionKind)
  is_version r k = version-kind v r k.0 k.1 k.2

  no_version : (r : Ref) → (IsSomeAnd (body v r) (λ b. b.0 ≡ VersionKind) → ⊥) → IsUnlisted v r
  no_version r other_kind = h.alone r (λ e. other_kind (subst (λ q. IsSomeAnd (body v q) (λ b. b.0 ≡ VersionKind)) (sym e) (is_version n h.here))) (λ e. other_kind (subst (λ q. IsSomeAnd (body v q) (λ b. b.0 ≡ VersionKind)) (sym e) (is_version m h.there)))

  pub entry-unlisted : (k : Ref) (refs : List Ref) (c : Version) → IsVersionOf v k refs c → (r : Ref) → Contains refs r → IsUnlisted v r
  entry-unlisted k refs c is r inside = no_version r (λ kind. no_entry_at (body v r) kind (entries-kind v k refs c is r inside))

  statics_unlisted : (k : Ref) (c : Version) → HasStatics v k c.statics → (s : Ref) → IsStaticsOf v k s → IsUnlisted v s
  statics_unlisted k c has s named = elim c.statics as (λ (o : _). HasStatics v k o → IsUnlisted v s) [
    | None ↦ λ unset. absurd (let clash : None ≡ Some (Obj s 2) = sym unset ∙ named in cc)
    | Some row ↦ λ held. let same : Some (Obj held.0 2) ≡ Some (Obj s 2) = sym held.1 ∙ named in let is : held.0 ≡ s = cc in
        no_version s (λ kind. static-no_version v held.0 row held.2 (subst (λ q. IsSomeAnd (body v q) (λ b. b.0 ≡ VersionKind)) (sym is) kind))
  ] has

  pub static-unlisted : (s : Ref) → IsStaticsOf v n s → IsUnlisted v s
  static-unlisted s named = statics_unlisted n h.here.1 h.here.2.statics s named

-- after a move
module _ (this other : Root) (v w : View) (names : List (Ref × Ref)) (old_well : IsWell v) (well : IsWell w) (renamed : Renamed v w names) where
  gone_end : (o : Option (Kind × List ℕ)) (field : ℕ) → (IsSome o → ⊥) → IsSomeAnd o (λ b. field < links_of b.0) → ⊥
  gone_end None field gone h = h
  gone_end (Some b) field gone h = gone refl

  is_some_or : (o : Option (Kind × List ℕ)) → IsSome o ⊎ (IsSome o → ⊥)
  is_some_or None = inr (λ e. cc)
  is_some_or (Some b) = inl refl

  some_renamed : (n : Ref) → IsSomeVersion v n → IsSomeVersion w (named_as names n)
  some_renamed n h = (map (named_as names) h.0, h.1, version-renamed v w names renamed old_well n h.0 h.1 h.2)

  live : (n : Ref) → IsSomeVersion v n → IsSome (body v n)
  live n h = some-there _ (body v n) (version-kind v n h.0 h.1 h.2)

  slot_renamed : (s : Root) (n : Ref) → link_of v (Slot s) ≡ Some (Obj n 1) → link_of w (Slot s) ≡ Some (Obj (named_as names n) 1)
  slot_renamed s n h = renamed.roots s ∙ ap (option_map (end_as names)) h

  unset_renamed : (r : Ref) (field : ℕ) → IsSome (body v r) → link_of v (Obj r field) ≡ None → link_of w (Obj (named_as names r) field) ≡ None
  unset_renamed r field some h = renamed.links r field some ∙ ap (option_map (end_as names)) h

  pub pair-renamed : (n m : Ref) → IsPairOf this other v n m → IsPairOf this other w (named_as names n) (named_as names m)
  pair-renamed n m h =
      let first = slot_renamed this n h.first in let second = slot_renamed other m h.second in record {
        first = first;
        second = second;
        differ = λ e.
            let back : link_of w (Obj (named_as names n) 1) ≡ Some (Slot this) = well.paired.mates (Slot this) (Obj (named_as names n) 1) first in
            let again : link_of w (Obj (named_as names m) 1) ≡ Some (Slot other) = well.paired.mates (Slot other) (Obj (named_as names m) 1) second in
            let slots : Some (Slot this) ≡ Some (Slot other) = sym back ∙ ap (λ q. link_of w (Obj q 1)) e ∙ again in
            let ends : Some (Obj n 1) ≡ Some (Obj m 1) = sym h.first ∙ (let same : this ≡ other = cc in ap (λ s. link_of v (Slot s)) same) ∙ h.second in
            h.differ cc;
        alone = λ r no_n no_m field out. elim (is_some_or (body w r)) [
          | inl some ↦ let q = came v w names renamed r some in
              subst (λ x. link_of w (Obj x field) ≡ None) q.2 (unset_renamed q.0 field q.1 (h.alone q.0 (λ e. no_n (sym q.2 ∙ ap (named_as names) e)) (λ e. no_m (sym q.2 ∙ ap (named_as names) e)) field out))
          | inr none ↦ no-end w well (Obj r field) (gone_end (body w r) field none)
        ];
        free_first = unset_renamed n 0 (live n h.here) h.free_first;
        free_second = unset_renamed m 0 (live m h.there) h.free_second;
        here = some_renamed n h.here;
        there = some_renamed m h.there;
      }

  pub pair-moved : IsPair this other v → IsPair this other w
  pair-moved h = (named_as names h.0, named_as names h.1, pair-renamed h.0 h.1 h.2)

-- ---- a slot is linked to a version, or parted from it

-- the ends of a version
version_end : (o : Option (Kind × List ℕ)) (field : ℕ) → IsSomeAnd o (λ b. b.0 ≡ VersionKind) → field < 4 → IsSomeAnd o (λ b. field < links_of b.0)
version_end None field h lt = absurd h
version_end (Some b) field h lt = subst (λ k. field < links_of k) (sym h) lt

pub version-end : (v : View) (n : Ref) → IsSomeVersion v n → (field : ℕ) → field < 4 → IsEnd v (Obj n field)
version-end v n h field lt = version_end (body v n) field (version-kind v n h.0 h.1 h.2) lt

-- where links outward change and nothing else, each version stays
pub version-linked : (v w : View) → ((r : Ref) (field : ℕ) → 2 ≤ field → link_of w (Obj r field) ≡ link_of v (Obj r field)) → ((r : Ref) → body w r ≡ body v r) → (n : Ref) (refs : List Ref) (c : Version) → IsVersionOf v n refs c → IsVersionOf w n refs c
version-linked v w links bodies n refs c h = version-stays v w n refs c (bodies n) (links n 3 (omega arith)) (λ s row named held. bodies s) (λ r e inside held. holds-same v w r e (bodies r) held)
    (tree-linked (tree_of n) v w refs (top-kept v w (Obj n 2) (λ r kind. version-same (body v r) (body w r) (bodies r) kind) h.tree.top) (links n 2 (omega arith)) (λ r inside. same-read (body v r) (body w r) (bodies r)) (λ r inside field low high. links r field low) h.tree) h

module _ (v w : View) (slot : Root) (n : Ref) where
  tied_inward : IsTied (link_of v) (link_of w) (Slot slot) (Obj n 1) → (r : Ref) (field : ℕ) → 2 ≤ field → link_of w (Obj r field) ≡ link_of v (Obj r field)
  tied_inward tied r field low = tied.others (Obj r field) (λ e. cc) (λ e. let is = same_field r n field 1 e in omega (arith, low, is))

  parted_inward : IsParted (link_of v) (link_of w) (Slot slot) (Obj n 1) → (r : Ref) (field : ℕ) → 2 ≤ field → link_of w (Obj r field) ≡ link_of v (Obj r field)
  parted_inward parted r field low = parted.others (Obj r field) (λ e. cc) (λ e. let is = same_field r n field 1 e in omega (arith, low, is))

  pub some-tied : IsTied (link_of v) (link_of w) (Slot slot) (Obj n 1) → SameObjects v w → (m : Ref) → IsSomeVersion v m → IsSomeVersion w m
  some-tied tied same m h = (h.0, h.1, version-linked v w (tied_inward tied) same.bodies m h.0 h.1 h.2)

  pub version-parted : IsParted (link_of v) (link_of w) (Slot slot) (Obj n 1) → SameObjects v w → (m : Ref) (refs : List Ref) (c : Version) → IsVersionOf v m refs c → IsVersionOf w m refs c
  version-parted parted same m refs c h = version-linked v w (parted_inward parted) same.bodies m refs c h

-- ---- a version is made, and a slot names it

not_same : (n m : Ref) (v : View) → body v n ≡ None → IsSomeAnd (body v m) (λ b. b.0 ≡ VersionKind) → n ≢ m
not_same n m v gone kind e = subst (λ (o : Option (Kind × List ℕ)). IsSomeAnd o (λ b. b.0 ≡ VersionKind)) (ap (body v) (sym e) ∙ gone) kind

module _ (this other : Root) (old mid new : View) (n : Ref) (these : Ref → Type 0) (fresh : body old n ≡ None) (unlisted : (r : Ref) → body old r ≡ None → IsUnlisted mid r) (kept : IsKeptBeside these n old mid) (made : IsSomeVersion mid n) where
  -- before it is linked
  pub mid-unset : link_of mid (Obj n 1) ≡ None
  mid-unset = unlisted n fresh 1 (omega arith)

  -- beside another version
  pub half-settled : IsTied (link_of mid) (link_of new) (Slot this) (Obj n 1) → SameObjects mid new → (m : Ref) → IsHalfOf this other old m → IsPairOf this other new n m
  half-settled tied same m h =
      let there : IsSomeVersion old m = h.there in
      let apart : n ≢ m = not_same n m old fresh (version-kind old m there.0 there.1 there.2) in
      let no_slot : Slot other ≢ Slot this = λ e. (let clash : None ≡ Some (Obj m 1) = sym h.unset ∙ ap (link_of old) (sym e) ∙ h.second in cc) in record {
        first = tied.first;
        second = tied.others (Slot other) no_slot (λ e. cc) ∙ kept.links (Slot other) tt ∙ h.second;
        differ = apart;
        alone = λ r no_n no_m field out. tied.others (Obj r field) (λ e. cc) (λ e. no_n (same_object r n field 1 e)) ∙ kept.links (Obj r field) out ∙ h.alone r no_m field out;
        free_first = tied.others (Obj n 0) (λ e. cc) (λ e. let is = same_field n n 0 1 e in omega (arith, is)) ∙ unlisted n fresh 0 (omega arith);
        free_second = tied.others (Obj m 0) (λ e. cc) (λ e. let is = same_field m n 0 1 e in omega (arith, is)) ∙ kept.links (Obj m 0) (omega arith) ∙ h.free_second;
        here = some-tied mid new this n tied same n made;
        there = some-tied mid new this n tied same m (there.0, there.1, kept.versions m there.0 there.1 (λ e. apart (sym e)) there.2);
      }

  -- the first one
  pub first-settled : this ≢ other → IsEnd old (Slot this) → ((e : End) → link_of old e ≡ None) → IsTied (link_of mid) (link_of new) (Slot other) (Obj n 1) → SameObjects mid new → IsHalfOf this other new n
  first-settled differ slot unset tied same = record {
    slot = same.ends (Slot this) (kept.roots this slot);
    unset = tied.others (Slot this) (λ e. differ cc) (λ e. cc) ∙ kept.links (Slot this) tt ∙ unset (Slot this);
    second = tied.first;
    alone = λ r no_n field out. tied.others (Obj r field) (λ e. cc) (λ e. no_n (same_object r n field 1 e)) ∙ kept.links (Obj r field) out ∙ unset (Obj r field);
    free_second = tied.others (Obj n 0) (λ e. cc) (λ e. let is = same_field n n 0 1 e in omega (arith, is)) ∙ unlisted n fresh 0 (omega arith);
    there = some-tied mid new other n tied same n made;
  }

-- ---- a version is freed that has its end dummy alone

module _ (this other : Root) (v : View) (n m : Ref) (h : IsPairOf this other v n m) (well : IsWell v) where
  pub slot-there : IsEnd v (Slot this)
  slot-there = well.ends (Obj n 1) (Slot this) (well.paired.mates (Slot this) (Obj n 1) h.first)

  module _ (mid : View) (parted : IsParted (link_of v) (link_of mid) (Slot this) (Obj n 1)) (same : SameObjects v mid) where
    -- no link outward of the version is set
    pub head-alone : IsUnlisted mid n
    head-alone zero out = parted.others (Obj n 0) (λ e. cc) (λ e. let is = same_field n n 0 1 e in omega (arith, is)) ∙ h.free_first
    head-alone (suc zero) out = parted.second
    head-alone (suc (suc field)) out = absurd (omega (arith, out))

    pub entry-alone : (end : Ref) (refs : List Ref) (c : Version) → IsVersionOf v n refs c → Contains refs end → IsUnlisted mid end
    entry-alone end refs c is inside field out =
        let apart : end ≢ n = λ e. no_entry_at (body v n) (version-kind v n h.here.0 h.here.1 h.here.2) (subst (λ q. IsSomeAnd (body v q) (λ b. IsEntryKind b.0)) e (entries-kind v n refs c is end inside)) in
        parted.others (Obj end field) (λ e. cc) (λ e. apart (same_object end n field 1 e)) ∙ entry-unlisted this other v n m h n refs c is end inside field out

    pub half-left : (new : View) (these : Ref → Type 0) → IsKeptBeside these n mid new → IsHalfOf this other new m
    half-left new these kept =
        let there : IsVersionOf mid m h.there.0 h.there.1 = version-parted v mid this n parted same m h.there.0 h.there.1 h.there.2 in
        let no_slot : Slot other ≢ Slot this = λ e. (let both : Some (Obj m 1) ≡ Some (Obj n 1) = sym h.second ∙ ap (link_of v) e ∙ h.first in h.differ cc) in record {
          slot = kept.roots this (same.ends (Slot this) slot-there);
          unset = kept.links (Slot this) tt ∙ parted.first;
          second = kept.links (Slot other) tt ∙ parted.others (Slot other) no_slot (λ e. cc) ∙ h.second;
          alone = λ r no_m field out. kept.links (Obj r field) out ∙ alone_mid r no_m field out;
          free_second = kept.links (Obj m 0) (omega arith) ∙ parted.others (Obj m 0) (λ e. cc) (λ e. let is = same_field m n 0 1 e in omega (arith, is)) ∙ h.free_second;
          there = (h.there.0, h.there.1, kept.versions m h.there.0 h.there.1 (λ e. h.differ (sym e)) there);
        }
      where
        alone_mid : (r : Ref) → r ≢ m → IsUnlisted mid r
        alone_mid r no_m field out = elim (refs_decided r n) [
          | inl e ↦ subst (λ q. link_of mid (Obj q field) ≡ None) (sym e) (head-alone field out)
          | inr no_n ↦ parted.others (Obj r field) (λ e. cc) (λ e. no_n (same_object r n field 1 e)) ∙ h.alone r no_n no_m field out
        ]

pub same-end : (a b : End) → Some a ≡ Some b → a ≡ b
same-end a b e = cc
