-- Walks along a chain: from the newest version down, and from a version up to the root slot.
use Rattle.std.proofs.Common.{◌≡◌, ◌≢◌, inl, inr, ℕ, ◌+◌, ◌<◌, ◌≤◌, List, [], ◌∷◌, ◌++◌, append_assoc, length, reverse, Option, Some, None, IsSome, is_some, refl, sym, ap, ◌∙◌, subst, arith}
use Rattle.std.specs.Prelude.{IsSomeAnd, Contains}
use Rattle.std.proofs.lemmas.List.{length-append, length-map, length-reverse}
use Rattle.lsa_kinds.specs.declared.kind.Kind.{Kind}
use Rattle.lsa_kinds.specs.declared.kind.Kind.TheVariants.{Version as VersionKind, RowEntry, Dummy, Static as StaticKind}
use Rattle.lsa_kinds.specs.Kinds.{links_of}
use Rattle.lsa_store.specs.declared.place.Ref.{Ref}
use Rattle.lsa_region.specs.declared.end.Root.{Root}
use Rattle.lsa_region.specs.declared.end.End.{End}
use Rattle.lsa_region.specs.declared.end.End.TheVariants.{Obj, Slot}
use Rattle.lsa_region.specs.Region.{View, body, link_of, objects, IsEnd, IsWell, IsSummed}
use Rattle.lsa_path.specs.Path.{IsPath, behind}
use Rattle.lsa_path.specs.laws.Passing.{path-determined, path-few, path-named}
use Rattle.lsa_path.specs.laws.Members.{member-split}
use Rattle.lsa_path.specs.laws.Paths.{same_object, same_some, path-rest}
use Rattle.lsa_path.specs.laws.Renamed.{some-there}
use Rattle.lsa_list.specs.calls.Recency.{object_of}
use Rattle.rc_version.specs.Entries.{IsEntryKind}
use Rattle.rc_core.specs.Version.{Version}
use Rattle.rc_version.specs.Versions.{IsStaticsOf, IsVersionOf}
use Rattle.rc_version.specs.laws.Staying.{entries-kind, version-kind}
use Rattle.rc_partition.specs.Partitions.{StandingVersion, PartitionEntry, IsPartitionEntry, IsRowOfVersion, heads_of}
use Rattle.rc_partition.specs.laws.Apart.{fields_differ, row-version, same_root, static-kind}
use Rattle.rc_partition.specs.laws.Lists.{elem-map, elem-reversed}
use Rattle.rc_partition.specs.laws.Same.{heads, tails}

lower_end : (o : Option (Kind × List ℕ)) → IsSomeAnd o (λ b. 1 < links_of b.0) → IsSomeAnd o (λ b. 0 < links_of b.0)
lower_end None h = h
lower_end (Some b) h = omega (arith, h)

pub same_ref_of : (r q : Ref) → Some r ≡ Some q → r ≡ q
same_ref_of r q e = cc

-- ---- down

-- from an end that so many versions lie before, the chain leads on through these
pub record IsPassing (v : View) (start at : End) (passed : ℕ) (left : List Ref) : Type 0 where
  pub there : IsEnd v at
  pub path : IsPath 1 0 (link_of v) at left None
  pub each : (xs : List Ref) → IsPath 1 0 (link_of v) start xs None → passed + length left ≡ length xs

module _ (v : View) (start : End) where
  pub passing-start : IsEnd v start → (xs : List Ref) → IsPath 1 0 (link_of v) start xs None → IsPassing v start start 0 xs
  passing-start there xs p = record {
    there = there;
    path = p;
    each = λ ys q. let same : length xs ≡ length ys = ap (λ (l : List Ref). length l) (path-determined 1 0 (link_of v) start xs ys None None refl refl p q).0 in omega (arith, same);
  }

  pub passing-next : IsWell v → (at : End) (passed : ℕ) (left : List Ref) (r : Ref) → IsPassing v start at passed left → object_of (link_of v at) ≡ Some r → (rest : List Ref) × IsPassing v start (Obj r 0) (passed + 1) rest
  passing-next well at passed [] r w is = absurd (let clash : None ≡ Some r = sym (ap object_of w.path) ∙ is in cc)
  passing-next well at passed (x ∷ left) r w is = let same : x ≡ r = same_ref_of x r (sym (ap object_of w.path.0) ∙ is) in (
    left,
    record {
      there = subst (λ q. IsEnd v (Obj q 0)) same (lower_end (body v x) (well.ends at (Obj x 1) w.path.0));
      path = subst (λ q. IsPath 1 0 (link_of v) (Obj q 0) left None) same w.path.1;
      each = λ xs p. let all = w.each xs p in omega (arith, all);
    },
  )

  pub passing-last : (at : End) (passed : ℕ) (left : List Ref) → IsPassing v start at passed left → object_of (link_of v at) ≡ None → (xs : List Ref) → IsPath 1 0 (link_of v) start xs None → passed ≡ length xs
  passing-last at passed [] w is xs p = let all = w.each xs p in omega (arith, all)
  passing-last at passed (x ∷ left) w is xs p = absurd (let clash : Some x ≡ None = sym (ap object_of w.path.0) ∙ is in cc)

  pub passing-all : (at : End) (passed most : ℕ) (left : List Ref) → IsPassing v start at passed left → (ys : List Ref) → IsPath 1 0 (link_of v) start ys None → length ys ≤ most → most ≤ passed → (xs : List Ref) → IsPath 1 0 (link_of v) start xs None → most ≡ length xs
  passing-all at passed most left w ys q few far xs p = let one = w.each xs p in let two = w.each ys q in omega (arith, one, two, few, far)

-- ---- to a version that so many newer ones stand over

same_at : (xs us : List Ref) (n m : Ref) (ys vs : List Ref) → xs ++ (n ∷ ys) ≡ us ++ (m ∷ vs) → length xs ≡ length us → n ≡ m
same_at [] [] n m ys vs e long = heads n m ys vs e
same_at [] (u ∷ us) n m ys vs e long = absurd (omega (arith, long))
same_at (x ∷ xs) [] n m ys vs e long = absurd (omega (arith, long))
same_at (x ∷ xs) (u ∷ us) n m ys vs e long = same_at xs us n m ys vs (tails x u (xs ++ (n ∷ ys)) (us ++ (m ∷ vs)) e) (omega (arith, long))

-- from an end the chain leads through these to the version n, over which so many stand in all, of which so many were passed
pub record IsSeeking (v : View) (root : Root) (at : End) (newer passed : ℕ) (xs : List Ref) (n : Ref) (ys : List Ref) : Type 0 where
  pub there : IsEnd v at
  pub path : IsPath 1 0 (link_of v) at (xs ++ (n ∷ ys)) None
  pub far : passed + length xs ≡ newer
  pub only : (us : List Ref) (m : Ref) (vs : List Ref) → IsPath 1 0 (link_of v) (Slot root) (us ++ (m ∷ vs)) None → length us ≡ newer → n ≡ m

module _ (v : View) (root : Root) where
  pub seeking-start : IsEnd v (Slot root) → (newer : ℕ) (xs : List Ref) (n : Ref) (ys : List Ref) → IsPath 1 0 (link_of v) (Slot root) (xs ++ (n ∷ ys)) None → length xs ≡ newer → IsSeeking v root (Slot root) newer 0 xs n ys
  seeking-start there newer xs n ys p long = record {
    there = there;
    path = p;
    far = omega (arith, long);
    only = λ us m vs q as_long. same_at xs us n m ys vs (path-determined 1 0 (link_of v) (Slot root) (xs ++ (n ∷ ys)) (us ++ (m ∷ vs)) None None refl refl p q).0 (long ∙ sym as_long);
  }

  pub seeking-next : IsWell v → (at : End) (newer passed : ℕ) (xs : List Ref) (n : Ref) (ys : List Ref) (r : Ref) → passed < newer → IsSeeking v root at newer passed xs n ys → object_of (link_of v at) ≡ Some r → (rest : List Ref) × IsSeeking v root (Obj r 0) newer (passed + 1) rest n ys
  seeking-next well at newer passed [] n ys r less w is = absurd (let far = w.far in omega (arith, far, less))
  seeking-next well at newer passed (x ∷ xs) n ys r less w is = let same : x ≡ r = same_ref_of x r (sym (ap object_of w.path.0) ∙ is) in (
    xs,
    record {
      there = subst (λ q. IsEnd v (Obj q 0)) same (lower_end (body v x) (well.ends at (Obj x 1) w.path.0));
      path = subst (λ q. IsPath 1 0 (link_of v) (Obj q 0) (xs ++ (n ∷ ys)) None) same w.path.1;
      far = let far = w.far in omega (arith, far);
      only = w.only;
    },
  )

  pub seeking-set : (at : End) (newer passed : ℕ) (xs : List Ref) (n : Ref) (ys : List Ref) → IsSeeking v root at newer passed xs n ys → IsSome (object_of (link_of v at))
  seeking-set at newer passed [] n ys w = ap is_some (ap object_of w.path.0)
  seeking-set at newer passed (x ∷ xs) n ys w = ap is_some (ap object_of w.path.0)

  pub seeking-here : (at : End) (newer passed : ℕ) (xs : List Ref) (n : Ref) (ys : List Ref) (r : Ref) → newer ≤ passed → IsSeeking v root at newer passed xs n ys → object_of (link_of v at) ≡ Some r → r ≡ n
  seeking-here at newer passed [] n ys r far w is = sym (same_ref_of n r (sym (ap object_of w.path.0) ∙ is))
  seeking-here at newer passed (x ∷ xs) n ys r far w is = absurd (let all = w.far in omega (arith, all, far))

-- ---- up

-- in whatever chain the version n stands, this one stands over it, so many steps away
abbrev pub Climbs : View → Ref → Ref → ℕ → Type 0
Climbs v n at passed = (root : Root) (xs ys : List Ref) → IsPath 1 0 (link_of v) (Slot root) (xs ++ (n ∷ ys)) None → (front : List Ref) × (back : List Ref) × IsPath 1 0 (link_of v) (Slot root) (front ++ (at ∷ back)) None × (passed + length front ≡ length xs)

no_slot : (x : Ref) (xs : List Ref) (q : Root) → behind 0 (Obj x 0) xs ≡ Slot q → ⊥
no_slot x [] q e = cc e
no_slot x (y ∷ xs) q e = no_slot y xs q e

last_of : (x : Ref) (xs : List Ref) (r : Ref) (f : ℕ) → behind 0 (Obj x 0) xs ≡ Obj r f → (rest : List Ref) × (x ∷ xs ≡ rest ++ (r ∷ []))
last_of x [] r f e = ([], ap (λ q. q ∷ []) (same_object x r 0 f e))
last_of x (y ∷ xs) r f e = let w = last_of y xs r f e in (x ∷ w.0, ap (λ l. x ∷ l) w.1)

last_behind : (s : Root) (xs : List Ref) (r : Ref) (f : ℕ) → behind 0 (Slot s) xs ≡ Obj r f → (rest : List Ref) × (xs ≡ rest ++ (r ∷ []))
last_behind s [] r f e = cc e
last_behind s (x ∷ xs) r f e = last_of x xs r f e

first_behind : (s : Root) (xs : List Ref) (q : Root) → behind 0 (Slot s) xs ≡ Slot q → q ≡ s
first_behind s [] q e = sym (same_root s q e)
first_behind s (x ∷ xs) q e = absurd (no_slot x xs q e)

fewer : (passed front rest xs : ℕ) → front ≡ rest + 1 → passed + front ≡ xs → passed + 1 + rest ≡ xs
fewer passed front rest xs one all = omega (arith, one, all)

module _ (v : View) (well : IsWell v) (n at : Ref) (passed : ℕ) (h : Climbs v n at passed) where
  up_named : (root : Root) (xs ys : List Ref) (p : IsPath 1 0 (link_of v) (Slot root) (xs ++ (n ∷ ys)) None) → link_of v (Obj at 1) ≡ Some (behind 0 (Slot root) (h root xs ys p).0)
  up_named root xs ys p = let w = h root xs ys p in path-named 1 0 fields_differ (link_of v) well.paired (Slot root) w.0 w.1 at None w.2

  pub climbs-there : (root : Root) (xs ys : List Ref) → IsPath 1 0 (link_of v) (Slot root) (xs ++ (n ∷ ys)) None → IsEnd v (Obj at 1)
  climbs-there root xs ys p = let w = h root xs ys p in well.ends (behind 0 (Slot root) w.0) (Obj at 1) (path-rest 1 0 (link_of v) (Slot root) w.0 (at ∷ w.1) None w.2).0

  pub climbs-set : (root : Root) (xs ys : List Ref) → IsPath 1 0 (link_of v) (Slot root) (xs ++ (n ∷ ys)) None → link_of v (Obj at 1) ≡ None → ⊥
  climbs-set root xs ys p none = let clash : None ≡ Some (behind 0 (Slot root) (h root xs ys p).0) = sym none ∙ up_named root xs ys p in cc

  pub climbs-next : (newer : Ref) (f : ℕ) → link_of v (Obj at 1) ≡ Some (Obj newer f) → Climbs v n newer (passed + 1)
  climbs-next newer f is = λ root xs ys p.
      let w = h root xs ys p in let at_last = last_behind root w.0 newer f (same_some (behind 0 (Slot root) w.0) (Obj newer f) (sym (up_named root xs ys p) ∙ is)) in (
        at_last.0,
        at ∷ w.1,
        subst (λ l. IsPath 1 0 (link_of v) (Slot root) l None) (ap (λ l. l ++ (at ∷ w.1)) at_last.1 ∙ append_assoc at_last.0 (newer ∷ []) (at ∷ w.1)) w.2,
        fewer passed (length w.0) (length at_last.0) (length xs) (ap (λ (l : List Ref). length l) at_last.1 ∙ length-append at_last.0 (newer ∷ [])) w.3,
      )

  pub climbs-top : (q : Root) → link_of v (Obj at 1) ≡ Some (Slot q) → (root : Root) (xs ys : List Ref) → IsPath 1 0 (link_of v) (Slot root) (xs ++ (n ∷ ys)) None → q ≡ root
  climbs-top q is root xs ys p = first_behind root (h root xs ys p).0 q (same_some (behind 0 (Slot root) (h root xs ys p).0) (Slot q) (sym (up_named root xs ys p) ∙ is))

  pub climbs-few : IsSummed v → objects v ≤ passed → (root : Root) (xs ys : List Ref) → IsPath 1 0 (link_of v) (Slot root) (xs ++ (n ∷ ys)) None → ⊥
  climbs-few summed far root xs ys p =
      let few = path-few 1 0 fields_differ v well summed (Slot root) (xs ++ (n ∷ ys)) None tt p in let long = length-append xs (n ∷ ys) in let steps = (h root xs ys p).3 in omega (arith, few, long, steps, far)

-- ---- where a version stands

version_ends : (o : Option (Kind × List ℕ)) (f : ℕ) → f ≤ 3 → IsSomeAnd o (λ b. b.0 ≡ VersionKind) → IsSomeAnd o (λ b. f < links_of b.0)
version_ends None f low h = h
version_ends (Some b) f low h = subst (λ k. f < links_of k) (sym h) (omega (arith, low))

pub version-end : (v : View) (n : Ref) (refs : List Ref) (c : Version) (f : ℕ) → f ≤ 3 → IsVersionOf v n refs c → IsEnd v (Obj n f)
version-end v n refs c f low h = version_ends (body v n) f low (version-kind v n refs c h)

module _ (v : View) (p : PartitionEntry) (h : IsPartitionEntry v p) (s : StandingVersion) (on : Contains p.versions s) where
  -- the versions over one and below it
  pub chain-split : (xs : List Ref) × (ys : List Ref) × IsPath 1 0 (link_of v) (Slot p.root) (xs ++ (s.object ∷ ys)) None
  chain-split = let w = member-split (reverse (heads_of p.versions)) s.object (elem-reversed (heads_of p.versions) s.object (elem-map (λ (t : StandingVersion). t.object) p.versions s on)) in
      (w.0, w.1, subst (λ l. IsPath 1 0 (link_of v) (Slot p.root) l None) w.2 h.chain)

pub chain-below : (v : View) (root : Root) (xs : List Ref) (n : Ref) (ys : List Ref) → IsPath 1 0 (link_of v) (Slot root) (xs ++ (n ∷ ys)) None → IsPath 1 0 (link_of v) (Obj n 0) ys None
chain-below v root xs n ys p = (path-rest 1 0 (link_of v) (Slot root) xs (n ∷ ys) None p).1

pub chain-few : (v : View) → IsWell v → IsSummed v → (root : Root) (xs : List Ref) → IsPath 1 0 (link_of v) (Slot root) xs None → length xs ≤ objects v
chain-few v well summed root xs p = path-few 1 0 fields_differ v well summed (Slot root) xs None tt p

pub below-few : (v : View) → IsWell v → IsSummed v → (root : Root) (xs : List Ref) (n : Ref) (ys : List Ref) → IsPath 1 0 (link_of v) (Slot root) (xs ++ (n ∷ ys)) None → length ys ≤ objects v
below-few v well summed root xs n ys p = let few = chain-few v well summed root (xs ++ (n ∷ ys)) p in let long = length-append xs (n ∷ ys) in omega (arith, few, long)

pub objects-length : (vs : List StandingVersion) → length (reverse (heads_of vs)) ≡ length vs
objects-length vs = length-reverse (heads_of vs) ∙ length-map vs (λ (s : StandingVersion). s.object)

pub number-length : (older : List StandingVersion) (s : StandingVersion) (newer : List StandingVersion) (count : ℕ) → count ≡ length (older ++ (s ∷ newer)) → count ≡ length older + (length newer + 1)
number-length older s newer count is = let long = length-append older (s ∷ newer) in omega (arith, is, long)

-- ---- the version of a row

kinds_same : (o : Option (Kind × List ℕ)) (a b : Kind) → IsSomeAnd o (λ x. x.0 ≡ a) → IsSomeAnd o (λ x. x.0 ≡ b) → a ≡ b
kinds_same None a b h k = absurd h
kinds_same (Some x) a b h k = sym h ∙ k

static_entry : (kind : Kind) → kind ≡ StaticKind → IsEntryKind kind → ⊥
static_entry kind a (inl b) = let clash : StaticKind ≡ RowEntry = sym a ∙ b in cc
static_entry kind a (inr b) = let clash : StaticKind ≡ Dummy = sym a ∙ b in cc

static_entry_in : (o : Option (Kind × List ℕ)) → IsSomeAnd o (λ b. b.0 ≡ StaticKind) → IsSomeAnd o (λ b. IsEntryKind b.0) → ⊥
static_entry_in None a b = a
static_entry_in (Some k) a b = static_entry k.0 a b

module _ (v : View) (s : StandingVersion) (h : IsVersionOf v s.object s.entries s.version) (r : Ref) (row : IsRowOfVersion v s r) (kind : Kind) (is : IsSomeAnd (body v r) (λ b. b.0 ≡ kind)) where
  pub row-there : IsSome (body v r)
  row-there = some-there _ (body v r) is

  pub row-entry : kind ≢ StaticKind → Contains s.entries r
  row-entry no_static = from_row row
    where
      from_row : IsRowOfVersion v s r → Contains s.entries r
      from_row (inl on) = on
      from_row (inr link) = absurd (no_static (kinds_same (body v r) kind StaticKind is (static-kind v s h r link)))

  pub row-static : kind ≡ StaticKind → IsStaticsOf v s.object r
  row-static static = from_row row
    where
      from_row : IsRowOfVersion v s r → IsStaticsOf v s.object r
      from_row (inl on) = absurd (static_entry_in (body v r) (subst (λ k. IsSomeAnd (body v r) (λ b. b.0 ≡ k)) static is) (entries-kind v s.object s.entries s.version h r on))
      from_row (inr link) = link

  pub row-no_version : kind ≡ VersionKind → ⊥
  row-no_version version = row-version v s h r row (subst (λ k. IsSomeAnd (body v r) (λ b. b.0 ≡ k)) version is)
