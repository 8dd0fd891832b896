-- An object stands at one place of one chain.
use Rattle.std.proofs.Common.{◌≡◌, ◌≢◌, ℕ, zero, suc, List, [], ◌∷◌, ◌++◌, Option, Some, None, length, inl, inr, refl, sym, ap, ◌∙◌, subst, slice_index_or}
use Rattle.std.specs.Prelude.{Contains, AllPairs, IsSomeAnd}
use Rattle.lsa_pool.specs.laws.Usages.{decided}
use Rattle.lsa_kinds.specs.declared.kind.Kind.{Kind}
use Rattle.std.proofs.lemmas.List.{map-append}
use Rattle.rc_position.specs.declared.positions.Pos.{Pos}
use Rattle.lsa_store.specs.declared.place.Ref.{Ref}
use Rattle.lsa_region.specs.Region.{View, body, IsWell}
use Rattle.rc_partition.specs.List.{List as Slots}
use Rattle.rc_partition.specs.Orders.{stands-once}
use Rattle.rc_partition.specs.Versions.{IsVersionOf}
use Rattle.rc_partition.specs.Partitions.{AreStanding, PartitionEntry, StandingVersion, IsPartitionEntry, IsRowOfVersion, heads_of, roots_of}
use Rattle.rc_partition.specs.Entries.{IsEntryKind, SpellsEntryAt}
use Rattle.rc_partition.specs.laws.Apart.{entry_apart, entry-once, entries-apart, one-version, static-kind}
use Rattle.rc_partition.specs.laws.Lists.{elem-first, elem-later, elem-here, elem-map, once-head, once-tail}
use Rattle.rc_memory.specs.Memory.{Member, IsObjectAt, IsOfVersion, IsVersionAt}
use Rattle.rc_memory.specs.Kept.{StandAt, present}

-- ---- lists

-- the first of a list
abbrev HeadIs : {X : Type 0} → X → List X → Type 0
HeadIs x [] = ⊥
HeadIs x (y ∷ ys) = x ≡ y

-- all but the first of a list
abbrev TailIs : {X : Type 0} → List X → List X → Type 0
TailIs xs [] = ⊥
TailIs xs (y ∷ ys) = xs ≡ ys

module _ {X : Type 0} where
  pub heads : (x y : X) (xs ys : List X) → x ∷ xs ≡ y ∷ ys → x ≡ y
  heads x y xs ys e = subst (HeadIs x) e refl

  pub tails : (x y : X) (xs ys : List X) → x ∷ xs ≡ y ∷ ys → xs ≡ ys
  tails x y xs ys e = subst (TailIs xs) e refl

  pub same_some : (x y : X) → Some x ≡ Some y → x ≡ y
  same_some x y e = cc

  pub no_some : (x : X) → None ≡ Some x → ⊥
  no_some x e = cc

  -- what stands once in a list stands at one number
  pub number-once : (ls bs cs ds : List X) (x : X) → AllPairs ◌≢◌ (ls ++ (x ∷ bs)) → ls ++ (x ∷ bs) ≡ cs ++ (x ∷ ds) → length ls ≡ length cs
  number-once [] bs [] ds x once e = refl
  number-once [] bs (c ∷ cs) ds x once e = absurd (once-head x bs once (subst (λ zs. Contains zs x) (sym (tails x c bs (cs ++ (x ∷ ds)) e)) (elem-here cs ds x)))
  number-once (a ∷ ls) bs [] ds x once e =
      absurd (once-head a (ls ++ (x ∷ bs)) once (subst (Contains (ls ++ (x ∷ bs))) (sym (heads a x (ls ++ (x ∷ bs)) ds e)) (elem-here ls bs x)))
  number-once (a ∷ ls) bs (c ∷ cs) ds x once e = ap suc (number-once ls bs cs ds x (once-tail a (ls ++ (x ∷ bs)) once) (tails a c (ls ++ (x ∷ bs)) (cs ++ (x ∷ ds)) e))

  -- what stands at a number is there
  pub present-at : (xs : List (Option X)) (n : ℕ) (x : X) → slice_index_or xs n None ≡ Some x → Contains (present xs) x
  present-at [] n x e = absurd (no_some x e)
  present-at (None ∷ xs) zero x e = absurd (no_some x e)
  present-at (None ∷ xs) (suc n) x e = present-at xs n x e
  present-at (Some y ∷ xs) zero x e = subst (Contains (y ∷ present xs)) (same_some y x e) (elem-first y (present xs))
  present-at (Some y ∷ xs) (suc n) x e = elem-later y x (present xs) (present-at xs n x e)

-- chains of two numbers have two root slots
pub roots-apart : (st : List (Option PartitionEntry)) (i j : ℕ) (p q : PartitionEntry) → AllPairs ◌≢◌ (roots_of (present st)) → slice_index_or st i None ≡ Some p → slice_index_or st j None ≡ Some q → i ≢ j → q.root ≢ p.root
roots-apart [] i j p q once a b ne same = no_some p a
roots-apart (None ∷ st) zero j p q once a b ne same = no_some p a
roots-apart (None ∷ st) (suc i) zero p q once a b ne same = no_some q b
roots-apart (None ∷ st) (suc i) (suc j) p q once a b ne same = roots-apart st i j p q once a b (λ e. ne (ap suc e)) same
roots-apart (Some y ∷ st) zero zero p q once a b ne same = ne refl
roots-apart (Some y ∷ st) zero (suc j) p q once a b ne same =
    once-head y.root (roots_of (present st)) once
    (subst (Contains (roots_of (present st))) (same ∙ ap (λ (x : PartitionEntry). x.root) (sym (same_some y p a))) (elem-map (λ (x : PartitionEntry). x.root) (present st) q (present-at st j q b)))
roots-apart (Some y ∷ st) (suc i) zero p q once a b ne same =
    once-head y.root (roots_of (present st)) once
    (subst (Contains (roots_of (present st))) (sym same ∙ ap (λ (x : PartitionEntry). x.root) (sym (same_some y q b))) (elem-map (λ (x : PartitionEntry). x.root) (present st) p (present-at st i p a)))
roots-apart (Some y ∷ st) (suc i) (suc j) p q once a b ne same = roots-apart st i j p q (once-tail y.root (roots_of (present st)) once) a b (λ e. ne (ap suc e)) same

-- ---- the place of an object

module _ (slots : Slots) (v : View) (well : IsWell v) (st : List (Option PartitionEntry)) (listed : List Ref) (stands : AreStanding slots v (present st) listed) where
  entry-at : (n : ℕ) (p : PartitionEntry) → slice_index_or st n None ≡ Some p → IsPartitionEntry v p
  entry-at n p e = stands.entries p (present-at st n p e)

  -- two versions of one object are one, and of one number
  pub version-place : (i j a b : ℕ) (p q : PartitionEntry) (s t : StandingVersion) → slice_index_or st i None ≡ Some p → slice_index_or st j None ≡ Some q → IsVersionAt p.versions a s → IsVersionAt q.versions b t → s.object ≡ t.object → (i ≡ j) × (a ≡ b)
  version-place i j a b p q s t ip jq ls bt same = elim (decided i j) [
    | inl e ↦ (e, let pq = same_some p q (sym ip ∙ ap (λ n. slice_index_or st n None) e ∙ jq) in numbers pq)
    | inr ne ↦ absurd (entries-apart v well p q (entry-at i p ip) (entry-at j q jq) (roots-apart st i j p q stands.apart ip jq ne) s.object
        (object-in p a s ls) (subst (Contains (heads_of q.versions)) (sym same) (object-in q b t bt)))
  ] where
    object-in : (p : PartitionEntry) (a : ℕ) (s : StandingVersion) → IsVersionAt p.versions a s → Contains (heads_of p.versions) s.object
    object-in p a s h = elem-map (λ (x : StandingVersion). x.object) p.versions s (subst (λ vs. Contains vs s) (sym h.split) (elem-here h.older h.newer s))

    halves : (p : PartitionEntry) (a : ℕ) (s : StandingVersion) (h : IsVersionAt p.versions a s) → heads_of p.versions ≡ heads_of h.older ++ (s.object ∷ heads_of h.newer)
    halves p a s h = ap heads_of h.split ∙ map-append (λ (x : StandingVersion). x.object) h.older (s ∷ h.newer)

    numbers : p ≡ q → a ≡ b
    numbers pq =
        let bt' : IsVersionAt p.versions b t = subst (λ (z : PartitionEntry). IsVersionAt z.versions b t) (sym pq) bt in
        let other = halves p b t bt' ∙ ap (λ o. heads_of bt'.older ++ (o ∷ heads_of bt'.newer)) (sym same) in
        let once = subst (AllPairs ◌≢◌) (halves p a s ls) (entry-once v well p (entry-at i p ip)) in
        sym ls.number ∙ sym (map_length ls.older) ∙ number-once (heads_of ls.older) (heads_of ls.newer) (heads_of bt'.older) (heads_of bt'.newer) s.object once (sym (halves p a s ls) ∙ other) ∙ map_length bt'.older ∙ bt'.number
      where
        map_length : (ss : List StandingVersion) → length (heads_of ss) ≡ length ss
        map_length [] = refl
        map_length (x ∷ ss) = ap suc (map_length ss)

  pub version-there : (n a : ℕ) (p : PartitionEntry) (s : StandingVersion) → slice_index_or st n None ≡ Some p → IsVersionAt p.versions a s → IsVersionOf v s.object s.entries s.version
  version-there n a p s e h = (entry-at n p e).versions s (subst (λ vs. Contains vs s) (sym h.split) (elem-here h.older h.newer s))

  -- an object stands at one place
  pub one-place : (r : Ref) (w x : Member) → IsObjectAt v st r w → IsObjectAt v st r x → w ≡ x
  one-place r w x a b =
      let h = version-there w.chain w.version a.partition a.version a.chain a.number in let k = version-there x.chain x.version b.partition b.version b.chain b.number in
      let same = one-version v well a.version b.version h k r (row a.version w.position a.object) (row b.version x.position b.object) in
      let n = version-place w.chain x.chain w.version x.version a.partition b.partition a.version b.version a.chain b.chain a.number b.number same in
      let p = positions w.position x.position a.version b.version h k a.object b.object in
      λ i. record { chain = n.0 i; version = n.1 i; position = p i }
    where
      row : (s : StandingVersion) (p : Option Pos) → IsOfVersion v s p r → IsRowOfVersion v s r
      row s None h = inr h
      row s (Some y) h = inl h.0

      kind : (o : Option (Kind × List ℕ)) (y : Pos) → IsSomeAnd o (λ b. SpellsEntryAt b y) → IsSomeAnd o (λ b. IsEntryKind b.0)
      kind None y h = h
      kind (Some b) y h = h.kind

      positions : (p q : Option Pos) (s t : StandingVersion) → IsVersionOf v s.object s.entries s.version → IsVersionOf v t.object t.entries t.version → IsOfVersion v s p r → IsOfVersion v t q r → p ≡ q
      positions None None s t h k a b = refl
      positions None (Some y) s t h k a b = absurd (entry_apart (body v r) (static-kind v s h r a) (kind (body v r) y b.1))
      positions (Some x) None s t h k a b = absurd (entry_apart (body v r) (static-kind v t k r b) (kind (body v r) x a.1))
      positions (Some x) (Some y) s t h k a b = ap Some (stands-once v r x y a.1 b.1)

  pub members-once : (refs : List Ref) (ws xs : List Member) → StandAt v st refs ws → StandAt v st refs xs → ws ≡ xs
  members-once [] [] [] a b = refl
  members-once [] [] (x ∷ xs) a b = absurd b
  members-once [] (w ∷ ws) xs a b = absurd a
  members-once (r ∷ refs) [] xs a b = absurd a
  members-once (r ∷ refs) (w ∷ ws) [] a b = absurd b
  members-once (r ∷ refs) (w ∷ ws) (x ∷ xs) a b = let e = one-place r w x a.0 b.0 in let es = members-once refs ws xs a.1 b.1 in λ i. e i ∷ es i
