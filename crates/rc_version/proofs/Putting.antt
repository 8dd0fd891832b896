-- A version after an entry was made and put where it belongs.
use Rattle.std.proofs.Common.{◌≡◌, ◌≢◌, ℕ, ◌+◌, ◌≤◌, List, [], ◌∷◌, ◌++◌, Some, Option, None, IsSome, ◌⊎◌, inl, inr, refl, sym, ap, ◌∙◌, subst, arith}
use Rattle.std.specs.Prelude.{Contains, IsSomeAnd}
use Rattle.std.proofs.lemmas.List.Elements.{Contains-append_cases, Contains-append_left, Contains-append_right}
use Rattle.lsa_kinds.specs.declared.kind.Kind.{Kind}
use Rattle.lsa_kinds.specs.declared.kind.Kind.TheVariants.{Version as VersionKind}
use Rattle.lsa_region.specs.laws.Refs.{refs_decided}
use Rattle.lsa_path.specs.laws.Members.{member-cases, member-first, member-here, member-later}
use Rattle.lsa_pool.specs.Room.{spare_of, live_sum}
use Rattle.lsa_store.specs.declared.place.Ref.{Ref}
use Rattle.lsa_region.specs.declared.end.End.{End}
use Rattle.lsa_region.specs.declared.end.End.TheVariants.{Obj}
use Rattle.lsa_region.specs.Region.{View, body, link_of, live_bytes, IsWell}
use Rattle.lsa_region.specs.laws.Ends.{no-end, some_and_none}
use Rattle.lsa_path.specs.laws.Renamed.{some-there}
use Rattle.rc_position.specs.declared.positions.Pos.{Pos}
use Rattle.lsa_tree.specs.declared.tree.Tree.{Tree}
use Rattle.lsa_tree.specs.Entries.{IsAlike, IsEntryAtPosition, BelongsBetween}
use Rattle.lsa_tree.specs.Tree.{IsTree, IsLoose, IsOffTree, SameButBalances}
use Rattle.lsa_tree.specs.laws.Orders.{belongs-kept}
use Rattle.lsa_tree.specs.laws.Trees.{tree-entry, tree-added, tree-once, loose-beside, loose-made, stands-added}
use Rattle.rc_core.specs.declared.entries.Entry.{Entry}
use Rattle.rc_core.specs.Continuity.{with_entries}
use Rattle.rc_core.specs.Version.{Version, IsVersion}
use Rattle.rc_object.specs.Objects.{HoldsEntry, IsMade}
use Rattle.rc_version.specs.Versions.{tree_of, HoldEntries, IsVersionOf, IsKeptBeside, IsKeptBut, IsUnlisted, HasWhatWasMade, MayChange}
use Rattle.rc_version.specs.laws.Objects.{made-kind, not_static, holds-stands, holds-same}
use Rattle.rc_version.specs.laws.Holding.{hold-both, hold-kept}
use Rattle.rc_version.specs.laws.Marked.{none-balances, none-there}
use Rattle.rc_version.specs.laws.Staying.{made-added, made-same, made-version, made-kept, IsTreeStep, step-held, step-beside, step-kept, step-version, static-off, versions-apart, kept-then}

-- an object is a member, or not
pub member-decided : (refs : List Ref) (q : Ref) → Contains refs q ⊎ (Contains refs q → ⊥)
member-decided [] q = inr (λ k. omega (arith, k.1))
member-decided (r ∷ refs) q = elim (refs_decided r q) [
  | inl is ↦ inl (subst (Contains (r ∷ refs)) is (member-first r refs))
  | inr ne ↦ elim (member-decided refs q) [
    | inl k ↦ inl (member-later r q refs k)
    | inr none ↦ inr (λ k. elim (member-cases r q refs k) [ inl is ↦ ne is | inr later ↦ none later ])
  ]
]

alike_there : (o p : Option (Kind × List ℕ)) → IsAlike o p → IsSome o → IsSome p
alike_there None p same there = cc
alike_there (Some b) None same there = cc same
alike_there (Some b) (Some d) same there = refl

-- what is not there behind a step that frees nothing was not there before it
pub fresh-before : (o p : Option (Kind × List ℕ)) → (IsSome o → IsSome p) → p ≡ None → o ≡ None
fresh-before None p there gone = refl
fresh-before (Some b) p there gone = absurd (let clash = subst IsSome gone (there refl) in cc)

-- what was not there is in no list
pub fresh-unlisted : (these : Ref → Type 0) (n : Ref) (old new : View) → IsWell old → IsKeptBeside these n old new → (q : Ref) → body old q ≡ None → IsUnlisted new q
fresh-unlisted these n old new well kept q gone = λ field low. kept.links (Obj q field) low ∙ no-end old well (Obj q field) (λ there. some_and_none (body old q) _ gone there)

module _ (S : ℕ) (old mid : View) (n r : Ref) (size : ℕ) (e : Entry) (made : IsMade S old mid r size) (held : HoldsEntry mid r e) where
  pub put-loose : IsLoose mid r
  put-loose = let kind = made-kind mid r e made.object.0 made.object.1 held (made-added S old mid r size made).here in
      loose-made old mid r made.object.0 made.object.1 (made-added S old mid r size made) kind (made.object.2.level (not_static made.object.0 kind))

  module _ (front back : List Ref) (tree : IsTree (tree_of n) old (front ++ back)) where
    pub put-tree : IsTree (tree_of n) mid (front ++ back)
    put-tree = tree-added (tree_of n) old mid r made.object.0 made.object.1 (made-added S old mid r size made) (front ++ back) tree

    pub put-fits : (x : Pos) → BelongsBetween old x front back → BelongsBetween mid x front back
    put-fits x fits = belongs-kept old mid x front back (λ q k at h. stands-added old mid r made.object.0 made.object.1 (made-added S old mid r size made) q at h)
        (λ q k at h. stands-added old mid r made.object.0 made.object.1 (made-added S old mid r size made) q at h) fits

    -- what `insert` asks for
    pub put-belongs : BelongsBetween old e.position front back → (xs : List Ref) × (ys : List Ref) × (x : Pos) × IsTree (tree_of n) mid (xs ++ ys) × IsEntryAtPosition mid r x × BelongsBetween mid x xs ys
    put-belongs fits = (front, back, e.position, put-tree, holds-stands mid r e held, put-fits e.position fits)

    module _ (well : IsWell mid) (new : View) (others : (other : Tree) (refs : List Ref) → other.top ≢ Obj n 2 → IsTree other mid refs → IsTree other new refs)
        (elsewhere : (a : End) → IsOffTree mid a → link_of new a ≡ link_of mid a) (objects : SameButBalances mid new (front ++ back)) where
      pub put-step : IsTreeStep mid new n (front ++ back)
      put-step = record {
        others = others;
        elsewhere = elsewhere;
        objects = objects;
        kinds = λ q k. tree-entry (tree_of n) mid (front ++ back) q put-tree k;
        apart = λ m refs ne h q a b. versions-apart mid well m n ne refs (front ++ back) h put-tree q a b;
      }

      pub put-held : HoldsEntry new r e
      put-held = step-beside mid new n (front ++ back) put-step r e (loose-beside (tree_of n) mid well (front ++ back) r put-tree put-loose) held

      keep : (q : Ref) (d : Entry) → Contains (front ++ back) q → HoldsEntry old q d → HoldsEntry new q d
      keep q d k h = step-held mid new n (front ++ back) put-step q d k (holds-same old mid q d (made-same S old mid r size made q (some-there _ (body old q) h)) h)

      pub put-entries : (fe be : List Entry) → HoldEntries old front fe → HoldEntries old back be → HoldEntries new (front ++ (r ∷ back)) (fe ++ (e ∷ be))
      put-entries fe be ahead behind = hold-both new front (r ∷ back) fe (e ∷ be) (hold-kept old new front fe (λ q d k h. keep q d (Contains-append_left front back q k) h) ahead)
          (put-held, hold-kept old new back be (λ q d k h. keep q d (Contains-append_right front back q k) h) behind)

      pub put-version : (c : Version) (fe be : List Entry) → HoldEntries old front fe → HoldEntries old back be → IsVersion (with_entries (fe ++ (e ∷ be)) c) → IsTree (tree_of n) new (front ++ (r ∷ back))
          → IsVersionOf old n (front ++ back) c → IsVersionOf new n (front ++ (r ∷ back)) (with_entries (fe ++ (e ∷ be)) c)
      put-version c fe be ahead behind is inserted h = step-version mid new n (front ++ back) put-step (front ++ back) (front ++ (r ∷ back)) c (fe ++ (e ∷ be))
          (made-version S old mid r size made n (front ++ back) c h) inserted (put-entries fe be ahead behind) is

      pub put-kept : IsKeptBut n old new
      put-kept = kept-then (MayChange old n) n old mid new (made-kept S old mid r size made (MayChange old n) n (inl (made-added S old mid r size made).fresh))
          (step-kept mid new n (front ++ back) put-step (MayChange old n) (λ q k. inr (inr (inl (front ++ back, tree, k)))))

      pub put-spare : spare_of S old.usages ≤ spare_of S new.usages + size
      put-spare = subst (λ us. spare_of S old.usages ≤ spare_of S us + size) (sym objects.usages) made.spare

      pub put-live : live_bytes new ≡ live_bytes old + size
      put-live = ap (λ us. live_sum us) objects.usages ∙ made.live

      -- each entry holds what it held
      pub put-all : (q : Ref) (d : Entry) → HoldsEntry old q d → HoldsEntry new q d
      put-all q d h =
          let there = holds-same old mid q d (made-same S old mid r size made q (some-there _ (body old q) h)) h in
          elim (member-decided (front ++ back) q) [ inl k ↦ keep q d k h | inr k ↦ step-beside mid new n (front ++ back) put-step q d k there ]

      same_there : (q : Ref) → IsSome (body mid q) → IsSome (body new q)
      same_there q there = elim (member-decided (front ++ back) q) [ inl k ↦ alike_there (body mid q) (body new q) (objects.alike q k) there | inr k ↦ subst IsSome (sym (objects.bodies q k)) there ]

      -- nothing else becomes a part of the version
      pub put-parts : IsSomeAnd (body old n) (λ b. b.0 ≡ VersionKind) → IsTree (tree_of n) new (front ++ (r ∷ back)) → (q : Ref) → MayChange new n q → MayChange old n q
      put-parts kind now q (inl gone) = inl (fresh-before (body old q) (body new q) (λ there. same_there q (subst IsSome (sym (made-same S old mid r size made q there)) there)) gone)
      put-parts kind now q (inr (inl is)) = inr (inl is)
      put-parts kind now q (inr (inr (inl k))) = elim (Contains-append_cases front (r ∷ back) q (subst (λ l. Contains l q) (tree-once (tree_of n) new k.0 (front ++ (r ∷ back)) k.1 now) k.2)) [
        | inl ahead ↦ inr (inr (inl (front ++ back, tree, Contains-append_left front back q ahead)))
        | inr later ↦ elim (member-cases r q back later) [
          | inl is ↦ inl (subst (λ z. body old z ≡ None) is (made-added S old mid r size made).fresh)
          | inr behind ↦ inr (inr (inl (front ++ back, tree, Contains-append_right front back q behind)))
        ]
      ]
      put-parts kind now q (inr (inr (inr named))) =
          inr (inr (inr (sym ((made-added S old mid r size made).links (Obj n 3)) ∙ sym (elsewhere (Obj n 3) (static-off mid n (subst (λ (o : Option (Kind × List ℕ)). IsSomeAnd o (λ b. b.0 ≡ VersionKind)) (sym (made-same S old mid r size made n (some-there _ (body old n) kind))) kind))) ∙ named)))

      -- and nothing but the entry was made
      pub put-own : IsTree (tree_of n) new (front ++ (r ∷ back)) → HasWhatWasMade n old new
      put-own now q fresh there = elim (refs_decided q r) [
        | inl is ↦ inr (inl (front ++ (r ∷ back), now, subst (Contains (front ++ (r ∷ back))) (sym is) (member-here front back r)))
        | inr ne ↦ absurd (none-there (body new q) (none-balances mid new (front ++ back) objects q ((made-added S old mid r size made).others q ne ∙ fresh)) there)
      ]

      -- the static row is the same object
      pub put-statics : IsSomeAnd (body old n) (λ b. b.0 ≡ VersionKind) → link_of new (Obj n 3) ≡ link_of old (Obj n 3)
      put-statics kind = elsewhere (Obj n 3) (static-off mid n (subst (λ (o : Option (Kind × List ℕ)). IsSomeAnd o (λ b. b.0 ≡ VersionKind)) (sym (made-same S old mid r size made n (some-there _ (body old n) kind))) kind)) ∙ (made-added S old mid r size made).links (Obj n 3)
