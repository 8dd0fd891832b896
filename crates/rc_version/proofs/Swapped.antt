-- A version after an entry was made and put in the place of another one, which was freed.
use Rattle.std.proofs.Common.{◌≡◌, ◌≢◌, ℕ, ◌+◌, ◌≤◌, List, ◌∷◌, ◌++◌, length, Option, None, IsSome, inl, inr, sym, ap, ◌∙◌, subst}
use Rattle.std.specs.Prelude.{IsSomeAnd, Contains}
use Rattle.std.proofs.lemmas.List.Elements.{Contains-append_left, Contains-append_right}
use Rattle.lsa_kinds.specs.declared.kind.Kind.{Kind}
use Rattle.lsa_kinds.specs.declared.kind.Kind.TheVariants.{Version as VersionKind}
use Rattle.lsa_pool.specs.Room.{spare_of, live_sum}
use Rattle.lsa_store.specs.declared.place.Ref.{Ref}
use Rattle.lsa_store.specs.Objects.{rounded_size}
use Rattle.lsa_region.specs.declared.end.End.{End}
use Rattle.lsa_region.specs.declared.end.End.TheVariants.{Obj}
use Rattle.lsa_region.specs.Region.{View, body, link_of, live_bytes, IsWell, IsFreed, Risen}
use Rattle.lsa_region.specs.laws.Refs.{refs_decided}
use Rattle.lsa_path.specs.laws.Members.{member-cases, member-first, member-here, member-later}
use Rattle.lsa_path.specs.laws.Renamed.{some-there}
use Rattle.lsa_tree.specs.declared.tree.Tree.{Tree}
use Rattle.lsa_tree.specs.Entries.{IsEntryKind, IsEntryAtPosition}
use Rattle.lsa_tree.specs.Tree.{IsTree, IsLoose, IsOffTree, SameButBalances}
use Rattle.lsa_tree.specs.laws.Trees.{no_entry_at, tree-entry, loose-beside, stands-added}
use Rattle.rc_position.specs.declared.positions.Pos.{Pos}
use Rattle.rc_core.specs.declared.entries.Entry.{Entry}
use Rattle.rc_core.specs.Continuity.{with_entries}
use Rattle.rc_core.specs.Version.{Version, IsVersion}
use Rattle.rc_object.specs.Objects.{HoldsEntry, IsMade}
use Rattle.rc_version.specs.Versions.{tree_of, HoldEntries, IsVersionOf, IsKeptBut, IsUnlisted, HasWhatWasMade, MayChange, entry_bytes}
use Rattle.rc_version.specs.laws.Objects.{holds-stands, holds-same, holds-extent}
use Rattle.rc_version.specs.laws.Holding.{hold-both, hold-kept}
use Rattle.rc_version.specs.laws.Marked.{none-balances, none-freed, none-there}
use Rattle.rc_version.specs.laws.Staying.{made-added, made-same, made-version, made-kept, IsTreeStep, step-held, step-kept, step-version, static-off, versions-apart, freed-version, freed-kept, freed-entry, version-kind, kept-then}
use Rattle.rc_version.proofs.Putting.{put-loose, put-tree}
use Rattle.rc_version.proofs.Taken.{freed-live, loose-unset}

module _ (S : ℕ) (old mid : View) (n q r : Ref) (size : ℕ) (d : Entry) (made : IsMade S old mid r size) (held : HoldsEntry mid r d)
    (front back : List Ref) (tree : IsTree (tree_of n) old (front ++ (q ∷ back))) where
  abbrev all : List Ref
  all = front ++ (q ∷ back)

  mid_tree : IsTree (tree_of n) mid all
  mid_tree = put-tree S old mid n r size d made held front (q ∷ back) tree

  loose : IsLoose mid r
  loose = put-loose S old mid n r size d made held

  -- what `replace` asks for: both stand at one position
  pub swap-alike : (e : Entry) → HoldsEntry old q e → d.position ≡ e.position → (x : Pos) × IsEntryAtPosition mid q x × IsEntryAtPosition mid r x
  swap-alike e h at = (e.position, stands-added old mid r made.object.0 made.object.1 (made-added S old mid r size made) q e.position (holds-stands old q e h), subst (IsEntryAtPosition mid r) at (holds-stands mid r d held))

  module _ (well : IsWell mid) (put : View) (others : (other : Tree) (refs : List Ref) → other.top ≢ Obj n 2 → IsTree other mid refs → IsTree other put refs)
      (elsewhere : (a : End) → IsOffTree mid a → link_of put a ≡ link_of mid a) (objects : SameButBalances mid put (r ∷ (front ++ (q ∷ back)))) where
    swap-step : IsTreeStep mid put n (r ∷ all)
    swap-step = record {
      others = others;
      elsewhere = elsewhere;
      objects = objects;
      kinds = λ a k. elim (member-cases r a all k) [ inl is ↦ subst (λ z. IsSomeAnd (body mid z) (λ b. IsEntryKind b.0)) is loose.entry | inr later ↦ tree-entry (tree_of n) mid all a mid_tree later ];
      apart = λ m refs ne h a mine touched. elim (member-cases r a all touched) [
        | inl is ↦ loose-beside (tree_of m) mid well refs r h loose (subst (Contains refs) (sym is) mine)
        | inr later ↦ versions-apart mid well m n ne refs all h mid_tree a mine later
      ];
    }

    -- what the objects held they hold
    swap-kept_entry : (a : Ref) (x : Entry) → Contains all a → HoldsEntry old a x → HoldsEntry put a x
    swap-kept_entry a x k h = step-held mid put n (r ∷ all) swap-step a x (member-later r a all k) (holds-same old mid a x (made-same S old mid r size made a (some-there _ (body old a) h)) h)

    pub swap-entry : HoldsEntry put r d
    swap-entry = step-held mid put n (r ∷ all) swap-step r d (member-first r all) held

    swap-entries : (fe be : List Entry) → HoldEntries old front fe → HoldEntries old back be → HoldEntries put (front ++ (r ∷ back)) (fe ++ (d ∷ be))
    swap-entries fe be ahead behind = hold-both put front (r ∷ back) fe (d ∷ be) (hold-kept old put front fe (λ a x k h. swap-kept_entry a x (Contains-append_left front (q ∷ back) a k) h) ahead)
        (swap-entry, hold-kept old put back be (λ a x k h. swap-kept_entry a x (Contains-append_right front (q ∷ back) a (member-later q a back k)) h) behind)

    swap_version : (c : Version) (fe be : List Entry) → HoldEntries old front fe → HoldEntries old back be → IsVersion (with_entries (fe ++ (d ∷ be)) c) → IsTree (tree_of n) put (front ++ (r ∷ back))
        → IsVersionOf old n all c → IsVersionOf put n (front ++ (r ∷ back)) (with_entries (fe ++ (d ∷ be)) c)
    swap_version c fe be ahead behind is replaced h = step-version mid put n (r ∷ all) swap-step all (front ++ (r ∷ back)) c (fe ++ (d ∷ be)) (made-version S old mid r size made n all c h) replaced (swap-entries fe be ahead behind) is

    -- the other one is no part of the version, and in no list
    module _ (well_put : IsWell put) (out : IsLoose put q) (unlisted : IsUnlisted old q) (well_old : IsWell old) where
      put_kept : IsKeptBut n old put
      put_kept = kept-then (MayChange old n) n old mid put (made-kept S old mid r size made (MayChange old n) n (inl (made-added S old mid r size made).fresh))
          (step-kept mid put n (r ∷ all) swap-step (MayChange old n) (λ a k. elim (member-cases r a all k) [
            | inl is ↦ inl (subst (λ z. body old z ≡ None) is (made-added S old mid r size made).fresh)
            | inr later ↦ inr (inr (inl (all, tree, later)))
          ]))

      pub swap-there : IsSome (body put q)
      swap-there = some-there _ (body put q) out.entry

      pub swap-unset : (field : ℕ) → link_of put (Obj q field) ≡ None
      swap-unset = loose-unset put q well_put out (λ field low. put_kept.links (Obj q field) low ∙ unlisted field low)

      module _ (new : View) (freed : IsFreed put new q) (budget : length new.usages ≡ length put.usages) (moved : new.moved ≡ put.moved) (compacted : new.compacted ≡ put.compacted) (risen : Risen put.epoch new.epoch) where
        q_entry : IsSomeAnd (body put q) (λ b. IsEntryKind b.0)
        q_entry = out.entry

        pub swap-kept : IsKeptBut n old new
        swap-kept = kept-then (MayChange old n) n old put new put_kept (freed-kept put new q well_put freed swap-unset (MayChange old n) n (inr (inr (inl (all, tree, member-here front back q))))
            (λ m ne kind is. no_entry_at (body put q) (subst (λ z. IsSomeAnd (body put z) (λ b. b.0 ≡ VersionKind)) is kind) q_entry) budget moved compacted risen)

        pub swap-version : (c : Version) (fe be : List Entry) → HoldEntries old front fe → HoldEntries old back be → IsVersion (with_entries (fe ++ (d ∷ be)) c) → IsTree (tree_of n) put (front ++ (r ∷ back))
            → IsVersionOf old n all c → IsVersionOf new n (front ++ (r ∷ back)) (with_entries (fe ++ (d ∷ be)) c)
        swap-version c fe be ahead behind is replaced h =
            let w = swap_version c fe be ahead behind is replaced h in
            freed-version put new q well_put freed swap-unset n (front ++ (r ∷ back)) (with_entries (fe ++ (d ∷ be)) c) (λ is. no_entry_at (body put q) (subst (λ z. IsSomeAnd (body put z) (λ b. b.0 ≡ VersionKind)) is (version-kind put n (front ++ (r ∷ back)) (with_entries (fe ++ (d ∷ be)) c) w)) q_entry) w

        -- nothing but the entry was made
        pub swap-own : IsTree (tree_of n) new (front ++ (r ∷ back)) → HasWhatWasMade n old new
        swap-own now a fresh there = elim (refs_decided a r) [
          | inl is ↦ inr (inl (front ++ (r ∷ back), now, subst (Contains (front ++ (r ∷ back))) (sym is) (member-here front back r)))
          | inr ne ↦ absurd (none-there (body new a) (none-freed put new q freed a (none-balances mid put (r ∷ all) objects a ((made-added S old mid r size made).others a ne ∙ fresh))) there)
        ]

        -- the static row is the same object
        pub swap-statics : IsSomeAnd (body old n) (λ b. b.0 ≡ VersionKind) → link_of new (Obj n 3) ≡ link_of old (Obj n 3)
        swap-statics kind = freed.links (Obj n 3) ∙ elsewhere (Obj n 3) (static-off mid n (subst (λ (o : Option (Kind × List ℕ)). IsSomeAnd o (λ b. b.0 ≡ VersionKind)) (sym (made-same S old mid r size made n (some-there _ (body old n) kind))) kind)) ∙ (made-added S old mid r size made).links (Obj n 3)

        pub swap-gone : body new q ≡ None
        swap-gone = freed.here

        pub swap-stands : IsTree (tree_of n) put (front ++ (r ∷ back)) → IsEntryAtPosition new r d.position
        swap-stands replaced = holds-stands new r d (holds-same put new r d (freed.others r (λ is. freed-entry put new q well_put freed swap-unset n (front ++ (r ∷ back)) replaced (subst (Contains (front ++ (r ∷ back))) is (member-here front back r)))) swap-entry)

        pub swap-spare : spare_of S new.usages ≡ spare_of S put.usages → spare_of S old.usages ≤ spare_of S new.usages + size
        swap-spare same = subst (λ k. spare_of S old.usages ≤ k + size) (sym (same ∙ ap (spare_of S) objects.usages)) made.spare

        pub swap-live : IsSomeAnd (body put q) (λ b. live_bytes new + rounded_size b.0 (length b.1) ≡ live_bytes put) → (e : Entry) → HoldsEntry old q e → live_bytes new + entry_bytes e ≡ live_bytes old + size
        swap-live less e h = freed-live (body put q) (live_bytes put) (live_bytes new) (entry_bytes e) less (holds-extent put q e (swap-kept_entry q e (member-here front back q) h)) ∙ ap (λ us. live_sum us) objects.usages ∙ made.live
