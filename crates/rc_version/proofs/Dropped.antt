-- A version after an entry was taken out and freed, and the gap before the next one was lost.
use Rattle.std.proofs.Common.{◌≡◌, ◌≢◌, ℕ, ◌+◌, List, ◌∷◌, ◌++◌, length, None, IsSome, inl, inr, refl, sym, ap, ◌∙◌, subst, arith}
use Rattle.std.specs.Prelude.{Contains, IsSomeAnd}
use Rattle.std.proofs.lemmas.List.Elements.{Contains-append_left, Contains-append_right}
use Rattle.lsa_kinds.specs.declared.kind.Kind.TheVariants.{Version as VersionKind}
use Rattle.lsa_pool.specs.Room.{spare_of, live_sum}
use Rattle.lsa_store.specs.declared.place.Ref.{Ref}
use Rattle.lsa_store.specs.Objects.{rounded_size}
use Rattle.lsa_region.specs.declared.end.End.{End}
use Rattle.lsa_region.specs.declared.end.End.TheVariants.{Obj}
use Rattle.lsa_region.specs.Region.{View, body, link_of, live_bytes, IsWell, IsFreed, Risen}
use Rattle.lsa_path.specs.laws.Members.{member-here, member-later, member-first}
use Rattle.lsa_path.specs.laws.Renamed.{some-there}
use Rattle.lsa_tree.specs.declared.tree.Tree.{Tree}
use Rattle.lsa_tree.specs.Entries.{IsEntryAtPosition, IsReadAlike}
use Rattle.lsa_tree.specs.Tree.{IsTree, IsLoose, IsOffTree, SameButBalances}
use Rattle.lsa_tree.specs.laws.Orders.{stands-once}
use Rattle.lsa_tree.specs.laws.Trees.{no_entry_at}
use Rattle.rc_position.specs.declared.positions.Pos.{Pos}
use Rattle.rc_core.specs.Change.{drop_at, lost_mark, take_out, with_gap}
use Rattle.rc_core.specs.Continuity.{with_entries}
use Rattle.rc_core.specs.declared.entries.Entry.{Entry}
use Rattle.rc_core.specs.laws.Order.{take_out-is}
use Rattle.rc_core.specs.laws.Spots.{taken_out}
use Rattle.rc_core.specs.Version.{Version, IsVersion, Ascend, EndsWithDummy}
use Rattle.rc_object.specs.Objects.{HoldsEntry, IsRewritten}
use Rattle.rc_version.specs.Versions.{tree_of, IsVersionOf, IsKeptBeside, IsKeptBut, IsUnlisted, IsWeighed, IsNoneMade, MayChange, entry_bytes, entries_bytes}
use Rattle.rc_version.specs.laws.Objects.{holds-stands, holds-same, holds-extent}
use Rattle.rc_version.specs.laws.Holding.{AreAround, both-around, before-end, bytes-same, bytes-with, hold-kept}
use Rattle.rc_version.specs.laws.Marked.{none-balances, none-freed}
use Rattle.rc_version.specs.laws.Staying.{static-off, step-kept, freed-version, freed-kept, freed-entry, version-kind, kept-then}
use Rattle.rc_version.proofs.Taken.{freed-live, loose-unset, take-step, take-held, take-still, take-version}
use Rattle.rc_version.proofs.Written.{marked-kept_by, marked-version, rewritten-link, rewritten-live, rewritten-none, rewritten-others, rewritten-usages}

lighter : (new freed put old size s before after other : ℕ) → new ≡ freed → freed + size ≡ put → put ≡ old → before ≡ size + other → after ≡ other → new + (64 + (s + before)) ≡ old + (64 + (s + after))
lighter new freed put old size s before after other a b d f k = omega arith

-- the links outward of what is in no list stay unset
pub unlisted_stays : (these : Ref → Type 0) (n : Ref) (old new : View) (r : Ref) → IsKeptBeside these n old new → IsUnlisted old r → IsUnlisted new r
unlisted_stays these n old new r kept out = λ field low. kept.links (Obj r field) low ∙ out field low

module _ (S : ℕ) (old put freed new : View) (n e next : Ref) (front rest : List Ref) (c : Version) (h : IsVersionOf old n (front ++ (e ∷ next ∷ rest)) c)
    (well_old : IsWell old) (well_put : IsWell put) (well_freed : IsWell freed) (unlisted : IsUnlisted old e)
    (others : (other : Tree) (refs : List Ref) → other.top ≢ Obj n 2 → IsTree other old refs → IsTree other put refs)
    (elsewhere : (a : End) → IsOffTree old a → link_of put a ≡ link_of old a) (objects : SameButBalances old put (front ++ (e ∷ next ∷ rest)))
    (removed : IsTree (tree_of n) put (front ++ (next ∷ rest))) (out : IsLoose put e) where
  abbrev all : List Ref
  all = front ++ (e ∷ next ∷ rest)

  abbrev w : AreAround old front e next rest c.entries
  w = both-around old front e next rest c.entries h.entries

  ascends : Ascend (w.before ++ (w.here ∷ w.there ∷ w.behind))
  ascends = subst Ascend w.is h.version.ascend

  ends : EndsWithDummy (w.before ++ (w.here ∷ w.there ∷ w.behind))
  ends = subst EndsWithDummy w.is h.version.ends

  put_kept : IsKeptBut n old put
  put_kept = step-kept old put n all (take-step old put well_old n e front (next ∷ rest) c h others elsewhere objects) (MayChange old n) (λ q k. inr (inr (inl (all, h.tree, k))))

  -- what is taken out can be freed
  pub drop-unset : (field : ℕ) → link_of put (Obj e field) ≡ None
  drop-unset = loose-unset put e well_put out (unlisted_stays (MayChange old n) n old put e put_kept unlisted)

  pub drop-there : IsSome (body put e)
  drop-there = some-there _ (body put e) out.entry

  -- the version without the entry
  without : IsVersion (with_entries (w.before ++ (w.there ∷ w.behind)) c)
  without = subst (λ es. IsVersion (with_entries es c)) (ap (take_out w.there.gap w.here.position) w.is ∙ taken_out w.there.gap w.before w.here w.there w.behind ascends)
      (take_out-is w.there.gap w.here.position c (before-end w.before w.here w.there w.behind ascends ends) h.version)

  put_version : IsVersionOf put n (front ++ (next ∷ rest)) (with_entries (w.before ++ (w.there ∷ w.behind)) c)
  put_version = take-version old put well_old n e front (next ∷ rest) c h others elsewhere objects w.before (w.there ∷ w.behind) w.held_before (w.next_holds, w.held_behind) without removed

  module _ (free : IsFreed put freed e) (budget : length freed.usages ≡ length put.usages) (moved : freed.moved ≡ put.moved) (compacted : freed.compacted ≡ put.compacted) (risen : Risen put.epoch freed.epoch) where
    no_head : (m : Ref) → IsSomeAnd (body put m) (λ b. b.0 ≡ VersionKind) → m ≢ e
    no_head m kind is = no_entry_at (body put e) (subst (λ z. IsSomeAnd (body put z) (λ b. b.0 ≡ VersionKind)) is kind) out.entry

    freed_version : IsVersionOf freed n (front ++ (next ∷ rest)) (with_entries (w.before ++ (w.there ∷ w.behind)) c)
    freed_version = freed-version put freed e well_put free drop-unset n (front ++ (next ∷ rest)) (with_entries (w.before ++ (w.there ∷ w.behind)) c)
        (no_head n (version-kind put n (front ++ (next ∷ rest)) (with_entries (w.before ++ (w.there ∷ w.behind)) c) put_version)) put_version

    freed_kept : IsKeptBut n old freed
    freed_kept = kept-then (MayChange old n) n old put freed put_kept (freed-kept put freed e well_put free drop-unset (MayChange old n) n (inr (inr (inl (all, h.tree, member-here front (next ∷ rest) e)))) (λ m ne kind. no_head m kind) budget moved compacted risen)

    -- the others hold what they held
    pub drop-held : (q : Ref) (d : Entry) → Contains (front ++ (next ∷ rest)) q → HoldsEntry old q d → HoldsEntry freed q d
    drop-held q d k x = holds-same put freed q d (free.others q (λ is. freed-entry put freed e well_put free drop-unset n (front ++ (next ∷ rest)) removed (subst (Contains (front ++ (next ∷ rest))) is k)))
        (take-still old put well_old n e front (next ∷ rest) c h others elsewhere objects q d k x)

    pub drop-next : HoldsEntry freed next w.there
    drop-next = drop-held next w.there (member-here front rest next) w.next_holds

    module _ (rewritten : IsRewritten freed new next) (alike : IsReadAlike (body freed next) (body new next)) where
      pub drop-kept : IsKeptBut n old new
      drop-kept = kept-then (MayChange old n) n old freed new freed_kept (marked-kept_by freed new next rewritten alike n (front ++ (next ∷ rest)) _ freed_version (MayChange old n)
          (inr (inr (inl (all, h.tree, member-next)))) well_freed (member-here front rest next))
        where
          member-next : Contains all next
          member-next = Contains-append_right front (e ∷ next ∷ rest) next (member-later e next (next ∷ rest) (member-first next rest))

      pub drop-gone : body new e ≡ None
      drop-gone = rewritten-others freed new next rewritten e (λ is. freed-entry put freed e well_put free drop-unset n (front ++ (next ∷ rest)) removed (subst (Contains (front ++ (next ∷ rest))) (sym is) (member-here front rest next))) ∙ free.here

      -- the static row is the same object
      pub drop-statics : link_of new (Obj n 3) ≡ link_of old (Obj n 3)
      drop-statics = rewritten-link freed new next rewritten (Obj n 3) ∙ free.links (Obj n 3) ∙ elsewhere (Obj n 3) (static-off old n (version-kind old n all c h))

      pub drop-none : IsNoneMade old new
      drop-none q gone = rewritten-none freed new next rewritten q (none-freed put freed e free q (none-balances old put all objects q gone))

      pub drop-spare : spare_of S freed.usages ≡ spare_of S put.usages → spare_of S new.usages ≡ spare_of S old.usages
      drop-spare same = ap (spare_of S) (rewritten-usages freed new next rewritten) ∙ same ∙ ap (spare_of S) objects.usages

      module _ (held : HoldsEntry new next (with_gap lost_mark w.there)) (x : Pos) (stands : IsEntryAtPosition old e x) where
        dropped : drop_at x c.entries ≡ w.before ++ (with_gap lost_mark w.there ∷ w.behind)
        dropped =
            let at : w.here.position ≡ x = stands-once old e w.here.position x (holds-stands old e w.here w.holds) stands in
            ap (drop_at x) w.is ∙ subst (λ y. drop_at y (w.before ++ (w.here ∷ w.there ∷ w.behind)) ≡ w.before ++ (with_gap lost_mark w.there ∷ w.behind)) at (taken_out lost_mark w.before w.here w.there w.behind ascends)

        pub drop-version : IsVersionOf new n (front ++ (next ∷ rest)) (with_entries (drop_at x c.entries) c)
        drop-version = subst (λ es. IsVersionOf new n (front ++ (next ∷ rest)) (with_entries es c)) (sym dropped)
            (marked-version freed new next rewritten alike n (front ++ (next ∷ rest)) (with_entries (w.before ++ (w.there ∷ w.behind)) c) freed_version front rest refl w.before w.there (with_gap lost_mark w.there) w.behind refl
            (hold-kept old freed front w.before (λ q d k a. drop-held q d (Contains-append_left front (next ∷ rest) q k) a) w.held_before)
            (hold-kept old freed rest w.behind (λ q d k a. drop-held q d (Contains-append_right front (next ∷ rest) q (member-later next q rest k)) a) w.held_behind)
            refl refl held)

        pub drop-live : IsSomeAnd (body put e) (λ b. live_bytes freed + rounded_size b.0 (length b.1) ≡ live_bytes put) → IsWeighed old new c (with_entries (drop_at x c.entries) c)
        drop-live less = subst (λ es. IsWeighed old new c (with_entries es c)) (sym dropped)
            (lighter (live_bytes new) (live_bytes freed) (live_bytes put) (live_bytes old) (entry_bytes w.here) _ (entries_bytes c.entries) _ (entries_bytes (w.before ++ (w.there ∷ w.behind)))
            (rewritten-live freed new next rewritten)
            (freed-live (body put e) (live_bytes put) (live_bytes freed) (entry_bytes w.here) less (holds-extent put e w.here (take-held old put well_old n e front (next ∷ rest) c h others elsewhere objects w.here w.holds)))
            (ap (λ us. live_sum us) objects.usages)
            (ap entries_bytes w.is ∙ bytes-with w.before w.here (w.there ∷ w.behind))
            (bytes-same w.before w.there (with_gap lost_mark w.there) w.behind refl))
