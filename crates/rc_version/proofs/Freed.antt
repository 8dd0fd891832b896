-- A version that was freed, after its end dummy.
use Rattle.std.proofs.Common.{◌≡◌, ◌≢◌, ℕ, zero, suc, ◌+◌, ◌<◌, List, [], ◌∷◌, length, Option, Some, None, IsSome, inl, inr, refl, ap, ◌∙◌, subst, arith}
use Rattle.std.specs.Prelude.{IsSomeAnd}
use Rattle.lsa_kinds.specs.declared.kind.Kind.{Kind}
use Rattle.lsa_kinds.specs.declared.kind.Kind.TheVariants.{Version as VersionKind}
use Rattle.lsa_kinds.specs.Kinds.{links_of}
use Rattle.lsa_pool.specs.Room.{live_sum}
use Rattle.lsa_store.specs.declared.place.Ref.{Ref}
use Rattle.lsa_store.specs.Objects.{rounded_size}
use Rattle.lsa_region.specs.declared.end.End.{End}
use Rattle.lsa_region.specs.declared.end.End.TheVariants.{Obj}
use Rattle.lsa_region.specs.Region.{View, body, link_of, live_bytes, IsWell, IsFreed, Risen}
use Rattle.lsa_region.specs.laws.Ends.{no-end, some_and_none}
use Rattle.lsa_path.specs.laws.Members.{member-first}
use Rattle.lsa_path.specs.laws.Renamed.{some-there}
use Rattle.lsa_tree.specs.declared.tree.Tree.{Tree}
use Rattle.lsa_tree.specs.Tree.{IsTree, IsLoose, IsOffTree, SameButBalances}
use Rattle.lsa_tree.specs.laws.Trees.{no_entry_at, empty-unset}
use Rattle.rc_core.specs.Version.{Version, EndsWithDummy}
use Rattle.rc_object.specs.Objects.{HoldsHead}
use Rattle.rc_version.specs.Versions.{tree_of, version_head, HasStatics, IsVersionOf, IsKeptBut, IsUnlisted, IsNoneMade, MayChange, bytes_at}
use Rattle.rc_version.specs.laws.Objects.{head-kind, head-same, head-extent, holds-extent}
use Rattle.rc_version.specs.laws.Holding.{one-held}
use Rattle.rc_version.specs.laws.Marked.{none-balances, none-freed}
use Rattle.rc_version.specs.laws.Staying.{step-head, step-kept, static-off, freed-kept, version-kind, kept-then}
use Rattle.rc_version.proofs.Taken.{freed-live, loose-unset, take-step, take-held}
use Rattle.rc_version.proofs.Dropped.{unlisted_stays}

few_links : (o : Option (Kind × List ℕ)) (field : ℕ) → IsSomeAnd o (λ b. b.0 ≡ VersionKind) → IsSomeAnd o (λ b. field < links_of b.0) → field < 4
few_links None field h k = absurd h
few_links (Some b) field h k = subst (λ kind. field < links_of kind) h k

both_freed : (new mid put old : ℕ) → new + 64 ≡ mid → mid + 88 ≡ put → put ≡ old → new + 152 ≡ old
both_freed new mid put old a b c = omega arith

module _ (S : ℕ) (old put : View) (n end : Ref) (c : Version) (h : IsVersionOf old n (end ∷ []) c) (none : c.statics ≡ None) (unlisted : IsUnlisted old n) (unlisted_end : IsUnlisted old end)
    (well_old : IsWell old) (well_put : IsWell put) (others : (other : Tree) (refs : List Ref) → other.top ≢ Obj n 2 → IsTree other old refs → IsTree other put refs)
    (elsewhere : (a : End) → IsOffTree old a → link_of put a ≡ link_of old a) (objects : SameButBalances old put (end ∷ [])) (removed : IsTree (tree_of n) put []) (out : IsLoose put end) where
  put_kept : IsKeptBut n old put
  put_kept = step-kept old put n (end ∷ []) (take-step old put well_old n end [] [] c h others elsewhere objects) (MayChange old n) (λ q k. inr (inr (inl (end ∷ [], h.tree, k))))

  pub end-unset : (field : ℕ) → link_of put (Obj end field) ≡ None
  end-unset = loose-unset put end well_put out (unlisted_stays (MayChange old n) n old put end put_kept unlisted_end)

  pub end-there : IsSome (body put end)
  end-there = some-there _ (body put end) out.entry

  put_head : HoldsHead put n (version_head c)
  put_head = head-same old put n (version_head c) (step-head old put n (end ∷ []) (take-step old put well_old n end [] [] c h others elsewhere objects) n (version-kind old n (end ∷ []) c h)) h.head

  module _ (mid : View) (well_mid : IsWell mid) (free_end : IsFreed put mid end) (budget : length mid.usages ≡ length put.usages) (moved : mid.moved ≡ put.moved) (compacted : mid.compacted ≡ put.compacted) (risen : Risen put.epoch mid.epoch) where
    no_head : (m : Ref) → IsSomeAnd (body put m) (λ b. b.0 ≡ VersionKind) → m ≢ end
    no_head m kind is = no_entry_at (body put end) (subst (λ z. IsSomeAnd (body put z) (λ b. b.0 ≡ VersionKind)) is kind) out.entry

    mid_kept : IsKeptBut n old mid
    mid_kept = kept-then (MayChange old n) n old put mid put_kept (freed-kept put mid end well_put free_end end-unset (MayChange old n) n (inr (inr (inl (end ∷ [], h.tree, member-first end [])))) (λ m ne kind. no_head m kind) budget moved compacted risen)

    mid_head : HoldsHead mid n (version_head c)
    mid_head = head-same put mid n (version_head c) (free_end.others n (no_head n (head-kind put n (version_head c) put_head))) put_head

    pub head-there : IsSome (body mid n)
    head-there = some-there _ (body mid n) mid_head

    no_statics : link_of old (Obj n 3) ≡ None
    no_statics = subst (HasStatics old n) none h.statics

    pub head-unset : (field : ℕ) → link_of mid (Obj n field) ≡ None
    head-unset zero = unlisted_stays (MayChange old n) n old mid n mid_kept unlisted 0 (omega arith)
    head-unset (suc zero) = unlisted_stays (MayChange old n) n old mid n mid_kept unlisted 1 (omega arith)
    head-unset (suc (suc zero)) = free_end.links (Obj n 2) ∙ empty-unset (tree_of n) put removed
    head-unset (suc (suc (suc zero))) = free_end.links (Obj n 3) ∙ elsewhere (Obj n 3) (static-off old n (version-kind old n (end ∷ []) c h)) ∙ no_statics
    head-unset (suc (suc (suc (suc field)))) = no-end mid well_mid (Obj n (suc (suc (suc (suc field))))) (λ there. let few = few_links (body mid n) (suc (suc (suc (suc field)))) (head-kind mid n (version_head c) mid_head) there in omega (arith, few))

    module _ (new : View) (free : IsFreed mid new n) (budget' : length new.usages ≡ length mid.usages) (moved' : new.moved ≡ mid.moved) (compacted' : new.compacted ≡ mid.compacted) (risen' : Risen mid.epoch new.epoch) where
      pub free-kept : IsKeptBut n old new
      free-kept = kept-then (MayChange old n) n old mid new mid_kept (freed-kept mid new n well_mid free head-unset (MayChange old n) n (inr (inl refl)) (λ m ne kind is. ne is) budget' moved' compacted' risen')

      pub free-none : IsNoneMade old new
      free-none q gone = none-freed mid new n free q (none-freed put mid end free_end q (none-balances old put (end ∷ []) objects q gone))

      pub end-gone : body new end ≡ None
      end-gone = free.others end (λ is. some_and_none (body mid n) _ (subst (λ z. body mid z ≡ None) is free_end.here) mid_head) ∙ free_end.here

      pub free-live : IsSomeAnd (body put end) (λ b. live_bytes mid + rounded_size b.0 (length b.1) ≡ live_bytes put) → IsSomeAnd (body mid n) (λ b. live_bytes new + rounded_size b.0 (length b.1) ≡ live_bytes mid) → live_bytes new + 152 ≡ live_bytes old
      free-live less_end less =
          let one = one-held old end c.entries h.entries in let e = one.0 in let ends = subst EndsWithDummy one.1 h.version.ends in
          both_freed (live_bytes new) (live_bytes mid) (live_bytes put) (live_bytes old) (freed-live (body mid n) (live_bytes mid) (live_bytes new) 64 less (head-extent mid n (version_head c) mid_head))
          (freed-live (body put end) (live_bytes put) (live_bytes mid) 88 less_end (holds-extent put end e (take-held old put well_old n end [] [] c h others elsewhere objects e one.2) ∙ (λ i. bytes_at (ends.0 i) (ends.1 i))))
          (ap (λ us. live_sum us) objects.usages)
