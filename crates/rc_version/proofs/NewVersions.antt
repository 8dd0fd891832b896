-- A version that was made.
use Rattle.std.proofs.Common.{◌≡◌, ◌≢◌, ℕ, ◌+◌, ◌≤◌, List, [], ◌∷◌, ◌++◌, Option, Some, None, IsSome, inl, inr, refl, sym, ap, ◌∙◌, subst, arith}
use Rattle.std.specs.Prelude.{Contains}
use Rattle.rc_cell.specs.declared.writes.Tomb.{Tomb}
use Rattle.lsa_kinds.specs.declared.kind.Kind.{Kind}
use Rattle.lsa_pool.specs.Room.{spare_of, live_sum}
use Rattle.lsa_store.specs.declared.place.Ref.{Ref}
use Rattle.lsa_region.specs.declared.end.End.{End}
use Rattle.lsa_region.specs.declared.end.End.TheVariants.{Obj}
use Rattle.lsa_region.specs.Region.{View, body, link_of, live_bytes, IsWell}
use Rattle.lsa_region.specs.laws.Refs.{refs_decided}
use Rattle.lsa_path.specs.laws.Members.{member-cases, member-first}
use Rattle.lsa_path.specs.laws.Renamed.{some-there}
use Rattle.rc_position.specs.declared.positions.Pos.{Pos}
use Rattle.lsa_tree.specs.declared.tree.Tree.{Tree}
use Rattle.lsa_tree.specs.Entries.{IsEntryAtPosition, BelongsBetween}
use Rattle.lsa_tree.specs.Tree.{IsTree, IsOffTree, SameButBalances}
use Rattle.lsa_tree.specs.laws.Trees.{tree-empty, tree-once}
use Rattle.rc_core.specs.Change.{dummy, mark}
use Rattle.rc_core.specs.declared.entries.Entry.{Entry}
use Rattle.rc_core.specs.declared.entries.Flag.{Flag}
use Rattle.rc_core.specs.Steps.{version_of}
use Rattle.rc_core.specs.Version.{end_position}
use Rattle.rc_object.specs.declared.heads.Head.{Head}
use Rattle.rc_object.specs.Objects.{HoldsEntry, HoldsHead, IsMade}
use Rattle.rc_version.specs.Versions.{tree_of, IsVersionOf, IsKeptBut, IsPartOf, HasWhatWasMade, MayChange}
use Rattle.rc_version.specs.laws.Objects.{head-kind, head-same, holds-stands}
use Rattle.rc_version.specs.laws.Marked.{none-balances, none-there}
use Rattle.rc_version.specs.laws.Staying.{made-added, made-same, made-kept, IsTreeStep, step-head, step-kept, static-off, kept-then}
use Rattle.rc_version.proofs.Putting.{put-tree, put-held, put-step}

no-member : (q : Ref) → Contains [] q → ⊥
no-member q k = omega (arith, k.1)

-- what was not there behind a step was not there before it
fresh_before : (o p : Option (Kind × List ℕ)) → (IsSome o → p ≡ o) → p ≡ None → o ≡ None
fresh_before None p same gone = refl
fresh_before (Some b) p same gone = absurd (let clash : None ≡ Some b = sym gone ∙ same refl in cc)

-- the tree of a version that was just made is empty
pub new-tree : (S : ℕ) (old first : View) (n : Ref) (head : Head) → IsMade S old first n 64 → HoldsHead first n head → IsTree (tree_of n) first []
new-tree S old first n head made held = tree-empty (tree_of n) first (refl, head-kind first n head held) ((made-added S old first n 64 made).unset 2)

sum_of_both : (a b c : ℕ) → a ≤ b + 64 → b ≤ c + 88 → a ≤ c + 152
sum_of_both a b c h k = omega arith

more_of_both : (a b c : ℕ) → b ≡ a + 64 → c ≡ b + 88 → c ≡ a + 152
more_of_both a b c h k = omega arith

module _ (S : ℕ) (old first mid new : View) (n end : Ref) (flag : Flag) (pt : Option Tomb) (phase : ℕ)
    (made : IsMade S old first n 64) (held : HoldsHead first n (record { partition_tombstone = pt; static_flag = flag; phase = phase }))
    (made_end : IsMade S first mid end 88) (held_end : HoldsEntry mid end (dummy end_position (mark flag None))) (well : IsWell mid)
    (others : (other : Tree) (refs : List Ref) → other.top ≢ Obj n 2 → IsTree other mid refs → IsTree other new refs)
    (elsewhere : (a : End) → IsOffTree mid a → link_of new a ≡ link_of mid a) (objects : (refs : List Ref) → IsTree (tree_of n) mid refs → SameButBalances mid new refs) where
  abbrev e : Entry
  e = dummy end_position (mark flag None)

  head : Head
  head = record { partition_tombstone = pt; static_flag = flag; phase = phase }

  tree : IsTree (tree_of n) first []
  tree = new-tree S old first n _ made held

  mid_tree : IsTree (tree_of n) mid []
  mid_tree = put-tree S first mid n end 88 e made_end held_end [] [] tree

  step : IsTreeStep mid new n []
  step = put-step S first mid n end 88 e made_end held_end [] [] tree well new others elsewhere (objects [] mid_tree)

  live_first : IsSome (body first n)
  live_first = some-there _ (body first n) held

  mid_head : HoldsHead mid n (record { partition_tombstone = pt; static_flag = flag; phase = phase })
  mid_head = head-same first mid n _ (made-same S first mid end 88 made_end n live_first) held

  pub new-version : ((front back : List Ref) (y : Pos) → IsTree (tree_of n) mid (front ++ back) → IsEntryAtPosition mid end y → BelongsBetween mid y front back → IsTree (tree_of n) new (front ++ (end ∷ back)))
      → IsVersionOf new n (end ∷ []) (version_of flag pt phase)
  new-version inserted = record {
    head = head-same mid new n _ (step-head mid new n [] step n (head-kind mid n _ mid_head)) mid_head;
    statics = elsewhere (Obj n 3) (static-off mid n (head-kind mid n _ mid_head)) ∙ (made-added S first mid end 88 made_end).links (Obj n 3) ∙ (made-added S old first n 64 made).unset 3;
    tree = inserted [] [] end_position mid_tree (holds-stands mid end e held_end) (record { before = tt; behind = tt });
    entries = (put-held S first mid n end 88 e made_end held_end [] [] tree well new others elsewhere (objects [] mid_tree), tt);
    version = record { ascend = tt; ends = (refl, refl) };
  }

  fresh_end : body old end ≡ None
  fresh_end = fresh_before (body old end) (body first end) (made-same S old first n 64 made end) (made-added S first mid end 88 made_end).fresh

  -- all of it was made
  pub new-parts : IsVersionOf new n (end ∷ []) (version_of flag pt phase) → (q : Ref) → IsPartOf new n q → body old q ≡ None
  new-parts now q (inl is) = subst (λ z. body old z ≡ None) (sym is) (made-added S old first n 64 made).fresh
  new-parts now q (inr (inl k)) = elim (member-cases end q [] (subst (λ l. Contains l q) (tree-once (tree_of n) new k.0 (end ∷ []) k.1 now.tree) k.2)) [
    | inl is ↦ subst (λ z. body old z ≡ None) is fresh_end
    | inr later ↦ absurd (no-member q later)
  ]
  new-parts now q (inr (inr named)) = let clash : None ≡ Some (Obj q 2) = sym now.statics ∙ named in cc

  pub new-kept : IsKeptBut n old new
  new-kept = kept-then (MayChange old n) n old first new (made-kept S old first n 64 made (MayChange old n) n (inl (made-added S old first n 64 made).fresh))
      (kept-then (MayChange old n) n first mid new (made-kept S first mid end 88 made_end (MayChange old n) n (inl fresh_end))
      (step-kept mid new n [] step (MayChange old n) (λ q k. absurd (no-member q k))))

  -- the head and the end dummy were made, and nothing else
  pub new-own : IsTree (tree_of n) new (end ∷ []) → HasWhatWasMade n old new
  new-own now q fresh there = elim (refs_decided q n) [
    | inl is ↦ inl is
    | inr ne ↦ elim (refs_decided q end) [
      | inl is ↦ inr (inl (end ∷ [], now, subst (Contains (end ∷ [])) (sym is) (member-first end [])))
      | inr no_end ↦ absurd (none-there (body new q) (none-balances mid new [] (objects [] mid_tree) q ((made-added S first mid end 88 made_end).others q no_end ∙ (made-added S old first n 64 made).others q ne ∙ fresh)) there)
    ]
  ]

  pub new-spare : spare_of S old.usages ≤ spare_of S new.usages + 152
  new-spare = subst (λ us. spare_of S old.usages ≤ spare_of S us + 152) (sym (objects [] mid_tree).usages) (sum_of_both (spare_of S old.usages) (spare_of S first.usages) (spare_of S mid.usages) made.spare made_end.spare)

  pub new-live : live_bytes new ≡ live_bytes old + 152
  new-live = ap (λ us. live_sum us) (objects [] mid_tree).usages ∙ more_of_both (live_bytes old) (live_bytes first) (live_bytes mid) made.live made_end.live
