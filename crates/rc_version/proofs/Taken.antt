-- A version after an entry was taken out, and what is left of it was freed.
use Rattle.std.proofs.Common.{◌≡◌, ◌≢◌, ℕ, zero, suc, ◌+◌, List, [], ◌∷◌, ◌++◌, length, Option, Some, None, inl, inr, refl, ap, subst, arith}
use Rattle.std.specs.Prelude.{IsSomeAnd, Contains}
use Rattle.std.proofs.lemmas.List.Elements.{Contains-append_cases, Contains-append_left, Contains-append_right}
use Rattle.lsa_kinds.specs.declared.kind.Kind.{Kind}
use Rattle.lsa_store.specs.declared.place.Ref.{Ref}
use Rattle.lsa_store.specs.Objects.{rounded_size}
use Rattle.lsa_region.specs.declared.end.End.{End}
use Rattle.lsa_region.specs.declared.end.End.TheVariants.{Obj}
use Rattle.lsa_region.specs.Layout.{object_extent}
use Rattle.lsa_region.specs.Region.{View, link_of, IsWell}
use Rattle.lsa_region.specs.laws.Ends.{no-end, few-links}
use Rattle.lsa_path.specs.laws.Members.{member-later, member-here}
use Rattle.lsa_tree.specs.declared.tree.Tree.{Tree}
use Rattle.lsa_tree.specs.Entries.{IsEntryAtPosition}
use Rattle.lsa_tree.specs.Search.{first_entry}
use Rattle.lsa_tree.specs.Tree.{IsTree, IsLoose, IsOffTree, SameButBalances}
use Rattle.lsa_tree.specs.laws.Trees.{tree-entry}
use Rattle.rc_core.specs.declared.entries.Entry.{Entry}
use Rattle.rc_core.specs.Continuity.{with_entries}
use Rattle.rc_core.specs.Version.{Version, IsVersion, EndsWithDummy, end_position}
use Rattle.rc_object.specs.Objects.{HoldsEntry}
use Rattle.rc_version.specs.Versions.{tree_of, HoldEntries, IsVersionOf, IsKeptBeside, IsUnlisted}
use Rattle.rc_version.specs.laws.Objects.{holds-stands}
use Rattle.rc_version.specs.laws.Holding.{around, ends-back, hold-both, hold-kept, none-held}
use Rattle.rc_version.specs.laws.Staying.{IsTreeStep, step-held, step-kept, step-version, versions-apart}

-- the next one of the entries is the first of those behind
pub next-split : (back : List Ref) (next : Ref) → first_entry back ≡ Some next → (rest : List Ref) × (back ≡ next ∷ rest)
next-split [] next e = cc
next-split (r ∷ back) next e = (back, let same : r ≡ next = cc in ap (λ q. q ∷ back) same)

pub first-none : (back : List Ref) → first_entry back ≡ None → back ≡ []
first-none [] e = refl
first-none (r ∷ back) e = cc

-- the last of the entries is the end dummy
pub last-at-end : (v : View) (n e : Ref) (front : List Ref) (c : Version) → IsVersionOf v n (front ++ (e ∷ [])) c → IsEntryAtPosition v e end_position
last-at-end v n e front c h =
    let w = around v front e [] c.entries h.entries in
    let ends = ends-back w.before w.here w.behind (subst EndsWithDummy w.is h.version.ends) in
    let alone = subst (λ es. EndsWithDummy (w.here ∷ es)) (none-held v w.behind w.held_behind) ends in
    subst (IsEntryAtPosition v e) alone.0 (holds-stands v e w.here w.holds)

-- no link of an entry is set that is in no tree and in no list
pub loose-unset : (v : View) (r : Ref) → IsWell v → IsLoose v r → IsUnlisted v r → (field : ℕ) → link_of v (Obj r field) ≡ None
loose-unset v r well loose out zero = out 0 (omega arith)
loose-unset v r well loose out (suc zero) = out 1 (omega arith)
loose-unset v r well loose out (suc (suc zero)) = loose.parent
loose-unset v r well loose out (suc (suc (suc zero))) = loose.left
loose-unset v r well loose out (suc (suc (suc (suc zero)))) = loose.right
loose-unset v r well loose out (suc (suc (suc (suc (suc field))))) = no-end v well (Obj r (suc (suc (suc (suc (suc field)))))) (λ there. let few = few-links v r (suc (suc (suc (suc (suc field))))) there in omega (arith, few))

-- what was freed
pub freed-live : (o : Option (Kind × List ℕ)) (old new size : ℕ) → IsSomeAnd o (λ b. new + rounded_size b.0 (length b.1) ≡ old) → object_extent o ≡ size → new + size ≡ old
freed-live None old new size h is = absurd h
freed-live (Some b) old new size h is = subst (λ n. new + n ≡ old) is h

module _ (v w : View) (well : IsWell v) (n e : Ref) (front back : List Ref) (c : Version) (h : IsVersionOf v n (front ++ (e ∷ back)) c)
    (others : (other : Tree) (refs : List Ref) → other.top ≢ Obj n 2 → IsTree other v refs → IsTree other w refs)
    (elsewhere : (a : End) → IsOffTree v a → link_of w a ≡ link_of v a) (objects : SameButBalances v w (front ++ (e ∷ back))) where
  abbrev all : List Ref
  all = front ++ (e ∷ back)

  pub take-step : IsTreeStep v w n all
  take-step = record {
    others = others;
    elsewhere = elsewhere;
    objects = objects;
    kinds = λ q k. tree-entry (tree_of n) v all q h.tree k;
    apart = λ m refs ne t q a b. versions-apart v well m n ne refs all t h.tree q a b;
  }

  pub take-kept : (these : Ref → Type 0) → ((q : Ref) → Contains all q → these q) → IsKeptBeside these n v w
  take-kept these inside = step-kept v w n all take-step these inside

  pub take-entries : (fe be : List Entry) → HoldEntries v front fe → HoldEntries v back be → HoldEntries w (front ++ back) (fe ++ be)
  take-entries fe be ahead behind = hold-both w front back fe be
      (hold-kept v w front fe (λ q d k x. step-held v w n all take-step q d (Contains-append_left front (e ∷ back) q k) x) ahead)
      (hold-kept v w back be (λ q d k x. step-held v w n all take-step q d (Contains-append_right front (e ∷ back) q (member-later e q back k)) x) behind)

  pub take-version : (fe be : List Entry) → HoldEntries v front fe → HoldEntries v back be → IsVersion (with_entries (fe ++ be) c) → IsTree (tree_of n) w (front ++ back) → IsVersionOf w n (front ++ back) (with_entries (fe ++ be) c)
  take-version fe be ahead behind is removed = step-version v w n all take-step all (front ++ back) c (fe ++ be) h removed (take-entries fe be ahead behind) is

  -- the others, and the entry itself
  pub take-still : (q : Ref) (d : Entry) → Contains (front ++ back) q → HoldsEntry v q d → HoldsEntry w q d
  take-still q d k x = step-held v w n all take-step q d (elim (Contains-append_cases front back q k) [ inl ahead ↦ Contains-append_left front (e ∷ back) q ahead | inr later ↦ Contains-append_right front (e ∷ back) q (member-later e q back later) ]) x

  pub take-held : (d : Entry) → HoldsEntry v e d → HoldsEntry w e d
  take-held d x = step-held v w n all take-step e d (member-here front back e) x
