-- A version in which a dummy was made in a gap, with what the gap says.
use Rattle.std.proofs.Common.{◌≡◌, ◌≢◌, ℕ, ◌+◌, ◌≤◌, List, ◌∷◌, ◌++◌, inr, refl, sym, ap, ◌∙◌, subst}
use Rattle.rc_position.specs.declared.positions.Pos.{Pos}
use Rattle.rc_rowcode.specs.Objects.{dummy_size}
use Rattle.lsa_pool.specs.Room.{spare_of}
use Rattle.lsa_store.specs.declared.place.Ref.{Ref}
use Rattle.lsa_region.specs.declared.end.End.{End}
use Rattle.lsa_region.specs.declared.end.End.TheVariants.{Obj}
use Rattle.lsa_region.specs.Region.{View, link_of, IsWell}
use Rattle.lsa_tree.specs.declared.tree.Tree.{Tree}
use Rattle.lsa_tree.specs.declared.tree.Place.TheVariants.{Before}
use Rattle.lsa_tree.specs.Entries.{IsEntryAtPosition, BelongsBetween}
use Rattle.lsa_tree.specs.Search.{IsFound}
use Rattle.lsa_tree.specs.Tree.{IsTree, IsOffTree, SameButBalances}
use Rattle.rc_core.specs.Change.{dummy, gap_split}
use Rattle.rc_core.specs.Continuity.{with_entries}
use Rattle.rc_core.specs.declared.entries.Entry.{Entry}
use Rattle.rc_core.specs.declared.entries.Mark.{Mark}
use Rattle.rc_core.specs.laws.Order.{split-is}
use Rattle.rc_core.specs.Version.{Version, IsVersion}
use Rattle.rc_object.specs.Objects.{HoldsEntry, IsMade}
use Rattle.rc_version.specs.Versions.{tree_of, IsVersionOf, IsKeptBut, IsSplit, IsWeighed, HasWhatWasMade, MayChange}
use Rattle.rc_version.specs.laws.Objects.{holds-stands}
use Rattle.rc_version.specs.laws.Holding.{IsAround}
use Rattle.rc_version.specs.laws.Staying.{made-added, version-kind}
use Rattle.rc_version.proofs.Gaps.{entry-of, split-gap, weighed-with}
use Rattle.rc_version.proofs.Putting.{fresh-unlisted, put-all, put-parts, put-tree, put-fits, put-held, put-version, put-kept, put-own, put-spare, put-statics, put-live}

module _ (S : ℕ) (old mid new : View) (n r next : Ref) (x : Pos) (m : Mark) (made : IsMade S old mid r (dummy_size x)) (held : HoldsEntry mid r (dummy x m))
    (well_old : IsWell old) (well : IsWell mid) (marks : (e : Entry) → HoldsEntry old next e → m ≡ e.gap)
    (found : (refs : List Ref) (c : Version) → IsVersionOf old n refs c → IsFound old refs x (Before next))
    (inserted : (front back : List Ref) (y : Pos) → IsTree (tree_of n) mid (front ++ back) → IsEntryAtPosition mid r y → BelongsBetween mid y front back → IsTree (tree_of n) new (front ++ (r ∷ back)))
    (others : (other : Tree) (refs : List Ref) → other.top ≢ Obj n 2 → IsTree other mid refs → IsTree other new refs)
    (elsewhere : (a : End) → IsOffTree mid a → link_of new a ≡ link_of mid a) (objects : (refs : List Ref) → IsTree (tree_of n) mid refs → SameButBalances mid new refs) where
  abbrev e : Entry
  e = dummy x m

  module _ (refs : List Ref) (c : Version) (h : IsVersionOf old n refs c) where
    abbrev front : List Ref
    front = (found refs c h).0

    abbrev back : List Ref
    back = next ∷ (found refs c h).1

    is : refs ≡ front ++ back
    is = (found refs c h).2

    fits : BelongsBetween old x front back
    fits = (found refs c h).3

    abbrev w : IsAround old front next (found refs c h).1 c.entries
    w = entry-of old n refs c h front next (found refs c h).1 is

    tree : IsTree (tree_of n) old (front ++ back)
    tree = subst (IsTree (tree_of n) old) is h.tree

    mid_tree : IsTree (tree_of n) mid (front ++ back)
    mid_tree = put-tree S old mid n r (dummy_size x) e made held front back tree

    splits : gap_split x c.entries ≡ w.before ++ (e ∷ (w.here ∷ w.behind))
    splits = split-gap old n refs c h front next (found refs c h).1 is x fits ∙ ap (λ (g : Mark). w.before ++ (dummy x g ∷ (w.here ∷ w.behind))) (sym (marks w.here w.holds))

    version : IsVersionOf new n (front ++ (r ∷ back)) (with_entries (gap_split x c.entries) c)
    version = subst (λ es. IsVersionOf new n (front ++ (r ∷ back)) (with_entries es c)) (sym splits)
        (put-version S old mid n r (dummy_size x) e made held front back tree well new others elsewhere (objects (front ++ back) mid_tree) c w.before (w.here ∷ w.behind) w.held_before (w.holds, w.held_behind)
        (subst (λ es. IsVersion (with_entries es c)) splits (split-is x c h.version))
        (inserted front back x mid_tree (holds-stands mid r e held) (put-fits S old mid n r (dummy_size x) e made held front back tree x fits))
        (subst (λ l. IsVersionOf old n l c) is h))

    kept : IsKeptBut n old new
    kept = put-kept S old mid n r (dummy_size x) e made held front back tree well new others elsewhere (objects (front ++ back) mid_tree)

    held_all : (q : Ref) (d : Entry) → HoldsEntry old q d → HoldsEntry new q d
    held_all = put-all S old mid n r (dummy_size x) e made held front back tree well new others elsewhere (objects (front ++ back) mid_tree)

    put_parts : (q : Ref) → MayChange new n q → MayChange old n q
    put_parts = put-parts S old mid n r (dummy_size x) e made held front back tree well new others elsewhere (objects (front ++ back) mid_tree) (version-kind old n refs c h)
        (inserted front back x mid_tree (holds-stands mid r e held) (put-fits S old mid n r (dummy_size x) e made held front back tree x fits))

    statics : link_of new (Obj n 3) ≡ link_of old (Obj n 3)
    statics = put-statics S old mid n r (dummy_size x) e made held front back tree well new others elsewhere (objects (front ++ back) mid_tree) (version-kind old n refs c h)

    own : HasWhatWasMade n old new
    own = put-own S old mid n r (dummy_size x) e made held front back tree well new others elsewhere (objects (front ++ back) mid_tree) version.tree

    stands : IsEntryAtPosition new r x
    stands = holds-stands new r e (put-held S old mid n r (dummy_size x) e made held front back tree well new others elsewhere (objects (front ++ back) mid_tree))

    spare : spare_of S old.usages ≤ spare_of S new.usages + dummy_size x
    spare = put-spare S old mid n r (dummy_size x) e made held front back tree well new others elsewhere (objects (front ++ back) mid_tree)

    live : IsWeighed old new c (with_entries (gap_split x c.entries) c)
    live = subst (λ es. IsWeighed old new c (with_entries es c)) (sym splits) (weighed-with old new c w.before e (w.here ∷ w.behind) w.is
        (put-live S old mid n r (dummy_size x) e made held front back tree well new others elsewhere (objects (front ++ back) mid_tree)))

  pub gap-split : (refs : List Ref) (c : Version) → IsVersionOf old n refs c → IsSplit S old new n x r
  gap-split refs c h = record {
    entries = λ refs c h. (front refs c h ++ (r ∷ back refs c h), inr ((made-added S old mid r (dummy_size x) made).fresh, (front refs c h, back refs c h, is refs c h, refl)), version refs c h);
    at = stands refs c h;
    unlisted = fresh-unlisted (MayChange old n) n old new well_old (kept refs c h);
    own = own refs c h;
    statics = statics refs c h;
    held = held_all refs c h;
    kept = kept refs c h;
    parts = put_parts refs c h;
    spare = spare refs c h;
    live = live;
  }
