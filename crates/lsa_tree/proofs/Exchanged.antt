-- A tree in which an entry changed places with another one, of the tree or of none.
use Rattle.std.proofs.Common.{◌≡◌, ◌≢◌, ℕ, zero, suc, ◌≤◌, ◌<◌, List, [], ◌∷◌, ◌++◌, Option, Some, None, inl, inr, refl, sym, ap, ◌∙◌, subst, map, arith}
use Rattle.std.specs.Prelude.{IsSomeAnd, Contains}
use Rattle.std.specs.Option.{option_map}
use Rattle.rc_position.specs.declared.positions.Pos.{Pos}
use Rattle.lsa_region.specs.Ref.{Ref}
use Rattle.lsa_region.specs.declared.end.End.{End}
use Rattle.lsa_region.specs.declared.end.End.TheVariants.{Obj, Slot}
use Rattle.lsa_region.specs.calls.Ends.{swapped_ref}
use Rattle.lsa_region.specs.Region.{View, body, link_of, IsWell}
use Rattle.lsa_region.specs.laws.Refs.{refs_decided, swap-here, swap-there, swap-else}
use Rattle.lsa_shape.specs.Members.{member-cases, member-first, member-later, member-here, map-split, once-split}
use Rattle.lsa_shape.specs.Shapes.{TreeShape, IsIn, HangsAt, IsOff, shape_by}
use Rattle.lsa_shape.specs.Levels.{IsLevel}
use Rattle.lsa_shape.specs.laws.Depths.{level-mapped, level-small}
use Rattle.lsa_shape.specs.laws.Hanging.{in-by, inorder-by, hangs-mapped, names-none}
use Rattle.lsa_shape.specs.laws.Rotations.{off-link}
use Rattle.lsa_tree.specs.declared.tree.Tree.{Tree}
use Rattle.lsa_tree.specs.Entries.{IsEntryKind, IsEntryAtPosition, balance_in, balance_of}
use Rattle.lsa_tree.specs.Tree.{IsTop, IsTree, IsLoose, IsOffTree, SameButBalances}
use Rattle.lsa_tree.specs.calls.Placing.{IsEntryBody, IsFormed, IsTreeChanged, IsTraded, traded_end}
use Rattle.lsa_tree.specs.laws.Orders.{ascending-replaced}
use Rattle.lsa_tree.specs.laws.Trees.{entry-no-top, entry-long, in-tree, tree-in, tree-entry, tree-once, tree-pairs, loose-beside, trees-apart}
use Rattle.lsa_tree.proofs.Placed.{body-kind, formed-tree, tree-formed}
use Rattle.lsa_tree.proofs.Changed.{alike-body, alike-version, balances-alike, balances-wider, changed-ascending, changed-body, changed-elsewhere, changed-loose, changed-others}
use Rattle.lsa_tree.proofs.Inserted.{members-more}
use Rattle.lsa_tree.proofs.Traded.{traded-end, traded-other}

module _ (tree : Tree) (v w : View) (well : IsWell v) (r q : Ref) (ne : r ≢ q) (t : IsTraded v w r q) (body_r : IsEntryBody (body v r)) (body_q : IsEntryBody (body v q)) where
  -- the balances go with them
  pub traded-level : (z : Ref) → balance_of w (swapped_ref r q z) ≡ balance_of v z
  traded-level z = elim (refs_decided z r) [
    | inl is ↦ ap (λ y. balance_of w (swapped_ref r q y)) is ∙ ap (balance_of w) (swap-here r q) ∙ t.second ∙ ap (balance_of v) (sym is)
    | inr no_r ↦ elim (refs_decided z q) [
      | inl is ↦ ap (λ y. balance_of w (swapped_ref r q y)) is ∙ ap (balance_of w) (swap-there r q (λ e. ne (sym e))) ∙ t.first ∙ ap (balance_of v) (sym is)
      | inr no_q ↦ ap (balance_of w) (swap-else r q z no_r no_q) ∙ ap (λ o. balance_in o) (t.objects.bodies z (λ c. elim (member-cases r z (q ∷ []) c) [
        | inl is ↦ no_r (sym is)
        | inr later ↦ elim (member-cases q z [] later) [ inl is ↦ no_q (sym is) | inr none ↦ omega (arith, none.1) ]
      ]))
    ]
  ]

  pub traded-body : (z : Ref) → IsEntryBody (body v z) → IsEntryBody (body w z)
  traded-body z h = alike-body (body v z) (body w z) (balances-alike v w (r ∷ (q ∷ [])) t.objects z) h

  -- an end that is no link of theirs, and whose mate is none
  pub traded-beside : (e : End) → IsOff e r → IsOff e q → ((f : ℕ) → 2 ≤ f → f ≤ 4 → (link_of v e ≢ Some (Obj r f)) × (link_of v e ≢ Some (Obj q f))) → link_of w e ≡ link_of v e
  traded-beside e off_r off_q mate =
      ap (link_of w) (sym (traded-other r q ne e (λ f low high. (off-link e r f low high off_r, off-link e q f low high off_q)))) ∙ t.links e ∙ stays (link_of v e) mate
    where
      stays : (o : Option End) → ((f : ℕ) → 2 ≤ f → f ≤ 4 → (o ≢ Some (Obj r f)) × (o ≢ Some (Obj q f))) → option_map (traded_end r q) o ≡ o
      stays None m = refl
      stays (Some d) m = ap (λ x. Some x) (traded-other r q ne d (λ f low high. ((λ is. (m f low high).0 (ap (λ x. Some x) is)), (λ is. (m f low high).1 (ap (λ x. Some x) is)))))

  module _ (refs : List Ref) (s : TreeShape) (f : IsFormed tree v refs s) where
    top_off : (z : Ref) → IsEntryBody (body v z) → IsOff tree.top z
    top_off z h = let off = λ (n : ℕ) (is : tree.top ≡ Obj z n). entry-no-top v tree.top z n f.top (body-kind (body v z) h) (sym is) in (off 2, off 3, off 4)

    top_same : traded_end r q tree.top ≡ tree.top
    top_same = traded-other r q ne tree.top (λ n low high. (off-link tree.top r n low high (top_off r body_r), off-link tree.top q n low high (top_off q body_q)))

    pub traded-hangs : HangsAt (link_of w) tree.top (shape_by (swapped_ref r q) s)
    traded-hangs = subst (λ e. HangsAt (link_of w) e (shape_by (swapped_ref r q) s)) top_same
        (hangs-mapped (link_of v) (link_of w) (traded_end r q) (swapped_ref r q) tree.top s (λ z i n low high. traded-end r q ne z n low high) (t.links tree.top) (λ z i n low high. t.links (Obj z n)) f.hangs)

    pub traded-levels : (n : ℕ) → IsLevel (balance_of v) s n → IsLevel (balance_of w) (shape_by (swapped_ref r q) s) n
    traded-levels n level = level-mapped (balance_of v) (balance_of w) (swapped_ref r q) s n (λ z i. traded-level z) level

    swap_in : (z : Ref) → IsEntryBody (body v z) → IsEntryBody (body v (swapped_ref r q z))
    swap_in z h = elim (refs_decided z r) [
      | inl is ↦ subst (λ y. IsEntryBody (body v y)) (sym (ap (swapped_ref r q) is ∙ swap-here r q)) body_q
      | inr no_r ↦ elim (refs_decided z q) [
        | inl is ↦ subst (λ y. IsEntryBody (body v y)) (sym (ap (swapped_ref r q) is ∙ swap-there r q (λ e. ne (sym e)))) body_r
        | inr no_q ↦ subst (λ y. IsEntryBody (body v y)) (sym (swap-else r q z no_r no_q)) h
      ]
    ]

    top_there : (e : End) → IsTop v e → IsTop w e
    top_there (Obj a n) h = (h.0, alike-version (body v a) (body w a) (balances-alike v w (r ∷ (q ∷ [])) t.objects a) h.1)
    top_there (Slot a) h = h

    -- what is beyond the tree and the other entry stays
    pub traded-changed : (members : List Ref) → ((z : Ref) → IsIn z s → Contains members z) → Contains members r → Contains members q
        → ((e : End) → e ≢ tree.top → ((z : Ref) → Contains members z → IsOff e z) → (n : ℕ) → 2 ≤ n → n ≤ 4 → (link_of v e ≢ Some (Obj r n)) × (link_of v e ≢ Some (Obj q n))) → IsTreeChanged v w tree members
    traded-changed members inside on_r on_q mates = record {
      links = λ e no_top off. traded-beside e (off r on_r) (off q on_q) (mates e no_top off);
      objects = balances-wider v w (r ∷ (q ∷ [])) t.objects members (λ z c. elim (member-cases r z (q ∷ []) c) [
        | inl is ↦ subst (Contains members) is on_r
        | inr later ↦ elim (member-cases q z [] later) [ inl is ↦ subst (Contains members) is on_q | inr none ↦ absurd (omega (arith, none.1)) ]
      ]);
    }

    pub traded-formed : IsFormed tree w (map (swapped_ref r q) refs) (shape_by (swapped_ref r q) s)
    traded-formed = record {
      top = top_there tree.top f.top;
      entries = λ z i. let y = in-by (swapped_ref r q) s z i in subst (λ a. IsEntryBody (body w a)) y.2 (traded-body (swapped_ref r q y.0) (swap_in y.0 (f.entries y.0 y.1)));
      hangs = traded-hangs;
      order = inorder-by (swapped_ref r q) s ∙ ap (map (swapped_ref r q)) f.order;
    }

-- ---- an entry in the place of another

module _ (tree : Tree) (v w : View) (well : IsWell v) (r q : Ref) (front back : List Ref) (h : IsTree tree v (front ++ (r ∷ back))) (loose : IsLoose v q) (x : Pos) (stands : IsEntryAtPosition v r x) (also : IsEntryAtPosition v q x) where
  member : Contains (front ++ (r ∷ back)) r
  member = member-here front back r

  pub replaced-apart : r ≢ q
  replaced-apart same = loose-beside tree v well (front ++ (r ∷ back)) q h loose (subst (Contains (front ++ (r ∷ back))) same member)

  old_form : IsFormed tree v (front ++ (r ∷ back)) h.form.0
  old_form = tree-formed tree v (front ++ (r ∷ back)) h

  pub replaced-few : (balance_of v r < 256) × (balance_of v q < 256)
  replaced-few = (omega (arith, level-small (balance_of v) h.form.0 h.form.1 r h.form.3 (in-tree tree v (front ++ (r ∷ back)) r h member)), omega (arith, loose.level))

  pub replaced-body : IsEntryBody (body v r)
  replaced-body = entry-long v r x stands

  pub replaced-other : IsEntryBody (body v q)
  replaced-other = entry-long v q x also

  module _ (t : IsTraded v w r q) where
    unset : (n : ℕ) → 2 ≤ n → n ≤ 4 → link_of v (Obj q n) ≡ None
    unset zero low high = absurd (omega (arith, low))
    unset (suc zero) low high = absurd (omega (arith, low))
    unset (suc (suc zero)) low high = loose.parent
    unset (suc (suc (suc zero))) low high = loose.left
    unset (suc (suc (suc (suc zero)))) low high = loose.right
    unset (suc (suc (suc (suc (suc n))))) low high = absurd (omega (arith, high))

    changed : IsTreeChanged v w tree (q ∷ (front ++ (r ∷ back)))
    changed = traded-changed tree v w well r q replaced-apart t replaced-body replaced-other (front ++ (r ∷ back)) h.form.0 old_form (q ∷ (front ++ (r ∷ back)))
        (λ z i. member-later q z (front ++ (r ∷ back)) (tree-in tree v (front ++ (r ∷ back)) z h i)) (member-later q r (front ++ (r ∷ back)) member) (member-first q (front ++ (r ∷ back)))
        (λ e no_top off n low high. (
          names-none (link_of v) well.paired tree.top h.form.0 h.form.2 r n (in-tree tree v (front ++ (r ∷ back)) r h member) low high e no_top (λ z i. off z (member-later q z (front ++ (r ∷ back)) (tree-in tree v (front ++ (r ∷ back)) z h i))),
          λ is. let clash : ◌≡◌ {A = Option End} None (Some e) = sym (unset n low high) ∙ well.paired.mates e (Obj q n) is in cc,
        ))

    entries : (z : Ref) → Contains (q ∷ (front ++ (r ∷ back))) z → IsSomeAnd (body v z) (λ b. IsEntryKind b.0)
    entries z c = elim (member-cases q z (front ++ (r ∷ back)) c) [ inl is ↦ subst (λ y. IsSomeAnd (body v y) (λ b. IsEntryKind b.0)) is loose.entry | inr old ↦ tree-entry tree v (front ++ (r ∷ back)) z h old ]

    -- the list with the other one
    names : map (swapped_ref r q) (front ++ (r ∷ back)) ≡ front ++ (q ∷ back)
    names = map-split (swapped_ref r q) front back r q (swap-here r q)
        (λ z c. swap-else r q z (λ is. once-split front back r (tree-pairs tree v well (front ++ (r ∷ back)) h) (subst (Contains (front ++ back)) is c))
        (λ is. loose-beside tree v well (front ++ (r ∷ back)) q h loose (members-more front back r q (subst (Contains (front ++ back)) is c))))

    pub replaced-tree : IsTree tree w (front ++ (q ∷ back))
    replaced-tree = formed-tree tree w (front ++ (q ∷ back)) (shape_by (swapped_ref r q) h.form.0) h.form.1
        (subst (λ l. IsFormed tree w l (shape_by (swapped_ref r q) h.form.0)) names (traded-formed tree v w well r q replaced-apart t replaced-body replaced-other (front ++ (r ∷ back)) h.form.0 old_form))
        (traded-levels tree v w well r q replaced-apart t replaced-body replaced-other (front ++ (r ∷ back)) h.form.0 old_form h.form.1 h.form.3)
        (changed-ascending v w tree (q ∷ (front ++ (r ∷ back))) changed (front ++ (q ∷ back)) (ascending-replaced v w front back r q x stands also h.ascending))

    pub replaced-others : (other : Tree) (xs : List Ref) → other.top ≢ tree.top → IsTree other v xs → IsTree other w xs
    replaced-others other xs ne k = changed-others v w tree (q ∷ (front ++ (r ∷ back))) changed h.top entries other xs ne
        (λ z on c. elim (member-cases q z (front ++ (r ∷ back)) c) [
          | inl is ↦ loose-beside other v well xs q k loose (subst (Contains xs) (sym is) on)
          | inr old ↦ trees-apart v well tree other (front ++ (r ∷ back)) xs ne h k z old on
        ]) k

    out_link : (n : ℕ) → 2 ≤ n → n ≤ 4 → link_of w (Obj r n) ≡ None
    out_link n low high =
        ap (link_of w) (sym (traded-end r q replaced-apart q n low high ∙ ap (λ z. Obj z n) (swap-there r q (λ e. replaced-apart (sym e))))) ∙ t.links (Obj q n) ∙ ap (option_map (traded_end r q)) (unset n low high)

    pub replaced-out : IsLoose w r
    replaced-out = record {
      entry = body-kind (body w r) (changed-body v w tree (q ∷ (front ++ (r ∷ back))) changed r replaced-body);
      parent = out_link 2 (omega arith) (omega arith);
      left = out_link 3 (omega arith) (omega arith);
      right = out_link 4 (omega arith) (omega arith);
      level = t.first ∙ loose.level;
    }

    pub replaced-loose : (z : Ref) → z ≢ q → IsLoose v z → IsLoose w z
    replaced-loose z ne free = changed-loose v w tree (q ∷ (front ++ (r ∷ back))) changed h.top entries z
        (λ c. elim (member-cases q z (front ++ (r ∷ back)) c) [ inl is ↦ ne (sym is) | inr old ↦ loose-beside tree v well (front ++ (r ∷ back)) z h free old ]) free

    pub replaced-elsewhere : (e : End) → IsOffTree v e → link_of w e ≡ link_of v e
    replaced-elsewhere e off = changed-elsewhere v w tree (q ∷ (front ++ (r ∷ back))) changed h.top entries e off

    pub replaced-objects : (xs : List Ref) → IsTree tree v xs → SameButBalances v w (q ∷ xs)
    replaced-objects xs k = subst (λ l. SameButBalances v w (q ∷ l)) (tree-once tree v (front ++ (r ∷ back)) xs h k) changed.objects
