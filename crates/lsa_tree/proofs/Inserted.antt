-- An entry put where nothing hangs.
use Rattle.std.proofs.Common.{◌≡◌, ◌≢◌, ℕ, ◌≤◌, List, ◌∷◌, ◌++◌, None, inl, inr, ◌⊎◌, refl, sym, ap, ◌∙◌, subst}
use Rattle.std.specs.Prelude.{IsSomeAnd, Contains}
use Rattle.std.proofs.lemmas.List.Elements.{Contains-append_left, Contains-append_right, Contains-append_cases}
use Rattle.rc_position.specs.declared.positions.Pos.{Pos}
use Rattle.lsa_region.specs.Ref.{Ref}
use Rattle.lsa_region.specs.declared.end.End.{End}
use Rattle.lsa_region.specs.declared.end.End.TheVariants.{Obj}
use Rattle.lsa_region.specs.Paired.{IsTied}
use Rattle.lsa_region.specs.Region.{View, body, link_of, IsEnd, IsWell, SameObjects}
use Rattle.lsa_shape.specs.Members.{member-cases, member-later, member-here}
use Rattle.lsa_shape.specs.Paths.{same_object, same_field}
use Rattle.lsa_shape.specs.Shapes.{Leaf, Node, IsIn, HangsAt, IsOff, StaysBeyond}
use Rattle.lsa_shape.specs.Ways.{Fork, plug, hole}
use Rattle.lsa_shape.specs.laws.Ways.{IsAround}
use Rattle.lsa_shape.specs.laws.Depths.{around-kept}
use Rattle.lsa_shape.specs.laws.Places.{IsAroundEnd, plug-changed, stays-out, plug-in, around-plug, hole-end, inorder-plug}
use Rattle.lsa_tree.specs.declared.tree.Tree.{Tree}
use Rattle.lsa_tree.specs.Entries.{IsEntryKind, IsEntryAtPosition, BelongsBetween, balance_in, balance_of}
use Rattle.lsa_tree.specs.Tree.{IsTree, IsLoose, IsOffTree, SameButBalances}
use Rattle.lsa_tree.specs.calls.Placing.{IsEntryBody, IsFormed, PlaceIn, IsVacant, IsTreeChanged, IsSettled}
use Rattle.lsa_tree.specs.laws.Orders.{ascending-with}
use Rattle.lsa_tree.specs.laws.Trees.{entry-no-top, entry-long, entry-end, tree-entry, tree-once, loose-beside, trees-apart}
use Rattle.lsa_tree.proofs.Placed.{formed-clear, formed-in, formed-there, formed-hole, formed-tree}
use Rattle.lsa_tree.proofs.Changed.{alike-same, balances-alike, balances-narrower, changed-ascending, changed-body, changed-elsewhere, changed-links, changed-loose, changed-others, changed-then, changed-top}

-- where one more stands among members
pub members-with : (xs ys : List Ref) (r z : Ref) → Contains (xs ++ (r ∷ ys)) z → (z ≡ r) ⊎ Contains (xs ++ ys) z
members-with xs ys r z c = elim (Contains-append_cases xs (r ∷ ys) z c) [
  | inl front ↦ inr (Contains-append_left xs ys z front)
  | inr later ↦ elim (member-cases r z ys later) [ inl same ↦ inl (sym same) | inr back ↦ inr (Contains-append_right xs ys z back) ]
]

pub members-more : (xs ys : List Ref) (r z : Ref) → Contains (xs ++ ys) z → Contains (xs ++ (r ∷ ys)) z
members-more xs ys r z c = elim (Contains-append_cases xs ys z c) [
  | inl front ↦ Contains-append_left xs (r ∷ ys) z front
  | inr back ↦ Contains-append_right xs (r ∷ ys) z (member-later r z ys back)
]

module _ (tree : Tree) (v : View) (well : IsWell v) (r : Ref) (loose : IsLoose v r) (front back : List Ref) (h : IsTree tree v (front ++ back)) (x : Pos) (stands : IsEntryAtPosition v r x) (at : End) (way : List Fork) (depth : ℕ) (vac : IsVacant tree v front back at way depth) where
  abbrev old_form : IsFormed tree v (front ++ back) (plug way Leaf)
  old_form = vac.place.form

  beside : IsIn r (plug way Leaf) → ⊥
  beside i = loose-beside tree v well (front ++ back) r h loose (formed-in tree v (front ++ back) (plug way Leaf) vac.place.form r i)

  pub vacant-there : IsEnd v at
  vacant-there = subst (IsEnd v) vac.end (formed-there tree v (front ++ back) way Leaf vac.place.form)

  pub vacant-unset : link_of v at ≡ None
  vacant-unset = subst (λ e. link_of v e ≡ None) vac.end (formed-hole tree v (front ++ back) well way Leaf vac.place.form).0

  pub vacant-entry : (f : ℕ) → f ≤ 4 → IsEnd v (Obj r f)
  vacant-entry f le = entry-end v r f loose.entry le

  -- the place is no link of the entry
  pub vacant-apart : (f : ℕ) → at ≢ Obj r f
  vacant-apart f is = apart (hole-end tree.top way)
    where
      apart : IsAroundEnd (hole tree.top way) tree.top way → ⊥
      apart (inl top) = entry-no-top v tree.top r f vac.place.form.top loose.entry (sym is ∙ sym vac.end ∙ top)
      apart (inr w) =
          let around = around-plug way Leaf w.0 w.1 in
          elim w.2 [
            | inl low ↦ beside (subst (λ z. IsIn z (plug way Leaf)) (same_object w.0 r 3 f (sym low ∙ vac.end ∙ is)) around)
            | inr high ↦ beside (subst (λ z. IsIn z (plug way Leaf)) (same_object w.0 r 4 f (sym high ∙ vac.end ∙ is)) around)
          ]

  module _ (w : View) (tied : IsTied (link_of v) (link_of w) at (Obj r 2)) (same : SameObjects v w) where
    own : (f : ℕ) → f ≢ 2 → link_of w (Obj r f) ≡ link_of v (Obj r f)
    own f ne = tied.others (Obj r f) (λ e. vacant-apart f (sym e)) (λ e. ne (same_field r r f 2 e))

    stays : StaysBeyond (link_of v) (link_of w) (hole tree.top way) (λ z. z ≡ r)
    stays e ne off = tied.others e (λ is. ne (is ∙ sym vac.end)) (off r refl).0

    here : HangsAt (link_of w) (hole tree.top way) (Node Leaf r Leaf)
    here = (ap (link_of w) vac.end ∙ tied.first, own 3 (λ e. cc) ∙ loose.left, own 4 (λ e. cc) ∙ loose.right)

    top_off : IsOff tree.top r
    top_off = let off = λ (f : ℕ) (is : tree.top ≡ Obj r f). entry-no-top v tree.top r f vac.place.form.top loose.entry (sym is) in (off 2, off 3, off 4)

    pub attached-changed : IsTreeChanged v w tree (front ++ (r ∷ back))
    attached-changed = changed-links v w tree (front ++ (r ∷ back)) same
        (stays-out (link_of v) (link_of w) well.paired tree.top way Leaf (λ z. z ≡ r) (Contains (front ++ (r ∷ back)))
        (λ z is. subst (Contains (front ++ (r ∷ back))) (sym is) (member-here front back r)) (λ z i. members-more front back r z (formed-in tree v (front ++ back) (plug way Leaf) vac.place.form z i)) stays)

    body_r : IsEntryBody (body v r)
    body_r = entry-long v r x stands

    entry_of : (z : Ref) → IsIn z (Node Leaf r Leaf) ⊎ IsAround z way → IsEntryBody (body v z)
    entry_of z (inl (inl is)) = subst (λ q. IsEntryBody (body v q)) (sym is) body_r
    entry_of z (inl (inr (inl none))) = absurd none
    entry_of z (inl (inr (inr none))) = absurd none
    entry_of z (inr around) = vac.place.form.entries z (around-plug way Leaf z around)

    pub form : IsFormed tree w (front ++ (r ∷ back)) (plug way (Node Leaf r Leaf))
    form = record {
      top = changed-top v w tree (front ++ (r ∷ back)) attached-changed tree.top vac.place.form.top;
      entries = λ z i. changed-body v w tree (front ++ (r ∷ back)) attached-changed z (entry_of z (plug-in way (Node Leaf r Leaf) z i));
      hangs = plug-changed (link_of v) (link_of w) well.paired tree.top way Leaf (Node Leaf r Leaf) (λ z. z ≡ r) vac.place.form.hangs (formed-clear tree v (front ++ back) (plug way Leaf) vac.place.form) here stays
          (λ z is. inr (subst (λ q. IsOff tree.top q × (IsIn q (plug way Leaf) → ⊥)) (sym is) (top_off, beside)));
      order = inorder-plug way (Node Leaf r Leaf) ∙ (λ i. vac.before i ++ (r ∷ vac.behind i));
    }

    pub level : (z : Ref) → balance_of w z ≡ balance_of v z
    level z = ap balance_in (same.bodies z)

    abbrev pub attached : PlaceIn w at
    attached = record {
      tree = tree;
      refs = front ++ (r ∷ back);
      way = way;
      shape = Node Leaf r Leaf;
      here = 1;
      there = 0;
      depth = depth;
      is = record {
        form = form;
        level = (0, 0, refl, refl, inl (level r ∙ loose.level, refl, refl));
        around = around-kept (balance_of v) (balance_of w) way 0 depth (λ z i. level z) vac.place.around;
      };
      end = vac.end;
    }

    module _ (new : View) (settled : IsSettled w new at attached) where
      changed : IsTreeChanged v new tree (front ++ (r ∷ back))
      changed = changed-then v w tree (front ++ (r ∷ back)) new attached-changed settled.changed

      entries : (z : Ref) → Contains (front ++ (r ∷ back)) z → IsSomeAnd (body v z) (λ b. IsEntryKind b.0)
      entries z c = elim (members-with front back r z c) [ inl is ↦ subst (λ q. IsSomeAnd (body v q) (λ b. IsEntryKind b.0)) (sym is) loose.entry | inr old ↦ tree-entry tree v (front ++ back) z h old ]

      pub inserted-tree : BelongsBetween v x front back → IsTree tree new (front ++ (r ∷ back))
      inserted-tree fits = let d = settled.done in formed-tree tree new (front ++ (r ∷ back)) d.0 d.1 d.2.form d.2.level
          (changed-ascending v new tree (front ++ (r ∷ back)) changed (front ++ (r ∷ back)) (ascending-with v front back r x stands fits h.ascending))

      pub inserted-others : (other : Tree) (xs : List Ref) → other.top ≢ tree.top → IsTree other v xs → IsTree other new xs
      inserted-others other xs ne k = changed-others v new tree (front ++ (r ∷ back)) changed h.top entries other xs ne
          (λ z on c. elim (members-with front back r z c) [
            | inl is ↦ loose-beside other v well xs r k loose (subst (Contains xs) is on)
            | inr old ↦ trees-apart v well tree other (front ++ back) xs ne h k z old on
          ]) k

      pub inserted-loose : (q : Ref) → q ≢ r → IsLoose v q → IsLoose new q
      inserted-loose q ne free = changed-loose v new tree (front ++ (r ∷ back)) changed h.top entries q
          (λ c. elim (members-with front back r q c) [ inl is ↦ ne is | inr old ↦ loose-beside tree v well (front ++ back) q h free old ]) free

      pub inserted-elsewhere : (e : End) → IsOffTree v e → link_of new e ≡ link_of v e
      inserted-elsewhere e off = changed-elsewhere v new tree (front ++ (r ∷ back)) changed h.top entries e off

      pub inserted-objects : (xs : List Ref) → IsTree tree v xs → SameButBalances v new xs
      inserted-objects xs k = subst (SameButBalances v new) (tree-once tree v (front ++ back) xs h k) (balances-narrower v new (front ++ (r ∷ back)) changed.objects (front ++ back)
          (λ q out c. elim (members-with front back r q c) [
            | inl is ↦ subst (λ z. body new z ≡ body v z) (sym is)
                (alike-same (body v r) (body new r) (balances-alike v new (front ++ (r ∷ back)) changed.objects r) body_r (settled.level refl (inl refl) r (inl refl) (level r ∙ loose.level) ∙ sym loose.level))
            | inr old ↦ absurd (out old)
          ]))
