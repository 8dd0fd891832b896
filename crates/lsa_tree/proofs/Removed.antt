-- An entry taken out of its tree.
use Rattle.std.proofs.Common.{◌≡◌, ◌≢◌, ℕ, suc, List, ◌∷◌, ◌++◌, None, sym, ap, ◌∙◌, subst}
use Rattle.std.specs.Prelude.{IsSomeAnd, Contains}
use Rattle.lsa_region.specs.Ref.{Ref}
use Rattle.lsa_region.specs.declared.end.End.{End}
use Rattle.lsa_region.specs.declared.end.End.TheVariants.{Obj}
use Rattle.lsa_region.specs.Region.{View, body, link_of, IsWell}
use Rattle.lsa_shape.specs.Members.{member-here, once-split}
use Rattle.lsa_shape.specs.Shapes.{TreeShape, IsIn}
use Rattle.lsa_shape.specs.Ways.{Fork, plug}
use Rattle.lsa_shape.specs.laws.Depths.{level-kept, around-kept}
use Rattle.lsa_shape.specs.laws.Hanging.{field-off, hangs-moved}
use Rattle.lsa_shape.specs.laws.Places.{in-plug, around-plug}
use Rattle.lsa_tree.specs.declared.tree.Tree.{Tree}
use Rattle.lsa_tree.specs.Entries.{IsEntryKind, balance_in, balance_of}
use Rattle.lsa_tree.specs.Tree.{IsTree, IsLoose, IsOffTree, SameButBalances}
use Rattle.lsa_tree.specs.calls.Placing.{IsEntryBody, IsFormed, PlaceIn, IsTreeChanged, IsRebalanced, IsSettled, IsOut}
use Rattle.lsa_tree.specs.laws.Orders.{ascending-without}
use Rattle.lsa_tree.specs.laws.Trees.{entry-no-top, tree-entry, tree-once, tree-pairs, loose-beside, trees-apart}
use Rattle.lsa_tree.proofs.Placed.{body-kind, formed-in, formed-tree}
use Rattle.lsa_tree.proofs.Changed.{changed-ascending, changed-balance, changed-body, changed-elsewhere, changed-loose, changed-others, changed-then, changed-top, changed-wider, rebalanced-others}
use Rattle.lsa_tree.proofs.Inserted.{members-more}
use Rattle.lsa_tree.proofs.Plucked.{plucked-body}

module _ (tree : Tree) (v : View) (well : IsWell v) (front back : List Ref) (r : Ref) (h : IsTree tree v (front ++ (r ∷ back))) (w : View) (at : End) (way : List Fork) (shape : TreeShape) (here depth : ℕ) (out : IsOut v w tree (front ++ (r ∷ back)) (front ++ back) r at way shape here depth) where
  member : Contains (front ++ (r ∷ back)) r
  member = member-here front back r

  beside : Contains (front ++ back) r → ⊥
  beside = once-split front back r (tree-pairs tree v well (front ++ (r ∷ back)) h)

  body_v : IsEntryBody (body v r)
  body_v = plucked-body tree v well front back r h

  pub out-body : IsEntryBody (body w r)
  out-body = changed-body v w tree (front ++ (r ∷ back)) out.changed r body_v

  pub not_r : (z : Ref) → IsIn z (plug way shape) → z ≢ r
  not_r z i same = beside (subst (Contains (front ++ back)) same (formed-in tree w (front ++ back) (plug way shape) out.place.form z i))

  module _ (x : View) (written : IsRebalanced w x r 0) where
    pub level : (z : Ref) → z ≢ r → balance_of x z ≡ balance_of w z
    level = rebalanced-others w x r 0 written

    changed_x : IsTreeChanged w x tree (front ++ (r ∷ back))
    changed_x = changed-balance w x tree (front ++ (r ∷ back)) r 0 member written

    pub form : IsFormed tree x (front ++ back) (plug way shape)
    form = record {
      top = changed-top w x tree (front ++ (r ∷ back)) changed_x tree.top out.place.form.top;
      entries = λ z i. changed-body w x tree (front ++ (r ∷ back)) changed_x z (out.place.form.entries z i);
      hangs = hangs-moved (link_of w) (link_of x) tree.top tree.top (plug way shape) (written.links tree.top) (λ z i. (written.links (Obj z 3), written.links (Obj z 4))) out.place.form.hangs;
      order = out.place.form.order;
    }

    abbrev pub sunk-place : PlaceIn x at
    sunk-place = record {
      tree = tree;
      refs = front ++ back;
      way = way;
      shape = shape;
      here = here;
      there = suc here;
      depth = depth;
      is = record {
        form = form;
        level = level-kept (balance_of w) (balance_of x) shape here (λ z i. level z (not_r z (in-plug way shape z i))) out.place.level;
        around = around-kept (balance_of w) (balance_of x) way (suc here) depth (λ z i. level z (not_r z (around-plug way shape z i))) out.place.around;
      };
      end = out.end;
    }

    module _ (new : View) (settled : IsSettled x new at sunk-place) where
      changed : IsTreeChanged v new tree (front ++ (r ∷ back))
      changed = changed-then v x tree (front ++ (r ∷ back)) new (changed-then v w tree (front ++ (r ∷ back)) x out.changed changed_x) (changed-wider x new tree (front ++ back) (front ++ (r ∷ back)) (members-more front back r) settled.changed)

      entries : (z : Ref) → Contains (front ++ (r ∷ back)) z → IsSomeAnd (body v z) (λ b. IsEntryKind b.0)
      entries z c = tree-entry tree v (front ++ (r ∷ back)) z h c

      pub removed-tree : IsTree tree new (front ++ back)
      removed-tree = let d = settled.done in formed-tree tree new (front ++ back) d.0 d.1 d.2.form d.2.level
          (changed-ascending v new tree (front ++ (r ∷ back)) changed (front ++ back) (ascending-without v front back r h.ascending))

      pub removed-others : (other : Tree) (xs : List Ref) → other.top ≢ tree.top → IsTree other v xs → IsTree other new xs
      removed-others other xs ne k = changed-others v new tree (front ++ (r ∷ back)) changed h.top entries other xs ne (λ z on c. trees-apart v well tree other (front ++ (r ∷ back)) xs ne h k z c on) k

      -- its links stay unset
      link_out : (f : ℕ) → link_of w (Obj r f) ≡ None → link_of new (Obj r f) ≡ None
      link_out f unset = settled.changed.links (Obj r f) (entry-no-top w tree.top r f out.place.form.top (body-kind (body w r) out-body)) (λ z c. field-off r z f (λ same. beside (subst (Contains (front ++ back)) (sym same) c)))
          ∙ written.links (Obj r f) ∙ unset

      pub removed-out : IsLoose new r
      removed-out = record {
        entry = body-kind (body new r) (changed-body v new tree (front ++ (r ∷ back)) changed r body_v);
        parent = link_out 2 out.parent;
        left = link_out 3 out.left;
        right = link_out 4 out.right;
        level = ap balance_in (settled.changed.objects.bodies r beside) ∙ written.written;
      }

      pub removed-loose : (q : Ref) → IsLoose v q → IsLoose new q
      removed-loose q free = changed-loose v new tree (front ++ (r ∷ back)) changed h.top entries q (loose-beside tree v well (front ++ (r ∷ back)) q h free) free

      pub removed-elsewhere : (e : End) → IsOffTree v e → link_of new e ≡ link_of v e
      removed-elsewhere e off = changed-elsewhere v new tree (front ++ (r ∷ back)) changed h.top entries e off

      pub removed-objects : (xs : List Ref) → IsTree tree v xs → SameButBalances v new xs
      removed-objects xs k = subst (SameButBalances v new) (tree-once tree v (front ++ (r ∷ back)) xs h k) changed.objects
