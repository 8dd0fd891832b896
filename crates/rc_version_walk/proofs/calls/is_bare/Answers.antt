use Rattle.std.proofs.Common.{[], ◌∷◌, arith, sym, ◌∙◌, subst}
use Rattle.lsa_tree.specs.Tree.{IsTree}
use Rattle.rc_version_walk.proofs.Entries.{alone, first-is}
use Rattle.rc_version_walk.proofs.calls.is_bare.Goals as goal

pub next-requires : goal.next-requires
next-requires c =
    let v = c.requires in let tree = subst (λ t. IsTree t c.args.region.now v.0) (sym c.tree_of-tree.ensures) v.2.tree in
    let first = first-is v.0 c.in-Some.end (sym c.in-Some.is ∙ c.first.ensures v.0 tree) in
    (omega arith, ([], first.0, subst (λ l. IsTree c.tree_of-tree.result c.args.region.now l) first.1 tree))

pub returns-in-None-next : goal.returns-in-None-next
returns-in-None-next c = λ _.
    let v = c.requires in let tree = subst (λ t. IsTree t c.args.region.now v.0) (sym c.tree_of-tree.ensures) v.2.tree in (
      c.in-Some.end,
      v.1,
      alone c.args.region.now c.args.v v.0 v.1 v.2 c.in-Some.end (sym c.in-Some.is ∙ c.first.ensures v.0 tree)
          (λ back h. sym c.in-None-next.is ∙ c.next.ensures [] back (subst (λ t. IsTree t c.args.region.now (c.in-Some.end ∷ back)) (sym c.tree_of-tree.ensures) h.tree)),
    )
