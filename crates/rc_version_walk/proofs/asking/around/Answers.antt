use Rattle.std.proofs.Common.{sym, subst}
use Rattle.lsa_tree.specs.Search.{IsFound}
use Rattle.lsa_tree.specs.Tree.{IsTree}
use Rattle.rc_version.specs.Versions.{IsVersionOf}
use Rattle.rc_version_walk.proofs.Entries.{entry-held, next-held}
use Rattle.rc_version_walk.proofs.asking.around.Goals as goal

pub returns-in-Here-clause-at : goal.returns-in-Here-clause-at
returns-in-Here-clause-at c =
    let now = c.args.region.now in let v = c.requires in let tree = subst (λ t. IsTree t now v.0) (sym c.tree_of-tree.ensures) v.2.tree in
    let f = subst (IsFound now v.0 c.args.x.now) c.in-Here.is (c.locate.ensures v.0 tree) in
    entry-held now c.args.v f.0 f.1 c.in-Here.e v.1 (subst (λ l. IsVersionOf now c.args.v l v.1) f.2 v.2)

pub returns-in-Here-clause-behind : goal.returns-in-Here-clause-behind
returns-in-Here-clause-behind c =
    let now = c.args.region.now in let v = c.requires in let tree = subst (λ t. IsTree t now v.0) (sym c.tree_of-tree.ensures) v.2.tree in
    let f = subst (IsFound now v.0 c.args.x.now) c.in-Here.is (c.locate.ensures v.0 tree) in
    next-held now c.args.v f.0 f.1 c.in-Here.e v.1 (subst (λ l. IsVersionOf now c.args.v l v.1) f.2 v.2) c.next.result (c.next.ensures f.0 f.1 (subst (IsTree c.tree_of-tree.result now) f.2 tree))

pub returns-in-Before-clause-behind : goal.returns-in-Before-clause-behind
returns-in-Before-clause-behind c =
    let now = c.args.region.now in let v = c.requires in let tree = subst (λ t. IsTree t now v.0) (sym c.tree_of-tree.ensures) v.2.tree in
    let f = subst (IsFound now v.0 c.args.x.now) c.in-Before.is (c.locate.ensures v.0 tree) in
    entry-held now c.args.v f.0 f.1 c.in-Before.next v.1 (subst (λ l. IsVersionOf now c.args.v l v.1) f.2 v.2)
