use Rattle.std.proofs.Common.{Some, subst}
use Rattle.lsa_tree_tests.specs.Walking.{IsTreeEntry}
use Rattle.lsa_tree_tests.proofs.Walks.{one-next}
use Rattle.lsa_tree_tests.proofs.tree.behind.Goals as goal

pub returns-in-Some : goal.returns-in-Some
returns-in-Some c =
    let v = c.args.region.now in let one : IsTreeEntry c.args.tree v (Some c.in-Some.r) = subst (IsTreeEntry c.args.tree v) c.in-Some.is c.requires in
    one-next c.args.tree v one.0 one.1 c.in-Some.r one.2 c.next.result (c.next.ensures one.0 one.1 one.2)
