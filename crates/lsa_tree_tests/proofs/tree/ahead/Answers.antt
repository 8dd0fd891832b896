use Rattle.std.proofs.Common.{Some, subst}
use Rattle.lsa_tree_tests.specs.Walking.{IsTreeEntry}
use Rattle.lsa_tree_tests.proofs.Walks.{one-last}
use Rattle.lsa_tree_tests.proofs.tree.ahead.Goals as goal

pub returns-in-Some : goal.returns-in-Some
returns-in-Some c =
    let v = c.args.region.now in let one : IsTreeEntry c.args.tree v (Some c.in-Some.r) = subst (IsTreeEntry c.args.tree v) c.in-Some.is c.requires in
    one-last c.args.tree v one.0 one.1 c.in-Some.r one.2 c.prev.result (c.prev.ensures one.0 one.1 one.2)
