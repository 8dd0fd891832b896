use Rattle.std.proofs.Common.{Some, subst, arith}
use Rattle.lsa_tree_tests.specs.Walking.{IsTreeEntry}
use Rattle.lsa_tree_tests.proofs.Walks.{one-there}
use Rattle.lsa_tree_tests.proofs.tree.number_of.Goals as goal

pub bytes-requires : goal.bytes-requires
bytes-requires c =
    let v = c.args.region.now in let one : IsTreeEntry c.args.tree v (Some c.in-Some.r) = subst (IsTreeEntry c.args.tree v) c.in-Some.is c.requires in
    (omega arith, one-there c.args.tree v one.0 one.1 c.in-Some.r one.2)
