use Rattle.std.proofs.Common.{◌++◌, ◌∷◌, subst}
use Rattle.lsa_tree.specs.Search.{IsFound}
use Rattle.lsa_tree_tests.proofs.Walks.{held-as}
use Rattle.lsa_tree_tests.proofs.tree.take.Goals as goal

pub discard-requires : goal.discard-requires
discard-requires c =
    let v = c.args.region.now in let refs = c.tree_of-tree.ensures.0 in let held = c.tree_of-tree.ensures.1 in let r = c.in-Here.r in
    let f = subst (IsFound v refs _) c.in-Here.is (c.locate_key.ensures refs held.holds) in (f.0, f.1, held-as c.args.slot v c.tree_of-tree.result refs (f.0 ++ (r ∷ f.1)) held f.2)
