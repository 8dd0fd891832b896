use Rattle.std.proofs.Common.{◌++◌, ◌∷◌}
use Rattle.lsa_region.specs.declared.end.End.TheVariants.{Slot}
use Rattle.lsa_tree_tests.proofs.Walks.{slot-off, home-kept}
use Rattle.lsa_tree_tests.proofs.tree.discard.Goals as goal

pub free-requires-clause-home : goal.free-requires-clause-home
free-requires-clause-home c =
    let v = c.args.region.now in let slot = c.args.slot in let front = c.requires.0 in let back = c.requires.1 in let held = c.requires.2 in
    home-kept slot v c.remove.new.region c.args.tree (front ++ (c.args.r ∷ back)) (front ++ back) held (c.remove.ensures.elsewhere (Slot slot) (slot-off v slot)) (c.remove.ensures.removed front back held.holds)
