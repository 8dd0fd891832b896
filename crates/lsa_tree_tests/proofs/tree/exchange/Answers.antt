use Rattle.std.proofs.Common.{◌++◌, ◌∷◌, arith}
use Rattle.lsa_region.specs.declared.end.End.TheVariants.{Slot}
use Rattle.lsa_tree_tests.proofs.Walks.{slot-off, home-kept}
use Rattle.lsa_tree_tests.proofs.tree.exchange.Goals as goal

pub replace-requires : goal.replace-requires
replace-requires c = let held = c.requires.held in (omega arith, ((held.0, held.1, held.2.holds), (c.requires.loose, c.requires.alike)))

pub free-requires-clause-home : goal.free-requires-clause-home
free-requires-clause-home c =
    let v = c.args.region.now in let slot = c.args.slot in let front = c.requires.held.0 in let back = c.requires.held.1 in let held = c.requires.held.2 in let i = c.replace.ensures in
    home-kept slot v c.replace.new.region c.args.tree (front ++ (c.args.old ∷ back)) (front ++ (c.args.new ∷ back)) held (i.elsewhere (Slot slot) (slot-off v slot)) (i.replaced front back held.holds)
