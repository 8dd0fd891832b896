use Rattle.std.proofs.Common.{◌∷◌}
use Rattle.lsa_tree_tests.proofs.rooms.use_under.Goals as goal

pub write_first-requires : goal.write_first-requires
write_first-requires c = c.first_of.ensures c.in-Some.r c.in-Some.is

pub returns-in-Some : goal.returns-in-Some
returns-in-Some c = let t = c.touch_first.ensures in (c.args.top, (t.0, c.in-Some.r ∷ t.1, t.2, t.3, t.4))

pub returns-in-None : goal.returns-in-None
returns-in-None c = (c.args.top, c.requires)
