use Rattle.std.proofs.Common.{[], ◌∷◌}
use Rattle.lsa_tree_tests.proofs.rooms.strip.Goals as goal

pub drop_newest-requires : goal.drop_newest-requires
drop_newest-requires c = let x = c.requires.0 in let t = c.requires.1 in (x, (t.0 ∷ []), (x, t.1, t.2, t.3))

pub drop_newest-requires-2 : goal.drop_newest-requires-2
drop_newest-requires-2 c = let x = c.requires.0 in let t = c.requires.1 in (t.0, [], c.drop_newest.ensures x (t.0 ∷ []) (x, t.1, t.2, t.3))

pub returns : goal.returns
returns c = let x = c.requires.0 in let t = c.requires.1 in c.drop_newest-2.ensures t.0 [] (c.drop_newest.ensures x (t.0 ∷ []) (x, t.1, t.2, t.3))
