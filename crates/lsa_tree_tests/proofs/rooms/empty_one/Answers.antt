use Rattle.std.proofs.Common.{[], ◌∷◌, map}
use Rattle.lsa_region.specs.Ends.{named_as}
use Rattle.lsa_path.specs.laws.Members.{member-first}
use Rattle.lsa_tree_tests.proofs.Furnished.{stands-moved, listed-moved}
use Rattle.lsa_tree_tests.proofs.rooms.empty_one.Goals as goal

pub returns : goal.returns
returns c =
    let x = c.requires.0 in let t = c.requires.1 in let n = c.compact_one.ensures.renamed in let f = named_as n.0 in
    let s = stands-moved c.args.region.now c.compact_one.new.region n.0 n.1 c.known.ensures.well c.args._chain c.args._list _ x t.1 t.2 (member-first x (t.0 ∷ [])) t.3 in
    (f x, (f t.0, map f t.1, map f t.2, s, listed-moved f t.1 t.2 t.4))
