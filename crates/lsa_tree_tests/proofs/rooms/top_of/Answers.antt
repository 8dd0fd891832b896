use Rattle.std.proofs.Common.{◌≡◌, Some, sym, ◌∙◌, subst, arith}
use Rattle.lsa_tree_tests.specs.Furnished.{IsTopped}
use Rattle.lsa_tree_tests.proofs.Furnished.{chain-there}
use Rattle.lsa_tree_tests.proofs.rooms.top_of.Goals as goal

pub newest-requires : goal.newest-requires
newest-requires c = let x = c.requires.0 in let t = c.requires.1 in (omega arith, chain-there c.args.region.now c.known.ensures.well c.args.chain c.args._list x _ x t.1 t.2 t.3)

pub returns : goal.returns
returns c = λ top is.
    let x = c.requires.0 in let t = c.requires.1 in
    let named = c.newest.ensures.some c.args._list x _ x t.1 t.2 t.3 in
    let same : x ≡ top = let e : Some x ≡ Some top = sym named ∙ is in cc in
    subst (IsTopped c.args.chain c.args._list c.args.region.now) same t
