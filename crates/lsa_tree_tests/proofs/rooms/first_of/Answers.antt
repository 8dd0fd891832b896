use Rattle.std.proofs.Common.{[], ◌∷◌, arith}
use Rattle.lsa_kinds.specs.declared.kind.Kind.TheVariants.{Version}
use Rattle.lsa_path.specs.laws.Members.{member-first}
use Rattle.lsa_tree_tests.proofs.Furnished.{first-is, kind-end}
use Rattle.lsa_tree_tests.proofs.rooms.first_of.Goals as goal

pub first_entry-requires : goal.first_entry-requires
first_entry-requires c = (omega arith, kind-end c.args.region.now c.args.top Version 2 (c.requires.3.kinds c.args.top (member-first c.args.top (c.requires.0 ∷ []))) (omega arith))

pub returns : goal.returns
returns c = λ first is. let t = c.requires in
    first-is c.args._chain c.args._list c.args.region.now c.args.top t.0 t.1 t.2 t.3 t.4 c.first_entry.result first
    (λ s. c.first_entry.ensures.none c.args._chain c.args._list _ t.2 s) (λ x rest s. c.first_entry.ensures.some c.args._chain c.args._list _ x rest t.2 s) is
