use Rattle.lsa_kinds.specs.declared.kind.Kind.TheVariants.{Dummy}
use Rattle.lsa_tree_tests.proofs.Walks.{home-added}
use Rattle.lsa_tree_tests.proofs.tree.make.Goals as goal

pub returns-clause-home : goal.returns-clause-home
returns-clause-home c = home-added c.args._slot c.args.region.now c.alloc_obj.new.self c.alloc_obj.result Dummy _ c.alloc_obj.ensures.added c.requires.home
