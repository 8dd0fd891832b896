use Rattle.lsa_kinds.specs.declared.kind.Kind.TheVariants.{Dummy}
use Rattle.lsa_tests.proofs.Seated.{once-added}
use Rattle.lsa_tests.proofs.region.make_dummy.Goals as goal

pub returns : goal.returns
returns c = once-added c.args.region.now c.alloc_obj.new.self c.alloc_obj.result Dummy _ c.alloc_obj.ensures.added c.args._dummies.now c.requires.once
