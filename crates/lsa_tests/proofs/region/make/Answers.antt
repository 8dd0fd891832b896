use Rattle.lsa_region.specs.declared.end.End.TheVariants.{Slot}
use Rattle.lsa_tests.proofs.region.make.Goals as goal

pub tie-requires-clause-first : goal.tie-requires-clause-first
tie-requires-clause-first c = c.alloc_obj-object.ensures.added.ends (Slot c.args.slot) c.requires

pub returns : goal.returns
returns c = λ s there. c.tie.ensures (Slot s) (c.alloc_obj-object.ensures.added.ends (Slot s) there)
