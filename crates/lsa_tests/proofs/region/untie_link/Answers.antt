use Rattle.lsa_region.specs.declared.end.End.TheVariants.{Obj}
use Rattle.lsa_tests.proofs.region.untie_link.Goals as goal

pub returns : goal.returns
returns c = c.untie.ensures (Obj c.args.r 0) c.requires
