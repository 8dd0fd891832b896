use Rattle.lsa_region.specs.declared.end.End.TheVariants.{Slot}
use Rattle.lsa_tests.proofs.region.link_at.Goals as goal

pub returns : goal.returns
returns c = λ s there. c.tie-tied.ensures (Slot s) there
