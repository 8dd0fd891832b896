use Rattle.lsa_region.proofs.Sets.{shape-then}
use Rattle.lsa_region.proofs.links.part.Goals as goal

pub returns-clause-shape : goal.returns-clause-shape
returns-clause-shape g c = shape-then _ _ _ c.set.ensures.set.shape c.set-2.ensures.set.shape
