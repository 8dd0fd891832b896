use Rattle.lsa_tests.proofs.Seated.{no-slots}
use Rattle.lsa_tests.proofs.region.no_slots.Goals as goal

pub returns : goal.returns
returns c = no-slots c.args._region.now _ c.requires c.new.ensures.items
