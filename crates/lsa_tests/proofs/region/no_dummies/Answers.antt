use Rattle.lsa_tests.proofs.Seated.{none-once}
use Rattle.lsa_tests.proofs.region.no_dummies.Goals as goal

pub returns : goal.returns
returns c = none-once c.args._region.now _ c.new.ensures.items
