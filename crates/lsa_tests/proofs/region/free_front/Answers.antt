use Rattle.lsa_tests.proofs.Seated.{once-freed}
use Rattle.lsa_tests.proofs.region.free_front.Goals as goal

pub returns : goal.returns
returns c = once-freed c.args.region.now c.free.new.region c.args.dummy c.free.ensures.others c.args._rest.now c.requires
