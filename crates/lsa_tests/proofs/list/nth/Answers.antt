use Rattle.lsa_tests.proofs.Listed.{one-first}
use Rattle.lsa_tests.proofs.list.nth.Goals as goal

pub loop-step-init : goal.loop-step-init
loop-step-init c = one-first c.args.list c.args.region.now c.requires.0 c.requires.1 c.front-found.result (c.front-found.ensures c.requires.0 c.requires.1)
