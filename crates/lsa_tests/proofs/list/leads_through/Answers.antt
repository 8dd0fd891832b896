use Rattle.lsa_tests.proofs.Listed.{one-first}
use Rattle.lsa_tests.proofs.list.leads_through.Goals as goal

pub loop-number-init : goal.loop-number-init
loop-number-init c = one-first c.args.list c.args.region.now c.requires.0 c.requires.1 c.front-found.result (c.front-found.ensures c.requires.0 c.requires.1)
