use Rattle.lsa_tests.proofs.Seated.{same-kept}
use Rattle.lsa_tests.proofs.region.trade.Goals as goal

pub returns : goal.returns
returns c = same-kept c.args.region.now c.exchange.new.self c.exchange.ensures.objects
