use Rattle.lsa_tests.proofs.Seated.{same-kept}
use Rattle.lsa_tests.proofs.region.tie.Goals as goal

pub returns : goal.returns
returns c = same-kept c.args.region.now c.link.new.self c.link.ensures.objects
