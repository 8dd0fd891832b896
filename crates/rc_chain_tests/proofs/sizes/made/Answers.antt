use Rattle.rc_chain_tests.proofs.Alone.{alone-made}
use Rattle.rc_chain_tests.proofs.sizes.made.Goals as goal

pub returns-clause-kept : goal.returns-clause-kept
returns-clause-kept c = alone-made 4096 c.args.region.now c.make_end.new.region c.make_end.result 88 c.make_end.ensures.made
