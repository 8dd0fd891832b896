use Rattle.rc_cache_tests.proofs.Opened.{put-some}
use Rattle.rc_cache_tests.proofs.unstored.put.Goals as goal

pub returns-clause-stands : goal.returns-clause-stands
returns-clause-stands c = put-some c.put.result c.args.schema.now c.args.w.now c.args.unstored.now c.put.new.self c.requires c.put.ensures.stands c.put.ensures.err
