use Rattle.rc_cache_tests.proofs.Opened.{seal-some}
use Rattle.rc_cache_tests.proofs.unstored.open_later.Goals as goal

pub put_row-requires : goal.put_row-requires
put_row-requires c = seal-some c.args.schema.now c.args.unstored.now c.seal.new.self c.seal.ensures.sealed c.seal.ensures.kept c.requires
