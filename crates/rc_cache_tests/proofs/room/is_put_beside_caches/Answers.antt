-- The caches' chains leave what was written, and so does the seal.
use Rattle.rc_cache_tests.proofs.Left.{left-some}
use Rattle.rc_cache_tests.proofs.Opened.{seal-some}
use Rattle.rc_cache_tests.proofs.room.is_put_beside_caches.Goals as goal

pub put_row-requires-2 : goal.put_row-requires-2
put_row-requires-2 c = left-some c.args.schema.now c.put_row.new.unstored c.fill.new.chains c.what_leaves_the_chains_of_both_leaves_their_writes.ensures.beside c.fill.ensures c.put_row.ensures.stands

pub sealed_rows-requires : goal.sealed_rows-requires
sealed_rows-requires c = seal-some c.args.schema.now c.put_row-2.new.unstored c.seal.new.self c.seal.ensures.sealed c.seal.ensures.kept c.put_row-2.ensures.stands
