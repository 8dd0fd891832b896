-- What was read gave its first.
use Rattle.std.proofs.Common.{ap, refl, Some}
use Rattle.rc_tables.proofs.Settling.{did_read, next_settled}
use Rattle.rc_tables.proofs.lazy.TableFrags.next.Goals as goal

pub returns-in-Ok-clause-some : goal.returns-in-Ok-clause-some
returns-in-Ok-clause-some g c = next_settled c.args.self.now _ c.in-Ok.list c.in-Ok.ensures.might c.args.upto.now c.take_first-taken.result (ap Some c.take_first-taken.ensures.left) c.take_first-taken.ensures.gives

pub returns-in-Ok-clause-asks : goal.returns-in-Ok-clause-asks
returns-in-Ok-clause-asks g c = did_read _ c.args.self.now _ c.take_first-taken.new.list _ _ refl c.in-Ok.ensures.asks c.in-Ok.ensures.quiet
