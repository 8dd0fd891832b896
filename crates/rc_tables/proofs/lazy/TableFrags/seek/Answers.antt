-- What was read was sought.
use Rattle.std.proofs.Common.{ap, refl, Some}
use Rattle.rc_tables.proofs.Settling.{did_read, seek_settled}
use Rattle.rc_tables.proofs.lazy.TableFrags.seek.Goals as goal

pub returns-in-Ok-clause-some : goal.returns-in-Ok-clause-some
returns-in-Ok-clause-some g c = seek_settled c.args.self.now _ c.in-Ok.list c.in-Ok.ensures.might c.args.to.now c.go_on-went.result (ap Some c.go_on-went.ensures.left)

pub returns-in-Ok-clause-asks : goal.returns-in-Ok-clause-asks
returns-in-Ok-clause-asks g c = did_read _ c.args.self.now _ c.go_on-went.new.list _ _ refl c.in-Ok.ensures.asks c.in-Ok.ensures.quiet
