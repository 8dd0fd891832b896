-- What was read has the head.
use Rattle.std.proofs.Common.{refl, subst, sym}
use Rattle.rc_tables.specs.Streams.{MayBe}
use Rattle.rc_tables.proofs.Settling.{did_read, head_settled}
use Rattle.rc_tables.proofs.lazy.TableFrags.head.Goals as goal

pub returns-in-Ok-clause-some : goal.returns-in-Ok-clause-some
returns-in-Ok-clause-some g c = head_settled c.args.self.now _ c.in-Ok.read c.in-Ok.ensures.might c.copy_head-head.result refl c.copy_head-head.ensures.head

pub returns-in-Ok-clause-asks : goal.returns-in-Ok-clause-asks
returns-in-Ok-clause-asks g c = did_read _ c.args.self.now _ c.in-Ok.read _ _ refl c.in-Ok.ensures.asks c.in-Ok.ensures.quiet

pub returns-in-Ok-clause-might : goal.returns-in-Ok-clause-might
returns-in-Ok-clause-might g c = λ s is. subst (MayBe c.args.self.now) (sym is) c.in-Ok.ensures.might

pub returns-in-Ok-clause-stands : goal.returns-in-Ok-clause-stands
returns-in-Ok-clause-stands g c = c.in-Ok.ensures.stands
