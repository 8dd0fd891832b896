use Rattle.std.proofs.Common.{arith}
use Rattle.rc_entries.proofs.Invalidating.{taken-detached, taken-out, taking-start, taking-step}
use Rattle.rc_entries.proofs.entries.Entries.detach_each.Goals as goal

pub loop-part-init : goal.loop-part-init
loop-part-init g c = taking-start g.row.S c.args.parts.now c.args.self.now c.args.chains.now

pub loop-part-preserved : goal.loop-part-preserved
loop-part-preserved g c =
    taking-step g.row.S c.args.parts.now c.loop-part.part-index c.args.self.now c.loop-part.self c.args.chains.now c.loop-part.chains c.loop-part.invariant c.part-item.result c.part-item.result c.loop-part-test.true c.part-item.is c.detach.new.self c.detach.new.chains c.detach.ensures.none c.detach.ensures.gone c.detach.ensures.detached c.detach.ensures.entries c.detach.ensures.settled c.detach.ensures.spare

pub returns-clause-gone : goal.returns-clause-gone
returns-clause-gone g c = taken-out g.row.S c.args.parts.now c.loop-part.part-index c.args.self.now c.loop-part.self c.args.chains.now c.loop-part.chains c.loop-part.invariant (omega arith)

pub returns-clause-detached : goal.returns-clause-detached
returns-clause-detached g c = taken-detached g.row.S c.args.parts.now c.loop-part.part-index c.args.self.now c.loop-part.self c.args.chains.now c.loop-part.chains c.loop-part.invariant (omega arith)

pub returns-clause-entries : goal.returns-clause-entries
returns-clause-entries g c = c.loop-part.invariant.entries

pub returns-clause-settled : goal.returns-clause-settled
returns-clause-settled g c = c.loop-part.invariant.settled

pub returns-clause-spare : goal.returns-clause-spare
returns-clause-spare g c = c.loop-part.invariant.spare
