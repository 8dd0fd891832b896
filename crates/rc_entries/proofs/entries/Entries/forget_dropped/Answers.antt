use Rattle.rc_entries.proofs.Forgetting.{forgetting-start, forgetting-step, over-entries, over-forgotten, over-rest, over-settled, told-less}
use Rattle.rc_entries.proofs.entries.Entries.forget_dropped.Goals as goal

pub loop-id-init : goal.loop-id-init
loop-id-init g c = forgetting-start c.args.self.now c.self.inside.numbers.entries c.self.inside.keys.entries c.args.chains.now c.self.view_is c.self.invariant

pub loop-id-smaller : goal.loop-id-smaller
loop-id-smaller g c = told-less c.loop-id.chains c.take_dropped.new.self c.in-Some.id c.in-Some.ensures

pub loop-id-preserved : goal.loop-id-preserved
loop-id-preserved g c =
    forgetting-step c.args.self.now c.loop-id.self-inside.numbers.entries c.forget.new.numbers.entries c.loop-id.self-inside.keys.entries c.forget.new.keys.entries c.args.chains.now c.loop-id.chains c.take_dropped.new.self c.in-Some.id c.loop-id.invariant c.in-Some.ensures c.forget.ensures.forgotten c.forget.ensures.ascend c.forget.ensures.index

pub returns-clause-told : goal.returns-clause-told
returns-clause-told g c = over-rest c.args.self.now c.loop-id.self-inside.numbers.entries c.loop-id.self-inside.keys.entries c.args.chains.now c.loop-id.chains c.take_dropped.new.self c.loop-id.invariant c.in_default.ensures

pub returns-clause-forgotten : goal.returns-clause-forgotten
returns-clause-forgotten g c = over-forgotten c.args.self.now c.loop-id.self-inside.numbers.entries c.loop-id.self-inside.keys.entries c.args.chains.now c.loop-id.chains c.take_dropped.new.self c.loop-id.invariant c.in_default.ensures

pub returns-clause-settled : goal.returns-clause-settled
returns-clause-settled g c = over-settled c.args.self.now c.loop-id.self-inside.numbers.entries c.loop-id.self-inside.keys.entries c.args.chains.now c.loop-id.chains c.take_dropped.new.self c.loop-id.invariant c.in_default.ensures

pub returns-clause-entries : goal.returns-clause-entries
returns-clause-entries g c = over-entries c.args.self.now c.loop-id.self-inside.numbers.entries c.loop-id.self-inside.keys.entries c.args.chains.now c.loop-id.chains c.take_dropped.new.self c.loop-id.invariant c.in_default.ensures c.known.ensures.told
