-- An answer is counted, and what is told goes on from there.
use Rattle.std.proofs.Common.{◌∙◌}
use Rattle.rc_folder.specs.Counting.{counted_answer}
use Rattle.rc_shard.proofs.Counted.{are-counted}
use Rattle.rc_shard.proofs.Given.{filled-counted}
use Rattle.rc_shard.proofs.Latest.{stays-latest}
use Rattle.rc_shard.proofs.Passing.{passed-counted}
use Rattle.rc_shard.proofs.shard.ShardMachine.serve.Goals as goal

pub returns-clause-figures : goal.returns-clause-figures
returns-clause-figures g c =
    are-counted c.args.command.now c.in_ok-reply.reply (g.W.Store.asks c.args.store.now) (g.W.Store.asks c.step.new.store) c.args.self.now c.step.new.self c.count-self.result c.step.ensures.counts
    (c.count-self.ensures.counted ∙ (λ i. counted_answer c.args.command.now c.in_ok-reply.reply (c.asks-before.ensures i) (c.asks.ensures i) c.step.new.self.answered)) c.count-self.ensures.hits c.count-self.ensures.misses c.in_ok-reply.ensures.told

pub returns-clause-filled : goal.returns-clause-filled
returns-clause-filled g c = filled-counted (g.W.Store.asks c.args.store.now) (g.W.Store.asks c.step.new.store) c.args.self.now c.step.new.self c.count-self.result c.args.command.now c.in_ok-reply.reply c.in_ok-reply.ensures.filled

pub returns-clause-passes : goal.returns-clause-passes
returns-clause-passes g c = λ m s. passed-counted m c.args.self.now c.step.new.self c.count-self.result c.args.command.now c.in_ok-reply.reply (c.in_ok-reply.ensures.passes m s)

pub returns-clause-latest : goal.returns-clause-latest
returns-clause-latest g c =
    let s = c.requires.stands in
    stays-latest _ (g.W.Store.files c.args.store.now) (g.W.Store.files c.step.new.store) c.args.self.now c.step.new.self s.0 c.args.command.now c.in_ok-reply.reply (λ m id r command reply new before of steps. c.readers_are_fixed.ensures.step m id r command reply new before of steps) s.1 c.in_ok-reply.ensures.step
