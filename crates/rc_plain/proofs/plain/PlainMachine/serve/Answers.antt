-- An answer is counted, and what is told goes on from there.
use Rattle.std.proofs.Common.{◌∙◌, sym, subst}
use Rattle.rc_folder.specs.Counting.{counted_answer}
use Rattle.rc_plain.specs.Stands.{Keeping, PlainStands}
use Rattle.rc_plain.specs.calls.Counting.{AreSameCounts}
use Rattle.rc_plain.proofs.Counted.{are-counted, stands-counted}
use Rattle.rc_plain.proofs.plain.PlainMachine.serve.Goals as goal

pub returns-clause-figures : goal.returns-clause-figures
returns-clause-figures g c =
    let mid : Keeping = record {
      schema = c.self.inside.folder.schema;
      infos = c.self.inside.folder.infos;
      sealed = c.self.inside.sealed;
      active = c.self.inside.active;
      readers = c.self.inside.readers.items;
      segments = c.self.inside.segments;
      answered = c.self.inside.answered;
      asked = c.self.inside.asked;
    } in
    are-counted c.args.command.now c.in_ok-reply.reply (g.W.Store.asks c.args.store.now) (g.W.Store.asks c.step.new.store) c.args.self.now mid c.count-self-inside.result (subst (AreSameCounts c.args.self.now) (sym c.self.view_is) c.step.ensures.counts)
    (c.count-self-inside.ensures.counted ∙ (λ i. counted_answer c.args.command.now c.in_ok-reply.reply (c.asks-before.ensures i) (c.asks.ensures i) c.self.inside.answered)) c.count-self-inside.ensures.hits c.count-self-inside.ensures.misses c.in_ok-reply.ensures.told

pub returns-clause-step : goal.returns-clause-step
returns-clause-step g c = λ m s.
    let mid : Keeping = record {
      schema = c.self.inside.folder.schema;
      infos = c.self.inside.folder.infos;
      sealed = c.self.inside.sealed;
      active = c.self.inside.active;
      readers = c.self.inside.readers.items;
      segments = c.self.inside.segments;
      answered = c.self.inside.answered;
      asked = c.self.inside.asked;
    } in
    let files = g.W.Store.files c.step.new.store in
    let t = c.in_ok-reply.ensures.step m s in
    (t.0, t.1, stands-counted files mid t.0 c.count-self-inside.result (subst (λ (k : Keeping). PlainStands files k t.0) (sym c.self.view_is) t.2))
