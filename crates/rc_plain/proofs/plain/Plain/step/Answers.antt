-- Each step is that of its command.
use Rattle.std.proofs.Common.{◌+◌, ◌∙◌, ap, arith, refl, sym, subst, IfOk, OnErr}
use Rattle.rc_lines.specs.declared.commands.Command.{Command}
use Rattle.rc_machine.specs.Serving.{Takes, Stops}
use Rattle.rc_lines.specs.declared.commands.Figures.{Figures}
use Rattle.rc_plain.specs.Stands.{PlainStands}
use Rattle.rc_plain.proofs.Counted.{if-ok-all}
use Rattle.rc_plain.proofs.plain.Plain.step.Goals as goal

pub returns-in-Put-clause-step : goal.returns-in-Put-clause-step
returns-in-Put-clause-step g c =
    subst (λ (command : Command). IfOk c.put.result (λ reply. Takes PlainStands (g.W.Store.files c.args.store.now) c.args.self.now command reply (g.W.Store.files c.args.store.now) c.put.new.self)) (sym c.in-Put.is)
    (c.put.ensures.step (g.W.Store.files c.args.store.now))

pub returns-in-OpenRead-clause-step : goal.returns-in-OpenRead-clause-step
returns-in-OpenRead-clause-step g c =
    subst (λ (command : Command). IfOk c.open_read.result (λ reply. Takes PlainStands (g.W.Store.files c.args.store.now) c.args.self.now command reply (g.W.Store.files c.open_read.new.store) c.open_read.new.self)) (sym c.in-OpenRead.is)
    c.open_read.ensures.step

pub returns-in-Read-clause-step : goal.returns-in-Read-clause-step
returns-in-Read-clause-step g c =
    subst (λ (command : Command). IfOk c.read.result (λ reply. Takes PlainStands (g.W.Store.files c.args.store.now) c.args.self.now command reply (g.W.Store.files c.args.store.now) c.read.new.self)) (sym c.in-Read.is)
    (c.read.ensures.step (g.W.Store.files c.args.store.now))

pub returns-in-Close-clause-step : goal.returns-in-Close-clause-step
returns-in-Close-clause-step g c =
    subst (λ (command : Command). Takes PlainStands (g.W.Store.files c.args.store.now) c.args.self.now command c.close_reader.result (g.W.Store.files c.args.store.now) c.close_reader.new.self) (sym c.in-Close.is)
    (c.close_reader.ensures.step (g.W.Store.files c.args.store.now))

pub returns-in-Flush-clause-err : goal.returns-in-Flush-clause-err
returns-in-Flush-clause-err g c =
    subst (λ (command : Command). OnErr c.flush.result (Stops PlainStands (g.W.Store.files c.args.store.now) c.args.self.now command (g.W.Store.files c.flush.new.store) c.flush.new.self)) (sym c.in-Flush.is)
    c.flush.ensures.err

pub returns-in-SetSchema-clause-step : goal.returns-in-SetSchema-clause-step
returns-in-SetSchema-clause-step g c =
    subst (λ (command : Command). Takes PlainStands (g.W.Store.files c.args.store.now) c.args.self.now command c.set_schema.result (g.W.Store.files c.args.store.now) c.args.self.now) (sym c.in-SetSchema.is)
    (c.set_schema.ensures.step (g.W.Store.files c.args.store.now))

pub returns-in-Flush-clause-step : goal.returns-in-Flush-clause-step
returns-in-Flush-clause-step g c =
    subst (λ (command : Command). IfOk c.flush.result (λ reply. Takes PlainStands (g.W.Store.files c.args.store.now) c.args.self.now command reply (g.W.Store.files c.flush.new.store) c.flush.new.self)) (sym c.in-Flush.is)
    c.flush.ensures.step

-- what is told
pub returns-in-Put-clause-told : goal.returns-in-Put-clause-told
returns-in-Put-clause-told g c = rw (c.in-Put.is) (if-ok-all c.put.result _ (λ reply. tt))

pub returns-in-OpenRead-clause-told : goal.returns-in-OpenRead-clause-told
returns-in-OpenRead-clause-told g c = rw (c.in-OpenRead.is) (if-ok-all c.open_read.result _ (λ reply. tt))

pub returns-in-Read-clause-told : goal.returns-in-Read-clause-told
returns-in-Read-clause-told g c = rw (c.in-Read.is) (if-ok-all c.read.result _ (λ reply. tt))

pub returns-in-Flush-clause-told : goal.returns-in-Flush-clause-told
returns-in-Flush-clause-told g c = rw (c.in-Flush.is) (if-ok-all c.flush.result _ (λ reply. tt))

pub returns-in-Stats-clause-step : goal.returns-in-Stats-clause-step
returns-in-Stats-clause-step g c = rw (c.in-Stats.is) (λ m s. (m, (c.figures.result, ap (λ (f : Figures). f.segments + f.free) c.figures.ensures ∙ (let b = s.budget in omega (arith, b)), refl, refl), s))
