-- The machine serves, where it is open.
use Rattle.std.proofs.Common.{subst}
use Rattle.rc_shell.specs.Late.{KeepsMoment}
use Rattle.rc_shell.proofs.late.LateMachineServer.answer.Goals as goal

pub returns-in-Some-clause-answered : goal.returns-in-Some-clause-answered
returns-in-Some-clause-answered g c = λ old s.
    c.serve.ensures.answered old (subst (λ k. KeepsMoment g.M.Machine.stands g.M.Machine.figures c.args.self.now.segments k (g.W.Store.files c.args.store.now, g.W.Store.faults c.args.store.now, g.W.Store.asks c.args.store.now) old) c.in-Some.is s)

pub returns-in-Some-clause-closes : goal.returns-in-Some-clause-closes
returns-in-Some-clause-closes g c = c.serve.ensures.closes

pub returns-in-None-clause-answered : goal.returns-in-None-clause-answered
returns-in-None-clause-answered g c = λ old s.
    c.begin.ensures.answered old (subst (λ k. KeepsMoment g.M.Machine.stands g.M.Machine.figures c.args.self.now.segments k (g.W.Store.files c.args.store.now, g.W.Store.faults c.args.store.now, g.W.Store.asks c.args.store.now) old) c.in-None.is s)
