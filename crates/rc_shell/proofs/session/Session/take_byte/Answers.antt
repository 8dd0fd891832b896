use Rattle.std.proofs.Common.{sym, subst}
use Rattle.std.proofs.lemmas.Result.{on_ok_weaker}
use Rattle.rc_shell.specs.Step.{LineStep, EndsRun, LeavesStore}
use Rattle.rc_shell.proofs.Serving.{line_ended, byte_taken}
use Rattle.rc_shell.proofs.session.Session.take_byte.Goals as goal

pub returns-then-byte-eq10-clause-served : goal.returns-then-byte-eq10-clause-served
returns-then-byte-eq10-clause-served g c = λ rest old line is at.
    rw c.if-byte-eq10.true (line_ended LineStep EndsRun LeavesStore old rest _ _ _ _ _ _ _ c.serve_held.result line c.serve_held.ensures.held (c.serve_held.ensures.served rest old is at))

pub returns-clause-served : goal.returns-clause-served
returns-clause-served g c = λ rest old line is at.
    byte_taken LineStep EndsRun LeavesStore old rest c.args.byte _ _ _ _ _ c.hold.result line c.if-byte-eq10.false
    (subst (λ s. g.S.Server.stands s (g.W.Store.files c.args.store.now, g.W.Store.faults c.args.store.now, g.W.Store.asks c.args.store.now) old) (sym c.hold.ensures.server) at)
    (g.met.S.Server.leaves c.args.self.now.server (g.W.Store.files c.args.store.now, g.W.Store.faults c.args.store.now, g.W.Store.asks c.args.store.now) old at)
    (on_ok_weaker c.hold.result (λ held. held rest is) c.hold.ensures.held) c.hold.ensures.memory
