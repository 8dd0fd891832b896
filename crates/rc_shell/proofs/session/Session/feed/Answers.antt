-- The bytes so far, then one more; where it stopped, the others do not matter.
use Rattle.std.proofs.Common.{Ok, Err, None, subst}
use Rattle.rc_shell.specs.calls.Feed.{Serves}
use Rattle.std.proofs.lemmas.Result.{err_from_is_err_and}
use Rattle.std.proofs.lemmas.List.{take_more, take_all}
use Rattle.rc_shell.specs.Step.{LineStep, EndsRun, LeavesStore}
use Rattle.rc_shell.proofs.Serving.{nothing_fed, serves_more, stopped_at}
use Rattle.rc_shell.proofs.session.Session.feed.Goals as goal

pub loop-byte-init : goal.loop-byte-init
loop-byte-init g c = (c.requires.stands, λ rest old line is at. nothing_fed LineStep EndsRun LeavesStore old rest _ _ (None, 0, 0) _ _ line is at)

pub returns-in_err-take_byte-clause-served : goal.returns-in_err-take_byte-clause-served
returns-in_err-take_byte-clause-served g c = λ rest old line is at.
    let p = err_from_is_err_and c.from_residual.result c.from_residual.ensures.1 in
    rw (p.1, p.2) (stopped_at LineStep EndsRun LeavesStore old rest c.args.piece.now c.loop-byte.byte-index (g.S.Server.stands c.take_byte.new.self.server (g.W.Store.files c.take_byte.new.store, g.W.Store.faults c.take_byte.new.store, g.W.Store.asks c.take_byte.new.store)) c.take_byte.new.self.held.items
    (g.W.Store.files c.take_byte.new.store, g.W.Store.faults c.take_byte.new.store, g.W.Store.asks c.take_byte.new.store) _ _ _ _ _ c.loop-byte-test.true
    (serves_more LineStep EndsRun LeavesStore old rest _ _ (g.S.Server.stands c.loop-byte.self.server (g.W.Store.files c.loop-byte.store, g.W.Store.faults c.loop-byte.store, g.W.Store.asks c.loop-byte.store))
    (g.S.Server.stands c.take_byte.new.self.server (g.W.Store.files c.take_byte.new.store, g.W.Store.faults c.take_byte.new.store, g.W.Store.asks c.take_byte.new.store)) c.loop-byte.self.held.items c.take_byte.new.self.held.items
    (None, 0, 0) (g.W.Store.files c.take_byte.new.store, g.W.Store.faults c.take_byte.new.store, g.W.Store.asks c.take_byte.new.store) _ _ _ _ _ _ (Err c.in_err-take_byte.field-0.0) (c.loop-byte.invariant.1 rest old line is at)
    (λ left mid unfinished kept_is stands. c.in_err-take_byte.ensures.served left mid unfinished kept_is stands)))

pub loop-byte-preserved : goal.loop-byte-preserved
loop-byte-preserved g c = (
  c.in_ok-take_byte.ensures.stands,
  λ rest old line is at.
      rw (take_more c.args.piece.now c.loop-byte.byte-index 0 c.loop-byte-test.true)
      (serves_more LineStep EndsRun LeavesStore old rest _ _ (g.S.Server.stands c.loop-byte.self.server (g.W.Store.files c.loop-byte.store, g.W.Store.faults c.loop-byte.store, g.W.Store.asks c.loop-byte.store))
      (g.S.Server.stands c.take_byte.new.self.server (g.W.Store.files c.take_byte.new.store, g.W.Store.faults c.take_byte.new.store, g.W.Store.asks c.take_byte.new.store)) c.loop-byte.self.held.items c.take_byte.new.self.held.items
      (None, 0, 0) (None, 0, 0) _ _ _ _ _ _ (Ok tt) (c.loop-byte.invariant.1 rest old line is at)
      (λ left mid unfinished kept_is stands. c.in_ok-take_byte.ensures.served left mid unfinished kept_is stands)),
)

pub returns-clause-served : goal.returns-clause-served
returns-clause-served g c = λ rest old line is at.
    subst (λ bytes. Serves LineStep EndsRun LeavesStore old rest bytes (g.S.Server.stands c.loop-byte.self.server (g.W.Store.files c.loop-byte.store, g.W.Store.faults c.loop-byte.store, g.W.Store.asks c.loop-byte.store)) c.loop-byte.self.held.items
    (g.W.Store.files c.loop-byte.store, g.W.Store.faults c.loop-byte.store, g.W.Store.asks c.loop-byte.store) (g.K.Sink.written c.args.out.now) (g.K.Sink.written c.loop-byte.out) (g.K.Sink.faults c.args.out.now) (g.K.Sink.faults c.loop-byte.out) (Ok tt))
    (take_all c.loop-byte.byte-index c.args.piece.now c.loop-byte-test.false) (c.loop-byte.invariant.1 rest old line is at)
