-- The bytes so far are served.
use Rattle.std.proofs.Common.{◌≡◌, ℕ, List, take, Ok}
use Rattle.rc_shell.specs.Lines.{IsLine}
use Rattle.rc_shell.specs.calls.Feed.{Serves, kept_front}
use Rattle.rc_shell.specs.Step.{Moment, LineStep, EndsRun, LeavesStore}
use Rattle.rc_shell.proofs.session.Session.feed.Given as goal

abbrev pub invariant-loop-byte : goal.invariant-loop-byte
invariant-loop-byte g l =
    ((now : Moment) × g.S.Server.stands l.self.server (g.W.Store.files l.store, g.W.Store.faults l.store, g.W.Store.asks l.store) now)
    × ((rest : List ℕ) (old : Moment) → IsLine rest → l.initial.self.held.items ≡ kept_front rest → g.S.Server.stands l.initial.self.server (g.W.Store.files l.initial.store, g.W.Store.faults l.initial.store, g.W.Store.asks l.initial.store) old →
    Serves LineStep EndsRun LeavesStore old rest (take l.byte-index l.piece) (g.S.Server.stands l.self.server (g.W.Store.files l.store, g.W.Store.faults l.store, g.W.Store.asks l.store)) l.self.held.items
    (g.W.Store.files l.store, g.W.Store.faults l.store, g.W.Store.asks l.store) (g.K.Sink.written l.initial.out) (g.K.Sink.written l.out) (g.K.Sink.faults l.initial.out) (g.K.Sink.faults l.out) (Ok tt))
