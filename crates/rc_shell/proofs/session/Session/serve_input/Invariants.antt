-- The run so far; what is left up to the limit falls.
use Rattle.std.proofs.Common.{◌-◌, ◌≤◌}
use Rattle.rc_shell.specs.calls.Feed.{SoFar}
use Rattle.rc_shell.specs.Step.{Moment, LineStep, EndsRun, LeavesStore}
use Rattle.rc_shell.proofs.session.Session.serve_input.Given as goal

abbrev pub invariant-loop-taken : goal.invariant-loop-taken
invariant-loop-taken g l = (l.taken ≤ l.limit)
    × ((now : Moment) × g.S.Server.stands l.self.server (g.W.Store.files l.store, g.W.Store.faults l.store, g.W.Store.asks l.store) now)
    × ((start : Moment) → g.S.Server.stands l.initial.self.server (g.W.Store.files l.initial.store, g.W.Store.faults l.initial.store, g.W.Store.asks l.initial.store) start →
    SoFar LineStep EndsRun LeavesStore start (g.S.Server.stands l.self.server (g.W.Store.files l.store, g.W.Store.faults l.store, g.W.Store.asks l.store)) l.self.held.items l.taken
    (g.I.Source.left l.initial.input) (g.I.Source.left l.input) (g.K.Sink.written l.initial.out) (g.K.Sink.written l.out)
    (g.I.Source.faults l.initial.input) (g.I.Source.faults l.input) (g.K.Sink.faults l.initial.out) (g.K.Sink.faults l.out))

abbrev pub decreases-loop-taken : goal.decreases-loop-taken
decreases-loop-taken g l = l.limit - l.taken
