-- The run so far at the start; its end at the limit.
use Rattle.std.proofs.Common.{◌≡◌, arith}
use Rattle.rc_shell.specs.Step.{LineStep, EndsRun, LeavesStore}
use Rattle.rc_shell.proofs.Ending.{nothing_so_far, limit_reached}
use Rattle.rc_shell.proofs.session.Session.serve_input.Goals as goal

pub loop-taken-init : goal.loop-taken-init
loop-taken-init g c = (omega arith, c.requires.stands, λ start at. nothing_so_far LineStep EndsRun LeavesStore 0 start _ _ _ _ _ _ c.requires.fresh at)

pub returns-clause-run : goal.returns-clause-run
returns-clause-run g c = λ start at segments.
    let reached : c.loop-taken.taken ≡ c.args.limit = omega arith in
    limit_reached LineStep EndsRun LeavesStore segments start
    (g.S.Server.stands c.loop-taken.self.server (g.W.Store.files c.loop-taken.store, g.W.Store.faults c.loop-taken.store, g.W.Store.asks c.loop-taken.store)) c.args.limit c.loop-taken.taken c.loop-taken.self.held.items c.push_last.result _ _ _ _ _ _ _ _ _ _ _
    (c.loop-taken.invariant.2 start at) (λ m stands. g.met.S.Server.leaves _ _ m stands) reached c.push_last.ensures
