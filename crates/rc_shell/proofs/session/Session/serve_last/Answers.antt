use Rattle.std.proofs.Common.{◌≡◌, ◌≢◌, [], None, length, ap, arith, ◌∙◌}
use Rattle.std.proofs.lemmas.Bool.Decides.{nat_tests}
use Rattle.rc_shell.specs.calls.Feed.{kept_front}
use Rattle.rc_shell.specs.Step.{LineStep, EndsRun, LeavesStore}
use Rattle.rc_shell.proofs.Ending.{nothing_left, last_served}
use Rattle.rc_shell.proofs.Serving.{kept-nil}
use Rattle.rc_shell.proofs.session.Session.serve_last.Goals as goal

pub returns-then-is_empty-clause-served : goal.returns-then-is_empty-clause-served
returns-then-is_empty-clause-served g c = λ rest old is at.
    let none : length c.args.self.now.held.items ≡ 0 = grind (arith, nat_tests) in
    nothing_left LineStep EndsRun LeavesStore 0 old rest _ (g.S.Server.stands c.args.self.now.server (g.W.Store.files c.args.store.now, g.W.Store.faults c.args.store.now, g.W.Store.asks c.args.store.now)) (None, 0, 0) _ _ is none at

pub returns-clause-served : goal.returns-clause-served
returns-clause-served g c = λ rest old is at.
    let some : rest ≢ [] = λ empty. (let none : length c.args.self.now.held.items ≡ 0 = ap length (is ∙ ap kept_front empty ∙ kept-nil) in grind (arith, nat_tests)) in
    last_served LineStep EndsRun LeavesStore 0 old rest _ (g.W.Store.files c.serve_held.new.store, g.W.Store.faults c.serve_held.new.store, g.W.Store.asks c.serve_held.new.store) _ _ _ _ c.serve_held.result some (c.serve_held.ensures.served rest old is at)
