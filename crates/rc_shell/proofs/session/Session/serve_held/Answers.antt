-- The held front decides what the line is answered, and that is what was pushed.
use Rattle.std.proofs.Common.{◌≡◌, List, ℕ, ◌∙◌}
use Rattle.rc_shell.specs.calls.Feed.{kept_front}
use Rattle.rc_shell.proofs.Held.{held_answered, held_unserved}
use Rattle.rc_shell.proofs.session.Session.serve_held.Goals as goal

pub returns-in-Ok-clause-served : goal.returns-in-Ok-clause-served
returns-in-Ok-clause-served g c = λ line old is at.
    let front : c.as_slice.result.now ≡ kept_front line = ◌∙◌ {A = List ℕ} c.as_slice.ensures.value is in
    held_answered old line c.as_slice.result.now _ (g.W.Store.files c.answer-answered.new.store, g.W.Store.faults c.answer-answered.new.store, g.W.Store.asks c.answer-answered.new.store) _ _ _ c.in-Ok.ending _ _ _ _ c.push_answer.result front c.clear.ensures.items c.as_slice-in-Ok.ensures.value
    (λ m stands. g.met.S.Server.leaves _ _ m stands) (c.in-Ok.ensures.answered old at) c.push_answer.ensures

pub returns-in-Err-clause-served : goal.returns-in-Err-clause-served
returns-in-Err-clause-served g c = λ line old is at.
    let front : c.as_slice.result.now ≡ kept_front line = ◌∙◌ {A = List ℕ} c.as_slice.ensures.value is in
    held_unserved old line c.as_slice.result.now
    (g.S.Server.stands c.answer-answered.new.self (g.W.Store.files c.answer-answered.new.store, g.W.Store.faults c.answer-answered.new.store, g.W.Store.asks c.answer-answered.new.store)) (g.W.Store.files c.answer-answered.new.store, g.W.Store.faults c.answer-answered.new.store, g.W.Store.asks c.answer-answered.new.store) _ _ front (c.in-Err.ensures.answered old at)
