-- The words were refused, and that was said; memory ran out; or the input was served.
use Rattle.std.proofs.Common.{◌≡◌, map, string_bytes, sym, ◌∙◌, arith}
use Rattle.rc_shell.specs.Late.{IsBudget}
use Rattle.rc_shell.specs.Step.{StoreView, LineStep, EndsRun, LeavesStore, start_moment}
use Rattle.rc_shell.specs.Words.{words_of}
use Rattle.rc_shell.specs.declared.words.Words.TheVariants.{Run, Refused}
use Rattle.rc_shell.proofs.Budget.{words_budget}
use Rattle.rc_shell.proofs.Ending.{words_refused, memory_refused}
use Rattle.rc_shell.proofs.Staged.{begins_left, begins_stood}
use Rattle.rc_shell.proofs.runs.run_on.Goals as goal

pub returns-in-Refused-clause-run : goal.returns-in-Refused-clause-run
returns-in-Refused-clause-run g c =
    let is : words_of (map string_bytes c.args.words.now) ≡ Refused = sym c.words_of.ensures ∙ c.in-Refused.is in
    rw is (words_refused LineStep EndsRun LeavesStore 0 (start_moment Refused _) c.args.limit c.push_last.result _ _ _ _ _ _ _ (begins_left Refused _) c.push_last.ensures)

pub returns-in-Ok-clause-run : goal.returns-in-Ok-clause-run
returns-in-Ok-clause-run g c =
    let is : words_of (map string_bytes c.args.words.now) ≡ Run c.in-Run.segments = sym c.words_of.ensures ∙ c.in-Run.is in
    let store : StoreView = (g.W.Store.files c.args.store.now, g.W.Store.faults c.args.store.now, g.W.Store.asks c.args.store.now) in
    let budget : IsBudget c.in-Run.segments = words_budget (map string_bytes c.args.words.now) c.in-Run.segments is in
    rw is (c.serve_by.ensures (start_moment (Run c.in-Run.segments) store)
    (begins_stood g.M.Machine.stands g.M.Machine.figures c.new-machine.result.machine c.new-machine.result.segments c.in-Run.segments store c.new-machine.ensures.machine c.new-machine.ensures.segments budget) c.in-Run.segments)

pub returns-in-Err-clause-run : goal.returns-in-Err-clause-run
returns-in-Err-clause-run g c =
    let is : words_of (map string_bytes c.args.words.now) ≡ Run c.in-Run.segments = sym c.words_of.ensures ∙ c.in-Run.is in
    rw is (memory_refused LineStep EndsRun LeavesStore c.in-Run.segments (start_moment (Run c.in-Run.segments) _) c.args.limit _ _ _ _ _ (begins_left (Run c.in-Run.segments) _))

pub serve_by-requires-clause-stands : goal.serve_by-requires-clause-stands
serve_by-requires-clause-stands g c =
    let is : words_of (map string_bytes c.args.words.now) ≡ Run c.in-Run.segments = sym c.words_of.ensures ∙ c.in-Run.is in
    let store : StoreView = (g.W.Store.files c.args.store.now, g.W.Store.faults c.args.store.now, g.W.Store.asks c.args.store.now) in
    let budget : IsBudget c.in-Run.segments = words_budget (map string_bytes c.args.words.now) c.in-Run.segments is in
    (start_moment (Run c.in-Run.segments) store, begins_stood g.M.Machine.stands g.M.Machine.figures c.new-machine.result.machine c.new-machine.result.segments c.in-Run.segments store c.new-machine.ensures.machine c.new-machine.ensures.segments budget)

pub serve_by-requires-clause-small : goal.serve_by-requires-clause-small
serve_by-requires-clause-small g c = omega (arith, c.in-Ok.ensures, c.deref_mut.ensures.len)
