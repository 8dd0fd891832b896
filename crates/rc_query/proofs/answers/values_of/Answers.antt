-- One cell more gives its value, or nothing.
use Rattle.std.proofs.Common.{ℕ, List, Option, ap, ◌∙◌}
use Rattle.std.specs.Option.{option_map}
use Rattle.rc_cell.specs.declared.writes.Cell.{Cell}
use Rattle.rc_query.specs.Answer.{live_value}
use Rattle.rc_query.proofs.Steps.{step-some, step-none}
use Rattle.rc_query.proofs.answers.values_of.Goals as goal
use Rattle.rc_query.proofs.answers.values_of.Goals.{in-Some+in_ok-push, in_default}

pub loop-cell-preserved : goal.loop-cell-preserved
loop-cell-preserved c =
    let f : ℕ × Cell → Option (ℕ × List ℕ) = λ e. option_map (λ value. (e.0, value)) (live_value c.args.tomb e.1) in
    let item = c.cell-item.result in
    let n = c.in_ok-value.ensures in
    elim c.match-branch-2.branch [
      | in-Some+in_ok-push w ↦
          step-some f c.args.cells.now c.loop-cell.cell-index item c.loop-cell.values.items c.match-branch-2.values.items (option_map (λ value. (item.0, value)) c.in_ok-value.field-0) (item.0, w.in-Some.value)
          c.loop-cell-test.true c.loop-cell.invariant (ap (option_map (λ value. (item.0, value))) n ∙ ap f c.cell-item.is) (ap (option_map (λ value. (item.0, value))) w.in-Some.is) (ap (λ v. v.items) w.values-is ∙ w.in_ok-push.ensures.items)
      | in_default w ↦
          step-none f c.args.cells.now c.loop-cell.cell-index item c.loop-cell.values.items c.match-branch-2.values.items (option_map (λ value. (item.0, value)) c.in_ok-value.field-0)
          c.loop-cell-test.true c.loop-cell.invariant (ap (option_map (λ value. (item.0, value))) n ∙ ap f c.cell-item.is) (ap (option_map (λ value. (item.0, value))) w.in_default.is) (ap (λ v. v.items) w.values-is)
    ]
