-- One row more gives its line, or nothing.
use Rattle.std.proofs.Common.{◌<◌, length, get_or, ap, ◌∙◌, subst}
use Rattle.rc_query.specs.laws.Answers.{own_line}
use Rattle.rc_query.proofs.Steps.{step-append}
use Rattle.rc_query.proofs.answers.append_lines.Goals as goal

pub loop-item-preserved : goal.loop-item-preserved
loop-item-preserved c =
    let f = own_line c.args.change.now c.args.slice.now in
    let rows = c.args.change.now.rows in
    let i = c.loop-item.item-index in
    let item = c.item-item.result in
    step-append f rows i item c.args.lines.now.items c.loop-item.lines.items c.push_line.new.lines.items c.in_ok-line_in.field-0
    (subst (λ xs. i < length xs) c.as_slice-item-items.ensures.value c.loop-item-test.true)
    c.loop-item.invariant
    (c.in_ok-line_in.ensures ∙ ap f (c.item-item.is ∙ ap (λ xs. get_or xs i item) c.as_slice-item-items.ensures.value))
    c.in_ok-push_line.ensures
