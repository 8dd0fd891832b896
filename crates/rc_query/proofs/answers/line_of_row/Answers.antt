-- The cells ascend, so each is its column's winner.
use Rattle.std.proofs.Common.{◌≡◌, ◌||◌, [], Option, Some, None, cond, ap, sym, ◌∙◌}
use Rattle.std.specs.List.{cons_option, list_any}
use Rattle.rc_cell.specs.Deletion.{survives}
use Rattle.rc_query.specs.declared.lines.OutLine.{OutLine}
use Rattle.rc_query.specs.declared.lines.OutLine.TheVariants as line
use Rattle.rc_mutation.specs.Fragments.{has_any}
use Rattle.rc_query.specs.Answer.{live_values}
use Rattle.rc_query.proofs.Steps.{row_line-ascending}
use Rattle.rc_query.proofs.answers.line_of_row.Goals as goal

pub returns-in_ok-key : goal.returns-in_ok-key
returns-in_ok-key c =
    let row = c.args.row.now in
    let cover = c.greater_tomb-cover.result in
    let values = c.in_ok-values.values.items in
    let given : c.has_line.result ≡ (has_any values || list_any (survives cover) (cons_option row.marker [])) = c.has_line.ensures ∙ ap (λ xs. has_any xs || list_any (survives cover) (cons_option row.marker [])) c.deref.ensures.value in
    (λ i. Some (line.Row (c.in_ok-key.ensures i) (c.of.ensures i)))
    ∙ ap (λ b. cond {A = Option OutLine} b (Some (line.Row c.args.key.now values)) None) (sym c.if-has_line.true)
    ∙ row_line-ascending c.args.outer cover c.args.key.now row values c.has_line.result c.greater_tomb-cover.ensures c.as_slice.ensures.ascending (c.in_ok-values.ensures ∙ ap (live_values cover) c.as_slice.ensures.value) given

pub returns-else-has_line : goal.returns-else-has_line
returns-else-has_line c =
    let row = c.args.row.now in
    let cover = c.greater_tomb-cover.result in
    let values = c.in_ok-values.values.items in
    let given : c.has_line.result ≡ (has_any values || list_any (survives cover) (cons_option row.marker [])) = c.has_line.ensures ∙ ap (λ xs. has_any xs || list_any (survives cover) (cons_option row.marker [])) c.deref.ensures.value in
    ap (λ b. cond {A = Option OutLine} b (Some (line.Row c.args.key.now values)) None) (sym c.if-has_line.false)
    ∙ row_line-ascending c.args.outer cover c.args.key.now row values c.has_line.result c.greater_tomb-cover.ensures c.as_slice.ensures.ascending (c.in_ok-values.ensures ∙ ap (live_values cover) c.as_slice.ensures.value) given
