-- The cells ascend, so each is its column's winner.
use Rattle.std.proofs.Common.{◌≡◌, Option, Some, None, cond, ap, sym, ◌∙◌}
use Rattle.rc_query.specs.declared.lines.OutLine.{OutLine}
use Rattle.rc_query.specs.declared.lines.OutLine.TheVariants as line
use Rattle.rc_mutation.specs.Fragments.{has_any}
use Rattle.rc_query.specs.Answer.{live_values}
use Rattle.rc_query.proofs.Steps.{static_line-ascending}
use Rattle.rc_query.proofs.answers.line_of_statics.Goals as goal

pub returns-then-has_value : goal.returns-then-has_value
returns-then-has_value c =
    let values = c.in_ok-values.values.items in
    let given : has_any values ≡ c.has_value.result = sym (c.has_value.ensures ∙ ap has_any c.deref.ensures.value) in
    ap (λ vs. Some (line.Static vs)) c.of.ensures
    ∙ ap (λ b. cond {A = Option OutLine} b (Some (line.Static values)) None) (sym (given ∙ c.if-has_value.true))
    ∙ static_line-ascending c.args.head c.args.statics.now values c.as_slice.ensures.ascending (c.in_ok-values.ensures ∙ ap (live_values c.args.head) c.as_slice.ensures.value)

pub returns-else-has_value : goal.returns-else-has_value
returns-else-has_value c =
    let values = c.in_ok-values.values.items in
    let given : has_any values ≡ c.has_value.result = sym (c.has_value.ensures ∙ ap has_any c.deref.ensures.value) in
    ap (λ b. cond {A = Option OutLine} b (Some (line.Static values)) None) (sym (given ∙ c.if-has_value.false))
    ∙ static_line-ascending c.args.head c.args.statics.now values c.as_slice.ensures.ascending (c.in_ok-values.ensures ∙ ap (live_values c.args.head) c.as_slice.ensures.value)
