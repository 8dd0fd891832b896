-- The static line, and the lines of the rows in the slice.
use Rattle.std.proofs.Common.{[], ◌∷◌, ◌++◌, ap, ◌∙◌, sym}
use Rattle.std.specs.Option.{option_to_list}
use Rattle.std.specs.List.{filter_map}
use Rattle.rc_cell.specs.declared.rows.Row.{Row}
use Rattle.rc_query.specs.Answer.{static_line}
use Rattle.rc_query.specs.laws.Answers.{answer-one, own_line}
use Rattle.rc_query.proofs.answers.answer_of.Goals as goal

pub returns : goal.returns
returns c =
    let lines = filter_map (own_line c.args.change.now c.args.slice.now) c.args.change.now.rows in
    c.of.ensures
    ∙ c.in_ok-append_lines.ensures.value
    ∙ ap (λ ls. ls ++ lines) (c.in_ok-push_line.ensures ∙ ap (λ ls. ls ++ option_to_list c.in_ok-line_of_statics.field-0) c.new-lines.ensures.items ∙ ap option_to_list c.in_ok-line_of_statics.ensures ∙ ap (λ (s : Row). option_to_list (static_line c.args.change.now.pt (s ∷ []))) c.as_row.ensures.value)
    ∙ sym (answer-one c.args.change.now c.args.slice.now c.in_ok-append_lines.ensures.rows)
