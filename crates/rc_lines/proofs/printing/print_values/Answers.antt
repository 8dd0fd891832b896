-- What the loop has printed of each value is the text of all.
use Rattle.std.proofs.Common.{◌++◌, ◌∙◌, ◌≤◌, ap, flat_map, length, arith}
use Rattle.std.proofs.lemmas.List.{take_all}
use Rattle.rc_lines.specs.Lines.{value_text}
use Rattle.rc_lines.specs.Texts.{values_text}
use Rattle.rc_lines.proofs.printing.print_values.Goals as goal

pub returns : goal.returns
unfolding values_text
returns c =
    let end : length c.args.shown.now ≤ c.loop-column.column-index = omega (arith, c.loop-column-test.false) in
    c.loop-column.invariant ∙ ap (λ shown. c.args.text.now.items ++ flat_map (value_text c.args.names.now) shown) (take_all c.loop-column.column-index c.args.shown.now end)
