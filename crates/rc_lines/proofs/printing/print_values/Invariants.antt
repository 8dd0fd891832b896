use Rattle.std.proofs.Common.{◌≡◌, ◌++◌, take}
use Rattle.std.specs.List.{flat_map}
use Rattle.rc_lines.specs.Lines.{value_text}
use Rattle.rc_lines.proofs.printing.print_values.Given as goal

abbrev pub invariant-loop-column : goal.invariant-loop-column
invariant-loop-column l = l.text.items ≡ l.initial.text.items ++ flat_map (value_text l.names) (take l.column-index l.shown)
