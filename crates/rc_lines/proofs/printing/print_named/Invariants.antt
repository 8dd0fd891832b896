use Rattle.std.proofs.Common.{◌≡◌, ◌++◌, take}
use Rattle.std.specs.List.{flat_map}
use Rattle.rc_lines.specs.calls.TextParts.{named_figure}
use Rattle.rc_lines.proofs.printing.print_named.Given as goal

abbrev pub invariant-loop-name : goal.invariant-loop-name
invariant-loop-name l = l.text.items ≡ l.initial.text.items ++ flat_map (λ e. named_figure (e.0.now, e.1)) (take l.name-index l.figures)
