use Rattle.std.proofs.Common.{◌≡◌, ◌++◌, take}
use Rattle.std.specs.List.{flat_map}
use Rattle.rc_spelling.specs.calls.Joining.{other_component}
use Rattle.rc_spelling.proofs.printing.print_others.Given as goal

abbrev pub invariant-loop-component : goal.invariant-loop-component
invariant-loop-component l = l.text.items ≡ l.initial.text.items ++ flat_map other_component (take l.component-index l.components)
