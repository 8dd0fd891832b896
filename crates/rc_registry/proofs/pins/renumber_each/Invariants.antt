-- The pins before the index have their new numbers.
use Rattle.std.proofs.Common.{◌≡◌, ◌++◌, map, take, drop}
use Rattle.std.specs.Prelude.{option_map}
use Rattle.rc_core.specs.Steps.{number_after_removal}
use Rattle.rc_registry.proofs.pins.renumber_each.Given as goal

abbrev pub invariant-loop-pin : goal.invariant-loop-pin
invariant-loop-pin l = l.pins ≡ map (option_map (number_after_removal l.version)) (take l.pin-index l.initial.pins) ++ drop l.pin-index l.initial.pins
