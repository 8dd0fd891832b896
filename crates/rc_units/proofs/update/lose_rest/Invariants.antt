-- The entries before the index have lost what they lose, and the others are as they were.
use Rattle.std.proofs.Common.{◌≡◌, ◌++◌, drop, map, take}
use Rattle.rc_position.specs.Position.{Clustered}
use Rattle.rc_units.specs.Update.{lost_behind}
use Rattle.rc_units.proofs.update.lose_rest.Given as goal

abbrev pub invariant-loop-entry : goal.invariant-loop-entry
invariant-loop-entry l = l.entries ≡ map (lost_behind (Clustered l.place)) (take l.entry-index l.initial.entries) ++ drop l.entry-index l.initial.entries
