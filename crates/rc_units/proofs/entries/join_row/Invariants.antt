-- The entries before the index have been made.
use Rattle.std.proofs.Common.{◌≡◌, cond, map, take}
use Rattle.std.specs.Ordering.{eq_by_cmp}
use Rattle.rc_position.specs.Position.{pos_cmp}
use Rattle.rc_core.specs.Change.{with_row}
use Rattle.rc_units.proofs.entries.join_row.Given as goal

abbrev pub invariant-loop-entry : goal.invariant-loop-entry
invariant-loop-entry l = l.made.items ≡ map (λ e. cond (eq_by_cmp pos_cmp l.at e.position) (with_row l.row e) e) (take l.entry-index l.entry-items)
