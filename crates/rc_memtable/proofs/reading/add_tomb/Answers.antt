use Rattle.std.proofs.Common.{Option, sym, ap, ◌∙◌}
use Rattle.rc_cell.specs.declared.writes.Tomb.{Tomb}
use Rattle.rc_cell.specs.Orders.{tomb_cmp}
use Rattle.rc_cell.specs.Greatest.{greater}
use Rattle.rc_ranges.specs.Cover.{cover as range_tomb}
use Rattle.rc_core.specs.StandsFor.{piece_over}
use Rattle.rc_memtable.proofs.Told.{none-added}
use Rattle.rc_memtable.proofs.reading.add_tomb.Goals as goal

pub returns-in-None : goal.returns-in-None
returns-in-None c = λ y. none-added c.args.ranges.now y ∙ ap (λ (t : Option Tomb). greater tomb_cmp (range_tomb c.args.ranges.now y) (range_tomb (piece_over c.args.from.now c.args.to.now t) y)) (sym c.in-None.is)
