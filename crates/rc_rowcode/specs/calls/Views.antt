-- Components and cells that lie in bytes, as the values that they are.
use Rattle.rc_cell.specs.declared.writes.Cell.{Cell}
use Rattle.rc_cell.specs.declared.writes.Cell.TheVariants.{Live, Dead}
use Rattle.rc_position.specs.declared.comps.Comp.{Comp}
use Rattle.rc_position.specs.declared.comps.Comp.TheVariants.{Int, Text}
use Rattle.rc_rowcode.specs.declared.cells.CellView.{CellView}
use Rattle.rc_rowcode.specs.declared.cells.CellView.TheVariants as views
use Rattle.rc_rowcode.specs.declared.keys.CompView.{CompView}
use Rattle.rc_rowcode.specs.declared.keys.CompView.TheVariants as comps

-- the cell that a view shows
abbrev pub seen_cell : CellView → Cell
seen_cell (views.Live ts value) = Live ts value.now
seen_cell (views.Dead ts dt) = Dead ts dt

-- the component that a view shows
abbrev pub seen_comp : CompView → Comp
seen_comp (comps.Int number) = Int number
seen_comp (comps.Text bytes) = Text bytes.now
