-- What has a spelling is within the limits.
use Rattle.std.proofs.Common.{ℕ, List, [], ◌∷◌}
use Rattle.std.specs.List.{AllByRecursion}
use Rattle.std.proofs.lemmas.List.Elements.{All-from_recursion}
use Rattle.rc_cell.specs.declared.writes.Cell.{Cell}
use Rattle.rc_cell.specs.declared.writes.Cell.TheVariants.{Live, Dead}
use Rattle.rc_cell.specs.declared.rows.Row.{Row}
use Rattle.rc_position.specs.declared.comps.Comp.{Comp}
use Rattle.rc_position.specs.declared.comps.Comp.TheVariants.{Int, Text}
use Rattle.rc_rowcode.specs.Spelling.{CompFits, KeyFits, CellFits, EntryFits, RowFits, IsComp, IsKey, IsCell, IsEntry, IsCodedRow}

comp_limits : (c : Comp) → IsComp c → CompFits c
comp_limits (Int n) h = tt
comp_limits (Text bytes) h = h

comps_limits : (cs : List Comp) → AllByRecursion IsComp cs → AllByRecursion CompFits cs
comps_limits [] h = tt
comps_limits (c ∷ cs) h = (comp_limits c h.0, comps_limits cs h.1)

pub key_limits : (k : List Comp) → IsKey k → KeyFits k
key_limits k h = (h.0, All-from_recursion CompFits k (comps_limits k h.1))

cell_limits : (c : Cell) → IsCell c → CellFits c
cell_limits (Live ts value) h = h.1
cell_limits (Dead ts dt) h = tt

pub entries_limits : (es : List (ℕ × Cell)) → AllByRecursion IsEntry es → AllByRecursion EntryFits es
entries_limits [] h = tt
entries_limits (e ∷ es) h = ((h.0.0, cell_limits e.1 h.0.1), entries_limits es h.1)

pub row_limits : (r : Row) → IsCodedRow r → RowFits r
row_limits r h = All-from_recursion EntryFits r.cells (entries_limits r.cells h.cells)
