-- Codes that are joined in place: what the cells' codes hold that are still to be read, and the winners among two of them.
use Rattle.std.specs.Prelude.{ℕ, zero, suc, List, [], ◌∷◌, ◌++◌, IsTrue}
use Rattle.std.specs.Option.{option_map, unwrap_or}
use Rattle.rc_cell.specs.declared.writes.Cell.{Cell}
use Rattle.rc_cell.specs.declared.rows.Row.{Row}
use Rattle.rc_cell.specs.Columns.{ascending}
use Rattle.rc_cell.specs.Winner.{winners}
use Rattle.rc_rowcode.specs.calls.Reading.{parse_entry}
use Rattle.rc_rowcode.specs.declared.join.Entries.{Entries}
use Rattle.rc_rowcode.specs.declared.join.Merge.{Merge}
use Rattle.rc_rowcode.specs.declared.join.Head.{Head}

-- so many cells, as far as their codes can be read
unfoldable pub listed_cells : ℕ → List ℕ → List (ℕ × Cell)
listed_cells zero bytes = []
listed_cells (suc n) bytes = unwrap_or (option_map (λ x. x.0 ∷ listed_cells n x.1) (parse_entry 0 bytes)) []

-- the entries as a list
abbrev pub seen_entries : Entries → List (ℕ × Cell)
seen_entries s = listed_cells s.count s.bytes.now

-- the row that a code holds
abbrev pub seen_row : Head → Row
seen_row h = record { marker = h.marker; tomb = h.tomb; cells = seen_entries h.cells }

-- of each column the winner
abbrev pub merged_cells : Merge → List (ℕ × Cell)
merged_cells m = winners (seen_entries m.ours ++ seen_entries m.theirs)

-- the entries of both ascend by column
abbrev pub AreSorted : Merge → Type 0
AreSorted m = IsTrue (ascending (seen_entries m.ours)) × IsTrue (ascending (seen_entries m.theirs))
