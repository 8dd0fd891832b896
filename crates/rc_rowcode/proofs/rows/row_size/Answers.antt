-- A row within the limits has a code of at most 8599 bytes.
use Rattle.std.proofs.Common.{arith}
use Rattle.rc_rowcode.specs.laws.Sizes.{cells_small}
use Rattle.rc_rowcode.proofs.rows.row_size.Goals as goal

pub entries_size-cells-requires-clause-small : goal.entries_size-cells-requires-clause-small
entries_size-cells-requires-clause-small c = rw c.as_slice.ensures.value (omega (arith, cells_small c.args.row.now.cells c.as_slice.ensures.ascending c.requires))

pub overflow_add-cells : goal.overflow_add-cells
overflow_add-cells c = record { fits = rw (c.entries_size-cells.ensures, c.as_slice.ensures.value) (omega (arith, cells_small c.args.row.now.cells c.as_slice.ensures.ascending c.requires)) }

pub overflow_add-result-2 : goal.overflow_add-result-2
overflow_add-result-2 c = record { fits = rw (c.entries_size-cells.ensures, c.as_slice.ensures.value) (omega (arith, c.marker_size.ensures.small, c.row_tomb_size.ensures.small, cells_small c.args.row.now.cells c.as_slice.ensures.ascending c.requires)) }

pub returns-clause-small : goal.returns-clause-small
returns-clause-small c = rw (c.entries_size-cells.ensures, c.as_slice.ensures.value) (omega (arith, c.marker_size.ensures.small, c.row_tomb_size.ensures.small, cells_small c.args.row.now.cells c.as_slice.ensures.ascending c.requires))
