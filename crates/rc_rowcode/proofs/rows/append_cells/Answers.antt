-- No more than 32 columns ascend.
use Rattle.std.proofs.Common.{arith}
use Rattle.rc_rowcode.specs.laws.Sizes.{few_columns}
use Rattle.rc_rowcode.proofs.rows.append_cells.Goals as goal

pub overflow_cast-cells : goal.overflow_cast-cells
overflow_cast-cells c = record { fits = rw c.as_slice-cells.ensures.value (omega (arith, few_columns c.args.cells.now c.as_slice-cells.ensures.ascending c.requires.fits)) }
