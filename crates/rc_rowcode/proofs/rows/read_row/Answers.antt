-- What the reader within the crate read is the value whose spelling is the prefix; where it read none, no prefix is one.
use Rattle.std.proofs.Common.{arith}
use Rattle.rc_rowcode.specs.laws.RowCodec.{row_codec}
use Rattle.rc_rowcode.specs.laws.Limits.{row_limits}
use Rattle.rc_rowcode.specs.laws.Read.{left_within, reads_value, reads_none, none_read, some_read}
use Rattle.rc_rowcode.proofs.rows.read_row.Goals as goal

pub returns-in_default-clause-value : goal.returns-in_default-clause-value
returns-in_default-clause-value c = reads_none row_codec c.args.bytes.now (none_read c.in_ok-row.field-0 _ _ c.in_ok-row.ensures c.in_default.is)

pub overflow_sub-result : goal.overflow_sub-result
overflow_sub-result c = left_within row_codec c.args.bytes.now (c.in-Some.row, c.in-Some.rest.now) (record { byte = λ i. omega (arith, c.type_inv.bytes i) }) (some_read c.in_ok-row.field-0 _ _ (c.in-Some.row, c.in-Some.rest) c.in_ok-row.ensures c.in-Some.is)

pub returns-clause-value : goal.returns-clause-value
returns-clause-value c = reads_value row_codec c.args.bytes.now (c.in-Some.row, c.in-Some.rest.now) (record { byte = λ i. omega (arith, c.type_inv.bytes i) }) (some_read c.in_ok-row.field-0 _ _ (c.in-Some.row, c.in-Some.rest) c.in_ok-row.ensures c.in-Some.is)

pub returns-clause-limits : goal.returns-clause-limits
returns-clause-limits c = row_limits c.in-Some.row (reads_value row_codec c.args.bytes.now (c.in-Some.row, c.in-Some.rest.now) (record { byte = λ i. omega (arith, c.type_inv.bytes i) }) (some_read c.in_ok-row.field-0 _ _ (c.in-Some.row, c.in-Some.rest) c.in_ok-row.ensures c.in-Some.is)).0
