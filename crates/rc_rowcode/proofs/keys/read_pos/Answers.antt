-- What the reader within the crate read is the value whose spelling is the prefix; where it read none, no prefix is one.
use Rattle.std.proofs.Common.{arith}
use Rattle.rc_rowcode.specs.laws.Codecs.{pos_codec}
use Rattle.rc_rowcode.specs.laws.Limits.{key_limits}
use Rattle.rc_rowcode.specs.laws.Read.{left_within, reads_value, reads_none, none_read, some_read}
use Rattle.rc_rowcode.proofs.keys.read_pos.Goals as goal

pub returns-in_default-clause-value : goal.returns-in_default-clause-value
returns-in_default-clause-value c = reads_none pos_codec c.args.bytes.now (none_read c.in_ok-x.field-0 _ _ c.in_ok-x.ensures c.in_default.is)

pub overflow_sub-result : goal.overflow_sub-result
overflow_sub-result c = left_within pos_codec c.args.bytes.now (c.in-Some.x, c.in-Some.rest.now) (record { byte = λ i. omega (arith, c.type_inv.bytes i) }) (some_read c.in_ok-x.field-0 _ _ (c.in-Some.x, c.in-Some.rest) c.in_ok-x.ensures c.in-Some.is)

pub returns-clause-value : goal.returns-clause-value
returns-clause-value c = reads_value pos_codec c.args.bytes.now (c.in-Some.x, c.in-Some.rest.now) (record { byte = λ i. omega (arith, c.type_inv.bytes i) }) (some_read c.in_ok-x.field-0 _ _ (c.in-Some.x, c.in-Some.rest) c.in_ok-x.ensures c.in-Some.is)

pub returns-clause-limits : goal.returns-clause-limits
returns-clause-limits c = key_limits c.in-Some.x.prefix (reads_value pos_codec c.args.bytes.now (c.in-Some.x, c.in-Some.rest.now) (record { byte = λ i. omega (arith, c.type_inv.bytes i) }) (some_read c.in_ok-x.field-0 _ _ (c.in-Some.x, c.in-Some.rest) c.in_ok-x.ensures c.in-Some.is)).0
