-- What the reader within the crate read is the value whose spelling is the prefix; where it read none, no prefix is one.
use Rattle.std.proofs.Common.{arith}
use Rattle.rc_rowcode.specs.laws.Codecs.{key_codec}
use Rattle.rc_rowcode.specs.laws.Limits.{key_limits}
use Rattle.rc_rowcode.specs.laws.Read.{left_within, reads_value, reads_none, none_read, some_read}
use Rattle.rc_rowcode.proofs.keys.read_key.Goals as goal

pub returns-in_default-clause-value : goal.returns-in_default-clause-value
returns-in_default-clause-value c = reads_none key_codec c.args.bytes.now (none_read c.in_ok-key.field-0 _ _ c.in_ok-key.ensures c.in_default.is)

pub overflow_sub-result : goal.overflow_sub-result
overflow_sub-result c = left_within key_codec c.args.bytes.now (c.in-Some.key, c.in-Some.rest.now) (record { byte = λ i. omega (arith, c.type_inv.bytes i) }) (some_read c.in_ok-key.field-0 _ _ (c.in-Some.key, c.in-Some.rest) c.in_ok-key.ensures c.in-Some.is)

pub returns-clause-value : goal.returns-clause-value
returns-clause-value c = reads_value key_codec c.args.bytes.now (c.in-Some.key, c.in-Some.rest.now) (record { byte = λ i. omega (arith, c.type_inv.bytes i) }) (some_read c.in_ok-key.field-0 _ _ (c.in-Some.key, c.in-Some.rest) c.in_ok-key.ensures c.in-Some.is)

pub returns-clause-limits : goal.returns-clause-limits
returns-clause-limits c = key_limits c.in-Some.key (reads_value key_codec c.args.bytes.now (c.in-Some.key, c.in-Some.rest.now) (record { byte = λ i. omega (arith, c.type_inv.bytes i) }) (some_read c.in_ok-key.field-0 _ _ (c.in-Some.key, c.in-Some.rest) c.in_ok-key.ensures c.in-Some.is)).0
