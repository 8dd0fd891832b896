-- What the reader within the crate read is the value whose spelling is the prefix; where it read none, no prefix is one.
use Rattle.std.proofs.Common.{arith, sym}
use Rattle.rc_rowcode.specs.laws.Codecs.{tomb_codec}
use Rattle.rc_rowcode.specs.laws.Read.{left_within, reads_value, reads_none}
use Rattle.rc_rowcode.proofs.rows.read_tomb.Goals as goal

pub returns-in_default-clause-value : goal.returns-in_default-clause-value
returns-in_default-clause-value c = reads_none tomb_codec c.args.bytes.now (sym c.in_default.ensures)

pub overflow_sub-result : goal.overflow_sub-result
overflow_sub-result c = left_within tomb_codec c.args.bytes.now (c.in-Some.tomb, c.in-Some.rest.now) (record { byte = λ i. omega (arith, c.type_inv.bytes i) }) (sym c.in-Some.ensures)

pub returns-clause-value : goal.returns-clause-value
returns-clause-value c = reads_value tomb_codec c.args.bytes.now (c.in-Some.tomb, c.in-Some.rest.now) (record { byte = λ i. omega (arith, c.type_inv.bytes i) }) (sym c.in-Some.ensures)
