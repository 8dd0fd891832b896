-- The parts that are read are those of the one row that has the code.
use Rattle.rc_rowcode.proofs.Heads.{no_marker, no_tomb, no_count, whole_head}
use Rattle.rc_rowcode.proofs.join.head_of.Goals as goal

pub returns-in_default : goal.returns-in_default
returns-in_default c = λ r fits e. absurd (no_marker c.args.bytes.now r fits e c.in_default.ensures)

pub returns-in_default-row_tomb_at : goal.returns-in_default-row_tomb_at
returns-in_default-row_tomb_at c = λ r fits e. absurd (no_tomb c.args.bytes.now r c.in-Some.marker c.in-Some.rest.now fits e c.in-Some.ensures c.in_default-row_tomb_at.ensures)

pub returns-in_default-byte_at : goal.returns-in_default-byte_at
returns-in_default-byte_at c = λ r fits e. absurd (no_count c.args.bytes.now r c.in-Some.marker c.in-Some.rest.now c.in-Some-row_tomb_at.tomb c.in-Some-row_tomb_at.rest.now fits e c.in-Some.ensures c.in-Some-row_tomb_at.ensures c.in_default-byte_at.ensures)

pub returns : goal.returns
returns c = λ r fits e. whole_head c.args.bytes.now r c.in-Some.marker c.in-Some.rest.now c.in-Some-row_tomb_at.tomb c.in-Some-row_tomb_at.rest.now c.in-Some-byte_at.count c.in-Some-byte_at.rest.now fits e c.in-Some.ensures c.in-Some-row_tomb_at.ensures c.in-Some-byte_at.ensures
