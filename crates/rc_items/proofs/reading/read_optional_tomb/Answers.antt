-- The byte 0 alone, or the byte 1 and a tombstone.
use Rattle.std.proofs.Common.{subst, None}
use Rattle.rc_rowcode.specs.Spelling.{tomb_code, IsTomb}
use Rattle.rc_items.specs.Reading.{Starts}
use Rattle.rc_items.specs.laws.Starting.{from_reads, tomb_missing}
use Rattle.rc_items.proofs.reading.read_optional_tomb.Goals as goal

pub returns-in_default-2-clause-value : goal.returns-in_default-2-clause-value
returns-in_default-2-clause-value c =
    let h : Starts tomb_code IsTomb c.in-Some-behind.rest.now None = subst (λ f. Starts tomb_code IsTomb c.in-Some-behind.rest.now f) c.in_default-2.is (from_reads tomb_code IsTomb c.in-Some-behind.rest.now c.in_ok-tomb.field-0 c.in_ok-tomb.ensures.value) in
    tomb_missing c.args.bytes.now c.in-Some-behind.rest.now c.in_default.ensures c.in-Some-behind.ensures h
