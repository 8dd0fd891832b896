-- One value behind the other.
use Rattle.std.proofs.Common.{subst, drop, Some, None}
use Rattle.rc_rowcode.specs.Spelling.{key_code, row_code, IsKey, IsCodedRow, ReadsPrefix}
use Rattle.std.proofs.lemmas.List.{take_rest}
use Rattle.rc_items.specs.Reading.{Starts}
use Rattle.rc_items.specs.laws.Starting.{from_reads, first_missing, second_missing, both_there, full_key_free}
use Rattle.rc_items.proofs.reading.read_keyed.Goals as goal

pub returns-in_default-2-clause-value : goal.returns-in_default-2-clause-value
returns-in_default-2-clause-value c =
    let size = c.in-Some.key_size in
    let h : Starts key_code IsKey c.args.bytes.now (Some (c.in-Some.key, size)) = subst (λ f. Starts key_code IsKey c.args.bytes.now f) c.in-Some.is (from_reads key_code IsKey c.args.bytes.now c.in_ok-key.field-0 c.in_ok-key.ensures.value) in
    let k : Starts row_code IsCodedRow (drop size c.args.bytes.now) None = subst (λ f. Starts row_code IsCodedRow (drop size c.args.bytes.now) f) c.in_default-2.is (from_reads row_code IsCodedRow (drop size c.args.bytes.now) c.in_ok-row.field-0 (subst (λ b. ReadsPrefix row_code IsCodedRow b c.in_ok-row.field-0) (take_rest c.args.bytes.now size) c.in_ok-row.ensures.value)) in
    λ x more fits e. second_missing key_code IsKey row_code IsCodedRow full_key_free c.args.bytes.now c.in-Some.key size h k x more fits e

pub returns-clause-value : goal.returns-clause-value
returns-clause-value c =
    let size = c.in-Some.key_size in
    let h : Starts key_code IsKey c.args.bytes.now (Some (c.in-Some.key, size)) = subst (λ f. Starts key_code IsKey c.args.bytes.now f) c.in-Some.is (from_reads key_code IsKey c.args.bytes.now c.in_ok-key.field-0 c.in_ok-key.ensures.value) in
    let k : Starts row_code IsCodedRow (drop size c.args.bytes.now) (Some (c.in-Some-2.row, c.in-Some-2.row_size)) = subst (λ f. Starts row_code IsCodedRow (drop size c.args.bytes.now) f) c.in-Some-2.is (from_reads row_code IsCodedRow (drop size c.args.bytes.now) c.in_ok-row.field-0 (subst (λ b. ReadsPrefix row_code IsCodedRow b c.in_ok-row.field-0) (take_rest c.args.bytes.now size) c.in_ok-row.ensures.value)) in
    both_there key_code IsKey row_code IsCodedRow c.args.bytes.now c.in-Some.key size c.in-Some-2.row c.in-Some-2.row_size h k

pub returns-in_default-clause-value : goal.returns-in_default-clause-value
returns-in_default-clause-value c =
    let h : Starts key_code IsKey c.args.bytes.now None = subst (λ f. Starts key_code IsKey c.args.bytes.now f) c.in_default.is (from_reads key_code IsKey c.args.bytes.now c.in_ok-key.field-0 c.in_ok-key.ensures.value) in
    λ x more fits e. first_missing key_code IsKey row_code IsCodedRow c.args.bytes.now h x more fits e
