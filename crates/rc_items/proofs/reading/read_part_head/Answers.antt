-- One value behind the other.
use Rattle.std.proofs.Common.{subst, drop, Some, None}
use Rattle.rc_rowcode.specs.Spelling.{optional_code, tomb_code, row_code, IsCodedRow, ReadsPrefix}
use Rattle.std.proofs.lemmas.List.{take_rest}
use Rattle.rc_items.specs.Reading.{Starts}
use Rattle.rc_items.specs.laws.Starting.{IsOptional, from_reads, second_missing, both_there, optional_free}
use Rattle.rc_items.proofs.reading.read_part_head.Goals as goal

pub returns-in_default-2-clause-value : goal.returns-in_default-2-clause-value
returns-in_default-2-clause-value c =
    let size = c.in-Some.tomb_size in
    let h : Starts (optional_code tomb_code) IsOptional c.args.bytes.now (Some (c.in-Some.pt, size)) = subst (λ f. Starts (optional_code tomb_code) IsOptional c.args.bytes.now f) c.in-Some.is (c.in_ok-pt.ensures.value) in
    let k : Starts row_code IsCodedRow (drop size c.args.bytes.now) None = subst (λ f. Starts row_code IsCodedRow (drop size c.args.bytes.now) f) c.in_default-2.is (from_reads row_code IsCodedRow (drop size c.args.bytes.now) c.in_ok-statics.field-0 (subst (λ b. ReadsPrefix row_code IsCodedRow b c.in_ok-statics.field-0) (take_rest c.args.bytes.now size) c.in_ok-statics.ensures.value)) in
    λ x more fits e. second_missing (optional_code tomb_code) IsOptional row_code IsCodedRow optional_free c.args.bytes.now c.in-Some.pt size h k (x.pt, x.statics) more fits e

pub returns-clause-value : goal.returns-clause-value
returns-clause-value c =
    let size = c.in-Some.tomb_size in
    let h : Starts (optional_code tomb_code) IsOptional c.args.bytes.now (Some (c.in-Some.pt, size)) = subst (λ f. Starts (optional_code tomb_code) IsOptional c.args.bytes.now f) c.in-Some.is (c.in_ok-pt.ensures.value) in
    let k : Starts row_code IsCodedRow (drop size c.args.bytes.now) (Some (c.in-Some-2.statics, c.in-Some-2.row_size)) = subst (λ f. Starts row_code IsCodedRow (drop size c.args.bytes.now) f) c.in-Some-2.is (from_reads row_code IsCodedRow (drop size c.args.bytes.now) c.in_ok-statics.field-0 (subst (λ b. ReadsPrefix row_code IsCodedRow b c.in_ok-statics.field-0) (take_rest c.args.bytes.now size) c.in_ok-statics.ensures.value)) in
    both_there (optional_code tomb_code) IsOptional row_code IsCodedRow c.args.bytes.now c.in-Some.pt size c.in-Some-2.statics c.in-Some-2.row_size h k
