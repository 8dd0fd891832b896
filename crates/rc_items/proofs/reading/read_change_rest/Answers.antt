-- One value behind the other.
use Rattle.std.proofs.Common.{subst, drop, Some, None}
use Rattle.rc_rowcode.specs.Spelling.{optional_code, tomb_code, pos_code, IsPos}
use Rattle.std.proofs.lemmas.List.{take_rest}
use Rattle.rc_items.specs.Reading.{Starts}
use Rattle.rc_items.specs.laws.Starting.{IsOptional, from_reads, first_missing, second_missing, both_there, pos_free}
use Rattle.rc_items.proofs.reading.read_change_rest.Goals as goal

pub returns-in_default-2-clause-value : goal.returns-in_default-2-clause-value
returns-in_default-2-clause-value c =
    let size = c.in-Some.pos_size in
    let h : Starts pos_code IsPos c.args.bytes.now (Some (c.in-Some.x, size)) = subst (λ f. Starts pos_code IsPos c.args.bytes.now f) c.in-Some.is (from_reads pos_code IsPos c.args.bytes.now c.in_ok-x.field-0 c.in_ok-x.ensures.value) in
    let k : Starts (optional_code tomb_code) IsOptional (drop size c.args.bytes.now) None = subst (λ f. Starts (optional_code tomb_code) IsOptional (drop size c.args.bytes.now) f) c.in_default-2.is ((subst (λ b. Starts (optional_code tomb_code) IsOptional b c.in_ok-tomb.field-0) (take_rest c.args.bytes.now size) c.in_ok-tomb.ensures.value)) in
    λ x more fits e. second_missing pos_code IsPos (optional_code tomb_code) IsOptional pos_free c.args.bytes.now c.in-Some.x size h k x more fits e

pub returns-clause-value : goal.returns-clause-value
returns-clause-value c =
    let size = c.in-Some.pos_size in
    let h : Starts pos_code IsPos c.args.bytes.now (Some (c.in-Some.x, size)) = subst (λ f. Starts pos_code IsPos c.args.bytes.now f) c.in-Some.is (from_reads pos_code IsPos c.args.bytes.now c.in_ok-x.field-0 c.in_ok-x.ensures.value) in
    let k : Starts (optional_code tomb_code) IsOptional (drop size c.args.bytes.now) (Some (c.in-Some-2.tomb, c.in-Some-2.tomb_size)) = subst (λ f. Starts (optional_code tomb_code) IsOptional (drop size c.args.bytes.now) f) c.in-Some-2.is ((subst (λ b. Starts (optional_code tomb_code) IsOptional b c.in_ok-tomb.field-0) (take_rest c.args.bytes.now size) c.in_ok-tomb.ensures.value)) in
    both_there pos_code IsPos (optional_code tomb_code) IsOptional c.args.bytes.now c.in-Some.x size c.in-Some-2.tomb c.in-Some-2.tomb_size h k

pub returns-in_default-clause-value : goal.returns-in_default-clause-value
returns-in_default-clause-value c =
    let h : Starts pos_code IsPos c.args.bytes.now None = subst (λ f. Starts pos_code IsPos c.args.bytes.now f) c.in_default.is (from_reads pos_code IsPos c.args.bytes.now c.in_ok-x.field-0 c.in_ok-x.ensures.value) in
    λ x more fits e. first_missing pos_code IsPos (optional_code tomb_code) IsOptional c.args.bytes.now h x more fits e
