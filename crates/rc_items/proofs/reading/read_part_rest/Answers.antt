-- One value behind the other.
use Rattle.std.proofs.Common.{subst, drop, Some, None}
use Rattle.std.proofs.lemmas.List.{take_rest}
use Rattle.rc_position.specs.Position.{IsPartKey}
use Rattle.rc_items.specs.Reading.{Starts}
use Rattle.rc_items.specs.calls.Reading.{head_code, IsHead}
use Rattle.rc_items.specs.Items.{bytes_code}
use Rattle.rc_items.specs.laws.Starting.{second_missing, both_there, key_free}
use Rattle.rc_items.proofs.reading.read_part_rest.Goals as goal

pub returns-in_default-2-clause-value : goal.returns-in_default-2-clause-value
returns-in_default-2-clause-value c =
    let size = c.in-Some.key_size in
    let h : Starts bytes_code IsPartKey c.args.bytes.now (Some (c.in-Some.key, size)) = subst (λ f. Starts bytes_code IsPartKey c.args.bytes.now f) c.in-Some.is (c.in_ok-key.ensures.value) in
    let k : Starts head_code IsHead (drop size c.args.bytes.now) None = subst (λ f. Starts head_code IsHead (drop size c.args.bytes.now) f) c.in_default-2.is ((subst (λ b. Starts head_code IsHead b c.in_ok-head.field-0) (take_rest c.args.bytes.now size) c.in_ok-head.ensures.value)) in
    λ x more fits e. second_missing bytes_code IsPartKey head_code IsHead key_free c.args.bytes.now c.in-Some.key size h k (x.key, x.head) more fits e

pub returns-clause-value : goal.returns-clause-value
returns-clause-value c =
    let size = c.in-Some.key_size in
    let h : Starts bytes_code IsPartKey c.args.bytes.now (Some (c.in-Some.key, size)) = subst (λ f. Starts bytes_code IsPartKey c.args.bytes.now f) c.in-Some.is (c.in_ok-key.ensures.value) in
    let k : Starts head_code IsHead (drop size c.args.bytes.now) (Some (c.in-Some-2.head, c.in-Some-2.head_size)) = subst (λ f. Starts head_code IsHead (drop size c.args.bytes.now) f) c.in-Some-2.is ((subst (λ b. Starts head_code IsHead b c.in_ok-head.field-0) (take_rest c.args.bytes.now size) c.in_ok-head.ensures.value)) in
    both_there bytes_code IsPartKey head_code IsHead c.args.bytes.now c.in-Some.key size c.in-Some-2.head c.in-Some-2.head_size h k
