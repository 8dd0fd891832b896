-- What was read is the change, if there is one.
use Rattle.std.proofs.Common.{subst, None, Some}
use Rattle.rc_tables.proofs.Spelled.{StartsChange, change_found}
use Rattle.rc_tables.proofs.decoding.read_change_fragment.Goals as goal

pub returns-in_default-clause-value : goal.returns-in_default-clause-value
returns-in_default-clause-value c =
    let h : StartsChange c.args.bytes.now None = subst (λ f. StartsChange c.args.bytes.now f) c.in_default.is c.in_ok-change.ensures.value in
    λ x tomb more is e. absurd (h (x, tomb) more is e)

pub returns-clause-value : goal.returns-clause-value
returns-clause-value c =
    let h : StartsChange c.args.bytes.now (Some (c.in-Some.change, c.in-Some.size)) = subst (λ f. StartsChange c.args.bytes.now f) c.in-Some.is c.in_ok-change.ensures.value in
    change_found c.args.bytes.now c.in-Some.change c.in-Some.size h

pub returns-clause-starts : goal.returns-clause-starts
returns-clause-starts c =
    let h : StartsChange c.args.bytes.now (Some (c.in-Some.change, c.in-Some.size)) = subst (λ f. StartsChange c.args.bytes.now f) c.in-Some.is c.in_ok-change.ensures.value in
    (h.0, h.1)
