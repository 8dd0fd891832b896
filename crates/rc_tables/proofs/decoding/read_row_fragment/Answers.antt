-- What was read is the row, if there is one.
use Rattle.std.proofs.Common.{subst, None, Some}
use Rattle.rc_tables.proofs.Spelled.{StartsRow, row_found}
use Rattle.rc_tables.proofs.decoding.read_row_fragment.Goals as goal

pub returns-in_default-clause-value : goal.returns-in_default-clause-value
returns-in_default-clause-value c =
    let h : StartsRow c.args.bytes.now None = subst (λ f. StartsRow c.args.bytes.now f) c.in_default.is c.in_ok-keyed.ensures.value in
    λ key row more is e. absurd (h (key, row) more is e)

pub returns-clause-value : goal.returns-clause-value
returns-clause-value c =
    let h : StartsRow c.args.bytes.now (Some (c.in-Some.keyed, c.in-Some.size)) = subst (λ f. StartsRow c.args.bytes.now f) c.in-Some.is c.in_ok-keyed.ensures.value in
    row_found c.args.bytes.now c.in-Some.keyed c.in-Some.size h

pub returns-clause-starts : goal.returns-clause-starts
returns-clause-starts c =
    let h : StartsRow c.args.bytes.now (Some (c.in-Some.keyed, c.in-Some.size)) = subst (λ f. StartsRow c.args.bytes.now f) c.in-Some.is c.in_ok-keyed.ensures.value in
    (h.0, h.1)
