-- Both offsets are those that the directory says.
use Rattle.std.proofs.Common.{◌≡◌, ℕ, sym, subst, ◌∙◌, Some, arith}
use Rattle.std.proofs.lemmas.List.{take_rest}
use Rattle.rc_tables.specs.Located.{EndsAt}
use Rattle.rc_tables.proofs.locating.span_of.Goals as goal

same : (m n : ℕ) → Some m ≡ Some n → m ≡ n
same m n e = cc

pub returns-in_default-clause-span : goal.returns-in_default-clause-span
returns-in_default-clause-span c = λ from to at ends le. absurd (let q = sym c.in_default.is ∙ c.in_ok-from.ensures from at in cc)

pub returns-then-to-from-clause-span : goal.returns-then-to-from-clause-span
returns-then-to-from-clause-span c = λ from to at ends le.
    let f : c.in-Some.from ≡ from = same c.in-Some.from from (sym c.in-Some.is ∙ c.in_ok-from.ensures from at) in
    let t : c.in-Some-2.to ≡ to = same c.in-Some-2.to to (sym c.in-Some-2.is ∙ c.in_ok-to.ensures to (subst (λ b. EndsAt c.args.dir b c.args.later.now to) (sym (take_rest c.args.piece.now c.args.here.now.dir_len)) ends)) in
    absurd (omega (arith, f, t, le.0, c.if-to-from.true))

pub returns-then-dir-to-clause-span : goal.returns-then-dir-to-clause-span
returns-then-dir-to-clause-span c = λ from to at ends le.
    let t : c.in-Some-2.to ≡ to = same c.in-Some-2.to to (sym c.in-Some-2.is ∙ c.in_ok-to.ensures to (subst (λ b. EndsAt c.args.dir b c.args.later.now to) (sym (take_rest c.args.piece.now c.args.here.now.dir_len)) ends)) in
    absurd (omega (arith, t, le.1, c.if-dir-to.true))

pub returns-clause-span : goal.returns-clause-span
returns-clause-span c = λ from to at ends le.
    let f : c.in-Some.from ≡ from = same c.in-Some.from from (sym c.in-Some.is ∙ c.in_ok-from.ensures from at) in
    let t : c.in-Some-2.to ≡ to = same c.in-Some-2.to to (sym c.in-Some-2.is ∙ c.in_ok-to.ensures to (subst (λ b. EndsAt c.args.dir b c.args.later.now to) (sym (take_rest c.args.piece.now c.args.here.now.dir_len)) ends)) in
    λ i. Some (record { from = f i; to = t i })

pub returns-clause-begins : goal.returns-clause-begins
returns-clause-begins c = λ from at. sym (same c.in-Some.from from (sym c.in-Some.is ∙ c.in_ok-from.ensures from at))

pub returns-clause-ends : goal.returns-clause-ends
returns-clause-ends c = λ to ends. sym (same c.in-Some-2.to to (sym c.in-Some-2.is ∙ c.in_ok-to.ensures to (subst (λ b. EndsAt c.args.dir b c.args.later.now to) (sym (take_rest c.args.piece.now c.args.here.now.dir_len)) ends)))
