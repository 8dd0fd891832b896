use Rattle.std.proofs.Common.{arith, ◌∙◌}
use Rattle.rc_outside.proofs.TableNumbers.{no_number, parsed_number}
use Rattle.rc_outside.proofs.names.read_number.Goals as goal

pub returns-then-first-eq48 : goal.returns-then-first-eq48
returns-then-first-eq48 c = no_number c.args.text.now (grind (arith, c.first_byte-first.ensures, c.then-first-eq48.either))

pub returns : goal.returns
returns c =
    let first = c.first_byte-first.ensures in
    rw c.ok.ensures.value (parsed_number c.args.text.now c.parse.result c.parse.ensures.value.0 (λ e. c.if-first-eq48.false (first ∙ e)) (λ e. c.if-first-eq43.false (first ∙ e)))
