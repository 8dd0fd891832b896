-- What is ahead at the start decides, and the head that was read is that of the schema.
use Rattle.std.proofs.lemmas.Result.{err_from_is_err_and}
use Rattle.rc_tfile.proofs.Turns.{head_refused, head_stands}
use Rattle.rc_tfile.proofs.walking.check_head.Goals as goal

pub returns-in_err-found-clause-refused : goal.returns-in_err-found-clause-refused
returns-in_err-found-clause-refused g c =
    let p = err_from_is_err_and c.from_residual.result c.from_residual.ensures.1 in
    rw (p.1, p.2) (λ bytes is. head_refused bytes c.args.schema.now c.in_err-found.field-0.0 (c.in_err-found.ensures.head bytes is))

pub returns-clause-stands : goal.returns-clause-stands
returns-clause-stands g c =
    head_stands (g.W.Store.files c.head_of.new.store) c.args.schema.now c.in_ok-found.found c.new.result c.head_of.new.file c.advance.new.self c.in_ok-found.size c.in_ok-found.ensures.told c.in_ok-found.ensures.ahead
    (c.is_same.ensures.0 c.if-not-is_same.false) c.advance.ensures.value c.new.ensures
