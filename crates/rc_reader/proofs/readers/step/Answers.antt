-- What was taken is put in; where that is refused it is still taken.
use Rattle.std.proofs.Common.{sym, subst, ◌≤◌, length}
use Rattle.rc_stream.specs.Did.{Call.OfNext}
use Rattle.rc_reader.specs.Steps.{OneStep}
use Rattle.rc_reader.proofs.Chains.{chain-stopped}
use Rattle.rc_reader.proofs.Holding.{all-made, goes-put, left-put, reaches-end}
use Rattle.rc_reader.proofs.Homes.{blames-error, blames-memory, blames-value}
use Rattle.rc_reader.proofs.readers.step.Goals as goal

pub returns-in-Ok-clause-left : goal.returns-in-Ok-clause-left
returns-in-Ok-clause-left g c = λ lines h.
    left-put (g.S.Frags.seen c.fetch.new.stream c.fetch.new.home c.fetch.new.store) c.fetch.new.work c.put.new.self c.put.ensures.lines c.put.ensures.to lines (c.fetch.ensures.left lines h)

pub returns-in-Ok-clause-end : goal.returns-in-Ok-clause-end
returns-in-Ok-clause-end g c = λ e lines h.
    all-made (g.S.Frags.seen c.fetch.new.stream c.fetch.new.home c.fetch.new.store) c.fetch.new.work c.put.new.self.lines.items (c.in-Ok.ensures.end e (c.in-Ok-true.ensures.taken c.in-Ok-true.field-0-test)) lines (c.fetch.ensures.left lines h)

pub returns-in-Ok-clause-goes : goal.returns-in-Ok-clause-goes
returns-in-Ok-clause-goes g c = λ y n few gn.
    goes-put (g.S.Frags.seen c.fetch.new.stream c.fetch.new.home c.fetch.new.store) c.fetch.new.work c.put.new.self c.put.ensures.before c.put.ensures.to y n (subst (λ ls. length ls.items ≤ n) (sym c.fetch.ensures.made) few) (c.fetch.ensures.goes y n gn)

pub returns-in-Ok-clause-did : goal.returns-in-Ok-clause-did
returns-in-Ok-clause-did g c = λ y n few gn.
    c.in-Ok-true.ensures.did y (reaches-end (g.S.Frags.seen c.args.stream.now c.args.home.now c.args.store.now) c.args.work.now y n few gn)

pub returns-in-Ok-clause-damage : goal.returns-in-Ok-clause-damage
returns-in-Ok-clause-damage g c = blames-value (g.S.Frags.damage c.args.stream.now) (g.S.Frags.damage c.fetch.new.stream) _ c.fetch.ensures.damage.less

pub returns-in-Err-put-clause-left : goal.returns-in-Err-put-clause-left
returns-in-Err-put-clause-left g c = λ lines h.
    left-put (g.S.Frags.seen c.fetch.new.stream c.fetch.new.home c.fetch.new.store) c.fetch.new.work c.put.new.self c.put.ensures.lines c.put.ensures.to lines (c.fetch.ensures.left lines h)

pub returns-in-Err-put-clause-goes : goal.returns-in-Err-put-clause-goes
returns-in-Err-put-clause-goes g c = λ y n few gn.
    goes-put (g.S.Frags.seen c.fetch.new.stream c.fetch.new.home c.fetch.new.store) c.fetch.new.work c.put.new.self c.put.ensures.before c.put.ensures.to y n (subst (λ ls. length ls.items ≤ n) (sym c.fetch.ensures.made) few) (c.fetch.ensures.goes y n gn)

pub returns-in-Err-put-clause-did : goal.returns-in-Err-put-clause-did
returns-in-Err-put-clause-did g c = λ y n few gn.
    chain-stopped (OneStep g.S.Frags.did (OfNext y)) (c.args.stream.now, c.args.home.now, c.args.store.now) (c.fetch.new.stream, c.fetch.new.home, c.fetch.new.store)
    (c.in-Ok-true.ensures.did y (reaches-end (g.S.Frags.seen c.args.stream.now c.args.home.now c.args.store.now) c.args.work.now y n few gn))

pub returns-in-Err-put-clause-damage : goal.returns-in-Err-put-clause-damage
returns-in-Err-put-clause-damage g c = blames-memory (g.S.Frags.damage c.args.stream.now) (g.S.Frags.damage c.fetch.new.stream) c.fetch.ensures.damage.less

pub returns-in-Ok-false-clause-end : goal.returns-in-Ok-false-clause-end
returns-in-Ok-false-clause-end g c = λ _. c.in-Ok-false.ensures.end c.in-Ok-false.field-0-test

pub returns-in-Ok-false-clause-goes : goal.returns-in-Ok-false-clause-goes
returns-in-Ok-false-clause-goes g c = λ y n few gn. c.fetch.ensures.goes y n gn

pub returns-in-Ok-false-clause-did : goal.returns-in-Ok-false-clause-did
returns-in-Ok-false-clause-did g c = λ y n few gn.
    c.in-Ok-false.ensures.did y (reaches-end (g.S.Frags.seen c.args.stream.now c.args.home.now c.args.store.now) c.args.work.now y n few gn)

pub returns-in-Ok-false-clause-damage : goal.returns-in-Ok-false-clause-damage
returns-in-Ok-false-clause-damage g c = blames-value (g.S.Frags.damage c.args.stream.now) (g.S.Frags.damage c.fetch.new.stream) _ c.fetch.ensures.damage.less

pub returns-in-Err-clause-goes : goal.returns-in-Err-clause-goes
returns-in-Err-clause-goes g c = λ y n few gn. c.fetch.ensures.goes y n gn

pub returns-in-Err-clause-did : goal.returns-in-Err-clause-did
returns-in-Err-clause-did g c = λ y n few gn.
    c.in-Err.ensures.did y (reaches-end (g.S.Frags.seen c.args.stream.now c.args.home.now c.args.store.now) c.args.work.now y n few gn)

pub returns-in-Err-clause-damage : goal.returns-in-Err-clause-damage
returns-in-Err-clause-damage g c = blames-error (g.S.Frags.damage c.args.stream.now) (g.S.Frags.damage c.args.stream.now) (g.S.Frags.damage c.fetch.new.stream) c.in-Err.error (λ file offset d. d) c.in-Err.ensures.damage
