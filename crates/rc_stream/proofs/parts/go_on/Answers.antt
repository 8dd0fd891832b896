-- A seek goes on within what is held, or in the stream.
use Rattle.std.proofs.Common.{sym, ◌∙◌, inr}
use Rattle.rc_stream.proofs.Looking.{ahead-there}
use Rattle.rc_stream.proofs.Wholes.{sought-holds, within-holds}
use Rattle.rc_stream.proofs.Blaming.{blames-ok}
use Rattle.rc_stream.proofs.parts.go_on.Goals as goal

pub seek-requires-clause-ahead : goal.seek-requires-clause-ahead
seek-requires-clause-ahead g c = ahead-there (g.A.Frags.ahead c.args.part.now.stream) c.args.to.now c.args.part.now.held (sym c.in-Ok-true.ensures.passes ∙ c.in-Ok-true.field-0-test) c.requires.ahead

pub returns-in-Ok-clause-holds : goal.returns-in-Ok-clause-holds
returns-in-Ok-clause-holds g c = λ t k. sought-holds (g.A.Frags.seen c.args.part.now.stream c.args.home.now c.args.store.now) (g.A.Frags.seen c.seek.new.self c.seek.new.home c.seek.new.store) c.args.to.now c.args.part.now.held c.clear.new.self t (sym c.in-Ok-true.ensures.passes ∙ c.in-Ok-true.field-0-test) c.clear.ensures c.in-Ok.ensures.seen k

pub returns-in-Ok-false-clause-holds : goal.returns-in-Ok-false-clause-holds
returns-in-Ok-false-clause-holds g c = λ t k. within-holds (g.A.Frags.seen c.args.part.now.stream c.args.home.now c.args.store.now) c.args.to.now c.args.part.now.held c.go_on.new.self t (sym c.in-Ok-false.ensures.passes ∙ c.in-Ok-false.field-0-test) (c.in-Ok-false.ensures.within c.in-Ok-false.field-0-test) k

pub returns-in-Ok-clause-did : goal.returns-in-Ok-clause-did
returns-in-Ok-clause-did g c = inr c.in-Ok.ensures.did

pub returns-in-Ok-clause-damage : goal.returns-in-Ok-clause-damage
returns-in-Ok-clause-damage g c = blames-ok (g.A.Frags.damage c.args.part.now.stream) (g.A.Frags.damage c.seek.new.self) _ tt c.in-Ok.ensures.damage
