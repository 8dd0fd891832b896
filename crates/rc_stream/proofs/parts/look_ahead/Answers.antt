-- What was taken from the stream is held.
use Rattle.std.proofs.Common.{sym, inr}
use Rattle.rc_stream.specs.Holding.{held_fragments}
use Rattle.rc_stream.proofs.Looking.{ahead-looked, nothing-held}
use Rattle.rc_stream.proofs.Wholes.{looked-holds, looked-known}
use Rattle.rc_stream.proofs.Blaming.{blames-err, blames-ok}
use Rattle.rc_stream.proofs.parts.look_ahead.Goals as goal

pub returns-in-Ok-clause-ahead : goal.returns-in-Ok-clause-ahead
returns-in-Ok-clause-ahead g c = ahead-looked (g.A.Frags.ahead c.args.part.now.stream) (g.A.Frags.ahead c.next.new.self) c.in-Ok.got c.args.part.now.held c.hold.new.self.look (sym c.if-not-is_empty.ensures) c.hold.ensures.look c.in-Ok.ensures.ahead

pub returns-in-Ok-clause-holds : goal.returns-in-Ok-clause-holds
returns-in-Ok-clause-holds g c = λ t k. looked-holds (g.A.Frags.seen c.args.part.now.stream c.args.home.now c.args.store.now) (g.A.Frags.seen c.next.new.self c.next.new.home c.next.new.store) c.args.upto.now c.in-Ok.got c.args.part.now.held c.hold.new.self t (sym c.if-not-is_empty.ensures) c.hold.ensures.front c.hold.ensures.look c.in-Ok.ensures.gives c.in-Ok.ensures.seen k

pub returns-in-Ok-clause-known : goal.returns-in-Ok-clause-known
returns-in-Ok-clause-known g c = λ t k. looked-known (g.A.Frags.seen c.args.part.now.stream c.args.home.now c.args.store.now) c.args.upto.now c.in-Ok.got c.args.part.now.held c.hold.new.self t (sym c.if-not-is_empty.ensures) c.hold.ensures.look c.in-Ok.ensures.gives k

pub returns-in-Ok-clause-did : goal.returns-in-Ok-clause-did
returns-in-Ok-clause-did g c = λ y covers. inr (c.in-Ok.ensures.did y (covers (nothing-held (held_fragments c.args.part.now.held) (sym c.if-not-is_empty.ensures))))

pub returns-in-Err-clause-did : goal.returns-in-Err-clause-did
returns-in-Err-clause-did g c = λ y covers. inr (c.in-Err.ensures.did y (covers (nothing-held (held_fragments c.args.part.now.held) (sym c.if-not-is_empty.ensures))))

pub returns-in-Ok-clause-damage : goal.returns-in-Ok-clause-damage
returns-in-Ok-clause-damage g c = blames-ok (g.A.Frags.damage c.args.part.now.stream) (g.A.Frags.damage c.next.new.self) _ tt c.in-Ok.ensures.damage

pub returns-in-Err-clause-damage : goal.returns-in-Err-clause-damage
returns-in-Err-clause-damage g c = blames-err (g.A.Frags.damage c.args.part.now.stream) (g.A.Frags.damage c.next.new.self) c.in-Err.error c.in-Err.ensures.damage
