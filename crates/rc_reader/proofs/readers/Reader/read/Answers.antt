-- Lines are made, and then given; where either is refused what is made is kept.
use Rattle.std.specs.Prelude.{take}
use Rattle.std.proofs.Common.{refl, ap, ◌∙◌, true, false, inl}
use Rattle.rc_stream.specs.Did.{Call.OfNext}
use Rattle.rc_stream.specs.laws.Ordered.{passes-itself}
use Rattle.rc_reader.specs.Steps.{OneStep}
use Rattle.rc_reader.proofs.Chains.{chain-stopped, read-answered, read-quiet, read-refused}
use Rattle.rc_reader.proofs.Given.{gives, goes-given, leaves, nexts, tells}
use Rattle.rc_reader.proofs.Holding.{left-put}
use Rattle.rc_reader.proofs.Putting.{same-lines}
use Rattle.rc_reader.proofs.Homes.{blames-error, blames-memory, blames-value}
use Rattle.rc_reader.proofs.readers.Reader.read.Goals as goal

pub returns-in-Ok-give-clause-gives : goal.returns-in-Ok-give-clause-gives
returns-in-Ok-give-clause-gives g c = λ lines h. c.in-Ok-give.ensures.given ∙ gives c.args.count (g.S.Frags.seen c.args.self.now.stream c.args.home.now c.args.store.now) (g.S.Frags.seen c.make.new.stream c.make.new.home c.make.new.store) c.args.self.now.work c.make.new.work c.make.ensures.left c.in-Ok.ensures.enough lines h

pub returns-in-Ok-give-clause-more : goal.returns-in-Ok-give-clause-more
returns-in-Ok-give-clause-more g c = λ lines h. c.in-Ok-give.ensures.more ∙ tells c.args.count (g.S.Frags.seen c.args.self.now.stream c.args.home.now c.args.store.now) (g.S.Frags.seen c.make.new.stream c.make.new.home c.make.new.store) c.args.self.now.work c.make.new.work c.make.ensures.left c.in-Ok.ensures.enough lines h

pub returns-in-Ok-give-clause-left : goal.returns-in-Ok-give-clause-left
returns-in-Ok-give-clause-left g c = λ lines h. leaves c.args.count (g.S.Frags.seen c.args.self.now.stream c.args.home.now c.args.store.now) (g.S.Frags.seen c.make.new.stream c.make.new.home c.make.new.store) c.args.self.now.work c.make.new.work c.make.ensures.left c.in-Ok.ensures.enough (record c.make.new.work { lines = c.give.new.lines }) refl refl refl c.in-Ok-give.ensures.left lines h

pub returns-in-Ok-give-clause-made : goal.returns-in-Ok-give-clause-made
returns-in-Ok-give-clause-made g c = λ lines h. ap (take 1) c.in-Ok-give.ensures.left ∙ nexts c.args.count (g.S.Frags.seen c.args.self.now.stream c.args.home.now c.args.store.now) (g.S.Frags.seen c.make.new.stream c.make.new.home c.make.new.store) c.args.self.now.work c.make.new.work c.make.ensures.left c.in-Ok.ensures.enough lines h

pub returns-in-Ok-give-clause-goes : goal.returns-in-Ok-give-clause-goes
returns-in-Ok-give-clause-goes g c = λ n y few gn. goes-given (g.S.Frags.seen c.make.new.stream c.make.new.home c.make.new.store) c.make.new.work (record c.make.new.work { lines = c.give.new.lines }) c.args.count n y refl refl refl c.in-Ok-give.ensures.left few (c.make.ensures.goes n y few gn)

pub returns-in-Ok-give-clause-spends : goal.returns-in-Ok-give-clause-spends
returns-in-Ok-give-clause-spends g c = λ left sp. read-answered g.S.Frags.did g.W.Store.asks left sp c.args.self.now.work.to (c.args.self.now.stream, c.args.home.now, c.args.store.now) (c.make.new.stream, c.make.new.home, c.make.new.store) (c.in-Ok.ensures.did c.args.self.now.work.to (inl (passes-itself c.args.self.now.work.to)))

pub returns-in-Ok-give-clause-quiet : goal.returns-in-Ok-give-clause-quiet
returns-in-Ok-give-clause-quiet g c = λ settled q. read-quiet g.S.Frags.did g.W.Store.asks settled q c.args.self.now.work.to true (c.args.self.now.stream, c.args.home.now, c.args.store.now) (c.make.new.stream, c.make.new.home, c.make.new.store) (c.in-Ok.ensures.did c.args.self.now.work.to (inl (passes-itself c.args.self.now.work.to)))

pub returns-in-Ok-give-clause-did : goal.returns-in-Ok-give-clause-did
returns-in-Ok-give-clause-did g c = c.in-Ok.ensures.did

pub returns-in-Ok-give-clause-damage : goal.returns-in-Ok-give-clause-damage
returns-in-Ok-give-clause-damage g c = blames-value (g.S.Frags.damage c.args.self.now.stream) (g.S.Frags.damage c.make.new.stream) _ c.make.ensures.damage.less

pub returns-in-Err-give-clause-left : goal.returns-in-Err-give-clause-left
returns-in-Err-give-clause-left g c = λ lines h. left-put (g.S.Frags.seen c.make.new.stream c.make.new.home c.make.new.store) c.make.new.work (record c.make.new.work { lines = c.give.new.lines }) (same-lines c.make.new.work (record c.make.new.work { lines = c.give.new.lines }) refl refl c.in-Err-give.ensures.err c.make.new.work.to) refl lines (c.make.ensures.left lines h)

pub returns-in-Err-give-clause-did : goal.returns-in-Err-give-clause-did
returns-in-Err-give-clause-did g c = λ y h. chain-stopped (OneStep g.S.Frags.did (OfNext y)) (c.args.self.now.stream, c.args.home.now, c.args.store.now) (c.make.new.stream, c.make.new.home, c.make.new.store) (c.in-Ok.ensures.did y h)

pub returns-in-Err-give-clause-spends : goal.returns-in-Err-give-clause-spends
returns-in-Err-give-clause-spends g c = λ left sp. read-refused g.S.Frags.did g.W.Store.asks left sp c.args.self.now.work.to (c.args.self.now.stream, c.args.home.now, c.args.store.now) (c.make.new.stream, c.make.new.home, c.make.new.store) (chain-stopped (OneStep g.S.Frags.did (OfNext c.args.self.now.work.to)) (c.args.self.now.stream, c.args.home.now, c.args.store.now) (c.make.new.stream, c.make.new.home, c.make.new.store) (c.in-Ok.ensures.did c.args.self.now.work.to (inl (passes-itself c.args.self.now.work.to))))

pub returns-in-Err-give-clause-quiet : goal.returns-in-Err-give-clause-quiet
returns-in-Err-give-clause-quiet g c = λ settled q. read-quiet g.S.Frags.did g.W.Store.asks settled q c.args.self.now.work.to true (c.args.self.now.stream, c.args.home.now, c.args.store.now) (c.make.new.stream, c.make.new.home, c.make.new.store) (c.in-Ok.ensures.did c.args.self.now.work.to (inl (passes-itself c.args.self.now.work.to)))

pub returns-in-Err-give-clause-damage : goal.returns-in-Err-give-clause-damage
returns-in-Err-give-clause-damage g c = blames-memory (g.S.Frags.damage c.args.self.now.stream) (g.S.Frags.damage c.make.new.stream) c.make.ensures.damage.less

pub returns-in-Err-clause-left : goal.returns-in-Err-clause-left
returns-in-Err-clause-left g c = c.make.ensures.left

pub returns-in-Err-clause-did : goal.returns-in-Err-clause-did
returns-in-Err-clause-did g c = c.in-Err.ensures.did

pub returns-in-Err-clause-spends : goal.returns-in-Err-clause-spends
returns-in-Err-clause-spends g c = λ left sp. read-refused g.S.Frags.did g.W.Store.asks left sp c.args.self.now.work.to (c.args.self.now.stream, c.args.home.now, c.args.store.now) (c.make.new.stream, c.make.new.home, c.make.new.store) (c.in-Err.ensures.did c.args.self.now.work.to (inl (passes-itself c.args.self.now.work.to)))

pub returns-in-Err-clause-quiet : goal.returns-in-Err-clause-quiet
returns-in-Err-clause-quiet g c = λ settled q. read-quiet g.S.Frags.did g.W.Store.asks settled q c.args.self.now.work.to false (c.args.self.now.stream, c.args.home.now, c.args.store.now) (c.make.new.stream, c.make.new.home, c.make.new.store) (c.in-Err.ensures.did c.args.self.now.work.to (inl (passes-itself c.args.self.now.work.to)))

pub returns-in-Err-clause-damage : goal.returns-in-Err-clause-damage
returns-in-Err-clause-damage g c = blames-error (g.S.Frags.damage c.args.self.now.stream) (g.S.Frags.damage c.args.self.now.stream) (g.S.Frags.damage c.make.new.stream) c.in-Err.error (λ file offset d. d) c.in-Err.ensures.damage
