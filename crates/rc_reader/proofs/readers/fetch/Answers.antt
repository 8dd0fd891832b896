-- One call for the next, or none.
use Rattle.std.proofs.Common.{refl, sym, ◌∙◌, true, false}
use Rattle.rc_stream.specs.Did.{Call.OfNext}
use Rattle.rc_reader.specs.Steps.{OneStep}
use Rattle.rc_reader.proofs.Chains.{chain-none, chain-one}
use Rattle.rc_reader.proofs.Holding.{ended, goes-got, goes-on, is-there, left-got, left-on, not-there}
use Rattle.rc_reader.proofs.Homes.{blames-error, blames-value, moved-none, moved-one}
use Rattle.rc_reader.proofs.readers.fetch.Goals as goal

pub returns-then-is_some-clause-left : goal.returns-then-is_some-clause-left
returns-then-is_some-clause-left g c = λ lines h. h

pub returns-then-is_some-clause-goes : goal.returns-then-is_some-clause-goes
returns-then-is_some-clause-goes g c = λ y n h. h

pub returns-then-is_some-clause-did : goal.returns-then-is_some-clause-did
returns-then-is_some-clause-did g c = λ y _. chain-none (OneStep g.S.Frags.did (OfNext y)) true (c.args.stream.now, c.args.home.now, c.args.store.now)

pub returns-then-is_some-clause-moves : goal.returns-then-is_some-clause-moves
returns-then-is_some-clause-moves g c = moved-none g.S.Frags.moves c.args.home.now c.args.store.now

pub returns-then-is_some-clause-damage : goal.returns-then-is_some-clause-damage
returns-then-is_some-clause-damage g c = blames-value (g.S.Frags.damage c.args.stream.now) (g.S.Frags.damage c.args.stream.now) true (λ file offset d. d)

pub returns-then-is_some-clause-end : goal.returns-then-is_some-clause-end
returns-then-is_some-clause-end g c = λ e. absurd (cc)

pub returns-in-Ok-clause-left : goal.returns-in-Ok-clause-left
returns-in-Ok-clause-left g c =
    left-got (g.S.Frags.seen c.args.stream.now c.args.home.now c.args.store.now) (g.S.Frags.seen c.next.new.self c.next.new.home c.next.new.store) c.args.work.now (record c.args.work.now { taken = c.in-Ok.got }) c.in-Ok.got
    (record { idle = not-there c.args.work.now.taken (sym c.is_some.ensures ∙ c.if-is_some.false); taken = refl; compactor = refl; lines = refl; to = refl }) c.in-Ok.ensures.gives c.in-Ok.ensures.seen

pub returns-in-Ok-clause-goes : goal.returns-in-Ok-clause-goes
returns-in-Ok-clause-goes g c =
    goes-got (g.S.Frags.seen c.args.stream.now c.args.home.now c.args.store.now) (g.S.Frags.seen c.next.new.self c.next.new.home c.next.new.store) c.args.work.now (record c.args.work.now { taken = c.in-Ok.got }) c.in-Ok.got
    (record { idle = not-there c.args.work.now.taken (sym c.is_some.ensures ∙ c.if-is_some.false); taken = refl; compactor = refl; lines = refl; to = refl }) c.in-Ok.ensures.gives c.in-Ok.ensures.seen

pub returns-in-Ok-clause-end : goal.returns-in-Ok-clause-end
returns-in-Ok-clause-end g c = λ e.
    ended (g.S.Frags.seen c.args.stream.now c.args.home.now c.args.store.now) c.args.work.now (record c.args.work.now { taken = c.in-Ok.got }) c.in-Ok.got
    (record { idle = not-there c.args.work.now.taken (sym c.is_some.ensures ∙ c.if-is_some.false); taken = refl; compactor = refl; lines = refl; to = refl }) (sym c.is_some-in-Ok.ensures ∙ e) c.in-Ok.ensures.gives

pub returns-in-Ok-clause-taken : goal.returns-in-Ok-clause-taken
returns-in-Ok-clause-taken g c = λ e. is-there c.in-Ok.got (sym c.is_some-in-Ok.ensures ∙ e)

pub returns-in-Ok-clause-did : goal.returns-in-Ok-clause-did
returns-in-Ok-clause-did g c = λ y covers.
    chain-one (OneStep g.S.Frags.did (OfNext y)) true (c.args.stream.now, c.args.home.now, c.args.store.now) (c.next.new.self, c.next.new.home, c.next.new.store)
    (c.in-Ok.ensures.did y (covers (not-there c.args.work.now.taken (sym c.is_some.ensures ∙ c.if-is_some.false))))

pub returns-in-Ok-clause-moves : goal.returns-in-Ok-clause-moves
returns-in-Ok-clause-moves g c = moved-one g.S.Frags.moves c.args.home.now c.args.store.now c.next.new.home c.next.new.store c.next.ensures.moves

pub returns-in-Ok-clause-damage : goal.returns-in-Ok-clause-damage
returns-in-Ok-clause-damage g c = blames-value (g.S.Frags.damage c.args.stream.now) (g.S.Frags.damage c.next.new.self) _ c.next.ensures.damage.less

pub returns-in-Err-clause-left : goal.returns-in-Err-clause-left
returns-in-Err-clause-left g c = left-on (g.S.Frags.seen c.args.stream.now c.args.home.now c.args.store.now) (g.S.Frags.seen c.next.new.self c.next.new.home c.next.new.store) c.args.work.now c.in-Err.ensures.seen

pub returns-in-Err-clause-goes : goal.returns-in-Err-clause-goes
returns-in-Err-clause-goes g c = goes-on (g.S.Frags.seen c.args.stream.now c.args.home.now c.args.store.now) (g.S.Frags.seen c.next.new.self c.next.new.home c.next.new.store) c.args.work.now c.in-Err.ensures.seen

pub returns-in-Err-clause-did : goal.returns-in-Err-clause-did
returns-in-Err-clause-did g c = λ y covers.
    chain-one (OneStep g.S.Frags.did (OfNext y)) false (c.args.stream.now, c.args.home.now, c.args.store.now) (c.next.new.self, c.next.new.home, c.next.new.store)
    (c.in-Err.ensures.did y (covers (not-there c.args.work.now.taken (sym c.is_some.ensures ∙ c.if-is_some.false))))

pub returns-in-Err-clause-moves : goal.returns-in-Err-clause-moves
returns-in-Err-clause-moves g c = moved-one g.S.Frags.moves c.args.home.now c.args.store.now c.next.new.home c.next.new.store c.next.ensures.moves

pub returns-in-Err-clause-damage : goal.returns-in-Err-clause-damage
returns-in-Err-clause-damage g c = blames-error (g.S.Frags.damage c.args.stream.now) (g.S.Frags.damage c.args.stream.now) (g.S.Frags.damage c.next.new.self) c.in-Err.error (λ file offset d. d) c.in-Err.ensures.damage
