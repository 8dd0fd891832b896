-- A step goes on from where the steps before it came to.
use Rattle.std.proofs.Common.{refl, sym, ◌∙◌, true, false, length, arith, inl, inr}
use Rattle.std.proofs.lemmas.Bool.{ltb-false}
use Rattle.rc_stream.specs.Did.{Call.OfNext}
use Rattle.rc_reader.specs.Steps.{OneStep}
use Rattle.rc_reader.proofs.Chains.{chain-after, chain-stopped, many-many, many-none}
use Rattle.rc_reader.proofs.Homes.{blames-error, blames-memory, blames-value, moved-moved, moved-none}
use Rattle.rc_reader.proofs.readers.make.Goals as goal

pub loop-rounds-init : goal.loop-rounds-init
loop-rounds-init g c = record {
  left = λ lines h. h;
  goes = λ n y few h. h;
  did = λ y _. many-none (OneStep g.S.Frags.did (OfNext y)) (c.args.stream.now, c.args.home.now, c.args.store.now);
  to = refl;
  ready = c.requires;
  moves = moved-none g.S.Frags.moves c.args.home.now c.args.store.now;
  damage = λ file offset d. d;
  faults = omega arith;
  files = refl;
  building = refl;
}

pub loop-rounds-preserved : goal.loop-rounds-preserved
loop-rounds-preserved g c =
    let few = (ltb-false c.args.count (length c.loop-rounds.work.lines.items) (sym c.has_more_than.ensures ∙ c.if-has_more_than.false)) in
    record {
      left = λ lines h. c.step.ensures.left lines (c.loop-rounds.invariant.left lines h);
      goes = λ n y more h. c.step.ensures.goes y n (omega (arith, few, more)) (c.loop-rounds.invariant.goes n y more h);
      did = λ y h. many-many (OneStep g.S.Frags.did (OfNext y)) (c.args.stream.now, c.args.home.now, c.args.store.now) (c.loop-rounds.stream, c.loop-rounds.home, c.loop-rounds.store) (c.step.new.stream, c.step.new.home, c.step.new.store) (c.loop-rounds.invariant.did y h) (c.in-Ok-true.ensures.did y c.args.count few (c.loop-rounds.invariant.goes c.args.count y (omega arith) h));
      to = c.step.ensures.to ∙ c.loop-rounds.invariant.to;
      ready = c.step.ensures.ready;
      moves = moved-moved g.S.Frags.moves c.args.home.now c.args.store.now c.loop-rounds.home c.loop-rounds.store c.step.new.home c.step.new.store c.loop-rounds.invariant.moves c.step.ensures.moves;
      damage = λ file offset d. c.loop-rounds.invariant.damage file offset (c.step.ensures.damage.less file offset d);
      faults = omega (arith, c.loop-rounds.invariant.faults, c.in-Ok-true.ensures.cause);
      files = c.step.ensures.store.0 ∙ c.loop-rounds.invariant.files;
      building = c.step.ensures.store.1 ∙ c.loop-rounds.invariant.building;
    }

pub returns-then-has_more_than-clause-left : goal.returns-then-has_more_than-clause-left
returns-then-has_more_than-clause-left g c = c.loop-rounds.invariant.left

pub returns-then-has_more_than-clause-enough : goal.returns-then-has_more_than-clause-enough
returns-then-has_more_than-clause-enough g c = inl (sym c.has_more_than.ensures ∙ c.if-has_more_than.true)

pub returns-then-has_more_than-clause-goes : goal.returns-then-has_more_than-clause-goes
returns-then-has_more_than-clause-goes g c = c.loop-rounds.invariant.goes

pub returns-then-has_more_than-clause-did : goal.returns-then-has_more_than-clause-did
returns-then-has_more_than-clause-did g c = c.loop-rounds.invariant.did

pub returns-then-has_more_than-clause-moves : goal.returns-then-has_more_than-clause-moves
returns-then-has_more_than-clause-moves g c = c.loop-rounds.invariant.moves

pub returns-then-has_more_than-clause-damage : goal.returns-then-has_more_than-clause-damage
returns-then-has_more_than-clause-damage g c = blames-value (g.S.Frags.damage c.args.stream.now) (g.S.Frags.damage c.loop-rounds.stream) _ c.loop-rounds.invariant.damage

pub returns-in-Ok-false-clause-left : goal.returns-in-Ok-false-clause-left
returns-in-Ok-false-clause-left g c = λ lines h. c.step.ensures.left lines (c.loop-rounds.invariant.left lines h)

pub returns-in-Ok-false-clause-enough : goal.returns-in-Ok-false-clause-enough
returns-in-Ok-false-clause-enough g c = inr (λ lines h. c.in-Ok-false.ensures.end c.in-Ok-false.field-0-test lines (c.loop-rounds.invariant.left lines h))

pub returns-in-Ok-false-clause-goes : goal.returns-in-Ok-false-clause-goes
returns-in-Ok-false-clause-goes g c = λ n y more h. c.step.ensures.goes y n (omega (arith, (ltb-false c.args.count (length c.loop-rounds.work.lines.items) (sym c.has_more_than.ensures ∙ c.if-has_more_than.false)), more)) (c.loop-rounds.invariant.goes n y more h)

pub returns-in-Ok-false-clause-did : goal.returns-in-Ok-false-clause-did
returns-in-Ok-false-clause-did g c = λ y h.
    chain-after (OneStep g.S.Frags.did (OfNext y)) true (c.args.stream.now, c.args.home.now, c.args.store.now) (c.loop-rounds.stream, c.loop-rounds.home, c.loop-rounds.store) (c.step.new.stream, c.step.new.home, c.step.new.store) (c.loop-rounds.invariant.did y h) (c.in-Ok-false.ensures.did y c.args.count (ltb-false c.args.count (length c.loop-rounds.work.lines.items) (sym c.has_more_than.ensures ∙ c.if-has_more_than.false)) (c.loop-rounds.invariant.goes c.args.count y (omega arith) h))

pub returns-in-Ok-false-clause-moves : goal.returns-in-Ok-false-clause-moves
returns-in-Ok-false-clause-moves g c = moved-moved g.S.Frags.moves c.args.home.now c.args.store.now c.loop-rounds.home c.loop-rounds.store c.step.new.home c.step.new.store c.loop-rounds.invariant.moves c.step.ensures.moves

pub returns-in-Ok-false-clause-damage : goal.returns-in-Ok-false-clause-damage
returns-in-Ok-false-clause-damage g c = blames-value (g.S.Frags.damage c.args.stream.now) (g.S.Frags.damage c.step.new.stream) _ (λ file offset d. c.loop-rounds.invariant.damage file offset (c.step.ensures.damage.less file offset d))

pub returns-in-Err-clause-left : goal.returns-in-Err-clause-left
returns-in-Err-clause-left g c = λ lines h. c.step.ensures.left lines (c.loop-rounds.invariant.left lines h)

pub returns-in-Err-clause-goes : goal.returns-in-Err-clause-goes
returns-in-Err-clause-goes g c = λ n y more h. c.step.ensures.goes y n (omega (arith, (ltb-false c.args.count (length c.loop-rounds.work.lines.items) (sym c.has_more_than.ensures ∙ c.if-has_more_than.false)), more)) (c.loop-rounds.invariant.goes n y more h)

pub returns-in-Err-clause-did : goal.returns-in-Err-clause-did
returns-in-Err-clause-did g c = λ y h.
    chain-after (OneStep g.S.Frags.did (OfNext y)) false (c.args.stream.now, c.args.home.now, c.args.store.now) (c.loop-rounds.stream, c.loop-rounds.home, c.loop-rounds.store) (c.step.new.stream, c.step.new.home, c.step.new.store) (c.loop-rounds.invariant.did y h) (c.in-Err.ensures.did y c.args.count (ltb-false c.args.count (length c.loop-rounds.work.lines.items) (sym c.has_more_than.ensures ∙ c.if-has_more_than.false)) (c.loop-rounds.invariant.goes c.args.count y (omega arith) h))

pub returns-in-Err-clause-moves : goal.returns-in-Err-clause-moves
returns-in-Err-clause-moves g c = moved-moved g.S.Frags.moves c.args.home.now c.args.store.now c.loop-rounds.home c.loop-rounds.store c.step.new.home c.step.new.store c.loop-rounds.invariant.moves c.step.ensures.moves

pub returns-in-Err-clause-damage : goal.returns-in-Err-clause-damage
returns-in-Err-clause-damage g c = blames-error (g.S.Frags.damage c.args.stream.now) (g.S.Frags.damage c.loop-rounds.stream) (g.S.Frags.damage c.step.new.stream) c.in-Err.error c.loop-rounds.invariant.damage c.in-Err.ensures.damage

pub returns-clause-left : goal.returns-clause-left
returns-clause-left g c = c.loop-rounds.invariant.left

pub returns-clause-goes : goal.returns-clause-goes
returns-clause-goes g c = c.loop-rounds.invariant.goes

pub returns-clause-did : goal.returns-clause-did
returns-clause-did g c = λ y h. chain-stopped (OneStep g.S.Frags.did (OfNext y)) (c.args.stream.now, c.args.home.now, c.args.store.now) (c.loop-rounds.stream, c.loop-rounds.home, c.loop-rounds.store) (c.loop-rounds.invariant.did y h)

pub returns-clause-moves : goal.returns-clause-moves
returns-clause-moves g c = c.loop-rounds.invariant.moves

pub returns-clause-damage : goal.returns-clause-damage
returns-clause-damage g c = blames-memory (g.S.Frags.damage c.args.stream.now) (g.S.Frags.damage c.loop-rounds.stream) c.loop-rounds.invariant.damage
