-- A round goes on from where the rounds before it came to.
use Rattle.std.specs.Prelude.{IfOk}
use Rattle.std.proofs.Common.{sym, ap, ◌∙◌, subst, Ok, None, true, false, arith}
use Rattle.rc_stream.specs.Both.{HoldBoth, SpotsOfBoth}
use Rattle.rc_stream.specs.Did.{InTurn, OneCall, has_answer, merge_state}
use Rattle.rc_stream.specs.calls.Holding.{IsStepUpto}
use Rattle.rc_stream.specs.calls.Moving.{RoundReaches, StepLeaves}
use Rattle.rc_stream.proofs.Blaming.{blames-later}
use Rattle.rc_stream.proofs.Chains.{chain-after, chain-stopped, many-many}
use Rattle.rc_stream.proofs.Ending.{covers-on}
use Rattle.rc_stream.proofs.Going.{moved-moved}
use Rattle.rc_stream.proofs.merges.next_of_both.Goals as goal

pub returns-in-Ok-Given-clause-gives : goal.returns-in-Ok-Given-clause-gives
returns-in-Ok-Given-clause-gives g c = λ s b.
    let left = subst (λ r. StepLeaves r c.args.upto.now s (HoldBoth g.A.Frags.seen g.B.Frags.seen c.round.new.merge c.round.new.home c.round.new.store)) (c.in-Ok-Given.is ∙ ap Ok c.in-Ok-Given.field-0-is) (c.round.ensures.says s (c.loop-rounds.invariant.says s b)) in
    sym left.1

pub returns-in-Ok-Given-clause-left : goal.returns-in-Ok-Given-clause-left
returns-in-Ok-Given-clause-left g c = λ s b.
    let left = subst (λ r. StepLeaves r c.args.upto.now s (HoldBoth g.A.Frags.seen g.B.Frags.seen c.round.new.merge c.round.new.home c.round.new.store)) (c.in-Ok-Given.is ∙ ap Ok c.in-Ok-Given.field-0-is) (c.round.ensures.says s (c.loop-rounds.invariant.says s b)) in
    left.0

pub returns-in-Ok-Nothing-clause-gives : goal.returns-in-Ok-Nothing-clause-gives
returns-in-Ok-Nothing-clause-gives g c = λ s b.
    let left = subst (λ r. StepLeaves r c.args.upto.now s (HoldBoth g.A.Frags.seen g.B.Frags.seen c.round.new.merge c.round.new.home c.round.new.store)) (c.in-Ok-Nothing.is ∙ ap Ok c.in-Ok-Nothing.field-0-is) (c.round.ensures.says s (c.loop-rounds.invariant.says s b)) in
    sym left.1

pub returns-in-Ok-Nothing-clause-left : goal.returns-in-Ok-Nothing-clause-left
returns-in-Ok-Nothing-clause-left g c = λ s b.
    let left = subst (λ r. StepLeaves r c.args.upto.now s (HoldBoth g.A.Frags.seen g.B.Frags.seen c.round.new.merge c.round.new.home c.round.new.store)) (c.in-Ok-Nothing.is ∙ ap Ok c.in-Ok-Nothing.field-0-is) (c.round.ensures.says s (c.loop-rounds.invariant.says s b)) in
    left.0

pub returns-in-Err-clause-left : goal.returns-in-Err-clause-left
returns-in-Err-clause-left g c = λ s b. c.in-Err.ensures.says s (c.loop-rounds.invariant.says s b)

pub returns-clause-left : goal.returns-clause-left
returns-clause-left g c = λ s b. c.loop-rounds.invariant.says s b

pub returns-in-Ok-Given-clause-ahead : goal.returns-in-Ok-Given-clause-ahead
returns-in-Ok-Given-clause-ahead g c = λ x r may. c.round.ensures.ahead x (subst (λ z. RoundReaches z x) (sym (c.in-Ok-Given.is ∙ ap Ok c.in-Ok-Given.field-0-is)) r) (c.loop-rounds.invariant.ahead x may)

pub returns-in-Ok-Nothing-clause-ahead : goal.returns-in-Ok-Nothing-clause-ahead
returns-in-Ok-Nothing-clause-ahead g c = λ x _ may. c.round.ensures.ahead x (subst (λ z. RoundReaches z x) (sym (c.in-Ok-Nothing.is ∙ ap Ok c.in-Ok-Nothing.field-0-is)) tt) (c.loop-rounds.invariant.ahead x may)

pub returns-in-Err-clause-ahead : goal.returns-in-Err-clause-ahead
returns-in-Err-clause-ahead g c = λ x _ may. c.in-Err.ensures.ahead x tt (c.loop-rounds.invariant.ahead x may)

pub returns-clause-ahead : goal.returns-clause-ahead
returns-clause-ahead g c = λ x _ may. c.loop-rounds.invariant.ahead x may

pub returns-in-Ok-Given-clause-moves : goal.returns-in-Ok-Given-clause-moves
returns-in-Ok-Given-clause-moves g c = moved-moved g.A.Frags.moves g.B.Frags.moves c.args.home.now c.args.store.now c.loop-rounds.home c.loop-rounds.store c.round.new.home c.round.new.store c.loop-rounds.invariant.moves c.round.ensures.moves

pub returns-in-Ok-Given-clause-ready : goal.returns-in-Ok-Given-clause-ready
returns-in-Ok-Given-clause-ready g c = c.round.ensures.ready

pub returns-in-Ok-Given-clause-due : goal.returns-in-Ok-Given-clause-due
returns-in-Ok-Given-clause-due g c = c.round.ensures.due ∙ c.loop-rounds.invariant.due

pub returns-in-Ok-Given-clause-store : goal.returns-in-Ok-Given-clause-store
returns-in-Ok-Given-clause-store g c = (c.round.ensures.store.0 ∙ c.loop-rounds.invariant.files, c.round.ensures.store.1 ∙ c.loop-rounds.invariant.building)

pub returns-in-Ok-Nothing-clause-moves : goal.returns-in-Ok-Nothing-clause-moves
returns-in-Ok-Nothing-clause-moves g c = moved-moved g.A.Frags.moves g.B.Frags.moves c.args.home.now c.args.store.now c.loop-rounds.home c.loop-rounds.store c.round.new.home c.round.new.store c.loop-rounds.invariant.moves c.round.ensures.moves

pub returns-in-Ok-Nothing-clause-ready : goal.returns-in-Ok-Nothing-clause-ready
returns-in-Ok-Nothing-clause-ready g c = c.round.ensures.ready

pub returns-in-Ok-Nothing-clause-due : goal.returns-in-Ok-Nothing-clause-due
returns-in-Ok-Nothing-clause-due g c = c.round.ensures.due ∙ c.loop-rounds.invariant.due

pub returns-in-Ok-Nothing-clause-store : goal.returns-in-Ok-Nothing-clause-store
returns-in-Ok-Nothing-clause-store g c = (c.round.ensures.store.0 ∙ c.loop-rounds.invariant.files, c.round.ensures.store.1 ∙ c.loop-rounds.invariant.building)

pub returns-in-Err-clause-moves : goal.returns-in-Err-clause-moves
returns-in-Err-clause-moves g c = moved-moved g.A.Frags.moves g.B.Frags.moves c.args.home.now c.args.store.now c.loop-rounds.home c.loop-rounds.store c.round.new.home c.round.new.store c.loop-rounds.invariant.moves c.round.ensures.moves

pub returns-in-Err-clause-ready : goal.returns-in-Err-clause-ready
returns-in-Err-clause-ready g c = c.round.ensures.ready

pub returns-in-Err-clause-due : goal.returns-in-Err-clause-due
returns-in-Err-clause-due g c = c.round.ensures.due ∙ c.loop-rounds.invariant.due

pub returns-in-Err-clause-store : goal.returns-in-Err-clause-store
returns-in-Err-clause-store g c = (c.round.ensures.store.0 ∙ c.loop-rounds.invariant.files, c.round.ensures.store.1 ∙ c.loop-rounds.invariant.building)

pub returns-clause-store : goal.returns-clause-store
returns-clause-store g c = (c.loop-rounds.invariant.files, c.loop-rounds.invariant.building)

pub loop-rounds-preserved : goal.loop-rounds-preserved
loop-rounds-preserved g c =
    let passed = c.in-Ok-Passed.is ∙ ap Ok c.in-Ok-Passed.field-0-is in
    record {
      says = λ s b. subst (λ r. StepLeaves r c.args.upto.now s (HoldBoth g.A.Frags.seen g.B.Frags.seen c.round.new.merge c.round.new.home c.round.new.store)) passed (c.round.ensures.says s (c.loop-rounds.invariant.says s b));
      did = λ y covers. many-many (OneCall g.A.Frags.did g.B.Frags.did None y) (merge_state c.args.merge.now c.args.home.now c.args.store.now) (merge_state c.loop-rounds.merge c.loop-rounds.home c.loop-rounds.store) (merge_state c.round.new.merge c.round.new.home c.round.new.store) (c.loop-rounds.invariant.did y covers) (subst (λ r. InTurn (OneCall g.A.Frags.did g.B.Frags.did None y) (has_answer r) (merge_state c.loop-rounds.merge c.loop-rounds.home c.loop-rounds.store) (merge_state c.round.new.merge c.round.new.home c.round.new.store)) passed (c.round.ensures.did y (covers-on (HoldBoth g.A.Frags.seen g.B.Frags.seen c.args.merge.now c.args.home.now c.args.store.now) (HoldBoth g.A.Frags.seen g.B.Frags.seen c.loop-rounds.merge c.loop-rounds.home c.loop-rounds.store) c.args.upto.now y c.loop-rounds.invariant.says covers)));
      ahead = λ x may. c.round.ensures.ahead x (subst (λ r. RoundReaches r x) (sym passed) tt) (c.loop-rounds.invariant.ahead x may);
      ready = c.round.ensures.ready;
      due = c.round.ensures.due ∙ c.loop-rounds.invariant.due;
      moves = moved-moved g.A.Frags.moves g.B.Frags.moves c.args.home.now c.args.store.now c.loop-rounds.home c.loop-rounds.store c.round.new.home c.round.new.store c.loop-rounds.invariant.moves c.round.ensures.moves;
      damage = λ file offset d. c.loop-rounds.invariant.damage file offset (c.round.ensures.damage.less file offset d);
      faults = omega (arith, c.loop-rounds.invariant.faults, c.in-Ok-Passed.ensures.cause);
      files = c.round.ensures.store.0 ∙ c.loop-rounds.invariant.files;
      building = c.round.ensures.store.1 ∙ c.loop-rounds.invariant.building;
    }

pub returns-in-Ok-Given-clause-did : goal.returns-in-Ok-Given-clause-did
returns-in-Ok-Given-clause-did g c = λ y covers. chain-after (OneCall g.A.Frags.did g.B.Frags.did None y) true (merge_state c.args.merge.now c.args.home.now c.args.store.now) (merge_state c.loop-rounds.merge c.loop-rounds.home c.loop-rounds.store) (merge_state c.round.new.merge c.round.new.home c.round.new.store) (c.loop-rounds.invariant.did y covers) (c.in-Ok-Given.ensures.did y (covers-on (HoldBoth g.A.Frags.seen g.B.Frags.seen c.args.merge.now c.args.home.now c.args.store.now) (HoldBoth g.A.Frags.seen g.B.Frags.seen c.loop-rounds.merge c.loop-rounds.home c.loop-rounds.store) c.args.upto.now y c.loop-rounds.invariant.says covers))

pub returns-in-Ok-Nothing-clause-did : goal.returns-in-Ok-Nothing-clause-did
returns-in-Ok-Nothing-clause-did g c = λ y covers. chain-after (OneCall g.A.Frags.did g.B.Frags.did None y) true (merge_state c.args.merge.now c.args.home.now c.args.store.now) (merge_state c.loop-rounds.merge c.loop-rounds.home c.loop-rounds.store) (merge_state c.round.new.merge c.round.new.home c.round.new.store) (c.loop-rounds.invariant.did y covers) (c.in-Ok-Nothing.ensures.did y (covers-on (HoldBoth g.A.Frags.seen g.B.Frags.seen c.args.merge.now c.args.home.now c.args.store.now) (HoldBoth g.A.Frags.seen g.B.Frags.seen c.loop-rounds.merge c.loop-rounds.home c.loop-rounds.store) c.args.upto.now y c.loop-rounds.invariant.says covers))

pub returns-in-Err-clause-did : goal.returns-in-Err-clause-did
returns-in-Err-clause-did g c = λ y covers. chain-after (OneCall g.A.Frags.did g.B.Frags.did None y) false (merge_state c.args.merge.now c.args.home.now c.args.store.now) (merge_state c.loop-rounds.merge c.loop-rounds.home c.loop-rounds.store) (merge_state c.round.new.merge c.round.new.home c.round.new.store) (c.loop-rounds.invariant.did y covers) (c.in-Err.ensures.did y (covers-on (HoldBoth g.A.Frags.seen g.B.Frags.seen c.args.merge.now c.args.home.now c.args.store.now) (HoldBoth g.A.Frags.seen g.B.Frags.seen c.loop-rounds.merge c.loop-rounds.home c.loop-rounds.store) c.args.upto.now y c.loop-rounds.invariant.says covers))

pub returns-clause-did : goal.returns-clause-did
returns-clause-did g c = λ y covers. chain-stopped (OneCall g.A.Frags.did g.B.Frags.did None y) (merge_state c.args.merge.now c.args.home.now c.args.store.now) (merge_state c.loop-rounds.merge c.loop-rounds.home c.loop-rounds.store) (c.loop-rounds.invariant.did y covers)

pub returns-in-Ok-Given-clause-upto : goal.returns-in-Ok-Given-clause-upto
returns-in-Ok-Given-clause-upto g c = subst (λ r. IfOk r (IsStepUpto c.args.upto.now)) (c.in-Ok-Given.is ∙ ap Ok c.in-Ok-Given.field-0-is) c.round.ensures.upto

pub returns-in-Ok-Given-clause-damage : goal.returns-in-Ok-Given-clause-damage
returns-in-Ok-Given-clause-damage g c = record { named = tt; less = λ file offset d. c.loop-rounds.invariant.damage file offset (c.round.ensures.damage.less file offset d) }

pub returns-in-Ok-Nothing-clause-damage : goal.returns-in-Ok-Nothing-clause-damage
returns-in-Ok-Nothing-clause-damage g c = record { named = tt; less = λ file offset d. c.loop-rounds.invariant.damage file offset (c.round.ensures.damage.less file offset d) }

pub returns-in-Err-clause-damage : goal.returns-in-Err-clause-damage
returns-in-Err-clause-damage g c = blames-later (SpotsOfBoth g.A.Frags.damage g.B.Frags.damage c.args.merge.now) (SpotsOfBoth g.A.Frags.damage g.B.Frags.damage c.loop-rounds.merge) (SpotsOfBoth g.A.Frags.damage g.B.Frags.damage c.round.new.merge) c.in-Err.error c.loop-rounds.invariant.damage c.in-Err.ensures.damage

pub returns-clause-damage : goal.returns-clause-damage
returns-clause-damage g c = record { named = tt; less = c.loop-rounds.invariant.damage }
