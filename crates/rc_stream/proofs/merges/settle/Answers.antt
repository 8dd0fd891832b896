-- Where a seek was due, both went on, or it still is.
use Rattle.std.specs.Prelude.{Option}
use Rattle.std.proofs.Common.{sym, subst, ◌∙◌, refl, Some, true, false}
use Rattle.rc_position.specs.declared.positions.Pos.{Pos}
use Rattle.rc_stream.specs.Both.{HoldBoth, MaySeekBoth, SpotsOfBoth}
use Rattle.rc_stream.specs.Did.{InTurn, OneCall, merge_state}
use Rattle.rc_stream.proofs.Blaming.{blames-none}
use Rattle.rc_stream.proofs.Chains.{chain-none}
use Rattle.rc_stream.proofs.Due.{after-on, ahead-on, due-there, not-due, refused-ahead, refused-seen, settled-ahead, settled-seen}
use Rattle.rc_stream.proofs.Going.{both-later}
use Rattle.rc_stream.proofs.merges.settle.Goals as goal

pub go_on_in_both-requires-clause-ready : goal.go_on_in_both-requires-clause-ready
go_on_in_both-requires-clause-ready g c = c.requires.ready

pub go_on_in_both-requires-clause-ahead : goal.go_on_in_both-requires-clause-ahead
go_on_in_both-requires-clause-ahead g c = due-there (MaySeekBoth g.A.Frags.ahead g.B.Frags.ahead c.args.merge.now) c.args.merge.now.due c.in-Some.to (sym c.take.ensures.value ∙ c.in-Some.is) c.requires.due

pub returns-in-Ok-clause-ok : goal.returns-in-Ok-clause-ok
returns-in-Ok-clause-ok g c = c.go_on_in_both.ensures.due ∙ c.take.ensures.after

pub returns-in-None-clause-seen : goal.returns-in-None-clause-seen
returns-in-None-clause-seen g c = λ s b. after-on (HoldBoth g.A.Frags.seen g.B.Frags.seen c.args.merge.now c.args.home.now c.args.store.now) (HoldBoth g.A.Frags.seen g.B.Frags.seen c.args.merge.now c.args.home.now c.args.store.now) c.args.merge.now.due c.take.new.self (c.take.ensures.after ∙ sym (sym c.take.ensures.value ∙ c.in-None.is)) (λ t r. r) s b

pub returns-in-Ok-clause-seen : goal.returns-in-Ok-clause-seen
returns-in-Ok-clause-seen g c = settled-seen (HoldBoth g.A.Frags.seen g.B.Frags.seen c.args.merge.now c.args.home.now c.args.store.now) (HoldBoth g.A.Frags.seen g.B.Frags.seen c.go_on_in_both.new.merge c.go_on_in_both.new.home c.go_on_in_both.new.store) c.args.merge.now.due c.go_on_in_both.new.merge.due c.in-Some.to (sym c.take.ensures.value ∙ c.in-Some.is) (c.go_on_in_both.ensures.due ∙ c.take.ensures.after) c.in-Ok.ensures.ok

pub returns-in-Err-clause-seen : goal.returns-in-Err-clause-seen
returns-in-Err-clause-seen g c = refused-seen (HoldBoth g.A.Frags.seen g.B.Frags.seen c.args.merge.now c.args.home.now c.args.store.now) (HoldBoth g.A.Frags.seen g.B.Frags.seen c.go_on_in_both.new.merge c.go_on_in_both.new.home c.go_on_in_both.new.store) c.args.merge.now.due (Some c.in-Some.to) c.in-Some.to (sym c.take.ensures.value ∙ c.in-Some.is) refl c.go_on_in_both.ensures.again

pub returns-in-None-clause-ahead : goal.returns-in-None-clause-ahead
returns-in-None-clause-ahead g c = λ x r. ahead-on (MaySeekBoth g.A.Frags.ahead g.B.Frags.ahead c.args.merge.now) (MaySeekBoth g.A.Frags.ahead g.B.Frags.ahead c.args.merge.now) c.args.merge.now.due c.take.new.self (c.take.ensures.after ∙ sym (sym c.take.ensures.value ∙ c.in-None.is)) (λ y q. q) x r

pub returns-in-Ok-clause-ahead : goal.returns-in-Ok-clause-ahead
returns-in-Ok-clause-ahead g c =
    let n = c.go_on_in_both.new.merge in
    settled-ahead (MaySeekBoth g.A.Frags.ahead g.B.Frags.ahead c.args.merge.now) (MaySeekBoth g.A.Frags.ahead g.B.Frags.ahead n) c.args.merge.now.due n.due c.in-Some.to (sym c.take.ensures.value ∙ c.in-Some.is) (c.go_on_in_both.ensures.due ∙ c.take.ensures.after) (λ y r. both-later g.A.Frags.ahead g.B.Frags.ahead n c.in-Some.to y r c.go_on_in_both.ensures.ahead)

pub returns-in-Err-clause-ahead : goal.returns-in-Err-clause-ahead
returns-in-Err-clause-ahead g c = refused-ahead (MaySeekBoth g.A.Frags.ahead g.B.Frags.ahead c.args.merge.now) (MaySeekBoth g.A.Frags.ahead g.B.Frags.ahead c.go_on_in_both.new.merge) c.args.merge.now.due (Some c.in-Some.to) c.in-Some.to (sym c.take.ensures.value ∙ c.in-Some.is) refl

pub returns-in-None-clause-due : goal.returns-in-None-clause-due
returns-in-None-clause-due g c = not-due (MaySeekBoth g.A.Frags.ahead g.B.Frags.ahead c.args.merge.now) c.take.new.self c.take.ensures.after

pub returns-in-Ok-clause-due : goal.returns-in-Ok-clause-due
returns-in-Ok-clause-due g c = not-due (MaySeekBoth g.A.Frags.ahead g.B.Frags.ahead c.go_on_in_both.new.merge) c.go_on_in_both.new.merge.due (c.go_on_in_both.ensures.due ∙ c.take.ensures.after)

pub returns-in-Err-clause-due : goal.returns-in-Err-clause-due
returns-in-Err-clause-due g c = c.go_on_in_both.ensures.ahead

pub returns-in-None-clause-did : goal.returns-in-None-clause-did
returns-in-None-clause-did g c = λ y. chain-none (OneCall g.A.Frags.did g.B.Frags.did c.args.merge.now.due y) true (merge_state c.args.merge.now c.args.home.now c.args.store.now)

pub returns-in-Ok-clause-did : goal.returns-in-Ok-clause-did
returns-in-Ok-clause-did g c = λ y. subst (λ (d : Option Pos). InTurn (OneCall g.A.Frags.did g.B.Frags.did d y) true (merge_state c.args.merge.now c.args.home.now c.args.store.now) (merge_state c.go_on_in_both.new.merge c.go_on_in_both.new.home c.go_on_in_both.new.store)) (sym (sym c.take.ensures.value ∙ c.in-Some.is)) (c.in-Ok.ensures.did y)

pub returns-in-Err-clause-did : goal.returns-in-Err-clause-did
returns-in-Err-clause-did g c = λ y. subst (λ (d : Option Pos). InTurn (OneCall g.A.Frags.did g.B.Frags.did d y) false (merge_state c.args.merge.now c.args.home.now c.args.store.now) (merge_state c.go_on_in_both.new.merge c.go_on_in_both.new.home c.go_on_in_both.new.store)) (sym (sym c.take.ensures.value ∙ c.in-Some.is)) (c.in-Err.ensures.did y)

pub returns-in-None-clause-ready : goal.returns-in-None-clause-ready
returns-in-None-clause-ready g c = c.requires.ready

pub returns-in-Ok-clause-ready : goal.returns-in-Ok-clause-ready
returns-in-Ok-clause-ready g c = c.go_on_in_both.ensures.ready

pub returns-in-Ok-clause-moves : goal.returns-in-Ok-clause-moves
returns-in-Ok-clause-moves g c = c.go_on_in_both.ensures.moves

pub returns-in-Err-clause-ready : goal.returns-in-Err-clause-ready
returns-in-Err-clause-ready g c = c.go_on_in_both.ensures.ready

pub returns-in-Err-clause-moves : goal.returns-in-Err-clause-moves
returns-in-Err-clause-moves g c = c.go_on_in_both.ensures.moves

pub returns-in-None-clause-damage : goal.returns-in-None-clause-damage
returns-in-None-clause-damage g c = blames-none (SpotsOfBoth g.A.Frags.damage g.B.Frags.damage c.args.merge.now) _ tt

pub returns-in-Ok-clause-damage : goal.returns-in-Ok-clause-damage
returns-in-Ok-clause-damage g c = c.in-Ok.ensures.damage

pub returns-in-Err-clause-damage : goal.returns-in-Err-clause-damage
returns-in-Err-clause-damage g c = c.in-Err.ensures.damage
