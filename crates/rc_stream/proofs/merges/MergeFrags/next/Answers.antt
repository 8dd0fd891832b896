-- The calls of a seek that was due, and those of the rounds.
use Rattle.std.proofs.Common.{◌∙◌, None}
use Rattle.rc_stream.specs.Both.{HoldBoth, MaySeekBoth, SoughtBoth, SpotsOfBoth}
use Rattle.rc_stream.specs.Leaving.{left_by}
use Rattle.rc_stream.specs.Did.{OneCall, has_answer, merge_state}
use Rattle.rc_stream.proofs.Blaming.{blames-after, blames-err}
use Rattle.rc_stream.proofs.Chains.{also-due, chain-after, chain-on}
use Rattle.rc_stream.proofs.Due.{after-none, ahead-none, due-of-next, none-after, none-ahead, not-due}
use Rattle.rc_stream.proofs.Ending.{covers-on}
use Rattle.rc_stream.proofs.Going.{moved-moved}
use Rattle.rc_stream.proofs.merges.MergeFrags.next.Goals as goal

pub settle-requires-clause-ready : goal.settle-requires-clause-ready
settle-requires-clause-ready g c = c.requires.0

pub settle-requires-clause-keeps : goal.settle-requires-clause-keeps
settle-requires-clause-keeps g c = c.requires.1

pub settle-requires-clause-due : goal.settle-requires-clause-due
settle-requires-clause-due g c = c.requires.2

pub next_of_both-requires-clause-ready : goal.next_of_both-requires-clause-ready
next_of_both-requires-clause-ready g c = c.settle.ensures.ready

pub next_of_both-requires-clause-keeps : goal.next_of_both-requires-clause-keeps
next_of_both-requires-clause-keeps g c = c.requires.1

pub returns-in-Ok-clause-gives : goal.returns-in-Ok-clause-gives
returns-in-Ok-clause-gives g c = λ s b. c.next_of_both.ensures.gives s (none-after (HoldBoth g.A.Frags.seen g.B.Frags.seen c.settle.new.merge c.settle.new.home c.settle.new.store) c.settle.new.merge.due s c.in-Ok.ensures.ok (c.settle.ensures.seen s b))

pub returns-in-Ok-clause-seen : goal.returns-in-Ok-clause-seen
returns-in-Ok-clause-seen g c = λ s b. after-none (HoldBoth g.A.Frags.seen g.B.Frags.seen c.next_of_both.new.merge c.next_of_both.new.home c.next_of_both.new.store) c.next_of_both.new.merge.due (left_by c.next_of_both.result s) (c.next_of_both.ensures.due ∙ c.in-Ok.ensures.ok) (c.next_of_both.ensures.left s (none-after (HoldBoth g.A.Frags.seen g.B.Frags.seen c.settle.new.merge c.settle.new.home c.settle.new.store) c.settle.new.merge.due s c.in-Ok.ensures.ok (c.settle.ensures.seen s b)))

pub returns-in-Ok-clause-ahead : goal.returns-in-Ok-clause-ahead
returns-in-Ok-clause-ahead g c = λ x p r. ahead-none (MaySeekBoth g.A.Frags.ahead g.B.Frags.ahead c.next_of_both.new.merge) c.next_of_both.new.merge.due x (c.next_of_both.ensures.due ∙ c.in-Ok.ensures.ok) (c.next_of_both.ensures.ahead x p (none-ahead (MaySeekBoth g.A.Frags.ahead g.B.Frags.ahead c.settle.new.merge) c.settle.new.merge.due x c.in-Ok.ensures.ok (c.settle.ensures.ahead x r)))

pub returns-in-Ok-clause-ready : goal.returns-in-Ok-clause-ready
returns-in-Ok-clause-ready g c = (c.next_of_both.ensures.ready, c.requires.1, not-due (MaySeekBoth g.A.Frags.ahead g.B.Frags.ahead c.next_of_both.new.merge) c.next_of_both.new.merge.due (c.next_of_both.ensures.due ∙ c.in-Ok.ensures.ok))

pub returns-in-Ok-clause-moves : goal.returns-in-Ok-clause-moves
returns-in-Ok-clause-moves g c = moved-moved g.A.Frags.moves g.B.Frags.moves c.args.home.now c.args.store.now c.settle.new.home c.settle.new.store c.next_of_both.new.home c.next_of_both.new.store c.settle.ensures.moves c.next_of_both.ensures.moves

pub returns-in-Ok-clause-did : goal.returns-in-Ok-clause-did
returns-in-Ok-clause-did g c = λ y covers.
    let ok = has_answer c.next_of_both.result in
    let due = c.args.self.now.due in
    let on = covers-on (SoughtBoth g.A.Frags.seen g.B.Frags.seen c.args.self.now c.args.home.now c.args.store.now) (HoldBoth g.A.Frags.seen g.B.Frags.seen c.settle.new.merge c.settle.new.home c.settle.new.store) c.args.upto.now y (λ s b. none-after (HoldBoth g.A.Frags.seen g.B.Frags.seen c.settle.new.merge c.settle.new.home c.settle.new.store) c.settle.new.merge.due s c.in-Ok.ensures.ok (c.settle.ensures.seen s b)) covers in
    record { calls = chain-after (OneCall g.A.Frags.did g.B.Frags.did due y) ok (merge_state c.args.self.now c.args.home.now c.args.store.now) (merge_state c.settle.new.merge c.settle.new.home c.settle.new.store) (merge_state c.next_of_both.new.merge c.next_of_both.new.home c.next_of_both.new.store) (c.in-Ok.ensures.did y) (chain-on (OneCall g.A.Frags.did g.B.Frags.did None y) (OneCall g.A.Frags.did g.B.Frags.did due y) (also-due due y g.A.Frags.did g.B.Frags.did) ok (merge_state c.settle.new.merge c.settle.new.home c.settle.new.store) (merge_state c.next_of_both.new.merge c.next_of_both.new.home c.next_of_both.new.store) (c.next_of_both.ensures.did y on)); leaves = due-of-next due c.next_of_both.new.merge.due y ok (c.next_of_both.ensures.due ∙ c.in-Ok.ensures.ok) }

pub returns-in-Ok-clause-damage : goal.returns-in-Ok-clause-damage
returns-in-Ok-clause-damage g c = blames-after (SpotsOfBoth g.A.Frags.damage g.B.Frags.damage c.args.self.now) (SpotsOfBoth g.A.Frags.damage g.B.Frags.damage c.settle.new.merge) (SpotsOfBoth g.A.Frags.damage g.B.Frags.damage c.next_of_both.new.merge) c.settle.result c.next_of_both.result c.settle.ensures.damage c.next_of_both.ensures.damage

pub returns-in-Ok-clause-store : goal.returns-in-Ok-clause-store
returns-in-Ok-clause-store g c = (c.next_of_both.ensures.store.0 ∙ c.settle.ensures.store.0, c.next_of_both.ensures.store.1 ∙ c.settle.ensures.store.1)

pub returns-in-Err-clause-seen : goal.returns-in-Err-clause-seen
returns-in-Err-clause-seen g c = c.settle.ensures.seen

pub returns-in-Err-clause-ahead : goal.returns-in-Err-clause-ahead
returns-in-Err-clause-ahead g c = λ x _ r. c.settle.ensures.ahead x r

pub returns-in-Err-clause-ready : goal.returns-in-Err-clause-ready
returns-in-Err-clause-ready g c = (c.settle.ensures.ready, c.requires.1, c.settle.ensures.due)

pub returns-in-Err-clause-moves : goal.returns-in-Err-clause-moves
returns-in-Err-clause-moves g c = c.settle.ensures.moves

pub returns-in-Err-clause-did : goal.returns-in-Err-clause-did
returns-in-Err-clause-did g c = λ y covers. record { calls = c.in-Err.ensures.did y; leaves = tt }

pub returns-in-Err-clause-damage : goal.returns-in-Err-clause-damage
returns-in-Err-clause-damage g c = blames-err (SpotsOfBoth g.A.Frags.damage g.B.Frags.damage c.args.self.now) (SpotsOfBoth g.A.Frags.damage g.B.Frags.damage c.settle.new.merge) c.in-Err.error c.in-Err.ensures.damage
