-- What is held and what is due do not change the head.
use Rattle.std.proofs.Common.{◌∙◌}
use Rattle.rc_stream.specs.Both.{HoldBoth, MaySeekBoth, MightBoth, SoughtBoth}
use Rattle.rc_stream.specs.Did.{has_answer}
use Rattle.rc_stream.proofs.Due.{after-none, after-on, ahead-on, due-of-head, due-on, head-after}
use Rattle.rc_stream.proofs.Showing.{shown-answer}
use Rattle.rc_stream.proofs.merges.MergeFrags.head.Goals as goal

pub head_of_both-requires-clause-ready : goal.head_of_both-requires-clause-ready
head_of_both-requires-clause-ready g c = c.requires.0

pub head_of_both-requires-clause-keeps : goal.head_of_both-requires-clause-keeps
head_of_both-requires-clause-keeps g c = c.requires.1

pub returns-clause-head : goal.returns-clause-head
returns-clause-head g c = λ s. head-after (HoldBoth g.A.Frags.seen g.B.Frags.seen c.args.self.now c.args.home.now c.args.store.now) c.args.self.now.due c.head_of_both.result s c.head_of_both.ensures.head

pub returns-clause-shown : goal.returns-clause-shown
returns-clause-shown g c = λ f. shown-answer (MightBoth g.A.Frags.might g.B.Frags.might c.args.self.now) (HoldBoth g.A.Frags.seen g.B.Frags.seen c.head_of_both.new.merge c.head_of_both.new.home c.head_of_both.new.store) (SoughtBoth g.A.Frags.seen g.B.Frags.seen c.head_of_both.new.merge c.head_of_both.new.home c.head_of_both.new.store) c.head_of_both.result (λ s b. after-none (HoldBoth g.A.Frags.seen g.B.Frags.seen c.head_of_both.new.merge c.head_of_both.new.home c.head_of_both.new.store) c.head_of_both.new.merge.due s (c.head_of_both.ensures.due ∙ f.4) b) (c.head_of_both.ensures.shown f)

pub returns-clause-fresh : goal.returns-clause-fresh
returns-clause-fresh g c = c.head_of_both.ensures.fresh

pub returns-clause-might : goal.returns-clause-might
returns-clause-might g c = c.head_of_both.ensures.might

pub returns-clause-seen : goal.returns-clause-seen
returns-clause-seen g c = after-on (HoldBoth g.A.Frags.seen g.B.Frags.seen c.args.self.now c.args.home.now c.args.store.now) (HoldBoth g.A.Frags.seen g.B.Frags.seen c.head_of_both.new.merge c.head_of_both.new.home c.head_of_both.new.store) c.args.self.now.due c.head_of_both.new.merge.due c.head_of_both.ensures.due c.head_of_both.ensures.seen

pub returns-clause-ahead : goal.returns-clause-ahead
returns-clause-ahead g c = ahead-on (MaySeekBoth g.A.Frags.ahead g.B.Frags.ahead c.args.self.now) (MaySeekBoth g.A.Frags.ahead g.B.Frags.ahead c.head_of_both.new.merge) c.args.self.now.due c.head_of_both.new.merge.due c.head_of_both.ensures.due c.head_of_both.ensures.ahead

pub returns-clause-ready : goal.returns-clause-ready
returns-clause-ready g c = (c.head_of_both.ensures.ready, c.requires.1, due-on (MaySeekBoth g.A.Frags.ahead g.B.Frags.ahead c.args.self.now) (MaySeekBoth g.A.Frags.ahead g.B.Frags.ahead c.head_of_both.new.merge) c.args.self.now.due c.head_of_both.new.merge.due c.head_of_both.ensures.due c.head_of_both.ensures.ahead c.requires.2)

pub returns-clause-did : goal.returns-clause-did
returns-clause-did g c = record { calls = c.head_of_both.ensures.did; leaves = due-of-head c.args.self.now.due c.head_of_both.new.merge.due (has_answer c.head_of_both.result) c.head_of_both.ensures.due }

pub returns-clause-moves : goal.returns-clause-moves
returns-clause-moves g c = c.head_of_both.ensures.moves

pub returns-clause-damage : goal.returns-clause-damage
returns-clause-damage g c = c.head_of_both.ensures.damage
