-- Some of the lines in front; or all of them, and some of those behind.
use Rattle.std.proofs.Common.{◌≡◌, ◌+◌, ◌<◌, length, subst}
use Rattle.std.specs.Prelude.{IfOk}
use Rattle.rc_opened.proofs.InFront.{front_left, more_on, on_left, take_on}
use Rattle.rc_opened.proofs.behind.OpenedBehind.read_settled.Goals as goal

pub returns-then-count-made-clause-left : goal.returns-then-count-made-clause-left
returns-then-count-made-clause-left g c = λ rest h.
    front_left _ c.args.chains.now c.args.self.now c.give_front.new.self rest c.args.count c.give_front.result
    (subst (λ ls. c.args.count < length ls) c.as_slice-made.ensures c.if-count-made.true) c.requires.ahead c.give_front.ensures.ok c.give_front.ensures.err h

pub returns-else-count-made-clause-gives : goal.returns-else-count-made-clause-gives
returns-else-count-made-clause-gives g c = λ rest h.
    let e = subst (λ ls. c.wanted_behind.result + length ls ≡ c.args.count) c.as_slice-made.ensures c.wanted_behind.ensures in
    subst (λ ls. IfOk c.read_on.result (λ gave. gave.0 ≡ ls)) (take_on c.args.count c.wanted_behind.result c.args.self.now.front rest e) (c.read_on.ensures.gives rest h)

pub returns-else-count-made-clause-more : goal.returns-else-count-made-clause-more
returns-else-count-made-clause-more g c = λ rest h.
    let e = subst (λ ls. c.wanted_behind.result + length ls ≡ c.args.count) c.as_slice-made.ensures c.wanted_behind.ensures in
    subst (λ b. IfOk c.read_on.result (λ gave. gave.1 ≡ b)) (more_on c.args.count c.wanted_behind.result c.args.self.now.front rest e) (c.read_on.ensures.more rest h)

pub returns-else-count-made-clause-left : goal.returns-else-count-made-clause-left
returns-else-count-made-clause-left g c = λ rest h.
    let e = subst (λ ls. c.wanted_behind.result + length ls ≡ c.args.count) c.as_slice-made.ensures c.wanted_behind.ensures in
    on_left _ c.read_on.new.chains c.read_on.new.self c.args.self.now.front rest c.args.count c.wanted_behind.result c.read_on.result e (c.read_on.ensures.ok rest h) (c.read_on.ensures.err rest h)
