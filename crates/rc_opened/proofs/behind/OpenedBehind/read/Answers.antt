-- What was read behind the lines in front is put to them first.
use Rattle.std.proofs.Common.{◌≡◌, ◌++◌, length, take, ap, subst, arith}
use Rattle.std.specs.Prelude.{IfOk, nat_lt}
use Rattle.rc_opened.specs.declared.behind.OpenedBehind.{OpenedBehind}
use Rattle.rc_opened.specs.Opened.{left_behind}
use Rattle.rc_opened.proofs.InFront.{on_lines, on_reader, settled_left}
use Rattle.rc_opened.proofs.behind.OpenedBehind.read.Goals as goal

pub read_settled-requires : goal.read_settled-requires
read_settled-requires g c =
    let l = c.requires.1 in
    (omega arith, (ap (λ (o : OpenedBehind). o.ahead) c.in-Ok.ensures.ok, (l.rest, (settled_left _ c.args.chains.now c.args.self.now c.settle.new.self c.requires.0 c.in-Ok.ensures.ok l).1)))

pub returns-in-Ok-clause-gives : goal.returns-in-Ok-clause-gives
returns-in-Ok-clause-gives g c = λ lines l.
    let x = settled_left _ c.args.chains.now c.args.self.now c.settle.new.self lines c.in-Ok.ensures.ok l in
    subst (λ ls. IfOk c.read_settled.result (λ gave. gave.0 ≡ take c.args.count ls)) x.0 (c.read_settled.ensures.gives l.rest x.1)

pub returns-in-Ok-clause-more : goal.returns-in-Ok-clause-more
returns-in-Ok-clause-more g c = λ lines l.
    let x = settled_left _ c.args.chains.now c.args.self.now c.settle.new.self lines c.in-Ok.ensures.ok l in
    subst (λ ls. IfOk c.read_settled.result (λ gave. gave.1 ≡ nat_lt c.args.count (length ls))) x.0 (c.read_settled.ensures.more l.rest x.1)

pub returns-in-Ok-clause-left : goal.returns-in-Ok-clause-left
returns-in-Ok-clause-left g c = λ lines l.
    let x = settled_left _ c.args.chains.now c.args.self.now c.settle.new.self lines c.in-Ok.ensures.ok l in
    on_lines _ c.read_settled.new.chains c.read_settled.new.self (λ ls. left_behind c.read_settled.result c.args.count ls) (c.settle.new.self.front ++ l.rest) lines x.0 (c.read_settled.ensures.left l.rest x.1)

pub returns-in-Err-clause-left : goal.returns-in-Err-clause-left
returns-in-Err-clause-left g c = λ lines l. on_reader _ c.args.chains.now c.args.self.now c.settle.new.self lines c.in-Err.ensures.err l
