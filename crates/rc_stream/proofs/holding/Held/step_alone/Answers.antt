-- The first was taken, and told.
use Rattle.std.proofs.Common.{sym, ap, ◌∙◌, subst, cond}
use Rattle.rc_cell.specs.Greatest.{greater}
use Rattle.rc_cell.specs.Orders.{tomb_cmp}
use Rattle.rc_stream.specs.Merging.{changes_nothing}
use Rattle.rc_stream.specs.calls.Merging.{beside}
use Rattle.rc_stream.specs.Holding.{held_fragments}
use Rattle.rc_stream.specs.calls.Holding.{TakesFirst, fragment_step, look_past}
use Rattle.rc_stream.proofs.Held.{alone-is, took-none, took-one, dropped-beside, silent-beside, place-beside}
use Rattle.rc_stream.proofs.holding.Held.step_alone.Goals as goal

pub returns-in-None-clause-took : goal.returns-in-None-clause-took
returns-in-None-clause-took c = took-none c.args.self.now c.take.new.self c.in-None.ensures.gives c.take.ensures.left c.take.ensures.tomb c.take.ensures.look

pub returns-in-Some-clause-step : goal.returns-in-Some-clause-step
returns-in-Some-clause-step c =
    c.tell.ensures.step
    ∙ (λ i. fragment_step (c.greater_tomb-before.ensures i) (c.beside.ensures i))
    ∙ ap (λ t. fragment_step (greater tomb_cmp t c.args.other) (beside c.args.other c.in-Some.frag)) c.tomb.ensures
    ∙ alone-is _ c.args.other c.in-Some.frag (held_fragments c.args.self.now) c.in-Some.ensures.gives

pub returns-in-Some-clause-took : goal.returns-in-Some-clause-took
returns-in-Some-clause-took c =
    let t = c.greater_tomb-before.result in
    let f = c.in-Some.frag in
    let a = beside c.args.other f in
    subst (λ s. TakesFirst s c.args.self.now c.tell.new.self) (sym (c.tell.ensures.step ∙ ap (fragment_step t) c.beside.ensures))
    (took-one c.args.self.now c.take.new.self c.tell.new.self f a t c.in-Some.ensures.gives c.take.ensures.left c.take.ensures.tomb c.take.ensures.look c.tell.ensures.front
    (c.tell.ensures.look ∙ ap (λ b. cond (changes_nothing t b) (look_past b c.take.new.self.look) c.take.new.self.look) c.beside.ensures ∙ ap (λ l. cond (changes_nothing t a) l c.take.new.self.look) (dropped-beside c.args.other f c.take.new.self.look))
    (silent-beside t c.args.other f)
    (place-beside c.args.other f))
