-- The first of both were taken, and told as one.
use Rattle.std.proofs.Common.{sym, ap, ◌∙◌, subst, cond}
use Rattle.rc_cell.specs.Greatest.{greater}
use Rattle.rc_cell.specs.Orders.{tomb_cmp}
use Rattle.rc_stream.specs.Merging.{changes_nothing}
use Rattle.rc_stream.specs.calls.Merging.{together}
use Rattle.rc_stream.specs.Holding.{held_fragments}
use Rattle.rc_stream.specs.calls.Holding.{TakesFirst, fragment_step, look_past, row_of_both}
use Rattle.rc_stream.proofs.Held.{no_ours, no_theirs, one-place, paired-is, took-one, dropped-together, silent-ours, silent-theirs, place-together, row-first}
use Rattle.rc_stream.proofs.holding.step_both.Goals as goal

pub returns-clause-step : goal.returns-clause-step
returns-clause-step c =
    c.tell.ensures.step
    ∙ (λ i. fragment_step (c.greater_tomb-before.ensures i) (c.together-frag.ensures i))
    ∙ (λ i. fragment_step (greater tomb_cmp (c.tomb.ensures i) (c.tomb-2.ensures i)) (together c.in-Some.frag c.in-Some-take.other))
    ∙ paired-is _ c.in-Some.frag c.in-Some-take.other (held_fragments c.args.ours.now) (held_fragments c.args.theirs.now) c.in-Some.ensures.gives c.in-Some-take.ensures.gives

pub returns-clause-ours : goal.returns-clause-ours
returns-clause-ours c =
    let t = c.greater_tomb-before.result in
    let f = c.in-Some.frag in
    let g = c.in-Some-take.other in
    let a = together f g in
    let mid = c.take.new.self in
    subst (λ s. TakesFirst s c.args.ours.now c.tell.new.self) (sym (c.tell.ensures.step ∙ ap (fragment_step t) c.together-frag.ensures))
    (took-one c.args.ours.now mid c.tell.new.self f a t c.in-Some.ensures.gives c.take.ensures.left c.take.ensures.tomb c.take.ensures.look c.tell.ensures.front
    (c.tell.ensures.look ∙ ap (λ b. cond (changes_nothing t b) (look_past b mid.look) mid.look) c.together-frag.ensures ∙ ap (λ l. cond (changes_nothing t a) l mid.look) (dropped-together f g mid.look))
    (silent-ours f g t)
    (place-together f g))

pub returns-clause-theirs : goal.returns-clause-theirs
returns-clause-theirs c =
    let t = c.greater_tomb-before.result in
    let f = c.in-Some.frag in
    let g = c.in-Some-take.other in
    let a = together f g in
    let mid = c.take-2.new.self in
    let at = one-place f g (held_fragments c.args.ours.now) (held_fragments c.args.theirs.now) c.requires c.in-Some.ensures.gives c.in-Some-take.ensures.gives in
    subst (λ s. TakesFirst s c.args.theirs.now c.let_go.new.self) (sym (c.tell.ensures.step ∙ ap (fragment_step t) c.together-frag.ensures))
    (took-one c.args.theirs.now mid c.let_go.new.self g a t c.in-Some-take.ensures.gives c.take-2.ensures.left c.take-2.ensures.tomb c.take-2.ensures.look c.let_go.ensures.front
    (c.let_go.ensures.look ∙ ap (λ b. cond b (look_past g mid.look) mid.look) (c.is_silent.ensures ∙ ap (changes_nothing t) c.together-frag.ensures))
    (silent-theirs f g t at)
    (place-together f g ∙ at))

pub together-frag-requires : goal.together-frag-requires
together-frag-requires c =
    c.in_ok-row.ensures
    ∙ (λ i. row_of_both (row-first c.in-Some.frag (held_fragments c.args.ours.now) c.in-Some.ensures.gives i) (row-first c.in-Some-take.other (held_fragments c.args.theirs.now) c.in-Some-take.ensures.gives i))

pub returns-in_default-clause-step : goal.returns-in_default-clause-step
returns-in_default-clause-step c = absurd (no_ours (held_fragments c.args.ours.now) (held_fragments c.args.theirs.now) c.requires c.in_default.ensures.gives)

pub returns-in_default-clause-ours : goal.returns-in_default-clause-ours
returns-in_default-clause-ours c = absurd (no_ours (held_fragments c.args.ours.now) (held_fragments c.args.theirs.now) c.requires c.in_default.ensures.gives)

pub returns-in_default-clause-theirs : goal.returns-in_default-clause-theirs
returns-in_default-clause-theirs c = absurd (no_ours (held_fragments c.args.ours.now) (held_fragments c.args.theirs.now) c.requires c.in_default.ensures.gives)

pub returns-in_default-take-clause-step : goal.returns-in_default-take-clause-step
returns-in_default-take-clause-step c = absurd (no_theirs (held_fragments c.args.ours.now) (held_fragments c.args.theirs.now) c.requires c.in_default-take.ensures.gives)

pub returns-in_default-take-clause-ours : goal.returns-in_default-take-clause-ours
returns-in_default-take-clause-ours c = absurd (no_theirs (held_fragments c.args.ours.now) (held_fragments c.args.theirs.now) c.requires c.in_default-take.ensures.gives)

pub returns-in_default-take-clause-theirs : goal.returns-in_default-take-clause-theirs
returns-in_default-take-clause-theirs c = absurd (no_theirs (held_fragments c.args.ours.now) (held_fragments c.args.theirs.now) c.requires c.in_default-take.ensures.gives)
