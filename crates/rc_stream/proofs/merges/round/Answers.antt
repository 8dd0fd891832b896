-- A step of what is held of both is one of both merged.
use Rattle.std.proofs.Common.{sym, subst, None}
use Rattle.rc_stream.specs.declared.holding.Held.{Held}
use Rattle.rc_stream.specs.Both.{SpotsOfBoth}
use Rattle.rc_stream.specs.Did.{OneCall, merge_state}
use Rattle.rc_stream.specs.Holding.{held_fragments}
use Rattle.rc_stream.specs.calls.Holding.{turn_of}
use Rattle.rc_stream.specs.Moving.{Holds, IsPutBack}
use Rattle.rc_stream.proofs.Blaming.{blames-err, blames-memory, blames-ok}
use Rattle.rc_stream.proofs.Chains.{chain-stopped}
use Rattle.rc_stream.proofs.Going.{does-ours, does-theirs, reaches-on}
use Rattle.rc_stream.proofs.Looking.{May}
use Rattle.rc_stream.proofs.Rounds.{step-upto}
use Rattle.rc_stream.proofs.Wholes.{step-holds, two-on}
use Rattle.rc_stream.proofs.merges.round.Goals as goal

pub returns-in-Ok-make_step-clause-says : goal.returns-in-Ok-make_step-clause-says
returns-in-Ok-make_step-clause-says g c = λ s b.
    let n = c.look_at_both.new.merge in
    let k = c.look_at_both.new.home in
    let u = c.look_at_both.new.store in
    let l = c.in-Ok.ensures.known s b in
    step-holds (g.A.Frags.seen n.ours.stream k u) (g.B.Frags.seen n.theirs.stream k u) c.args.upto.now n.ours.held n.theirs.held c.make_step.new.ours c.make_step.new.theirs c.in-Ok-make_step.step s l.0.ours l.0.theirs l.0.first l.0.second l.0.joins l.1 l.2 c.in-Ok-make_step.ensures.does

pub returns-in-Err-make_step-clause-says : goal.returns-in-Err-make_step-clause-says
returns-in-Err-make_step-clause-says g c = λ s b.
    let n = c.look_at_both.new.merge in
    let k = c.look_at_both.new.home in
    let u = c.look_at_both.new.store in
    two-on (Holds g.A.Frags.seen n.ours k u) (Holds g.B.Frags.seen n.theirs k u) (IsPutBack (g.A.Frags.seen n.ours.stream k u) c.make_step.new.ours) (IsPutBack (g.B.Frags.seen n.theirs.stream k u) c.make_step.new.theirs) s
    (λ t r. subst (λ z. IsPutBack (g.A.Frags.seen n.ours.stream k u) z t) (sym c.in-Err-make_step.ensures.err.0) r)
    (λ t r. subst (λ z. IsPutBack (g.B.Frags.seen n.theirs.stream k u) z t) (sym c.in-Err-make_step.ensures.err.1) r)
    (c.look_at_both.ensures.holds s b)

pub returns-in-Err-clause-says : goal.returns-in-Err-clause-says
returns-in-Err-clause-says g c = λ s b. c.look_at_both.ensures.holds s b

pub returns-in-Ok-make_step-clause-ahead : goal.returns-in-Ok-make_step-clause-ahead
returns-in-Ok-make_step-clause-ahead g c = λ x r may.
    let n = c.look_at_both.new.merge in
    let step = c.in-Ok-make_step.step in
    let now = c.look_at_both.ensures.ahead x may in (
      λ y on from. now.0 y on (does-ours (turn_of c.args.upto.now (held_fragments n.ours.held) (held_fragments n.theirs.held)) step n.ours.held n.theirs.held c.make_step.new.ours c.make_step.new.theirs c.in-Ok-make_step.ensures.does y (reaches-on step x y on r) from),
      λ y on from. now.1 y on (does-theirs (turn_of c.args.upto.now (held_fragments n.ours.held) (held_fragments n.theirs.held)) step n.ours.held n.theirs.held c.make_step.new.ours c.make_step.new.theirs c.in-Ok-make_step.ensures.does y (reaches-on step x y on r) from),
    )

pub returns-in-Err-make_step-clause-ahead : goal.returns-in-Err-make_step-clause-ahead
returns-in-Err-make_step-clause-ahead g c = λ x _ may.
    let n = c.look_at_both.new.merge in
    let now = c.look_at_both.ensures.ahead x may in
    (subst (λ (z : Held). May (g.A.Frags.ahead n.ours.stream) z.look x) (sym c.in-Err-make_step.ensures.err.0) now.0, subst (λ (z : Held). May (g.B.Frags.ahead n.theirs.stream) z.look x) (sym c.in-Err-make_step.ensures.err.1) now.1)

pub returns-in-Err-clause-ahead : goal.returns-in-Err-clause-ahead
returns-in-Err-clause-ahead g c = λ x _ may. c.look_at_both.ensures.ahead x may

pub returns-in-Ok-make_step-clause-ready : goal.returns-in-Ok-make_step-clause-ready
returns-in-Ok-make_step-clause-ready g c = c.look_at_both.ensures.ready

pub returns-in-Ok-make_step-clause-due : goal.returns-in-Ok-make_step-clause-due
returns-in-Ok-make_step-clause-due g c = c.look_at_both.ensures.due

pub returns-in-Ok-make_step-clause-moves : goal.returns-in-Ok-make_step-clause-moves
returns-in-Ok-make_step-clause-moves g c = c.look_at_both.ensures.moves

pub returns-in-Err-make_step-clause-ready : goal.returns-in-Err-make_step-clause-ready
returns-in-Err-make_step-clause-ready g c = c.look_at_both.ensures.ready

pub returns-in-Err-make_step-clause-due : goal.returns-in-Err-make_step-clause-due
returns-in-Err-make_step-clause-due g c = c.look_at_both.ensures.due

pub returns-in-Err-make_step-clause-moves : goal.returns-in-Err-make_step-clause-moves
returns-in-Err-make_step-clause-moves g c = c.look_at_both.ensures.moves

pub returns-in-Err-clause-ready : goal.returns-in-Err-clause-ready
returns-in-Err-clause-ready g c = c.look_at_both.ensures.ready

pub returns-in-Err-clause-due : goal.returns-in-Err-clause-due
returns-in-Err-clause-due g c = c.look_at_both.ensures.due

pub returns-in-Err-clause-moves : goal.returns-in-Err-clause-moves
returns-in-Err-clause-moves g c = c.look_at_both.ensures.moves

pub returns-in-Ok-make_step-clause-did : goal.returns-in-Ok-make_step-clause-did
returns-in-Ok-make_step-clause-did g c = c.in-Ok.ensures.did

pub returns-in-Err-make_step-clause-did : goal.returns-in-Err-make_step-clause-did
returns-in-Err-make_step-clause-did g c = λ y covers. chain-stopped (OneCall g.A.Frags.did g.B.Frags.did None y) (merge_state c.args.merge.now c.args.home.now c.args.store.now) (merge_state c.look_at_both.new.merge c.look_at_both.new.home c.look_at_both.new.store) (c.in-Ok.ensures.did y covers)

pub returns-in-Err-clause-did : goal.returns-in-Err-clause-did
returns-in-Err-clause-did g c = c.in-Err.ensures.did

pub returns-in-Ok-make_step-clause-upto : goal.returns-in-Ok-make_step-clause-upto
returns-in-Ok-make_step-clause-upto g c =
    let n = c.look_at_both.new.merge in
    step-upto c.args.upto.now c.in-Ok-make_step.step n.ours.held n.theirs.held c.make_step.new.ours c.make_step.new.theirs c.in-Ok-make_step.ensures.does

pub returns-in-Ok-make_step-clause-damage : goal.returns-in-Ok-make_step-clause-damage
returns-in-Ok-make_step-clause-damage g c = blames-ok (SpotsOfBoth g.A.Frags.damage g.B.Frags.damage c.args.merge.now) (SpotsOfBoth g.A.Frags.damage g.B.Frags.damage c.look_at_both.new.merge) c.look_at_both.result _ c.look_at_both.ensures.damage

pub returns-in-Err-make_step-clause-damage : goal.returns-in-Err-make_step-clause-damage
returns-in-Err-make_step-clause-damage g c = blames-memory (SpotsOfBoth g.A.Frags.damage g.B.Frags.damage c.args.merge.now) (SpotsOfBoth g.A.Frags.damage g.B.Frags.damage c.look_at_both.new.merge) c.look_at_both.result c.look_at_both.ensures.damage

pub returns-in-Err-clause-damage : goal.returns-in-Err-clause-damage
returns-in-Err-clause-damage g c = blames-err (SpotsOfBoth g.A.Frags.damage g.B.Frags.damage c.args.merge.now) (SpotsOfBoth g.A.Frags.damage g.B.Frags.damage c.look_at_both.new.merge) c.in-Err.error c.in-Err.ensures.damage
