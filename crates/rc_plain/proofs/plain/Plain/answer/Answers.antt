-- The tables can be read, and what they say and what the memtables say is joined.
use Rattle.std.proofs.Common.{List, sym, subst}
use Rattle.std.proofs.lemmas.Result.{err_from_is_err_and}
use Rattle.rc_mutation.specs.declared.mutations.Mutation.{Mutation}
use Rattle.rc_mutation.specs.Source.{IsJoinOf}
use Rattle.rc_machine.specs.State.{State}
use Rattle.rc_machine.specs.Standing.{IsOver}
use Rattle.rc_machine.specs.Steps.{IsSaid}
use Rattle.rc_plain.specs.Stands.{Keeping}
use Rattle.rc_plain.proofs.Standing.{answered, damage_seen}
use Rattle.rc_plain.proofs.plain.Plain.answer.Goals as goal

pub read-requires : goal.read-requires
read-requires g c =
    subst (λ (k : Keeping). (m : State) × IsOver (g.W.Store.files c.args.store.now) k.schema k.infos m) (sym c.self.view_is) (c.requires.0, c.requires.1.over)

pub returns-in-Ok-clause-lines : goal.returns-in-Ok-clause-lines
returns-in-Ok-clause-lines g c =
    let files = g.W.Store.files c.args.store.now in
    let said : (m : State) → IsOver files c.args.self.now.schema c.args.self.now.infos m → (said : List Mutation) × IsSaid m c.args.key.now said × IsJoinOf c.in_ok-change.change said =
    subst (λ (k : Keeping). (m : State) → IsOver files k.schema k.infos m → (said : List Mutation) × IsSaid m c.args.key.now said × IsJoinOf c.in_ok-change.change said) c.self.view_is
    c.in_ok-change.ensures.said in
    answered files c.args.self.now c.args.key.now c.args.slice.now c.in-Ok.lines c.in_ok-change.change said (λ changes is. c.in-Ok.ensures changes is)

pub returns-in_err-change-clause-damaged : goal.returns-in_err-change-clause-damaged
returns-in_err-change-clause-damaged g c =
    let p = err_from_is_err_and c.from_residual.result c.from_residual.ensures.1 in
    rw (p.1, p.2) (damage_seen _ _ c.args.key.now _ c.self.view_is c.in_err-change.ensures.damaged)
