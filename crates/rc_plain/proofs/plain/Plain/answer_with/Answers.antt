-- The join of the changes and both memtables' writes.
use Rattle.std.proofs.Common.{◌≡◌, ◌++◌, List, subst}
use Rattle.std.proofs.lemmas.Result.{IfOk-weaker}
use Rattle.rc_query.specs.declared.lines.OutLine.{OutLine}
use Rattle.rc_query.specs.Answer.{answer}
use Rattle.rc_mutation.specs.Source.{changes_to}
use Rattle.rc_plain.specs.Stands.{Keeping}
use Rattle.rc_plain.proofs.Standing.{answered_with}
use Rattle.rc_plain.proofs.plain.Plain.answer_with.Goals as goal

pub returns : goal.returns
returns c = λ changes is.
    IfOk-weaker c.answer_of.result _ _
    (λ (lines : List OutLine) given.
    subst (λ (k : Keeping). lines ≡ answer (changes ++ changes_to c.args.key.now (k.sealed ++ k.active)) c.args.slice.now) c.self.view_is
    (answered_with c.self.inside.sealed c.self.inside.active c.args.key.now c.args.slice.now lines c.args.change c.in_ok-sealed.sealed c.join.new.self c.in_ok-active.active c.join-2.new.self changes is c.in_ok-sealed.ensures c.in_ok-join.ensures.ok c.in_ok-active.ensures c.in_ok-join-2.ensures.ok given))
    c.answer_of.ensures
