use Rattle.std.proofs.Common.{◌∷◌, [], sym, subst}
use Rattle.std.proofs.lemmas.Result.{IfOk-weaker}
use Rattle.rc_mutation.specs.declared.mutations.Mutation.{Mutation}
use Rattle.rc_mutation.specs.Source.{IsJoinOf}
use Rattle.rc_mutation.specs.laws.Sources.{IsJoinOf-one}
use Rattle.rc_plain.proofs.joining.copied.Goals as goal

pub returns : goal.returns
returns c =
    IfOk-weaker c.copy.result _ _ (λ (m : Mutation) is. subst (λ (m : Mutation). IsJoinOf m (c.args.change.now ∷ [])) (sym is) (IsJoinOf-one c.args.change.now c.holds_together.ensures)) c.copy.ensures
