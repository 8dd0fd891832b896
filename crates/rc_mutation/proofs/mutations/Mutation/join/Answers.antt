-- Each part is that of both.
use Rattle.std.proofs.Common.{[], ◌∷◌, ap, ◌∙◌}
use Rattle.rc_cell.specs.Winner.{joined_row}
use Rattle.rc_mutation.specs.laws.Sources.{joined_two}
use Rattle.rc_mutation.proofs.mutations.Mutation.join.Goals as goal

pub returns-clause-ok : goal.returns-clause-ok
returns-clause-ok c =
    joined_two c.args.self.now c.args.other.now _ c.greater_tomb-self.ensures
    (c.in_ok-join.ensures.ok ∙ ap (λ r. joined_row (r ∷ c.args.other.now.statics ∷ [])) c.in_ok-statics.ensures)
    c.in_ok-rows.ensures c.in_ok-join-2.ensures.ok
