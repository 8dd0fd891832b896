-- By the equation.
use Rattle.std.proofs.Common.{sym, subst}
use Rattle.rc_paging.proofs.standing.the_same_is_ready.Goals as goal

pub returns : goal.returns
returns g c = λ a b h w e r. subst (λ x. g.A.Frags.ready x h w) (sym e) r
