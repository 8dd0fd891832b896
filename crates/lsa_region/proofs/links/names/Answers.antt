use Rattle.std.proofs.Common.{◌≡◌, Some, true, sym, ap, ◌∙◌}
use Rattle.lsa_region.specs.Ends.{same_end}
use Rattle.lsa_region.specs.laws.Exchanges.{same_equal, same_itself}
use Rattle.lsa_region.proofs.links.names.Goals as goal

pub returns-in-Some-clause-yes : goal.returns-in-Some-clause-yes
returns-in-Some-clause-yes c = λ e. c.in-Some.is ∙ ap (λ x. Some x) (same_equal c.in-Some.mate c.args.end (sym c.same.ensures ∙ e))

pub returns-in-Some-clause-no : goal.returns-in-Some-clause-no
returns-in-Some-clause-no c = λ e named. let both = sym c.in-Some.is ∙ named in let one : c.in-Some.mate ≡ c.args.end = cc in let yes : same_end c.in-Some.mate c.args.end ≡ true = ap (λ x. same_end x c.args.end) one ∙ same_itself c.args.end in let clash = sym yes ∙ (sym c.same.ensures ∙ e) in cc
