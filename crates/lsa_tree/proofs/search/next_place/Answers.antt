use Rattle.std.proofs.Common.{◌∙◌}
use Rattle.lsa_tree.proofs.Searches.{found-next, found-none}
use Rattle.lsa_tree.proofs.search.next_place.Goals as goal

pub returns-in-Some : goal.returns-in-Some
returns-in-Some c = λ v refs front back x is fits first. found-next v refs front back x is fits c.in-Some.r (first ∙ c.in-Some.is)

pub returns-in-None : goal.returns-in-None
returns-in-None c = λ v refs front back x is fits first. found-none v refs front back x is fits (first ∙ c.in-None.is)
