use Rattle.lsa_region.specs.laws.Ends.{past-links}
use Rattle.lsa_region.proofs.laws.past_the_links_nothing_is_set.Goals as goal

pub returns : goal.returns
returns c = past-links
