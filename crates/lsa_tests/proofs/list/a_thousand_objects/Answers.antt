use Rattle.std.proofs.Common.{◌∙◌}
use Rattle.lsa_region.specs.declared.end.End.TheVariants.{Slot}
use Rattle.lsa_tests.proofs.list.a_thousand_objects.Goals as goal

pub empty-beside-requires-clause-first : goal.empty-beside-requires-clause-first
empty-beside-requires-clause-first g c = c.in_ok-back.ensures.added.ends (Slot c.in_ok-front.front) c.in_ok-front.ensures.added.here

pub empty-beside-requires-clause-first_unset : goal.empty-beside-requires-clause-first_unset
empty-beside-requires-clause-first_unset g c = c.in_ok-back.ensures.added.links (Slot c.in_ok-front.front) ∙ c.in_ok-front.ensures.added.unset
