use Rattle.std.proofs.Common.{◌∙◌}
use Rattle.lsa_region.specs.declared.end.End.TheVariants.{Slot}
use Rattle.lsa_tree_tests.proofs.rooms.three_entries_beside_a_list_and_two_versions.Goals as goal

pub furnish-requires-clause-unset : goal.furnish-requires-clause-unset
furnish-requires-clause-unset g c = λ e. c.in_ok-back.ensures.added.links e ∙ c.in_ok-front.ensures.added.links e ∙ c.in_ok-chain.ensures.added.links e ∙ c.in_ok-region.ensures.unset e

pub furnish-requires-clause-first : goal.furnish-requires-clause-first
furnish-requires-clause-first g c = c.in_ok-back.ensures.added.ends (Slot c.in_ok-front.front) c.in_ok-front.ensures.added.here

pub furnish-requires-clause-third : goal.furnish-requires-clause-third
furnish-requires-clause-third g c =
    c.in_ok-back.ensures.added.ends (Slot c.in_ok-chain.chain) (c.in_ok-front.ensures.added.ends (Slot c.in_ok-chain.chain) c.in_ok-chain.ensures.added.here)
