use Rattle.rc_position.specs.declared.positions.Weight.TheVariants.{After, Before}
use Rattle.rc_chain_tests.proofs.Bare.{ascend, before-after, fits, takes}
use Rattle.rc_chain_tests.proofs.chains.is_known_from_the_first.Goals as goal

pub marks_of_known-requires-clause-limits : goal.marks_of_known-requires-clause-limits
marks_of_known-requires-clause-limits c = fits Before c.bare-from.result c.bare-from.ensures

pub marks_of_known-requires-clause-size : goal.marks_of_known-requires-clause-size
marks_of_known-requires-clause-size c = takes Before c.bare-from.result c.bare-from.ensures

pub marks_of_known-requires-clause-ascend : goal.marks_of_known-requires-clause-ascend
marks_of_known-requires-clause-ascend c = ascend Before After before-after c.bare-from.result c.bare-end.result c.bare-from.ensures c.bare-end.ensures
