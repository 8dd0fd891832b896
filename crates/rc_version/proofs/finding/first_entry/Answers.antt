use Rattle.std.proofs.Common.{arith, sym, ◌∙◌}
use Rattle.rc_version.proofs.Asked.{never-empty}
use Rattle.rc_version.proofs.Taken.{next-split}
use Rattle.rc_version.proofs.finding.first_entry.Goals as goal

pub first-requires : goal.first-requires
first-requires g c = (omega arith, (c.requires.0, c.requires.2.tree))

pub unreachable-requires : goal.unreachable-requires
unreachable-requires g c = never-empty c.args.region.now c.args.v c.requires.0 c.requires.1 c.requires.2 (sym (c.first.ensures c.requires.0 c.requires.2.tree) ∙ c.in-None.is)

pub returns : goal.returns
returns g c = λ refs d h. next-split refs c.in-Some.e (sym (c.first.ensures refs h.tree) ∙ c.in-Some.is)
