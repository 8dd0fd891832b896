use Rattle.rc_version.proofs.Gaps.{at-once, never-last}
use Rattle.rc_version.proofs.splitting.split.Goals as goal

pub unreachable-requires : goal.unreachable-requires
unreachable-requires g c = never-last c.args.region.now c.args.v c.requires.version.0 c.requires.version.1 c.args.x.now c.requires.version.2 (c.in-Last.ensures c.requires.version.0 c.requires.version.2.tree)

pub returns-in-Here-clause-split : goal.returns-in-Here-clause-split
returns-in-Here-clause-split g c = at-once g.row.S c.args.region.now c.args.v c.in-Here.r c.args.x.now c.known.ensures.well (λ refs v h. c.in-Here.ensures refs h.tree) c.requires.version.0 c.requires.version.1 c.requires.version.2
