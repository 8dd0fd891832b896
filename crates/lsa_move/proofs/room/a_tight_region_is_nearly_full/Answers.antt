use Rattle.lsa_move.proofs.Tightness.{tight-free, tight-closed, tight-live}
use Rattle.lsa_move.proofs.room.a_tight_region_is_nearly_full.Goals as goal

pub returns-clause-free : goal.returns-clause-free
returns-clause-free g c = tight-free g.row.S c.args._need c.args.region.now.usages c.known.ensures.layout.reserve c.requires.few c.requires.full

pub returns-clause-closed : goal.returns-clause-closed
returns-clause-closed g c = tight-closed g.row.S c.args._need c.args.region.now.usages c.known.ensures.layout.reserve c.known.ensures.active c.known.ensures.sound c.requires.few c.requires.full

pub returns-clause-live : goal.returns-clause-live
returns-clause-live g c = tight-live g.row.S c.args.region.now.usages c.known.ensures.some c.requires.tight (returns-clause-closed g c)
