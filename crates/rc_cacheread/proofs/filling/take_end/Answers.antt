-- Nothing stands before the end.
use Rattle.std.proofs.Common.{ap}
use Rattle.rc_cacheread.specs.Spots.{past_row}
use Rattle.rc_cacheread.proofs.Passed.{taken-gap}
use Rattle.rc_cacheread.proofs.filling.take_end.Goals as goal

pub returns-clause-taken : goal.returns-clause-taken
returns-clause-taken g c =
    taken-gap g.P.Filler.may g.P.Filler.lost g.P.Filler.knows c.args.filler.now c.fill_gap.new.filler c.args.home.now c.fill_gap.new.home c.args.spot.now.place c.args.end (past_row c.args.spot.now.row c.args.end) c.args.spot.now.tomb (ap (λ z. past_row z c.args.end) c.requires.unread) c.fill_gap.ensures.taken

pub fill_gap-requires-clause-source : goal.fill_gap-requires-clause-source
fill_gap-requires-clause-source g c = c.requires.source

pub returns-clause-stands : goal.returns-clause-stands
returns-clause-stands g c = c.fill_gap.ensures.stands
