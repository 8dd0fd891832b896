use Rattle.rc_filler.specs.Fills.{OfRow}
use Rattle.rc_filler.proofs.Coming.{came-named}
use Rattle.rc_filler.proofs.fillers.CacheFiller.take_row.Goals as goal

pub returns-clause-came : goal.returns-clause-came
returns-clause-came g c =
    came-named g.row.S (OfRow c.args.key.now c.args.row.now c.args.tomb) c.take_row-fill.result c.snap-snap.result.chain c.snap-snap.result.pin c.args.self.now.chain c.args.self.now.pin c.args.home.now c.take_row-fill.new.chains c.snap-snap.ensures.chain c.snap-snap.ensures.pin c.take_row-fill.ensures

pub returns-clause-loses : goal.returns-clause-loses
returns-clause-loses g c = λ written.
    c.what_came_of_a_fill.ensures.loses g.row.S c.args.self.now.chain c.args.self.now.pin (OfRow c.args.key.now c.args.row.now c.args.tomb) c.take_row-fill.result c.args.home.now c.take_row-fill.new.chains c.counts_in_range.ensures c.shrunk_in_range.ensures
    (returns-clause-came g c) written
