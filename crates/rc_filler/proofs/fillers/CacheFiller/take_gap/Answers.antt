use Rattle.rc_filler.specs.Fills.{OfGap}
use Rattle.rc_filler.proofs.Coming.{came-named}
use Rattle.rc_filler.proofs.fillers.CacheFiller.take_gap.Goals as goal

pub returns-clause-came : goal.returns-clause-came
returns-clause-came g c =
    came-named g.row.S (OfGap c.args.from.now c.args.to.now c.args.tomb) c.take_gap-fill.result c.snap-snap.result.chain c.snap-snap.result.pin c.args.self.now.chain c.args.self.now.pin c.args.home.now c.take_gap-fill.new.chains c.snap-snap.ensures.chain c.snap-snap.ensures.pin c.take_gap-fill.ensures

pub returns-clause-loses : goal.returns-clause-loses
returns-clause-loses g c = λ from to.
    c.what_came_of_a_fill.ensures.loses g.row.S c.args.self.now.chain c.args.self.now.pin (OfGap c.args.from.now c.args.to.now c.args.tomb) c.take_gap-fill.result c.args.home.now c.take_gap-fill.new.chains c.counts_in_range.ensures c.shrunk_in_range.ensures
    (returns-clause-came g c) (λ unfit. unfit (from, to))
