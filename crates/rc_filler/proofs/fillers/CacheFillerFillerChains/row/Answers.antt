use Rattle.std.proofs.Common.{refl}
use Rattle.rc_filler.specs.Fills.{OfRow}
use Rattle.rc_filler.proofs.fillers.CacheFillerFillerChains.row.Goals as goal

pub returns-clause-known : goal.returns-clause-known
returns-clause-known g c = c.what_came_of_a_fill.ensures.known g.row.S c.args.self.now (OfRow c.args.key.now c.args.row.now c.args.tomb) c.take_row.result c.args.home.now c.take_row.new.home c.requires.source.0 c.counts_in_range.ensures c.known.ensures.rule
    c.take_row.ensures.came c.requires.source.1 c.requires.source.2

pub returns-clause-keeps : goal.returns-clause-keeps
returns-clause-keeps g c = c.what_came_of_a_fill.ensures.keeps g.row.S c.args.self.now (OfRow c.args.key.now c.args.row.now c.args.tomb) c.take_row.result c.args.home.now c.take_row.new.home c.requires.source.0 c.counts_in_range.ensures c.known.ensures.rule
    c.take_row.ensures.came c.requires.source.1 c.requires.source.2

pub returns-clause-stands : goal.returns-clause-stands
returns-clause-stands g c = λ writes stood said. c.what_came_of_a_fill.ensures.stands g.row.S c.args.self.now (OfRow c.args.key.now c.args.row.now c.args.tomb) c.take_row.result c.args.home.now c.take_row.new.home writes c.known.ensures.rule
    c.take_row.ensures.came stood said

pub returns-clause-sound : goal.returns-clause-sound
returns-clause-sound g c = λ writes stands. c.what_came_of_a_fill.ensures.sound g.row.S c.take_row.new.home c.args.self.now writes stands

pub returns-clause-did : goal.returns-clause-did
returns-clause-did g c = record {
  same = refl;
  done = c.what_came_of_a_fill.ensures.done g.row.S c.args.self.now.chain c.args.self.now.pin (OfRow c.args.key.now c.args.row.now c.args.tomb) c.take_row.result c.args.home.now c.take_row.new.home
      c.take_row.ensures.came;
}
