-- The change stands at the place or behind it.
use Rattle.std.proofs.Common.{refl, sym, inr, ap}
use Rattle.rc_cacheread.proofs.Orders.{not-lt}
use Rattle.rc_cacheread.specs.Spots.{past_row, stand}
use Rattle.rc_cacheread.proofs.Passed.{taken-gap, taken-nothing}
use Rattle.rc_cacheread.proofs.filling.take_change.Goals as goal

pub returns-clause-took : goal.returns-clause-took
returns-clause-took g c = inr (not-lt c.args.from c.args.spot.now.place (sym c.if-lt.ensures), refl, refl, refl, refl, refl, refl)

pub returns-then-lt-clause-taken : goal.returns-then-lt-clause-taken
returns-then-lt-clause-taken g c =
    taken-nothing g.P.Filler.may g.P.Filler.lost g.P.Filler.knows c.args.filler.now c.args.home.now c.args.spot.now.place (stand c.args.spot.now) (ap (λ z. past_row z c.args.spot.now.place) c.requires.unread)

pub returns-clause-taken : goal.returns-clause-taken
returns-clause-taken g c =
    taken-gap g.P.Filler.may g.P.Filler.lost g.P.Filler.knows c.args.filler.now c.fill_gap.new.filler c.args.home.now c.fill_gap.new.home c.args.spot.now.place c.args.from (past_row c.args.spot.now.row c.args.from) c.args.spot.now.tomb (ap (λ z. past_row z c.args.from) c.requires.unread) c.fill_gap.ensures.taken

pub fill_gap-requires-clause-source : goal.fill_gap-requires-clause-source
fill_gap-requires-clause-source g c = c.requires.source

pub returns-then-lt-clause-stands : goal.returns-then-lt-clause-stands
returns-then-lt-clause-stands g c = λ writes d t. d

pub returns-clause-stands : goal.returns-clause-stands
returns-clause-stands g c = c.fill_gap.ensures.stands
