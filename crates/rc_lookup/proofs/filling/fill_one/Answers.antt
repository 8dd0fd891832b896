-- What a row or a change makes known.
use Rattle.rc_cached.specs.calls.Parts.{of_its_filler}
use Rattle.rc_lookup.proofs.Fills.{by-change, by-row}
use Rattle.rc_lookup.proofs.Limits.{fit-change, fit-row, written-row}
use Rattle.rc_lookup.proofs.filling.fill_one.Goals as goal

pub returns-in-Row-clause-known : goal.returns-in-Row-clause-known
returns-in-Row-clause-known g c = by-row (of_its_filler g.row.S) c.args.filler.now c.args.home.now c.args.filler.now c.fill_row.new.home c.args.reached.now.at c.args.frag.now c.in-Row.key c.in-Row.row c.fill_row.result c.in-Row.is c.fill_row.ensures.known

pub returns-in-Change-clause-known : goal.returns-in-Change-clause-known
returns-in-Change-clause-known g c = by-change (of_its_filler g.row.S) c.args.filler.now c.args.home.now c.args.filler.now c.fill_change.new.home c.args.reached.now.at c.args.frag.now c.in-Change.from c.in-Change.tomb c.fill_change.result c.in-Change.is c.fill_change.ensures.known

pub returns-in-Row-clause-loses : goal.returns-in-Row-clause-loses
returns-in-Row-clause-loses g c = λ at fit written. c.fill_row.ensures.loses at (fit-row c.args.frag.now c.in-Row.key c.in-Row.row c.in-Row.is fit) (written-row c.args.frag.now c.in-Row.key c.in-Row.row c.in-Row.is written)

pub returns-in-Change-clause-loses : goal.returns-in-Change-clause-loses
returns-in-Change-clause-loses g c = λ at fit written. c.fill_change.ensures.loses at (fit-change c.args.frag.now c.in-Change.from c.in-Change.tomb c.in-Change.is fit)
