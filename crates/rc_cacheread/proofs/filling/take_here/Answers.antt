-- A change, or the lack of one, passes over nothing.
use Rattle.std.proofs.Common.{subst}
use Rattle.rc_stream.specs.Snapshot.{SayThere}
use Rattle.rc_cacheread.specs.calls.Below.{TellsHere}
use Rattle.rc_cacheread.specs.Spots.{stand}
use Rattle.rc_cacheread.proofs.Passed.{same-stand, taken-nothing}
use Rattle.rc_cacheread.proofs.filling.take_here.Goals as goal

pub returns-in-Change-clause-taken : goal.returns-in-Change-clause-taken
returns-in-Change-clause-taken g c =
    taken-nothing g.P.Filler.may g.P.Filler.lost g.P.Filler.knows c.args.filler.now c.args.home.now c.args.spot.now.place (stand c.change_to.new.self) (same-stand c.args.spot.now c.change_to.new.self c.change_to.ensures.place c.change_to.ensures.row c.requires.unread)

pub returns-clause-taken : goal.returns-clause-taken
returns-clause-taken g c =
    taken-nothing g.P.Filler.may g.P.Filler.lost g.P.Filler.knows c.args.filler.now c.args.home.now c.args.spot.now.place (stand c.change_to-in-Nothing.new.self) (same-stand c.args.spot.now c.change_to-in-Nothing.new.self c.change_to-in-Nothing.ensures.place c.change_to-in-Nothing.ensures.row c.requires.unread)

pub take_row_here-requires-clause-source : goal.take_row_here-requires-clause-source
take_row_here-requires-clause-source g c = (c.requires.source.0, c.requires.source.1, subst (TellsHere (SayThere c.requires.source.0) c.args.spot.now.place) c.in-Row.is c.requires.source.2)

pub returns-in-Row-clause-stands : goal.returns-in-Row-clause-stands
returns-in-Row-clause-stands g c = λ writes d t. c.take_row_here.ensures.stands writes d (subst (TellsHere (SayThere writes) c.args.spot.now.place) c.in-Row.is t)

pub returns-in-Change-clause-stands : goal.returns-in-Change-clause-stands
returns-in-Change-clause-stands g c = λ writes d t. d

pub returns-clause-stands : goal.returns-clause-stands
returns-clause-stands g c = λ writes d t. d
