-- Nothing stands up to the position, nor at it.
use Rattle.rc_cacheread.specs.calls.Below.{Filling}
use Rattle.rc_cacheread.proofs.Chains.{many-many, none}
use Rattle.rc_cacheread.proofs.Orders.{before-reach, reach-itself}
use Rattle.std.specs.Prelude.{⊤}
use Rattle.std.proofs.Common.{ap, refl}
use Rattle.rc_cell.specs.Winner.{empty_row}
use Rattle.rc_stream.specs.Snapshot.{Throughout}
use Rattle.rc_cacheread.specs.Passing.{IsKnownOver}
use Rattle.rc_cacheread.specs.Spots.{past_row}
use Rattle.rc_cacheread.proofs.Passed.{over-ends, over-gap, over-still, taken-then}
use Rattle.rc_cacheread.proofs.filling.take_upto.Goals as goal

pub fill_gap-requires-clause-source : goal.fill_gap-requires-clause-source
fill_gap-requires-clause-source g c = (c.requires.source.0, c.requires.source.1, λ y h b. c.requires.source.2 y h (before-reach y c.args.upto b))

pub fill_none-requires-clause-source : goal.fill_none-requires-clause-source
fill_none-requires-clause-source g c = (c.requires.source.0, c.fill_gap.ensures.stands c.requires.source.0 c.requires.source.1 (λ y h b. c.requires.source.2 y h (before-reach y c.args.upto b)), c.requires.source.2 c.args.upto c.requires.on (reach-itself c.args.upto))

pub returns-clause-did : goal.returns-clause-did
returns-clause-did g c = many-many (λ ok. Filling g.P.Filler.fills) (c.args.filler.now, c.args.home.now) (c.fill_gap.new.filler, c.fill_gap.new.home) (c.fill_none.new.filler, c.fill_none.new.home) c.fill_gap.ensures.did c.fill_none.ensures.did

pub returns-clause-taken : goal.returns-clause-taken
returns-clause-taken g c =
    let p = c.args.filler.now in
    let h = c.args.home.now in
    let s = c.args.spot.now in
    let x = c.args.upto in
    let knows = g.P.Filler.knows c.fill_gap.new.filler c.fill_gap.new.home in
    let now = g.P.Filler.knows c.fill_none.new.filler c.fill_none.new.home in
    taken-then g.P.Filler.may g.P.Filler.lost g.P.Filler.knows p c.fill_gap.new.filler c.fill_none.new.filler h c.fill_gap.new.home c.fill_none.new.home (Throughout s.place x (λ z. knows z (empty_row, s.tomb))) ⊤ (IsKnownOver now s.place (past_row s.row x))
    (c.requires.lost p h c.fill_gap.new.filler c.fill_gap.new.home (none (λ ok. Filling g.P.Filler.fills) (p, h)) c.fill_gap.ensures.did)
    (c.requires.lost c.fill_gap.new.filler c.fill_gap.new.home c.fill_none.new.filler c.fill_none.new.home c.fill_gap.ensures.did c.fill_none.ensures.did)
    (λ k a b. over-ends now s.place s.place x (past_row s.row x) refl (ap (λ z. past_row z x) c.requires.unread) (over-still knows now k s.place x (over-gap knows s.place x s.tomb a)))
    c.fill_gap.ensures.taken c.fill_none.ensures.taken

pub returns-clause-stands : goal.returns-clause-stands
returns-clause-stands g c = λ writes d t. c.fill_none.ensures.stands writes (c.fill_gap.ensures.stands writes d (λ y h b. t y h (before-reach y c.args.upto b))) (t c.args.upto c.requires.on (reach-itself c.args.upto))
