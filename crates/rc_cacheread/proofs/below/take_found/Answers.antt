-- Each way to go on from what was read.
use Rattle.rc_stream.specs.Snapshot.{SayThere}
use Rattle.std.proofs.Common.{refl, sym, subst, inr}
use Rattle.rc_stream.specs.Places.{Reaches}
use Rattle.rc_cacheread.specs.declared.readers.Stage.TheVariants.{Away}
use Rattle.rc_cacheread.specs.declared.spots.Step.TheVariants as step
use Rattle.rc_cacheread.specs.calls.Below.{Tells, TookFound}
use Rattle.rc_cacheread.specs.laws.Orders.{before-reaches, reach-through}
use Rattle.rc_cacheread.proofs.Orders.{before-reach, near-is, near-on, not-le, not-lt, reach-before}
use Rattle.rc_cacheread.proofs.below.take_found.Goals as goal

pub take_end-requires-clause-source : goal.take_end-requires-clause-source
take_end-requires-clause-source g c =
    let writes = c.requires.source.0 in
    let t = c.requires.source.2 in
    (writes, c.requires.source.1, (λ y h b. subst (Tells (SayThere writes) c.args.spot.now.place c.args.near c.args.end c.args.spot.now.tomb) c.in-Change.is t y h (before-reaches y c.args.end c.in-Change.from b (not-lt c.in-Change.from c.args.end (sym c.if-lt.ensures)))))

pub take_end-requires-then-le-clause-source : goal.take_end-requires-then-le-clause-source
take_end-requires-then-le-clause-source g c =
    let writes = c.requires.source.0 in
    let t = c.requires.source.2 in (
      writes,
      c.requires.source.1,
      (λ y h b. subst (Tells (SayThere writes) c.args.spot.now.place c.args.near c.args.end c.args.spot.now.tomb) c.in-Nothing.is t y h
          (subst (Reaches y) (sym c.requires.near) (near-on y c.args.upto.now c.args.end (reach-through y c.args.end c.args.upto.now (before-reach y c.args.end b) (sym c.if-le.ensures)) b))
          b),
    )

pub take_upto-requires-clause-source : goal.take_upto-requires-clause-source
take_upto-requires-clause-source g c =
    let writes = c.requires.source.0 in
    let t = c.requires.source.2 in (
      writes,
      c.requires.source.1,
      (λ y h n. subst (Tells (SayThere writes) c.args.spot.now.place c.args.near c.args.end c.args.spot.now.tomb) c.in-Nothing.is t y h n
          (reach-before y c.args.upto.now c.args.end (reach-through y c.args.near c.args.upto.now n (subst (λ z. Reaches z c.args.upto.now) (sym c.requires.near) (near-is c.args.upto.now c.args.end).0)) (not-le c.args.end c.args.upto.now (sym c.if-le.ensures)))),
    )

pub take_upto-requires-clause-on : goal.take_upto-requires-clause-on
take_upto-requires-clause-on g c = c.requires.on

pub returns-else-le-clause-took : goal.returns-else-le-clause-took
returns-else-le-clause-took g c = subst (λ f. TookFound f c.args.near c.args.end c.args.upto.now c.args.spot.now c.take_upto.new.spot c.args.stage.now c.args.stage.now step.Nothing) (sym c.in-Nothing.is) (inr (not-le c.args.end c.args.upto.now (sym c.if-le.ensures), c.take_upto.ensures.took, refl, refl))

pub returns-else-lt-clause-took : goal.returns-else-lt-clause-took
returns-else-lt-clause-took g c = subst (λ f. TookFound f c.args.near c.args.end c.args.upto.now c.args.spot.now c.take_end.new.spot c.args.stage.now Away step.Passed) (sym c.in-Change.is) (inr (not-lt c.in-Change.from c.args.end (sym c.if-lt.ensures), c.take_end.ensures.took, refl), refl)

pub take_row-requires-clause-source : goal.take_row-requires-clause-source
take_row-requires-clause-source g c =
    let writes = c.requires.source.0 in
    let t = c.requires.source.2 in
    (writes, c.requires.source.1, (subst (Tells (SayThere writes) c.args.spot.now.place c.args.near c.args.end c.args.spot.now.tomb) c.in-Row.is t).0, (subst (Tells (SayThere writes) c.args.spot.now.place c.args.near c.args.end c.args.spot.now.tomb) c.in-Row.is t).1)

pub take_change-requires-clause-source : goal.take_change-requires-clause-source
take_change-requires-clause-source g c =
    let writes = c.requires.source.0 in
    let t = c.requires.source.2 in
    (writes, c.requires.source.1, subst (Tells (SayThere writes) c.args.spot.now.place c.args.near c.args.end c.args.spot.now.tomb) c.in-Change.is t)

pub returns-in-Row-clause-stands : goal.returns-in-Row-clause-stands
returns-in-Row-clause-stands g c = λ writes d t.
    c.take_row.ensures.stands writes d (subst (Tells (SayThere writes) c.args.spot.now.place c.args.near c.args.end c.args.spot.now.tomb) c.in-Row.is t).0 (subst (Tells (SayThere writes) c.args.spot.now.place c.args.near c.args.end c.args.spot.now.tomb) c.in-Row.is t).1

pub returns-then-lt-clause-stands : goal.returns-then-lt-clause-stands
returns-then-lt-clause-stands g c = λ writes d t.
    c.take_change.ensures.stands writes d (subst (Tells (SayThere writes) c.args.spot.now.place c.args.near c.args.end c.args.spot.now.tomb) c.in-Change.is t)

pub returns-else-lt-clause-stands : goal.returns-else-lt-clause-stands
returns-else-lt-clause-stands g c = λ writes d t.
    c.take_end.ensures.stands writes d (λ y h b. subst (Tells (SayThere writes) c.args.spot.now.place c.args.near c.args.end c.args.spot.now.tomb) c.in-Change.is t y h (before-reaches y c.args.end c.in-Change.from b (not-lt c.in-Change.from c.args.end (sym c.if-lt.ensures))))

pub returns-then-le-clause-stands : goal.returns-then-le-clause-stands
returns-then-le-clause-stands g c = λ writes d t.
    c.take_end-then-le.ensures.stands writes d (λ y h b. subst (Tells (SayThere writes) c.args.spot.now.place c.args.near c.args.end c.args.spot.now.tomb) c.in-Nothing.is t y h
    (subst (Reaches y) (sym c.requires.near) (near-on y c.args.upto.now c.args.end (reach-through y c.args.end c.args.upto.now (before-reach y c.args.end b) (sym c.if-le.ensures)) b))
    b)

pub returns-else-le-clause-stands : goal.returns-else-le-clause-stands
returns-else-le-clause-stands g c = λ writes d t.
    c.take_upto.ensures.stands writes d (λ y h n. subst (Tells (SayThere writes) c.args.spot.now.place c.args.near c.args.end c.args.spot.now.tomb) c.in-Nothing.is t y h n
    (reach-before y c.args.upto.now c.args.end (reach-through y c.args.near c.args.upto.now n (subst (λ z. Reaches z c.args.upto.now) (sym c.requires.near) (near-is c.args.upto.now c.args.end).0)) (not-le c.args.end c.args.upto.now (sym c.if-le.ensures))))
