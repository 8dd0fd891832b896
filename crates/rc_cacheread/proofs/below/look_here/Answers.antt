-- What stands below at the place is taken.
use Rattle.std.proofs.Common.{Ok, true, false, refl, sym, subst, inl}
use Rattle.rc_stream.specs.Leaving.{left_by}
use Rattle.rc_stream.specs.Did.{OfNext}
use Rattle.rc_stream.specs.Snapshot.{SayThere}
use Rattle.rc_cacheread.specs.declared.readers.Stage.TheVariants.{Within}
use Rattle.rc_cacheread.specs.declared.spots.Step.TheVariants as step
use Rattle.rc_cacheread.specs.calls.Below.{TellsHere, TookHere}
use Rattle.rc_cacheread.specs.Did.{ReaderCall}
use Rattle.rc_cacheread.specs.Sharing.{of_below, of_filler, of_known}
use Rattle.rc_cacheread.specs.Spots.{stand}
use Rattle.rc_cacheread.proofs.Chains.{chain-one, many-many, one}
use Rattle.rc_cacheread.proofs.Going.{Gone, at-on, gone-here, leads-here, tells-here}
use Rattle.rc_cacheread.proofs.Idle.{idle-front, idle-stand}
use Rattle.rc_cacheread.proofs.Leaving.{fills-left, kept-kept}
use Rattle.rc_cacheread.specs.laws.Orders.{reach-through}
use Rattle.rc_cacheread.proofs.Orders.{reach-itself}
use Rattle.rc_cacheread.proofs.Seeking.{idle-outcome}
use Rattle.rc_cacheread.proofs.Stepping.{below-call, end-reaches, fill-calls, led, no-whole, reader_of, ready-on, sees-on, stays-on, step-says}
use Rattle.rc_cacheread.specs.Passing.{IsKnownOver}
use Rattle.rc_cacheread.proofs.Filled.{filled-below, filled-read}
use Rattle.rc_cacheread.specs.laws.Passing.{over-nothing}
use Rattle.rc_cacheread.proofs.below.look_here.Goals as goal

pub take_here-requires-clause-ready : goal.take_here-requires-clause-ready
take_here-requires-clause-ready g c =
    let kn = (of_known g.K.Known.ready g.K.Known.place g.K.Known.knows g.K.Known.heads g.K.Known.did) in
    let be = (of_below g.F.Frags.ready g.F.Frags.seen g.F.Frags.ahead g.F.Frags.moves g.F.Frags.did) in
    let fi = (of_filler g.P.Filler.ready g.P.Filler.fits g.P.Filler.may g.P.Filler.lost g.P.Filler.stands g.P.Filler.knows g.P.Filler.knows_statics g.P.Filler.fills) in
    let r = c.args.reader.now in
    let h = c.args.home.now in
    let w = c.args.store.now in
    (c.requires.ready.shares.after_below r.known r.below c.next.new.self r.filler h w c.next.new.home c.next.new.store c.requires.ready.fit c.in-Ok.ensures.moves c.in-Ok.ensures.ready).0.filler

pub take_here-requires-clause-source : goal.take_here-requires-clause-source
take_here-requires-clause-source g c =
    let kn = (of_known g.K.Known.ready g.K.Known.place g.K.Known.knows g.K.Known.heads g.K.Known.did) in
    let be = (of_below g.F.Frags.ready g.F.Frags.seen g.F.Frags.ahead g.F.Frags.moves g.F.Frags.did) in
    let fi = (of_filler g.P.Filler.ready g.P.Filler.fits g.P.Filler.may g.P.Filler.lost g.P.Filler.stands g.P.Filler.knows g.P.Filler.knows_statics g.P.Filler.fills) in
    let r = c.args.reader.now in
    let h = c.args.home.now in
    let w = c.args.store.now in
    let after = c.requires.ready.shares.after_below r.known r.below c.next.new.self r.filler h w c.next.new.home c.next.new.store c.requires.ready.fit c.in-Ok.ensures.moves c.in-Ok.ensures.ready in
    let writes = c.requires.ready.writes in
    let l = led kn be fi writes r h w c.requires.ready.reads (no-whole kn be fi r h c.requires.idle c.requires.within c.requires.missing) in
    (writes, after.2 writes c.requires.ready.reads.stands, subst (TellsHere (SayThere writes) r.spot.place) (sym c.found.ensures) (tells-here writes (be.seen r.below h w) r.spot.place r.to r.spot.tomb c.in-Ok.got (leads-here writes (be.seen r.below h w) (stand r.spot) r.spot.place r.to r.spot.tomb r.stage c.requires.stage (idle-stand r.spot c.requires.idle) l) c.requires.within c.in-Ok.ensures.gives))

pub returns-in-Ok-clause-stays : goal.returns-in-Ok-clause-stays
returns-in-Ok-clause-stays g c =
    let kn = (of_known g.K.Known.ready g.K.Known.place g.K.Known.knows g.K.Known.heads g.K.Known.did) in
    let be = (of_below g.F.Frags.ready g.F.Frags.seen g.F.Frags.ahead g.F.Frags.moves g.F.Frags.did) in
    let fi = (of_filler g.P.Filler.ready g.P.Filler.fits g.P.Filler.may g.P.Filler.lost g.P.Filler.stands g.P.Filler.knows g.P.Filler.knows_statics g.P.Filler.fills) in
    let r = c.args.reader.now in
    let h = c.args.home.now in
    let w = c.args.store.now in
    let n = reader_of r.known c.next.new.self c.take_here.new.filler r.to c.take_here.new.spot Within r.lags in
    let after = c.requires.ready.shares.after_below r.known r.below c.next.new.self r.filler h w c.next.new.home c.next.new.store c.requires.ready.fit c.in-Ok.ensures.moves c.in-Ok.ensures.ready in
    let filled = fills-left kn be fi c.requires.ready.shares r.known c.next.new.self c.next.new.store (r.filler, c.next.new.home) (c.take_here.new.filler, c.take_here.new.home) c.take_here.ensures.did after.0 in
    let o : Gone (SayThere c.requires.ready.writes) (be.seen r.below h w) (be.seen c.next.new.self c.take_here.new.home c.next.new.store) r.to c.args.upto.now r.stage r.spot Within c.take_here.new.spot c.in-Ok.got step.Passed = (subst (λ b. Gone (SayThere c.requires.ready.writes) (be.seen r.below h w) (be.seen c.next.new.self c.take_here.new.home c.next.new.store) r.to c.args.upto.now b r.spot Within c.take_here.new.spot c.in-Ok.got step.Passed) (sym c.requires.stage) (gone-here (SayThere c.requires.ready.writes) (be.seen r.below h w) (be.seen c.next.new.self c.take_here.new.home c.next.new.store) r.to c.args.upto.now r.spot c.take_here.new.spot c.requires.idle c.requires.within c.in-Ok.got c.in-Ok.ensures.gives c.in-Ok.ensures.upto (λ t s. filled.seen (left_by (Ok c.in-Ok.got) t) (c.in-Ok.ensures.seen t s)) (subst (λ f. TookHere f r.spot c.take_here.new.spot) c.found.ensures c.take_here.ensures.took))) in
    stays-on kn be fi r n h c.take_here.new.home w c.next.new.store (λ writes d l. c.take_here.ensures.stands writes (after.2 writes d) (subst (TellsHere (SayThere writes) r.spot.place) (sym c.found.ensures) (tells-here writes (be.seen r.below h w) r.spot.place r.to r.spot.tomb c.in-Ok.got (leads-here writes (be.seen r.below h w) (stand r.spot) r.spot.place r.to r.spot.tomb r.stage c.requires.stage (idle-stand r.spot c.requires.idle) l) c.requires.within c.in-Ok.ensures.gives))) (no-whole kn be fi r h c.requires.idle c.requires.within c.requires.missing) o.outcome.carries o.on refl

pub returns-in-Ok-clause-says : goal.returns-in-Ok-clause-says
returns-in-Ok-clause-says g c = λ s d.
    let kn = (of_known g.K.Known.ready g.K.Known.place g.K.Known.knows g.K.Known.heads g.K.Known.did) in
    let be = (of_below g.F.Frags.ready g.F.Frags.seen g.F.Frags.ahead g.F.Frags.moves g.F.Frags.did) in
    let fi = (of_filler g.P.Filler.ready g.P.Filler.fits g.P.Filler.may g.P.Filler.lost g.P.Filler.stands g.P.Filler.knows g.P.Filler.knows_statics g.P.Filler.fills) in
    let r = c.args.reader.now in
    let h = c.args.home.now in
    let w = c.args.store.now in
    let n = reader_of r.known c.next.new.self c.take_here.new.filler r.to c.take_here.new.spot Within r.lags in
    let after = c.requires.ready.shares.after_below r.known r.below c.next.new.self r.filler h w c.next.new.home c.next.new.store c.requires.ready.fit c.in-Ok.ensures.moves c.in-Ok.ensures.ready in
    let filled = fills-left kn be fi c.requires.ready.shares r.known c.next.new.self c.next.new.store (r.filler, c.next.new.home) (c.take_here.new.filler, c.take_here.new.home) c.take_here.ensures.did after.0 in
    let kept = kept-kept kn be fi r.known r.known r.known r.filler r.filler c.take_here.new.filler h c.next.new.home c.take_here.new.home after.1 filled.kept in
    step-says kn be fi r n h c.take_here.new.home w c.next.new.store c.args.upto.now c.in-Ok.got step.Passed s d (returns-in-Ok-clause-stays g c) kept (idle-front r.spot c.requires.idle) refl (no-whole kn be fi r h c.requires.idle c.requires.within c.requires.missing) (subst (λ b. Gone (SayThere d.writes) (be.seen r.below h w) (be.seen c.next.new.self c.take_here.new.home c.next.new.store) r.to c.args.upto.now b r.spot Within c.take_here.new.spot c.in-Ok.got step.Passed) (sym c.requires.stage) (gone-here (SayThere d.writes) (be.seen r.below h w) (be.seen c.next.new.self c.take_here.new.home c.next.new.store) r.to c.args.upto.now r.spot c.take_here.new.spot c.requires.idle c.requires.within c.in-Ok.got c.in-Ok.ensures.gives c.in-Ok.ensures.upto (λ t s. filled.seen (left_by (Ok c.in-Ok.got) t) (c.in-Ok.ensures.seen t s)) (subst (λ f. TookHere f r.spot c.take_here.new.spot) c.found.ensures c.take_here.ensures.took)))

pub returns-in-Ok-clause-did : goal.returns-in-Ok-clause-did
returns-in-Ok-clause-did g c = λ y covers.
    let kn = (of_known g.K.Known.ready g.K.Known.place g.K.Known.knows g.K.Known.heads g.K.Known.did) in
    let be = (of_below g.F.Frags.ready g.F.Frags.seen g.F.Frags.ahead g.F.Frags.moves g.F.Frags.did) in
    let fi = (of_filler g.P.Filler.ready g.P.Filler.fits g.P.Filler.may g.P.Filler.lost g.P.Filler.stands g.P.Filler.knows g.P.Filler.knows_statics g.P.Filler.fills) in
    let r = c.args.reader.now in
    let h = c.args.home.now in
    let w = c.args.store.now in
    let on = end-reaches kn be fi r h w c.args.upto.now y c.requires.idle c.requires.near covers in
    let did = c.in-Ok.ensures.did y (inl on) in
    many-many (ReaderCall kn be fi (OfNext y)) (r.known, r.below, r.filler, h, w) (r.known, c.next.new.self, r.filler, c.next.new.home, c.next.new.store) (r.known, c.next.new.self, c.take_here.new.filler, c.take_here.new.home, c.next.new.store)
    (one (ReaderCall kn be fi (OfNext y)) (r.known, r.below, r.filler, h, w) (r.known, c.next.new.self, r.filler, c.next.new.home, c.next.new.store) (below-call kn be fi (OfNext y) r.known r.filler true r.below c.next.new.self h c.next.new.home w c.next.new.store (OfNext y) (inl refl) did))
    (fill-calls kn be fi (OfNext y) r.known c.next.new.self c.next.new.store r.filler c.take_here.new.filler c.next.new.home c.take_here.new.home (r.below, h, w, OfNext y, c.next.new.home, c.next.new.store, did) c.take_here.ensures.did)

pub returns-in-Ok-clause-ready : goal.returns-in-Ok-clause-ready
returns-in-Ok-clause-ready g c =
    let kn = (of_known g.K.Known.ready g.K.Known.place g.K.Known.knows g.K.Known.heads g.K.Known.did) in
    let be = (of_below g.F.Frags.ready g.F.Frags.seen g.F.Frags.ahead g.F.Frags.moves g.F.Frags.did) in
    let fi = (of_filler g.P.Filler.ready g.P.Filler.fits g.P.Filler.may g.P.Filler.lost g.P.Filler.stands g.P.Filler.knows g.P.Filler.knows_statics g.P.Filler.fills) in
    let r = c.args.reader.now in
    let h = c.args.home.now in
    let w = c.args.store.now in
    let n = reader_of r.known c.next.new.self c.take_here.new.filler r.to c.take_here.new.spot Within r.lags in
    let after = c.requires.ready.shares.after_below r.known r.below c.next.new.self r.filler h w c.next.new.home c.next.new.store c.requires.ready.fit c.in-Ok.ensures.moves c.in-Ok.ensures.ready in
    let filled = fills-left kn be fi c.requires.ready.shares r.known c.next.new.self c.next.new.store (r.filler, c.next.new.home) (c.take_here.new.filler, c.take_here.new.home) c.take_here.ensures.did after.0 in
    let o : Gone (SayThere c.requires.ready.writes) (be.seen r.below h w) (be.seen c.next.new.self c.take_here.new.home c.next.new.store) r.to c.args.upto.now r.stage r.spot Within c.take_here.new.spot c.in-Ok.got step.Passed = (subst (λ b. Gone (SayThere c.requires.ready.writes) (be.seen r.below h w) (be.seen c.next.new.self c.take_here.new.home c.next.new.store) r.to c.args.upto.now b r.spot Within c.take_here.new.spot c.in-Ok.got step.Passed) (sym c.requires.stage) (gone-here (SayThere c.requires.ready.writes) (be.seen r.below h w) (be.seen c.next.new.self c.take_here.new.home c.next.new.store) r.to c.args.upto.now r.spot c.take_here.new.spot c.requires.idle c.requires.within c.in-Ok.got c.in-Ok.ensures.gives c.in-Ok.ensures.upto (λ t s. filled.seen (left_by (Ok c.in-Ok.got) t) (c.in-Ok.ensures.seen t s)) (subst (λ f. TookHere f r.spot c.take_here.new.spot) c.found.ensures c.take_here.ensures.took))) in
    ready-on kn be fi r n h c.take_here.new.home w c.next.new.store c.requires.ready (returns-in-Ok-clause-stays g c) filled.fit
    (λ x on. c.in-Ok.ensures.ahead x (o.passes x on) (c.requires.ready.ahead x (reach-through (stand r.spot) (stand n.spot) x o.on on)))
    (at-on r.lags (kn.place r.known) (stand r.spot) (stand n.spot) c.requires.lags c.requires.ready.place o.on)

pub returns-in-Ok-clause-on : goal.returns-in-Ok-clause-on
returns-in-Ok-clause-on g c =
    let kn = (of_known g.K.Known.ready g.K.Known.place g.K.Known.knows g.K.Known.heads g.K.Known.did) in
    let be = (of_below g.F.Frags.ready g.F.Frags.seen g.F.Frags.ahead g.F.Frags.moves g.F.Frags.did) in
    let fi = (of_filler g.P.Filler.ready g.P.Filler.fits g.P.Filler.may g.P.Filler.lost g.P.Filler.stands g.P.Filler.knows g.P.Filler.knows_statics g.P.Filler.fills) in
    let r = c.args.reader.now in
    let h = c.args.home.now in
    let w = c.args.store.now in
    let after = c.requires.ready.shares.after_below r.known r.below c.next.new.self r.filler h w c.next.new.home c.next.new.store c.requires.ready.fit c.in-Ok.ensures.moves c.in-Ok.ensures.ready in
    let filled = fills-left kn be fi c.requires.ready.shares r.known c.next.new.self c.next.new.store (r.filler, c.next.new.home) (c.take_here.new.filler, c.take_here.new.home) c.take_here.ensures.did after.0 in
    let o : Gone (SayThere c.requires.ready.writes) (be.seen r.below h w) (be.seen c.next.new.self c.take_here.new.home c.next.new.store) r.to c.args.upto.now r.stage r.spot Within c.take_here.new.spot c.in-Ok.got step.Passed = (subst (λ b. Gone (SayThere c.requires.ready.writes) (be.seen r.below h w) (be.seen c.next.new.self c.take_here.new.home c.next.new.store) r.to c.args.upto.now b r.spot Within c.take_here.new.spot c.in-Ok.got step.Passed) (sym c.requires.stage) (gone-here (SayThere c.requires.ready.writes) (be.seen r.below h w) (be.seen c.next.new.self c.take_here.new.home c.next.new.store) r.to c.args.upto.now r.spot c.take_here.new.spot c.requires.idle c.requires.within c.in-Ok.got c.in-Ok.ensures.gives c.in-Ok.ensures.upto (λ t s. filled.seen (left_by (Ok c.in-Ok.got) t) (c.in-Ok.ensures.seen t s)) (subst (λ f. TookHere f r.spot c.take_here.new.spot) c.found.ensures c.take_here.ensures.took))) in
    o.on

pub returns-in-Err-clause-stays : goal.returns-in-Err-clause-stays
returns-in-Err-clause-stays g c =
    let kn = (of_known g.K.Known.ready g.K.Known.place g.K.Known.knows g.K.Known.heads g.K.Known.did) in
    let be = (of_below g.F.Frags.ready g.F.Frags.seen g.F.Frags.ahead g.F.Frags.moves g.F.Frags.did) in
    let fi = (of_filler g.P.Filler.ready g.P.Filler.fits g.P.Filler.may g.P.Filler.lost g.P.Filler.stands g.P.Filler.knows g.P.Filler.knows_statics g.P.Filler.fills) in
    let r = c.args.reader.now in
    let h = c.args.home.now in
    let w = c.args.store.now in
    let n = reader_of r.known c.next.new.self r.filler r.to r.spot r.stage r.lags in
    let after = c.requires.ready.shares.after_below r.known r.below c.next.new.self r.filler h w c.next.new.home c.next.new.store c.requires.ready.fit c.in-Err.ensures.moves c.in-Err.ensures.ready in
    stays-on kn be fi r n h c.next.new.home w c.next.new.store (λ writes d l. after.2 writes d) (no-whole kn be fi r h c.requires.idle c.requires.within c.requires.missing) (idle-outcome (SayThere c.requires.ready.writes) (be.seen r.below h w) (be.seen c.next.new.self c.next.new.home c.next.new.store) r.to r.spot c.requires.idle r.stage c.in-Err.ensures.seen).carries (reach-itself (stand r.spot)) refl

pub returns-in-Err-clause-says : goal.returns-in-Err-clause-says
returns-in-Err-clause-says g c = λ s d.
    let kn = (of_known g.K.Known.ready g.K.Known.place g.K.Known.knows g.K.Known.heads g.K.Known.did) in
    let be = (of_below g.F.Frags.ready g.F.Frags.seen g.F.Frags.ahead g.F.Frags.moves g.F.Frags.did) in
    let fi = (of_filler g.P.Filler.ready g.P.Filler.fits g.P.Filler.may g.P.Filler.lost g.P.Filler.stands g.P.Filler.knows g.P.Filler.knows_statics g.P.Filler.fills) in
    let r = c.args.reader.now in
    let h = c.args.home.now in
    let w = c.args.store.now in
    let n = reader_of r.known c.next.new.self r.filler r.to r.spot r.stage r.lags in
    let after = c.requires.ready.shares.after_below r.known r.below c.next.new.self r.filler h w c.next.new.home c.next.new.store c.requires.ready.fit c.in-Err.ensures.moves c.in-Err.ensures.ready in
    sees-on kn be fi r n h c.next.new.home w c.next.new.store s d (returns-in-Err-clause-stays g c) after.1 (idle-front r.spot c.requires.idle) refl (reach-itself (stand r.spot)) refl (no-whole kn be fi r h c.requires.idle c.requires.within c.requires.missing) (idle-outcome (SayThere d.writes) (be.seen r.below h w) (be.seen c.next.new.self c.next.new.home c.next.new.store) r.to r.spot c.requires.idle r.stage c.in-Err.ensures.seen)

pub returns-in-Err-clause-did : goal.returns-in-Err-clause-did
returns-in-Err-clause-did g c = λ y covers.
    let kn = (of_known g.K.Known.ready g.K.Known.place g.K.Known.knows g.K.Known.heads g.K.Known.did) in
    let be = (of_below g.F.Frags.ready g.F.Frags.seen g.F.Frags.ahead g.F.Frags.moves g.F.Frags.did) in
    let fi = (of_filler g.P.Filler.ready g.P.Filler.fits g.P.Filler.may g.P.Filler.lost g.P.Filler.stands g.P.Filler.knows g.P.Filler.knows_statics g.P.Filler.fills) in
    let r = c.args.reader.now in
    let h = c.args.home.now in
    let w = c.args.store.now in
    chain-one (ReaderCall kn be fi (OfNext y)) false (r.known, r.below, r.filler, h, w) (r.known, c.next.new.self, r.filler, c.next.new.home, c.next.new.store) (below-call kn be fi (OfNext y) r.known r.filler false r.below c.next.new.self h c.next.new.home w c.next.new.store (OfNext y) (inl refl) (c.in-Err.ensures.did y (inl (end-reaches kn be fi r h w c.args.upto.now y c.requires.idle c.requires.near covers))))

pub returns-in-Err-clause-ready : goal.returns-in-Err-clause-ready
returns-in-Err-clause-ready g c =
    let kn = (of_known g.K.Known.ready g.K.Known.place g.K.Known.knows g.K.Known.heads g.K.Known.did) in
    let be = (of_below g.F.Frags.ready g.F.Frags.seen g.F.Frags.ahead g.F.Frags.moves g.F.Frags.did) in
    let fi = (of_filler g.P.Filler.ready g.P.Filler.fits g.P.Filler.may g.P.Filler.lost g.P.Filler.stands g.P.Filler.knows g.P.Filler.knows_statics g.P.Filler.fills) in
    let r = c.args.reader.now in
    let h = c.args.home.now in
    let w = c.args.store.now in
    let n = reader_of r.known c.next.new.self r.filler r.to r.spot r.stage r.lags in
    let after = c.requires.ready.shares.after_below r.known r.below c.next.new.self r.filler h w c.next.new.home c.next.new.store c.requires.ready.fit c.in-Err.ensures.moves c.in-Err.ensures.ready in
    ready-on kn be fi r n h c.next.new.home w c.next.new.store c.requires.ready (returns-in-Err-clause-stays g c) after.0 (λ x on. c.in-Err.ensures.ahead x tt (c.requires.ready.ahead x on)) c.requires.ready.place

pub returns-in-Err-clause-on : goal.returns-in-Err-clause-on
returns-in-Err-clause-on g c = reach-itself (stand c.args.reader.now.spot)

pub take_here-requires-clause-unread : goal.take_here-requires-clause-unread
take_here-requires-clause-unread g c =
    c.requires.idle.row

pub returns-in-Ok-clause-filled : goal.returns-in-Ok-clause-filled
returns-in-Ok-clause-filled g c =
    let kn = (of_known g.K.Known.ready g.K.Known.place g.K.Known.knows g.K.Known.heads g.K.Known.did) in
    let be = (of_below g.F.Frags.ready g.F.Frags.seen g.F.Frags.ahead g.F.Frags.moves g.F.Frags.did) in
    let fi = (of_filler g.P.Filler.ready g.P.Filler.fits g.P.Filler.may g.P.Filler.lost g.P.Filler.stands g.P.Filler.knows g.P.Filler.knows_statics g.P.Filler.fills) in
    let r = c.args.reader.now in
    let h = c.args.home.now in
    let w = c.args.store.now in
    let after = c.requires.ready.shares.after_below r.known r.below c.next.new.self r.filler h w c.next.new.home c.next.new.store c.requires.ready.fit c.in-Ok.ensures.moves c.in-Ok.ensures.ready in
    let filled = fills-left kn be fi c.requires.ready.shares r.known c.next.new.self c.next.new.store (r.filler, c.next.new.home) (c.take_here.new.filler, c.take_here.new.home) c.take_here.ensures.did after.0 in
    filled-read kn be fi c.next.new.self c.next.new.store r.known r.filler c.take_here.new.filler h c.next.new.home c.take_here.new.home r.spot.place (stand r.spot) (stand c.take_here.new.spot) (idle-stand r.spot c.requires.idle) after filled c.take_here.ensures.taken

pub returns-in-Err-clause-filled : goal.returns-in-Err-clause-filled
returns-in-Err-clause-filled g c =
    let kn = (of_known g.K.Known.ready g.K.Known.place g.K.Known.knows g.K.Known.heads g.K.Known.did) in
    let be = (of_below g.F.Frags.ready g.F.Frags.seen g.F.Frags.ahead g.F.Frags.moves g.F.Frags.did) in
    let fi = (of_filler g.P.Filler.ready g.P.Filler.fits g.P.Filler.may g.P.Filler.lost g.P.Filler.stands g.P.Filler.knows g.P.Filler.knows_statics g.P.Filler.fills) in
    let r = c.args.reader.now in
    let h = c.args.home.now in
    let w = c.args.store.now in
    let after = c.requires.ready.shares.after_below r.known r.below c.next.new.self r.filler h w c.next.new.home c.next.new.store c.requires.ready.fit c.in-Err.ensures.moves c.in-Err.ensures.ready in
    filled-below kn be fi r.known r.filler h c.next.new.home (IsKnownOver (kn.knows r.known c.next.new.home) (stand r.spot) (stand r.spot)) after.1 after.3 (over-nothing (kn.knows r.known c.next.new.home) (stand r.spot) (stand r.spot) refl)

pub returns-in-Ok-clause-answered : goal.returns-in-Ok-clause-answered
returns-in-Ok-clause-answered g c =
    let place = c.args.reader.now.spot.place in
    (OfNext place, c.args.home.now, c.next.new.self, c.next.new.home, c.next.new.store, c.in-Ok.ensures.did place (inl (reach-itself place)))
