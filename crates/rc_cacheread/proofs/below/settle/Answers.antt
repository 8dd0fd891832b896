-- The stream below was sought to the place, or is as it was.
use Rattle.std.proofs.Common.{true, false, refl, sym, subst, inl, inr}
use Rattle.rc_stream.specs.Did.{OfNext, OfSeek}
use Rattle.rc_stream.specs.Places.{Reaches}
use Rattle.rc_stream.specs.Snapshot.{SayThere}
use Rattle.rc_cacheread.specs.Did.{ReaderCall}
use Rattle.rc_cacheread.specs.Sharing.{of_below, of_filler, of_known}
use Rattle.rc_cacheread.specs.Spots.{stand}
use Rattle.rc_cacheread.proofs.Chains.{chain-one}
use Rattle.rc_cacheread.proofs.Idle.{idle-front, idle-stand}
use Rattle.rc_cacheread.proofs.Orders.{reach-itself}
use Rattle.rc_cacheread.proofs.Seeking.{idle-outcome, sought-outcome}
use Rattle.rc_cacheread.proofs.Stepping.{below-call, no-whole, reader_of, ready-on, sees-on, stays-on}
use Rattle.std.specs.Prelude.{⊤}
use Rattle.rc_cacheread.proofs.Filled.{filled-below, filled-still}
use Rattle.rc_cacheread.proofs.below.settle.Goals as goal

pub seek-requires-clause-ahead : goal.seek-requires-clause-ahead
seek-requires-clause-ahead g c = c.requires.ready.ahead c.args.reader.now.spot.place (subst (λ x. Reaches x c.args.reader.now.spot.place) (sym (idle-stand c.args.reader.now.spot c.requires.idle)) (reach-itself c.args.reader.now.spot.place))

pub returns-in-Ok-clause-stays : goal.returns-in-Ok-clause-stays
returns-in-Ok-clause-stays g c =
    let kn = (of_known g.K.Known.ready g.K.Known.place g.K.Known.knows g.K.Known.heads g.K.Known.did) in
    let be = (of_below g.F.Frags.ready g.F.Frags.seen g.F.Frags.ahead g.F.Frags.moves g.F.Frags.did) in
    let fi = (of_filler g.P.Filler.ready g.P.Filler.fits g.P.Filler.may g.P.Filler.lost g.P.Filler.stands g.P.Filler.knows g.P.Filler.knows_statics g.P.Filler.fills) in
    let r = c.args.reader.now in
    let h = c.args.home.now in
    let w = c.args.store.now in
    let n = reader_of r.known c.seek.new.self r.filler r.to r.spot c.sought_stage-reader.result r.lags in
    let after = c.requires.ready.shares.after_below r.known r.below c.seek.new.self r.filler h w c.seek.new.home c.seek.new.store c.requires.ready.fit c.in-Ok.ensures.moves c.in-Ok.ensures.ready in
    stays-on kn be fi r n h c.seek.new.home w c.seek.new.store (λ writes d l. after.2 writes d) (no-whole kn be fi r h c.requires.idle c.requires.within c.requires.missing) (sought-outcome (SayThere c.requires.ready.writes) (be.seen r.below h w) (be.seen c.seek.new.self c.seek.new.home c.seek.new.store) r.to r.spot c.requires.idle r.stage c.sought_stage-reader.result c.sought_stage-reader.ensures c.in-Ok.ensures.seen).carries (reach-itself (stand r.spot)) refl

pub returns-in-Ok-clause-says : goal.returns-in-Ok-clause-says
returns-in-Ok-clause-says g c = λ s d.
    let kn = (of_known g.K.Known.ready g.K.Known.place g.K.Known.knows g.K.Known.heads g.K.Known.did) in
    let be = (of_below g.F.Frags.ready g.F.Frags.seen g.F.Frags.ahead g.F.Frags.moves g.F.Frags.did) in
    let fi = (of_filler g.P.Filler.ready g.P.Filler.fits g.P.Filler.may g.P.Filler.lost g.P.Filler.stands g.P.Filler.knows g.P.Filler.knows_statics g.P.Filler.fills) in
    let r = c.args.reader.now in
    let h = c.args.home.now in
    let w = c.args.store.now in
    let n = reader_of r.known c.seek.new.self r.filler r.to r.spot c.sought_stage-reader.result r.lags in
    let after = c.requires.ready.shares.after_below r.known r.below c.seek.new.self r.filler h w c.seek.new.home c.seek.new.store c.requires.ready.fit c.in-Ok.ensures.moves c.in-Ok.ensures.ready in
    sees-on kn be fi r n h c.seek.new.home w c.seek.new.store s d (returns-in-Ok-clause-stays g c) after.1 (idle-front r.spot c.requires.idle) refl (reach-itself (stand r.spot)) refl (no-whole kn be fi r h c.requires.idle c.requires.within c.requires.missing) (sought-outcome (SayThere d.writes) (be.seen r.below h w) (be.seen c.seek.new.self c.seek.new.home c.seek.new.store) r.to r.spot c.requires.idle r.stage c.sought_stage-reader.result c.sought_stage-reader.ensures c.in-Ok.ensures.seen)

pub returns-in-Ok-clause-did : goal.returns-in-Ok-clause-did
returns-in-Ok-clause-did g c = λ y on.
    let kn = (of_known g.K.Known.ready g.K.Known.place g.K.Known.knows g.K.Known.heads g.K.Known.did) in
    let be = (of_below g.F.Frags.ready g.F.Frags.seen g.F.Frags.ahead g.F.Frags.moves g.F.Frags.did) in
    let fi = (of_filler g.P.Filler.ready g.P.Filler.fits g.P.Filler.may g.P.Filler.lost g.P.Filler.stands g.P.Filler.knows g.P.Filler.knows_statics g.P.Filler.fills) in
    let r = c.args.reader.now in
    let h = c.args.home.now in
    let w = c.args.store.now in
    chain-one (ReaderCall kn be fi (OfNext y)) true (r.known, r.below, r.filler, h, w) (r.known, c.seek.new.self, r.filler, c.seek.new.home, c.seek.new.store) (below-call kn be fi (OfNext y) r.known r.filler true r.below c.seek.new.self h c.seek.new.home w c.seek.new.store (OfSeek r.spot.place) (inr (r.spot.place, refl, on)) c.in-Ok.ensures.did)

pub returns-in-Ok-clause-knows : goal.returns-in-Ok-clause-knows
returns-in-Ok-clause-knows g c =
    let kn = (of_known g.K.Known.ready g.K.Known.place g.K.Known.knows g.K.Known.heads g.K.Known.did) in
    let be = (of_below g.F.Frags.ready g.F.Frags.seen g.F.Frags.ahead g.F.Frags.moves g.F.Frags.did) in
    let fi = (of_filler g.P.Filler.ready g.P.Filler.fits g.P.Filler.may g.P.Filler.lost g.P.Filler.stands g.P.Filler.knows g.P.Filler.knows_statics g.P.Filler.fills) in
    let r = c.args.reader.now in
    let h = c.args.home.now in
    let w = c.args.store.now in
    (c.requires.ready.shares.after_below r.known r.below c.seek.new.self r.filler h w c.seek.new.home c.seek.new.store c.requires.ready.fit c.in-Ok.ensures.moves c.in-Ok.ensures.ready).3

pub returns-in-Ok-clause-ready : goal.returns-in-Ok-clause-ready
returns-in-Ok-clause-ready g c =
    let kn = (of_known g.K.Known.ready g.K.Known.place g.K.Known.knows g.K.Known.heads g.K.Known.did) in
    let be = (of_below g.F.Frags.ready g.F.Frags.seen g.F.Frags.ahead g.F.Frags.moves g.F.Frags.did) in
    let fi = (of_filler g.P.Filler.ready g.P.Filler.fits g.P.Filler.may g.P.Filler.lost g.P.Filler.stands g.P.Filler.knows g.P.Filler.knows_statics g.P.Filler.fills) in
    let r = c.args.reader.now in
    let h = c.args.home.now in
    let w = c.args.store.now in
    let n = reader_of r.known c.seek.new.self r.filler r.to r.spot c.sought_stage-reader.result r.lags in
    let after = c.requires.ready.shares.after_below r.known r.below c.seek.new.self r.filler h w c.seek.new.home c.seek.new.store c.requires.ready.fit c.in-Ok.ensures.moves c.in-Ok.ensures.ready in
    ready-on kn be fi r n h c.seek.new.home w c.seek.new.store c.requires.ready (returns-in-Ok-clause-stays g c) after.0 (λ x on. c.in-Ok.ensures.ahead x (subst (λ y. Reaches y x) (idle-stand r.spot c.requires.idle) on)) c.requires.ready.place

pub returns-in-Err-clause-stays : goal.returns-in-Err-clause-stays
returns-in-Err-clause-stays g c =
    let kn = (of_known g.K.Known.ready g.K.Known.place g.K.Known.knows g.K.Known.heads g.K.Known.did) in
    let be = (of_below g.F.Frags.ready g.F.Frags.seen g.F.Frags.ahead g.F.Frags.moves g.F.Frags.did) in
    let fi = (of_filler g.P.Filler.ready g.P.Filler.fits g.P.Filler.may g.P.Filler.lost g.P.Filler.stands g.P.Filler.knows g.P.Filler.knows_statics g.P.Filler.fills) in
    let r = c.args.reader.now in
    let h = c.args.home.now in
    let w = c.args.store.now in
    let n = reader_of r.known c.seek.new.self r.filler r.to r.spot r.stage r.lags in
    let after = c.requires.ready.shares.after_below r.known r.below c.seek.new.self r.filler h w c.seek.new.home c.seek.new.store c.requires.ready.fit c.in-Err.ensures.moves c.in-Err.ensures.ready in
    stays-on kn be fi r n h c.seek.new.home w c.seek.new.store (λ writes d l. after.2 writes d) (no-whole kn be fi r h c.requires.idle c.requires.within c.requires.missing) (idle-outcome (SayThere c.requires.ready.writes) (be.seen r.below h w) (be.seen c.seek.new.self c.seek.new.home c.seek.new.store) r.to r.spot c.requires.idle r.stage c.in-Err.ensures.seen).carries (reach-itself (stand r.spot)) refl

pub returns-in-Err-clause-says : goal.returns-in-Err-clause-says
returns-in-Err-clause-says g c = λ s d.
    let kn = (of_known g.K.Known.ready g.K.Known.place g.K.Known.knows g.K.Known.heads g.K.Known.did) in
    let be = (of_below g.F.Frags.ready g.F.Frags.seen g.F.Frags.ahead g.F.Frags.moves g.F.Frags.did) in
    let fi = (of_filler g.P.Filler.ready g.P.Filler.fits g.P.Filler.may g.P.Filler.lost g.P.Filler.stands g.P.Filler.knows g.P.Filler.knows_statics g.P.Filler.fills) in
    let r = c.args.reader.now in
    let h = c.args.home.now in
    let w = c.args.store.now in
    let n = reader_of r.known c.seek.new.self r.filler r.to r.spot r.stage r.lags in
    let after = c.requires.ready.shares.after_below r.known r.below c.seek.new.self r.filler h w c.seek.new.home c.seek.new.store c.requires.ready.fit c.in-Err.ensures.moves c.in-Err.ensures.ready in
    sees-on kn be fi r n h c.seek.new.home w c.seek.new.store s d (returns-in-Err-clause-stays g c) after.1 (idle-front r.spot c.requires.idle) refl (reach-itself (stand r.spot)) refl (no-whole kn be fi r h c.requires.idle c.requires.within c.requires.missing) (idle-outcome (SayThere d.writes) (be.seen r.below h w) (be.seen c.seek.new.self c.seek.new.home c.seek.new.store) r.to r.spot c.requires.idle r.stage c.in-Err.ensures.seen)

pub returns-in-Err-clause-did : goal.returns-in-Err-clause-did
returns-in-Err-clause-did g c = λ y on.
    let kn = (of_known g.K.Known.ready g.K.Known.place g.K.Known.knows g.K.Known.heads g.K.Known.did) in
    let be = (of_below g.F.Frags.ready g.F.Frags.seen g.F.Frags.ahead g.F.Frags.moves g.F.Frags.did) in
    let fi = (of_filler g.P.Filler.ready g.P.Filler.fits g.P.Filler.may g.P.Filler.lost g.P.Filler.stands g.P.Filler.knows g.P.Filler.knows_statics g.P.Filler.fills) in
    let r = c.args.reader.now in
    let h = c.args.home.now in
    let w = c.args.store.now in
    chain-one (ReaderCall kn be fi (OfNext y)) false (r.known, r.below, r.filler, h, w) (r.known, c.seek.new.self, r.filler, c.seek.new.home, c.seek.new.store) (below-call kn be fi (OfNext y) r.known r.filler false r.below c.seek.new.self h c.seek.new.home w c.seek.new.store (OfSeek r.spot.place) (inr (r.spot.place, refl, on)) c.in-Err.ensures.did)

pub returns-in-Err-clause-knows : goal.returns-in-Err-clause-knows
returns-in-Err-clause-knows g c =
    let kn = (of_known g.K.Known.ready g.K.Known.place g.K.Known.knows g.K.Known.heads g.K.Known.did) in
    let be = (of_below g.F.Frags.ready g.F.Frags.seen g.F.Frags.ahead g.F.Frags.moves g.F.Frags.did) in
    let fi = (of_filler g.P.Filler.ready g.P.Filler.fits g.P.Filler.may g.P.Filler.lost g.P.Filler.stands g.P.Filler.knows g.P.Filler.knows_statics g.P.Filler.fills) in
    let r = c.args.reader.now in
    let h = c.args.home.now in
    let w = c.args.store.now in
    (c.requires.ready.shares.after_below r.known r.below c.seek.new.self r.filler h w c.seek.new.home c.seek.new.store c.requires.ready.fit c.in-Err.ensures.moves c.in-Err.ensures.ready).3

pub returns-in-Err-clause-ready : goal.returns-in-Err-clause-ready
returns-in-Err-clause-ready g c =
    let kn = (of_known g.K.Known.ready g.K.Known.place g.K.Known.knows g.K.Known.heads g.K.Known.did) in
    let be = (of_below g.F.Frags.ready g.F.Frags.seen g.F.Frags.ahead g.F.Frags.moves g.F.Frags.did) in
    let fi = (of_filler g.P.Filler.ready g.P.Filler.fits g.P.Filler.may g.P.Filler.lost g.P.Filler.stands g.P.Filler.knows g.P.Filler.knows_statics g.P.Filler.fills) in
    let r = c.args.reader.now in
    let h = c.args.home.now in
    let w = c.args.store.now in
    let n = reader_of r.known c.seek.new.self r.filler r.to r.spot r.stage r.lags in
    let after = c.requires.ready.shares.after_below r.known r.below c.seek.new.self r.filler h w c.seek.new.home c.seek.new.store c.requires.ready.fit c.in-Err.ensures.moves c.in-Err.ensures.ready in
    ready-on kn be fi r n h c.seek.new.home w c.seek.new.store c.requires.ready (returns-in-Err-clause-stays g c) after.0 (λ x on. c.in-Err.ensures.kept x (c.requires.ready.ahead x on)) c.requires.ready.place

pub returns-in-Ok-clause-filled : goal.returns-in-Ok-clause-filled
returns-in-Ok-clause-filled g c =
    let kn = (of_known g.K.Known.ready g.K.Known.place g.K.Known.knows g.K.Known.heads g.K.Known.did) in
    let be = (of_below g.F.Frags.ready g.F.Frags.seen g.F.Frags.ahead g.F.Frags.moves g.F.Frags.did) in
    let fi = (of_filler g.P.Filler.ready g.P.Filler.fits g.P.Filler.may g.P.Filler.lost g.P.Filler.stands g.P.Filler.knows g.P.Filler.knows_statics g.P.Filler.fills) in
    let r = c.args.reader.now in
    let h = c.args.home.now in
    let w = c.args.store.now in
    let after = c.requires.ready.shares.after_below r.known r.below c.seek.new.self r.filler h w c.seek.new.home c.seek.new.store c.requires.ready.fit c.in-Ok.ensures.moves c.in-Ok.ensures.ready in
    filled-below kn be fi r.known r.filler h c.seek.new.home ⊤ after.1 after.3 tt

pub returns-in-Err-clause-filled : goal.returns-in-Err-clause-filled
returns-in-Err-clause-filled g c =
    let kn = (of_known g.K.Known.ready g.K.Known.place g.K.Known.knows g.K.Known.heads g.K.Known.did) in
    let be = (of_below g.F.Frags.ready g.F.Frags.seen g.F.Frags.ahead g.F.Frags.moves g.F.Frags.did) in
    let fi = (of_filler g.P.Filler.ready g.P.Filler.fits g.P.Filler.may g.P.Filler.lost g.P.Filler.stands g.P.Filler.knows g.P.Filler.knows_statics g.P.Filler.fills) in
    let r = c.args.reader.now in
    let h = c.args.home.now in
    let w = c.args.store.now in
    let after = c.requires.ready.shares.after_below r.known r.below c.seek.new.self r.filler h w c.seek.new.home c.seek.new.store c.requires.ready.fit c.in-Err.ensures.moves c.in-Err.ensures.ready in
    filled-below kn be fi r.known r.filler h c.seek.new.home ⊤ after.1 after.3 tt

pub returns-in-Sought-clause-filled : goal.returns-in-Sought-clause-filled
returns-in-Sought-clause-filled g c =
    let kn = (of_known g.K.Known.ready g.K.Known.place g.K.Known.knows g.K.Known.heads g.K.Known.did) in
    let be = (of_below g.F.Frags.ready g.F.Frags.seen g.F.Frags.ahead g.F.Frags.moves g.F.Frags.did) in
    let fi = (of_filler g.P.Filler.ready g.P.Filler.fits g.P.Filler.may g.P.Filler.lost g.P.Filler.stands g.P.Filler.knows g.P.Filler.knows_statics g.P.Filler.fills) in
    let r = c.args.reader.now in
    let h = c.args.home.now in
    let w = c.args.store.now in
    filled-still kn fi r.known r.filler h ⊤ tt

pub returns-in-Sought-clause-stays : goal.returns-in-Sought-clause-stays
returns-in-Sought-clause-stays g c = λ writes d. d

pub returns-in-Ok-clause-answered : goal.returns-in-Ok-clause-answered
returns-in-Ok-clause-answered g c = inl (OfSeek c.args.reader.now.spot.place, c.args.home.now, c.seek.new.self, c.seek.new.home, c.seek.new.store, c.in-Ok.ensures.did)

pub returns-in-Sought-clause-answered : goal.returns-in-Sought-clause-answered
returns-in-Sought-clause-answered g c = inr (refl, refl)
