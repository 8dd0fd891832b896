-- The static row that stands below is that of what writes say.
use Rattle.std.specs.Prelude.{⊤}
use Rattle.std.proofs.Common.{true, false, refl, sym, ap, ◌∙◌}
use Rattle.rc_mutation.specs.declared.fragments.Head.{Head}
use Rattle.rc_stream.specs.Did.{OfHead}
use Rattle.rc_stream.specs.Stream.{Stream}
use Rattle.rc_cacheread.specs.Did.{ReaderCall}
use Rattle.rc_cacheread.specs.Sharing.{IsAllKnown, of_below, of_filler, of_known, IsStaticRowKnown}
use Rattle.rc_cacheread.specs.Spots.{stand}
use Rattle.rc_cacheread.proofs.Chains.{chain-one, many-many, one}
use Rattle.rc_cacheread.proofs.Leaving.{fills-left, kept-kept}
use Rattle.rc_cacheread.proofs.Lists.{untrue}
use Rattle.rc_cacheread.proofs.Orders.{reach-itself}
use Rattle.rc_cacheread.proofs.Outcomes.{carries-same}
use Rattle.rc_cacheread.proofs.Stepping.{below-call, fill-calls, led, reader_of, ready-on, said, sees-still, stays-on}
use Rattle.rc_cacheread.proofs.Filled.{filled-below, filled-in, filled-then}
use Rattle.rc_cacheread.proofs.readers.head_below.Goals as goal

pub statics-requires-clause-ready : goal.statics-requires-clause-ready
statics-requires-clause-ready g c =
    let kn = (of_known g.K.Known.ready g.K.Known.place g.K.Known.knows g.K.Known.heads g.K.Known.did) in
    let be = (of_below g.F.Frags.ready g.F.Frags.seen g.F.Frags.ahead g.F.Frags.moves g.F.Frags.did) in
    let fi = (of_filler g.P.Filler.ready g.P.Filler.fits g.P.Filler.may g.P.Filler.lost g.P.Filler.stands g.P.Filler.knows g.P.Filler.knows_statics g.P.Filler.fills) in
    let r = c.args.reader.now in
    let h = c.args.home.now in
    let w = c.args.store.now in
    (c.requires.ready.shares.after_below r.known r.below c.head.new.self r.filler h w c.head.new.home c.head.new.store c.requires.ready.fit c.in-Ok.ensures.moves c.in-Ok.ensures.ready).0.filler

pub statics-requires-clause-source : goal.statics-requires-clause-source
statics-requires-clause-source g c =
    let kn = (of_known g.K.Known.ready g.K.Known.place g.K.Known.knows g.K.Known.heads g.K.Known.did) in
    let be = (of_below g.F.Frags.ready g.F.Frags.seen g.F.Frags.ahead g.F.Frags.moves g.F.Frags.did) in
    let fi = (of_filler g.P.Filler.ready g.P.Filler.fits g.P.Filler.may g.P.Filler.lost g.P.Filler.stands g.P.Filler.knows g.P.Filler.knows_statics g.P.Filler.fills) in
    let r = c.args.reader.now in
    let h = c.args.home.now in
    let w = c.args.store.now in
    let none = (λ (v : IsAllKnown (kn.knows r.known h) (kn.heads r.known h) (stand r.spot) r.to). untrue (sym (v.head c.args.at c.requires.head) ∙ c.requires.unknown)) in
    let after = c.requires.ready.shares.after_below r.known r.below c.head.new.self r.filler h w c.head.new.home c.head.new.store c.requires.ready.fit c.in-Ok.ensures.moves c.in-Ok.ensures.ready in
    let writes = c.requires.ready.writes in
    let l = led kn be fi writes r h w c.requires.ready.reads none in
    (writes, after.2 writes c.requires.ready.reads.stands, l.static_row c.in-Ok.head.statics (λ t s f. ap (λ (x : Head). x.statics) (c.in-Ok.ensures.head t s)))

pub returns-in-Ok-clause-head : goal.returns-in-Ok-clause-head
returns-in-Ok-clause-head g c = λ s d.
    let kn = (of_known g.K.Known.ready g.K.Known.place g.K.Known.knows g.K.Known.heads g.K.Known.did) in
    let be = (of_below g.F.Frags.ready g.F.Frags.seen g.F.Frags.ahead g.F.Frags.moves g.F.Frags.did) in
    let fi = (of_filler g.P.Filler.ready g.P.Filler.fits g.P.Filler.may g.P.Filler.lost g.P.Filler.stands g.P.Filler.knows g.P.Filler.knows_statics g.P.Filler.fills) in
    let r = c.args.reader.now in
    let h = c.args.home.now in
    let w = c.args.store.now in
    let none = (λ (v : IsAllKnown (kn.knows r.known h) (kn.heads r.known h) (stand r.spot) r.to). untrue (sym (v.head c.args.at c.requires.head) ∙ c.requires.unknown)) in
    let t = said kn be fi d.writes r h w s d.says none in
    let row = ap (λ (x : Head). x.statics) (c.in-Ok.ensures.head t.stream t.stands) ∙ t.static_row in
    let pt = d.says.pt c.args.at c.requires.head in
    λ i. record { pt = pt i; statics = row i }

pub returns-in-Ok-clause-stays : goal.returns-in-Ok-clause-stays
returns-in-Ok-clause-stays g c =
    let kn = (of_known g.K.Known.ready g.K.Known.place g.K.Known.knows g.K.Known.heads g.K.Known.did) in
    let be = (of_below g.F.Frags.ready g.F.Frags.seen g.F.Frags.ahead g.F.Frags.moves g.F.Frags.did) in
    let fi = (of_filler g.P.Filler.ready g.P.Filler.fits g.P.Filler.may g.P.Filler.lost g.P.Filler.stands g.P.Filler.knows g.P.Filler.knows_statics g.P.Filler.fills) in
    let r = c.args.reader.now in
    let h = c.args.home.now in
    let w = c.args.store.now in
    let none = (λ (v : IsAllKnown (kn.knows r.known h) (kn.heads r.known h) (stand r.spot) r.to). untrue (sym (v.head c.args.at c.requires.head) ∙ c.requires.unknown)) in
    let after = c.requires.ready.shares.after_below r.known r.below c.head.new.self r.filler h w c.head.new.home c.head.new.store c.requires.ready.fit c.in-Ok.ensures.moves c.in-Ok.ensures.ready in
    let filled = fills-left kn be fi c.requires.ready.shares r.known c.head.new.self c.head.new.store (r.filler, c.head.new.home) (c.statics.new.self, c.statics.new.home) (1, ((c.statics.new.self, c.statics.new.home), c.statics.ensures.did, refl)) after.0 in
    let n = reader_of r.known c.head.new.self c.statics.new.self r.to r.spot r.stage r.lags in
    let seen : (t : Stream) → be.seen r.below h w t → be.seen c.head.new.self c.statics.new.home c.head.new.store t = λ t s. filled.seen t (c.in-Ok.ensures.seen t s) in
    stays-on kn be fi r n h c.statics.new.home w c.head.new.store (λ writes d l. c.statics.ensures.stands writes (after.2 writes d) (l.static_row c.in-Ok.head.statics (λ t s f. ap (λ (x : Head). x.statics) (c.in-Ok.ensures.head t s)))) none (carries-same (be.seen r.below h w) (be.seen c.head.new.self c.statics.new.home c.head.new.store) r.stage (stand r.spot) r.spot.tomb seen) (reach-itself (stand r.spot)) refl

pub returns-in-Ok-clause-seen : goal.returns-in-Ok-clause-seen
returns-in-Ok-clause-seen g c = λ s d.
    let kn = (of_known g.K.Known.ready g.K.Known.place g.K.Known.knows g.K.Known.heads g.K.Known.did) in
    let be = (of_below g.F.Frags.ready g.F.Frags.seen g.F.Frags.ahead g.F.Frags.moves g.F.Frags.did) in
    let fi = (of_filler g.P.Filler.ready g.P.Filler.fits g.P.Filler.may g.P.Filler.lost g.P.Filler.stands g.P.Filler.knows g.P.Filler.knows_statics g.P.Filler.fills) in
    let r = c.args.reader.now in
    let h = c.args.home.now in
    let w = c.args.store.now in
    let none = (λ (v : IsAllKnown (kn.knows r.known h) (kn.heads r.known h) (stand r.spot) r.to). untrue (sym (v.head c.args.at c.requires.head) ∙ c.requires.unknown)) in
    let after = c.requires.ready.shares.after_below r.known r.below c.head.new.self r.filler h w c.head.new.home c.head.new.store c.requires.ready.fit c.in-Ok.ensures.moves c.in-Ok.ensures.ready in
    let filled = fills-left kn be fi c.requires.ready.shares r.known c.head.new.self c.head.new.store (r.filler, c.head.new.home) (c.statics.new.self, c.statics.new.home) (1, ((c.statics.new.self, c.statics.new.home), c.statics.ensures.did, refl)) after.0 in
    let kept = kept-kept kn be fi r.known r.known r.known r.filler r.filler c.statics.new.self h c.head.new.home c.statics.new.home after.1 filled.kept in
    let n = reader_of r.known c.head.new.self c.statics.new.self r.to r.spot r.stage r.lags in
    let seen : (t : Stream) → be.seen r.below h w t → be.seen c.head.new.self c.statics.new.home c.head.new.store t = λ t s. filled.seen t (c.in-Ok.ensures.seen t s) in
    sees-still kn be fi r n h c.statics.new.home w c.head.new.store s (returns-in-Ok-clause-stays g c) kept refl refl refl none seen d

pub returns-in-Ok-clause-calls : goal.returns-in-Ok-clause-calls
returns-in-Ok-clause-calls g c =
    let kn = (of_known g.K.Known.ready g.K.Known.place g.K.Known.knows g.K.Known.heads g.K.Known.did) in
    let be = (of_below g.F.Frags.ready g.F.Frags.seen g.F.Frags.ahead g.F.Frags.moves g.F.Frags.did) in
    let fi = (of_filler g.P.Filler.ready g.P.Filler.fits g.P.Filler.may g.P.Filler.lost g.P.Filler.stands g.P.Filler.knows g.P.Filler.knows_statics g.P.Filler.fills) in
    let r = c.args.reader.now in
    let h = c.args.home.now in
    let w = c.args.store.now in
    many-many (ReaderCall kn be fi OfHead) (r.known, r.below, r.filler, h, w) (r.known, c.head.new.self, r.filler, c.head.new.home, c.head.new.store) (r.known, c.head.new.self, c.statics.new.self, c.statics.new.home, c.head.new.store)
    (one (ReaderCall kn be fi OfHead) (r.known, r.below, r.filler, h, w) (r.known, c.head.new.self, r.filler, c.head.new.home, c.head.new.store) (below-call kn be fi OfHead r.known r.filler true r.below c.head.new.self h c.head.new.home w c.head.new.store OfHead refl c.in-Ok.ensures.did))
    (fill-calls kn be fi OfHead r.known c.head.new.self c.head.new.store r.filler c.statics.new.self c.head.new.home c.statics.new.home (r.below, h, w, OfHead, c.head.new.home, c.head.new.store, c.in-Ok.ensures.did) (1, ((c.statics.new.self, c.statics.new.home), c.statics.ensures.did, refl)))

pub returns-in-Ok-clause-ready : goal.returns-in-Ok-clause-ready
returns-in-Ok-clause-ready g c =
    let kn = (of_known g.K.Known.ready g.K.Known.place g.K.Known.knows g.K.Known.heads g.K.Known.did) in
    let be = (of_below g.F.Frags.ready g.F.Frags.seen g.F.Frags.ahead g.F.Frags.moves g.F.Frags.did) in
    let fi = (of_filler g.P.Filler.ready g.P.Filler.fits g.P.Filler.may g.P.Filler.lost g.P.Filler.stands g.P.Filler.knows g.P.Filler.knows_statics g.P.Filler.fills) in
    let r = c.args.reader.now in
    let h = c.args.home.now in
    let w = c.args.store.now in
    let after = c.requires.ready.shares.after_below r.known r.below c.head.new.self r.filler h w c.head.new.home c.head.new.store c.requires.ready.fit c.in-Ok.ensures.moves c.in-Ok.ensures.ready in
    let filled = fills-left kn be fi c.requires.ready.shares r.known c.head.new.self c.head.new.store (r.filler, c.head.new.home) (c.statics.new.self, c.statics.new.home) (1, ((c.statics.new.self, c.statics.new.home), c.statics.ensures.did, refl)) after.0 in
    let n = reader_of r.known c.head.new.self c.statics.new.self r.to r.spot r.stage r.lags in
    ready-on kn be fi r n h c.statics.new.home w c.head.new.store c.requires.ready (returns-in-Ok-clause-stays g c) filled.fit (λ x on. c.in-Ok.ensures.ahead x (c.requires.ready.ahead x on)) c.requires.ready.place

pub returns-clause-stays : goal.returns-clause-stays
returns-clause-stays g c =
    let kn = (of_known g.K.Known.ready g.K.Known.place g.K.Known.knows g.K.Known.heads g.K.Known.did) in
    let be = (of_below g.F.Frags.ready g.F.Frags.seen g.F.Frags.ahead g.F.Frags.moves g.F.Frags.did) in
    let fi = (of_filler g.P.Filler.ready g.P.Filler.fits g.P.Filler.may g.P.Filler.lost g.P.Filler.stands g.P.Filler.knows g.P.Filler.knows_statics g.P.Filler.fills) in
    let r = c.args.reader.now in
    let h = c.args.home.now in
    let w = c.args.store.now in
    let none = (λ (v : IsAllKnown (kn.knows r.known h) (kn.heads r.known h) (stand r.spot) r.to). untrue (sym (v.head c.args.at c.requires.head) ∙ c.requires.unknown)) in
    let after = c.requires.ready.shares.after_below r.known r.below c.head.new.self r.filler h w c.head.new.home c.head.new.store c.requires.ready.fit c.in-Err.ensures.moves c.in-Err.ensures.ready in
    stays-on kn be fi r (reader_of r.known c.head.new.self r.filler r.to r.spot r.stage r.lags) h c.head.new.home w c.head.new.store (λ writes d l. after.2 writes d) none (carries-same (be.seen r.below h w) (be.seen c.head.new.self c.head.new.home c.head.new.store) r.stage (stand r.spot) r.spot.tomb c.in-Err.ensures.seen) (reach-itself (stand r.spot)) refl

pub returns-clause-seen : goal.returns-clause-seen
returns-clause-seen g c = λ s d.
    let kn = (of_known g.K.Known.ready g.K.Known.place g.K.Known.knows g.K.Known.heads g.K.Known.did) in
    let be = (of_below g.F.Frags.ready g.F.Frags.seen g.F.Frags.ahead g.F.Frags.moves g.F.Frags.did) in
    let fi = (of_filler g.P.Filler.ready g.P.Filler.fits g.P.Filler.may g.P.Filler.lost g.P.Filler.stands g.P.Filler.knows g.P.Filler.knows_statics g.P.Filler.fills) in
    let r = c.args.reader.now in
    let h = c.args.home.now in
    let w = c.args.store.now in
    let none = (λ (v : IsAllKnown (kn.knows r.known h) (kn.heads r.known h) (stand r.spot) r.to). untrue (sym (v.head c.args.at c.requires.head) ∙ c.requires.unknown)) in
    let after = c.requires.ready.shares.after_below r.known r.below c.head.new.self r.filler h w c.head.new.home c.head.new.store c.requires.ready.fit c.in-Err.ensures.moves c.in-Err.ensures.ready in
    sees-still kn be fi r (reader_of r.known c.head.new.self r.filler r.to r.spot r.stage r.lags) h c.head.new.home w c.head.new.store s (returns-clause-stays g c) after.1 refl refl refl none c.in-Err.ensures.seen d

pub returns-clause-calls : goal.returns-clause-calls
returns-clause-calls g c =
    let kn = (of_known g.K.Known.ready g.K.Known.place g.K.Known.knows g.K.Known.heads g.K.Known.did) in
    let be = (of_below g.F.Frags.ready g.F.Frags.seen g.F.Frags.ahead g.F.Frags.moves g.F.Frags.did) in
    let fi = (of_filler g.P.Filler.ready g.P.Filler.fits g.P.Filler.may g.P.Filler.lost g.P.Filler.stands g.P.Filler.knows g.P.Filler.knows_statics g.P.Filler.fills) in
    let r = c.args.reader.now in
    let h = c.args.home.now in
    let w = c.args.store.now in
    chain-one (ReaderCall kn be fi OfHead) false (r.known, r.below, r.filler, h, w) (r.known, c.head.new.self, r.filler, c.head.new.home, c.head.new.store) (below-call kn be fi OfHead r.known r.filler false r.below c.head.new.self h c.head.new.home w c.head.new.store OfHead refl c.in-Err.ensures.did)

pub returns-clause-ready : goal.returns-clause-ready
returns-clause-ready g c =
    let kn = (of_known g.K.Known.ready g.K.Known.place g.K.Known.knows g.K.Known.heads g.K.Known.did) in
    let be = (of_below g.F.Frags.ready g.F.Frags.seen g.F.Frags.ahead g.F.Frags.moves g.F.Frags.did) in
    let fi = (of_filler g.P.Filler.ready g.P.Filler.fits g.P.Filler.may g.P.Filler.lost g.P.Filler.stands g.P.Filler.knows g.P.Filler.knows_statics g.P.Filler.fills) in
    let r = c.args.reader.now in
    let h = c.args.home.now in
    let w = c.args.store.now in
    let after = c.requires.ready.shares.after_below r.known r.below c.head.new.self r.filler h w c.head.new.home c.head.new.store c.requires.ready.fit c.in-Err.ensures.moves c.in-Err.ensures.ready in
    ready-on kn be fi r (reader_of r.known c.head.new.self r.filler r.to r.spot r.stage r.lags) h c.head.new.home w c.head.new.store c.requires.ready (returns-clause-stays g c) after.0 (λ x on. c.in-Err.ensures.ahead x (c.requires.ready.ahead x on)) c.requires.ready.place

pub returns-in-Ok-clause-filled : goal.returns-in-Ok-clause-filled
returns-in-Ok-clause-filled g c =
    let kn = (of_known g.K.Known.ready g.K.Known.place g.K.Known.knows g.K.Known.heads g.K.Known.did) in
    let be = (of_below g.F.Frags.ready g.F.Frags.seen g.F.Frags.ahead g.F.Frags.moves g.F.Frags.did) in
    let fi = (of_filler g.P.Filler.ready g.P.Filler.fits g.P.Filler.may g.P.Filler.lost g.P.Filler.stands g.P.Filler.knows g.P.Filler.knows_statics g.P.Filler.fills) in
    let r = c.args.reader.now in
    let h = c.args.home.now in
    let w = c.args.store.now in
    let after = c.requires.ready.shares.after_below r.known r.below c.head.new.self r.filler h w c.head.new.home c.head.new.store c.requires.ready.fit c.in-Ok.ensures.moves c.in-Ok.ensures.ready in
    let filled = fills-left kn be fi c.requires.ready.shares r.known c.head.new.self c.head.new.store (r.filler, c.head.new.home) (c.statics.new.self, c.statics.new.home) (1, ((c.statics.new.self, c.statics.new.home), c.statics.ensures.did, refl)) after.0 in
    let row = c.in-Ok.head.statics in
    let known = IsStaticRowKnown (kn.heads r.known c.statics.new.home) in
    filled-then kn fi r.known r.known r.known r.filler r.filler c.statics.new.self h c.head.new.home c.statics.new.home ⊤ known
    (filled-below kn be fi r.known r.filler h c.head.new.home ⊤ after.1 after.3 tt)
    (filled-in kn be fi c.head.new.self c.head.new.store r.known r.filler c.statics.new.self c.head.new.home c.statics.new.home (fi.knows_statics c.statics.new.self c.statics.new.home row) known after.0 filled (λ k. filled.fit.same_statics row k) (record { still = c.statics.ensures.may; each = c.statics.ensures.keeps; now = c.statics.ensures.known }))

pub returns-clause-filled : goal.returns-clause-filled
returns-clause-filled g c =
    let kn = (of_known g.K.Known.ready g.K.Known.place g.K.Known.knows g.K.Known.heads g.K.Known.did) in
    let be = (of_below g.F.Frags.ready g.F.Frags.seen g.F.Frags.ahead g.F.Frags.moves g.F.Frags.did) in
    let fi = (of_filler g.P.Filler.ready g.P.Filler.fits g.P.Filler.may g.P.Filler.lost g.P.Filler.stands g.P.Filler.knows g.P.Filler.knows_statics g.P.Filler.fills) in
    let r = c.args.reader.now in
    let h = c.args.home.now in
    let w = c.args.store.now in
    let after = c.requires.ready.shares.after_below r.known r.below c.head.new.self r.filler h w c.head.new.home c.head.new.store c.requires.ready.fit c.in-Err.ensures.moves c.in-Err.ensures.ready in
    filled-below kn be fi r.known r.filler h c.head.new.home ⊤ after.1 after.3 tt

pub returns-in-Ok-clause-answered : goal.returns-in-Ok-clause-answered
returns-in-Ok-clause-answered g c = (OfHead, c.args.home.now, c.head.new.self, c.head.new.home, c.head.new.store, c.in-Ok.ensures.did)
