-- What stands below from the place on is taken.
use Rattle.std.specs.Prelude.{◌≡◌, IfSome, IsTrue}
use Rattle.std.proofs.Common.{Ok, true, false, refl, sym, ap, ◌∙◌, subst, inl}
use Rattle.rc_position.specs.declared.positions.Pos.{Pos}
use Rattle.rc_stream.specs.Leaving.{left_by}
use Rattle.rc_stream.specs.Did.{OfNext, ReachesEnd}
use Rattle.rc_stream.specs.Places.{Reaches}
use Rattle.rc_stream.specs.Snapshot.{SayThere}
use Rattle.rc_stream.specs.Stream.{first_upto, is_upto}
use Rattle.rc_cacheread.specs.declared.spots.Found.{Found}
use Rattle.rc_cacheread.specs.calls.Below.{Tells, TookFound, near_of}
use Rattle.rc_cacheread.specs.Did.{ReaderCall}
use Rattle.rc_cacheread.specs.Sharing.{of_below, of_filler, of_known}
use Rattle.rc_cacheread.specs.Spots.{stand}
use Rattle.rc_cacheread.proofs.Chains.{chain-none, chain-one, many-many, one}
use Rattle.rc_cacheread.proofs.Going.{Gone, at-on, gone, leads-here, tells}
use Rattle.rc_cacheread.proofs.Idle.{idle-front, idle-stand}
use Rattle.rc_cacheread.proofs.Leaving.{fills-left, kept-kept}
use Rattle.rc_cacheread.specs.laws.Orders.{reach-through}
use Rattle.rc_cacheread.proofs.Orders.{near-is, near-on, near-within, reach-itself}
use Rattle.rc_cacheread.proofs.Seeking.{idle-outcome}
use Rattle.rc_cacheread.proofs.Stepping.{below-call, end-on, fill-calls, led, no-whole, reader_of, ready-on, sees-on, stays-on, step-says}
use Rattle.rc_cacheread.specs.Passing.{IsKnownOver}
use Rattle.rc_cacheread.proofs.Filled.{filled-below, filled-read, filled-still, stays-lost}
use Rattle.rc_cacheread.specs.laws.Passing.{over-nothing}
use Rattle.rc_cacheread.proofs.below.go_below.Goals as goal

pub returns-in-Err-clause-did : goal.returns-in-Err-clause-did
returns-in-Err-clause-did g c = λ y covers.
    let kn = (of_known g.K.Known.ready g.K.Known.place g.K.Known.knows g.K.Known.heads g.K.Known.did) in
    let be = (of_below g.F.Frags.ready g.F.Frags.seen g.F.Frags.ahead g.F.Frags.moves g.F.Frags.did) in
    let fi = (of_filler g.P.Filler.ready g.P.Filler.fits g.P.Filler.may g.P.Filler.lost g.P.Filler.stands g.P.Filler.knows g.P.Filler.knows_statics g.P.Filler.fills) in
    let r = c.args.reader.now in
    let h = c.args.home.now in
    let w = c.args.store.now in
    chain-none (ReaderCall kn be fi (OfNext y)) false (r.known, r.below, r.filler, h, w)

pub take_found-requires-clause-ready : goal.take_found-requires-clause-ready
take_found-requires-clause-ready g c =
    let kn = (of_known g.K.Known.ready g.K.Known.place g.K.Known.knows g.K.Known.heads g.K.Known.did) in
    let be = (of_below g.F.Frags.ready g.F.Frags.seen g.F.Frags.ahead g.F.Frags.moves g.F.Frags.did) in
    let fi = (of_filler g.P.Filler.ready g.P.Filler.fits g.P.Filler.may g.P.Filler.lost g.P.Filler.stands g.P.Filler.knows g.P.Filler.knows_statics g.P.Filler.fills) in
    let r = c.args.reader.now in
    let h = c.args.home.now in
    let w = c.args.store.now in
    (c.requires.ready.shares.after_below r.known r.below c.next.new.self r.filler h w c.next.new.home c.next.new.store c.requires.ready.fit c.in-Ok-next.ensures.moves c.in-Ok-next.ensures.ready).0.filler

pub take_found-requires-clause-on : goal.take_found-requires-clause-on
take_found-requires-clause-on g c = subst (Reaches c.args.reader.now.spot.place) (sym c.in-Ok.ensures) (near-on c.args.reader.now.spot.place c.args.upto.now c.args.end c.requires.near c.requires.end)

pub take_found-requires-clause-source : goal.take_found-requires-clause-source
take_found-requires-clause-source g c =
    let kn = (of_known g.K.Known.ready g.K.Known.place g.K.Known.knows g.K.Known.heads g.K.Known.did) in
    let be = (of_below g.F.Frags.ready g.F.Frags.seen g.F.Frags.ahead g.F.Frags.moves g.F.Frags.did) in
    let fi = (of_filler g.P.Filler.ready g.P.Filler.fits g.P.Filler.may g.P.Filler.lost g.P.Filler.stands g.P.Filler.knows g.P.Filler.knows_statics g.P.Filler.fills) in
    let r = c.args.reader.now in
    let h = c.args.home.now in
    let w = c.args.store.now in
    let near : c.in-Ok.near ≡ near_of c.args.upto.now c.args.end = c.in-Ok.ensures in
    let after = c.requires.ready.shares.after_below r.known r.below c.next.new.self r.filler h w c.next.new.home c.next.new.store c.requires.ready.fit c.in-Ok-next.ensures.moves c.in-Ok-next.ensures.ready in
    let writes = c.requires.ready.writes in
    let l = led kn be fi writes r h w c.requires.ready.reads (no-whole kn be fi r h c.requires.idle c.requires.within c.requires.missing) in
    (writes, after.2 writes c.requires.ready.reads.stands, subst (λ (z : Found × Pos). Tells (SayThere writes) r.spot.place z.1 c.args.end r.spot.tomb z.0) (λ i. (sym c.found.ensures i, sym near i)) (tells writes (be.seen r.below h w) r.spot.place c.args.upto.now c.args.end r.to r.spot.tomb c.in-Ok-next.got (leads-here writes (be.seen r.below h w) (stand r.spot) r.spot.place r.to r.spot.tomb r.stage c.requires.stage (idle-stand r.spot c.requires.idle) l) c.requires.inside (λ t s. c.in-Ok-next.ensures.gives t s ∙ ap (λ x. first_upto x t.left) near) (subst (λ x. IfSome c.in-Ok-next.got (λ f. IsTrue (is_upto x f))) near c.in-Ok-next.ensures.upto)))

pub returns-in-Ok-next-clause-stays : goal.returns-in-Ok-next-clause-stays
returns-in-Ok-next-clause-stays g c =
    let kn = (of_known g.K.Known.ready g.K.Known.place g.K.Known.knows g.K.Known.heads g.K.Known.did) in
    let be = (of_below g.F.Frags.ready g.F.Frags.seen g.F.Frags.ahead g.F.Frags.moves g.F.Frags.did) in
    let fi = (of_filler g.P.Filler.ready g.P.Filler.fits g.P.Filler.may g.P.Filler.lost g.P.Filler.stands g.P.Filler.knows g.P.Filler.knows_statics g.P.Filler.fills) in
    let r = c.args.reader.now in
    let h = c.args.home.now in
    let w = c.args.store.now in
    let n = reader_of r.known c.next.new.self c.take_found.new.filler r.to c.take_found.new.spot c.take_found.new.stage r.lags in
    let after = c.requires.ready.shares.after_below r.known r.below c.next.new.self r.filler h w c.next.new.home c.next.new.store c.requires.ready.fit c.in-Ok-next.ensures.moves c.in-Ok-next.ensures.ready in
    let filled = fills-left kn be fi c.requires.ready.shares r.known c.next.new.self c.next.new.store (r.filler, c.next.new.home) (c.take_found.new.filler, c.take_found.new.home) c.take_found.ensures.did after.0 in
    let near : c.in-Ok.near ≡ near_of c.args.upto.now c.args.end = c.in-Ok.ensures in
    let o : Gone (SayThere c.requires.ready.writes) (be.seen r.below h w) (be.seen c.next.new.self c.take_found.new.home c.next.new.store) r.to c.args.upto.now r.stage r.spot c.take_found.new.stage c.take_found.new.spot c.in-Ok-next.got c.take_found.result = subst (λ b. Gone (SayThere c.requires.ready.writes) (be.seen r.below h w) (be.seen c.next.new.self c.take_found.new.home c.next.new.store) r.to c.args.upto.now b r.spot c.take_found.new.stage c.take_found.new.spot c.in-Ok-next.got c.take_found.result) (sym c.requires.stage) (gone (SayThere c.requires.ready.writes) (be.seen r.below h w) (be.seen c.next.new.self c.take_found.new.home c.next.new.store) r.to c.args.upto.now c.args.end r.spot c.take_found.new.spot c.requires.idle c.take_found.new.stage c.requires.inside c.requires.near c.requires.end c.in-Ok-next.got r.stage c.take_found.result c.requires.stage (λ t s. c.in-Ok-next.ensures.gives t s ∙ ap (λ x. first_upto x t.left) near) (subst (λ x. IfSome c.in-Ok-next.got (λ f. IsTrue (is_upto x f))) near c.in-Ok-next.ensures.upto) (λ t s. filled.seen (left_by (Ok c.in-Ok-next.got) t) (c.in-Ok-next.ensures.seen t s)) (subst (λ (z : Found × Pos). TookFound z.0 z.1 c.args.end c.args.upto.now r.spot c.take_found.new.spot r.stage c.take_found.new.stage c.take_found.result) (λ i. (c.found.ensures i, near i)) c.take_found.ensures.took)) in
    stays-on kn be fi r n h c.take_found.new.home w c.next.new.store (λ writes d l. c.take_found.ensures.stands writes (after.2 writes d) (subst (λ (z : Found × Pos). Tells (SayThere writes) r.spot.place z.1 c.args.end r.spot.tomb z.0) (λ i. (sym c.found.ensures i, sym near i)) (tells writes (be.seen r.below h w) r.spot.place c.args.upto.now c.args.end r.to r.spot.tomb c.in-Ok-next.got (leads-here writes (be.seen r.below h w) (stand r.spot) r.spot.place r.to r.spot.tomb r.stage c.requires.stage (idle-stand r.spot c.requires.idle) l) c.requires.inside (λ t s. c.in-Ok-next.ensures.gives t s ∙ ap (λ x. first_upto x t.left) near) (subst (λ x. IfSome c.in-Ok-next.got (λ f. IsTrue (is_upto x f))) near c.in-Ok-next.ensures.upto)))) (no-whole kn be fi r h c.requires.idle c.requires.within c.requires.missing) o.outcome.carries o.on refl

pub returns-in-Ok-next-clause-says : goal.returns-in-Ok-next-clause-says
returns-in-Ok-next-clause-says g c = λ s d.
    let kn = (of_known g.K.Known.ready g.K.Known.place g.K.Known.knows g.K.Known.heads g.K.Known.did) in
    let be = (of_below g.F.Frags.ready g.F.Frags.seen g.F.Frags.ahead g.F.Frags.moves g.F.Frags.did) in
    let fi = (of_filler g.P.Filler.ready g.P.Filler.fits g.P.Filler.may g.P.Filler.lost g.P.Filler.stands g.P.Filler.knows g.P.Filler.knows_statics g.P.Filler.fills) in
    let r = c.args.reader.now in
    let h = c.args.home.now in
    let w = c.args.store.now in
    let n = reader_of r.known c.next.new.self c.take_found.new.filler r.to c.take_found.new.spot c.take_found.new.stage r.lags in
    let after = c.requires.ready.shares.after_below r.known r.below c.next.new.self r.filler h w c.next.new.home c.next.new.store c.requires.ready.fit c.in-Ok-next.ensures.moves c.in-Ok-next.ensures.ready in
    let filled = fills-left kn be fi c.requires.ready.shares r.known c.next.new.self c.next.new.store (r.filler, c.next.new.home) (c.take_found.new.filler, c.take_found.new.home) c.take_found.ensures.did after.0 in
    let kept = kept-kept kn be fi r.known r.known r.known r.filler r.filler c.take_found.new.filler h c.next.new.home c.take_found.new.home after.1 filled.kept in
    let near : c.in-Ok.near ≡ near_of c.args.upto.now c.args.end = c.in-Ok.ensures in
    let o : Gone (SayThere d.writes) (be.seen r.below h w) (be.seen c.next.new.self c.take_found.new.home c.next.new.store) r.to c.args.upto.now r.stage r.spot c.take_found.new.stage c.take_found.new.spot c.in-Ok-next.got c.take_found.result = subst (λ b. Gone (SayThere d.writes) (be.seen r.below h w) (be.seen c.next.new.self c.take_found.new.home c.next.new.store) r.to c.args.upto.now b r.spot c.take_found.new.stage c.take_found.new.spot c.in-Ok-next.got c.take_found.result) (sym c.requires.stage) (gone (SayThere d.writes) (be.seen r.below h w) (be.seen c.next.new.self c.take_found.new.home c.next.new.store) r.to c.args.upto.now c.args.end r.spot c.take_found.new.spot c.requires.idle c.take_found.new.stage c.requires.inside c.requires.near c.requires.end c.in-Ok-next.got r.stage c.take_found.result c.requires.stage (λ t s. c.in-Ok-next.ensures.gives t s ∙ ap (λ x. first_upto x t.left) near) (subst (λ x. IfSome c.in-Ok-next.got (λ f. IsTrue (is_upto x f))) near c.in-Ok-next.ensures.upto) (λ t s. filled.seen (left_by (Ok c.in-Ok-next.got) t) (c.in-Ok-next.ensures.seen t s)) (subst (λ (z : Found × Pos). TookFound z.0 z.1 c.args.end c.args.upto.now r.spot c.take_found.new.spot r.stage c.take_found.new.stage c.take_found.result) (λ i. (c.found.ensures i, near i)) c.take_found.ensures.took)) in
    step-says kn be fi r n h c.take_found.new.home w c.next.new.store c.args.upto.now c.in-Ok-next.got c.take_found.result s d (returns-in-Ok-next-clause-stays g c) kept (idle-front r.spot c.requires.idle) refl (no-whole kn be fi r h c.requires.idle c.requires.within c.requires.missing) o

pub returns-in-Ok-next-clause-did : goal.returns-in-Ok-next-clause-did
returns-in-Ok-next-clause-did g c = λ y covers.
    let kn = (of_known g.K.Known.ready g.K.Known.place g.K.Known.knows g.K.Known.heads g.K.Known.did) in
    let be = (of_below g.F.Frags.ready g.F.Frags.seen g.F.Frags.ahead g.F.Frags.moves g.F.Frags.did) in
    let fi = (of_filler g.P.Filler.ready g.P.Filler.fits g.P.Filler.may g.P.Filler.lost g.P.Filler.stands g.P.Filler.knows g.P.Filler.knows_statics g.P.Filler.fills) in
    let r = c.args.reader.now in
    let h = c.args.home.now in
    let w = c.args.store.now in
    let near : c.in-Ok.near ≡ near_of c.args.upto.now c.args.end = c.in-Ok.ensures in
    let e = end-on kn be fi r h w c.args.upto.now (near_of c.args.upto.now c.args.end) y c.requires.idle c.requires.stage (near-is c.args.upto.now c.args.end).0 (reach-through (near_of c.args.upto.now c.args.end) c.args.end r.to (near-within c.args.upto.now c.args.end) c.requires.inside) (no-whole kn be fi r h c.requires.idle c.requires.within c.requires.missing) covers in
    let did = c.in-Ok-next.ensures.did y (subst (λ x. ReachesEnd (be.seen r.below h w) x y) (sym near) e) in
    many-many (ReaderCall kn be fi (OfNext y)) (r.known, r.below, r.filler, h, w) (r.known, c.next.new.self, r.filler, c.next.new.home, c.next.new.store) (r.known, c.next.new.self, c.take_found.new.filler, c.take_found.new.home, c.next.new.store)
    (one (ReaderCall kn be fi (OfNext y)) (r.known, r.below, r.filler, h, w) (r.known, c.next.new.self, r.filler, c.next.new.home, c.next.new.store) (below-call kn be fi (OfNext y) r.known r.filler true r.below c.next.new.self h c.next.new.home w c.next.new.store (OfNext y) (inl refl) did))
    (fill-calls kn be fi (OfNext y) r.known c.next.new.self c.next.new.store r.filler c.take_found.new.filler c.next.new.home c.take_found.new.home (r.below, h, w, OfNext y, c.next.new.home, c.next.new.store, did) c.take_found.ensures.did)

pub returns-in-Ok-next-clause-ready : goal.returns-in-Ok-next-clause-ready
returns-in-Ok-next-clause-ready g c =
    let kn = (of_known g.K.Known.ready g.K.Known.place g.K.Known.knows g.K.Known.heads g.K.Known.did) in
    let be = (of_below g.F.Frags.ready g.F.Frags.seen g.F.Frags.ahead g.F.Frags.moves g.F.Frags.did) in
    let fi = (of_filler g.P.Filler.ready g.P.Filler.fits g.P.Filler.may g.P.Filler.lost g.P.Filler.stands g.P.Filler.knows g.P.Filler.knows_statics g.P.Filler.fills) in
    let r = c.args.reader.now in
    let h = c.args.home.now in
    let w = c.args.store.now in
    let n = reader_of r.known c.next.new.self c.take_found.new.filler r.to c.take_found.new.spot c.take_found.new.stage r.lags in
    let after = c.requires.ready.shares.after_below r.known r.below c.next.new.self r.filler h w c.next.new.home c.next.new.store c.requires.ready.fit c.in-Ok-next.ensures.moves c.in-Ok-next.ensures.ready in
    let filled = fills-left kn be fi c.requires.ready.shares r.known c.next.new.self c.next.new.store (r.filler, c.next.new.home) (c.take_found.new.filler, c.take_found.new.home) c.take_found.ensures.did after.0 in
    let near : c.in-Ok.near ≡ near_of c.args.upto.now c.args.end = c.in-Ok.ensures in
    let o : Gone (SayThere c.requires.ready.writes) (be.seen r.below h w) (be.seen c.next.new.self c.take_found.new.home c.next.new.store) r.to c.args.upto.now r.stage r.spot c.take_found.new.stage c.take_found.new.spot c.in-Ok-next.got c.take_found.result = subst (λ b. Gone (SayThere c.requires.ready.writes) (be.seen r.below h w) (be.seen c.next.new.self c.take_found.new.home c.next.new.store) r.to c.args.upto.now b r.spot c.take_found.new.stage c.take_found.new.spot c.in-Ok-next.got c.take_found.result) (sym c.requires.stage) (gone (SayThere c.requires.ready.writes) (be.seen r.below h w) (be.seen c.next.new.self c.take_found.new.home c.next.new.store) r.to c.args.upto.now c.args.end r.spot c.take_found.new.spot c.requires.idle c.take_found.new.stage c.requires.inside c.requires.near c.requires.end c.in-Ok-next.got r.stage c.take_found.result c.requires.stage (λ t s. c.in-Ok-next.ensures.gives t s ∙ ap (λ x. first_upto x t.left) near) (subst (λ x. IfSome c.in-Ok-next.got (λ f. IsTrue (is_upto x f))) near c.in-Ok-next.ensures.upto) (λ t s. filled.seen (left_by (Ok c.in-Ok-next.got) t) (c.in-Ok-next.ensures.seen t s)) (subst (λ (z : Found × Pos). TookFound z.0 z.1 c.args.end c.args.upto.now r.spot c.take_found.new.spot r.stage c.take_found.new.stage c.take_found.result) (λ i. (c.found.ensures i, near i)) c.take_found.ensures.took)) in
    ready-on kn be fi r n h c.take_found.new.home w c.next.new.store c.requires.ready (returns-in-Ok-next-clause-stays g c) filled.fit
    (λ x on. c.in-Ok-next.ensures.ahead x (o.passes x on) (c.requires.ready.ahead x (reach-through (stand r.spot) (stand n.spot) x o.on on)))
    (at-on r.lags (kn.place r.known) (stand r.spot) (stand n.spot) c.requires.lags c.requires.ready.place o.on)

pub returns-in-Ok-next-clause-on : goal.returns-in-Ok-next-clause-on
returns-in-Ok-next-clause-on g c =
    let kn = (of_known g.K.Known.ready g.K.Known.place g.K.Known.knows g.K.Known.heads g.K.Known.did) in
    let be = (of_below g.F.Frags.ready g.F.Frags.seen g.F.Frags.ahead g.F.Frags.moves g.F.Frags.did) in
    let fi = (of_filler g.P.Filler.ready g.P.Filler.fits g.P.Filler.may g.P.Filler.lost g.P.Filler.stands g.P.Filler.knows g.P.Filler.knows_statics g.P.Filler.fills) in
    let r = c.args.reader.now in
    let h = c.args.home.now in
    let w = c.args.store.now in
    let after = c.requires.ready.shares.after_below r.known r.below c.next.new.self r.filler h w c.next.new.home c.next.new.store c.requires.ready.fit c.in-Ok-next.ensures.moves c.in-Ok-next.ensures.ready in
    let filled = fills-left kn be fi c.requires.ready.shares r.known c.next.new.self c.next.new.store (r.filler, c.next.new.home) (c.take_found.new.filler, c.take_found.new.home) c.take_found.ensures.did after.0 in
    let near : c.in-Ok.near ≡ near_of c.args.upto.now c.args.end = c.in-Ok.ensures in
    let o : Gone (SayThere c.requires.ready.writes) (be.seen r.below h w) (be.seen c.next.new.self c.take_found.new.home c.next.new.store) r.to c.args.upto.now r.stage r.spot c.take_found.new.stage c.take_found.new.spot c.in-Ok-next.got c.take_found.result = subst (λ b. Gone (SayThere c.requires.ready.writes) (be.seen r.below h w) (be.seen c.next.new.self c.take_found.new.home c.next.new.store) r.to c.args.upto.now b r.spot c.take_found.new.stage c.take_found.new.spot c.in-Ok-next.got c.take_found.result) (sym c.requires.stage) (gone (SayThere c.requires.ready.writes) (be.seen r.below h w) (be.seen c.next.new.self c.take_found.new.home c.next.new.store) r.to c.args.upto.now c.args.end r.spot c.take_found.new.spot c.requires.idle c.take_found.new.stage c.requires.inside c.requires.near c.requires.end c.in-Ok-next.got r.stage c.take_found.result c.requires.stage (λ t s. c.in-Ok-next.ensures.gives t s ∙ ap (λ x. first_upto x t.left) near) (subst (λ x. IfSome c.in-Ok-next.got (λ f. IsTrue (is_upto x f))) near c.in-Ok-next.ensures.upto) (λ t s. filled.seen (left_by (Ok c.in-Ok-next.got) t) (c.in-Ok-next.ensures.seen t s)) (subst (λ (z : Found × Pos). TookFound z.0 z.1 c.args.end c.args.upto.now r.spot c.take_found.new.spot r.stage c.take_found.new.stage c.take_found.result) (λ i. (c.found.ensures i, near i)) c.take_found.ensures.took)) in
    o.on

pub returns-in-Err-next-clause-stays : goal.returns-in-Err-next-clause-stays
returns-in-Err-next-clause-stays g c =
    let kn = (of_known g.K.Known.ready g.K.Known.place g.K.Known.knows g.K.Known.heads g.K.Known.did) in
    let be = (of_below g.F.Frags.ready g.F.Frags.seen g.F.Frags.ahead g.F.Frags.moves g.F.Frags.did) in
    let fi = (of_filler g.P.Filler.ready g.P.Filler.fits g.P.Filler.may g.P.Filler.lost g.P.Filler.stands g.P.Filler.knows g.P.Filler.knows_statics g.P.Filler.fills) in
    let r = c.args.reader.now in
    let h = c.args.home.now in
    let w = c.args.store.now in
    let n = reader_of r.known c.next.new.self r.filler r.to r.spot r.stage r.lags in
    let after = c.requires.ready.shares.after_below r.known r.below c.next.new.self r.filler h w c.next.new.home c.next.new.store c.requires.ready.fit c.in-Err-next.ensures.moves c.in-Err-next.ensures.ready in
    stays-on kn be fi r n h c.next.new.home w c.next.new.store (λ writes d l. after.2 writes d) (no-whole kn be fi r h c.requires.idle c.requires.within c.requires.missing) (idle-outcome (SayThere c.requires.ready.writes) (be.seen r.below h w) (be.seen c.next.new.self c.next.new.home c.next.new.store) r.to r.spot c.requires.idle r.stage c.in-Err-next.ensures.seen).carries (reach-itself (stand r.spot)) refl

pub returns-in-Err-next-clause-says : goal.returns-in-Err-next-clause-says
returns-in-Err-next-clause-says g c = λ s d.
    let kn = (of_known g.K.Known.ready g.K.Known.place g.K.Known.knows g.K.Known.heads g.K.Known.did) in
    let be = (of_below g.F.Frags.ready g.F.Frags.seen g.F.Frags.ahead g.F.Frags.moves g.F.Frags.did) in
    let fi = (of_filler g.P.Filler.ready g.P.Filler.fits g.P.Filler.may g.P.Filler.lost g.P.Filler.stands g.P.Filler.knows g.P.Filler.knows_statics g.P.Filler.fills) in
    let r = c.args.reader.now in
    let h = c.args.home.now in
    let w = c.args.store.now in
    let n = reader_of r.known c.next.new.self r.filler r.to r.spot r.stage r.lags in
    let after = c.requires.ready.shares.after_below r.known r.below c.next.new.self r.filler h w c.next.new.home c.next.new.store c.requires.ready.fit c.in-Err-next.ensures.moves c.in-Err-next.ensures.ready in
    sees-on kn be fi r n h c.next.new.home w c.next.new.store s d (returns-in-Err-next-clause-stays g c) after.1 (idle-front r.spot c.requires.idle) refl (reach-itself (stand r.spot)) refl (no-whole kn be fi r h c.requires.idle c.requires.within c.requires.missing) (idle-outcome (SayThere d.writes) (be.seen r.below h w) (be.seen c.next.new.self c.next.new.home c.next.new.store) r.to r.spot c.requires.idle r.stage c.in-Err-next.ensures.seen)

pub returns-in-Err-next-clause-did : goal.returns-in-Err-next-clause-did
returns-in-Err-next-clause-did g c = λ y covers.
    let kn = (of_known g.K.Known.ready g.K.Known.place g.K.Known.knows g.K.Known.heads g.K.Known.did) in
    let be = (of_below g.F.Frags.ready g.F.Frags.seen g.F.Frags.ahead g.F.Frags.moves g.F.Frags.did) in
    let fi = (of_filler g.P.Filler.ready g.P.Filler.fits g.P.Filler.may g.P.Filler.lost g.P.Filler.stands g.P.Filler.knows g.P.Filler.knows_statics g.P.Filler.fills) in
    let r = c.args.reader.now in
    let h = c.args.home.now in
    let w = c.args.store.now in
    chain-one (ReaderCall kn be fi (OfNext y)) false (r.known, r.below, r.filler, h, w) (r.known, c.next.new.self, r.filler, c.next.new.home, c.next.new.store) (below-call kn be fi (OfNext y) r.known r.filler false r.below c.next.new.self h c.next.new.home w c.next.new.store (OfNext y) (inl refl) (c.in-Err-next.ensures.did y (subst (λ x. ReachesEnd (be.seen r.below h w) x y) (sym c.in-Ok.ensures) (end-on kn be fi r h w c.args.upto.now (near_of c.args.upto.now c.args.end) y c.requires.idle c.requires.stage (near-is c.args.upto.now c.args.end).0 (reach-through (near_of c.args.upto.now c.args.end) c.args.end r.to (near-within c.args.upto.now c.args.end) c.requires.inside) (no-whole kn be fi r h c.requires.idle c.requires.within c.requires.missing) covers))))

pub returns-in-Err-next-clause-ready : goal.returns-in-Err-next-clause-ready
returns-in-Err-next-clause-ready g c =
    let kn = (of_known g.K.Known.ready g.K.Known.place g.K.Known.knows g.K.Known.heads g.K.Known.did) in
    let be = (of_below g.F.Frags.ready g.F.Frags.seen g.F.Frags.ahead g.F.Frags.moves g.F.Frags.did) in
    let fi = (of_filler g.P.Filler.ready g.P.Filler.fits g.P.Filler.may g.P.Filler.lost g.P.Filler.stands g.P.Filler.knows g.P.Filler.knows_statics g.P.Filler.fills) in
    let r = c.args.reader.now in
    let h = c.args.home.now in
    let w = c.args.store.now in
    let n = reader_of r.known c.next.new.self r.filler r.to r.spot r.stage r.lags in
    let after = c.requires.ready.shares.after_below r.known r.below c.next.new.self r.filler h w c.next.new.home c.next.new.store c.requires.ready.fit c.in-Err-next.ensures.moves c.in-Err-next.ensures.ready in
    ready-on kn be fi r n h c.next.new.home w c.next.new.store c.requires.ready (returns-in-Err-next-clause-stays g c) after.0 (λ x on. c.in-Err-next.ensures.ahead x tt (c.requires.ready.ahead x on)) c.requires.ready.place

pub returns-in-Err-clause-on : goal.returns-in-Err-clause-on
returns-in-Err-clause-on g c = reach-itself (stand c.args.reader.now.spot)

pub returns-in-Err-next-clause-on : goal.returns-in-Err-next-clause-on
returns-in-Err-next-clause-on g c = reach-itself (stand c.args.reader.now.spot)

pub take_found-requires-clause-lost : goal.take_found-requires-clause-lost
take_found-requires-clause-lost g c =
    let kn = (of_known g.K.Known.ready g.K.Known.place g.K.Known.knows g.K.Known.heads g.K.Known.did) in
    let be = (of_below g.F.Frags.ready g.F.Frags.seen g.F.Frags.ahead g.F.Frags.moves g.F.Frags.did) in
    let fi = (of_filler g.P.Filler.ready g.P.Filler.fits g.P.Filler.may g.P.Filler.lost g.P.Filler.stands g.P.Filler.knows g.P.Filler.knows_statics g.P.Filler.fills) in
    let r = c.args.reader.now in
    let h = c.args.home.now in
    let w = c.args.store.now in
    stays-lost kn be fi r.known c.next.new.self c.next.new.store r.filler c.next.new.home c.requires.ready.shares (c.requires.ready.shares.after_below r.known r.below c.next.new.self r.filler h w c.next.new.home c.next.new.store c.requires.ready.fit c.in-Ok-next.ensures.moves c.in-Ok-next.ensures.ready).0

pub take_found-requires-clause-unread : goal.take_found-requires-clause-unread
take_found-requires-clause-unread g c =
    c.requires.idle.row

pub returns-in-Ok-next-clause-filled : goal.returns-in-Ok-next-clause-filled
returns-in-Ok-next-clause-filled g c =
    let kn = (of_known g.K.Known.ready g.K.Known.place g.K.Known.knows g.K.Known.heads g.K.Known.did) in
    let be = (of_below g.F.Frags.ready g.F.Frags.seen g.F.Frags.ahead g.F.Frags.moves g.F.Frags.did) in
    let fi = (of_filler g.P.Filler.ready g.P.Filler.fits g.P.Filler.may g.P.Filler.lost g.P.Filler.stands g.P.Filler.knows g.P.Filler.knows_statics g.P.Filler.fills) in
    let r = c.args.reader.now in
    let h = c.args.home.now in
    let w = c.args.store.now in
    let after = c.requires.ready.shares.after_below r.known r.below c.next.new.self r.filler h w c.next.new.home c.next.new.store c.requires.ready.fit c.in-Ok-next.ensures.moves c.in-Ok-next.ensures.ready in
    let filled = fills-left kn be fi c.requires.ready.shares r.known c.next.new.self c.next.new.store (r.filler, c.next.new.home) (c.take_found.new.filler, c.take_found.new.home) c.take_found.ensures.did after.0 in
    filled-read kn be fi c.next.new.self c.next.new.store r.known r.filler c.take_found.new.filler h c.next.new.home c.take_found.new.home r.spot.place (stand r.spot) (stand c.take_found.new.spot) (idle-stand r.spot c.requires.idle) after filled c.take_found.ensures.taken

pub returns-in-Err-next-clause-filled : goal.returns-in-Err-next-clause-filled
returns-in-Err-next-clause-filled g c =
    let kn = (of_known g.K.Known.ready g.K.Known.place g.K.Known.knows g.K.Known.heads g.K.Known.did) in
    let be = (of_below g.F.Frags.ready g.F.Frags.seen g.F.Frags.ahead g.F.Frags.moves g.F.Frags.did) in
    let fi = (of_filler g.P.Filler.ready g.P.Filler.fits g.P.Filler.may g.P.Filler.lost g.P.Filler.stands g.P.Filler.knows g.P.Filler.knows_statics g.P.Filler.fills) in
    let r = c.args.reader.now in
    let h = c.args.home.now in
    let w = c.args.store.now in
    let after = c.requires.ready.shares.after_below r.known r.below c.next.new.self r.filler h w c.next.new.home c.next.new.store c.requires.ready.fit c.in-Err-next.ensures.moves c.in-Err-next.ensures.ready in
    filled-below kn be fi r.known r.filler h c.next.new.home (IsKnownOver (kn.knows r.known c.next.new.home) (stand r.spot) (stand r.spot)) after.1 after.3 (over-nothing (kn.knows r.known c.next.new.home) (stand r.spot) (stand r.spot) refl)

pub returns-in-Err-clause-filled : goal.returns-in-Err-clause-filled
returns-in-Err-clause-filled g c =
    let kn = (of_known g.K.Known.ready g.K.Known.place g.K.Known.knows g.K.Known.heads g.K.Known.did) in
    let be = (of_below g.F.Frags.ready g.F.Frags.seen g.F.Frags.ahead g.F.Frags.moves g.F.Frags.did) in
    let fi = (of_filler g.P.Filler.ready g.P.Filler.fits g.P.Filler.may g.P.Filler.lost g.P.Filler.stands g.P.Filler.knows g.P.Filler.knows_statics g.P.Filler.fills) in
    let r = c.args.reader.now in
    let h = c.args.home.now in
    let w = c.args.store.now in
    filled-still kn fi r.known r.filler h (IsKnownOver (kn.knows r.known h) (stand r.spot) (stand r.spot)) (over-nothing (kn.knows r.known h) (stand r.spot) (stand r.spot) refl)

pub returns-in-Err-clause-stays : goal.returns-in-Err-clause-stays
returns-in-Err-clause-stays g c = λ writes d. d

pub returns-in-Ok-next-clause-answered : goal.returns-in-Ok-next-clause-answered
returns-in-Ok-next-clause-answered g c = (OfNext c.in-Ok.near, c.args.home.now, c.next.new.self, c.next.new.home, c.next.new.store, c.in-Ok-next.ensures.did c.in-Ok.near (inl (reach-itself c.in-Ok.near)))
