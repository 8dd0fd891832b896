-- What was due was given, or more was read.
use Rattle.std.specs.Prelude.{◌≡◌, ◌⊎◌}
use Rattle.std.proofs.Common.{Some, true, false, refl, sym, ap, ◌∙◌, subst}
use Rattle.rc_stream.specs.Did.{OfNext}
use Rattle.rc_stream.specs.Places.{Reaches}
use Rattle.rc_stream.specs.Snapshot.{There}
use Rattle.rc_stream.specs.Stream.{took}
use Rattle.rc_mutation.specs.Fragments.{tomb_after}
use Rattle.rc_cacheread.specs.declared.spots.Spot.{Spot}
use Rattle.rc_cacheread.specs.declared.spots.Turn.TheVariants as turn
use Rattle.rc_cacheread.specs.Did.{AnswersBelow, CallsSnapshotAlone, IsKnownFor, KnownStep, ReaderCall, ReaderFilled, reader_state}
use Rattle.rc_cacheread.specs.Sharing.{of_below, of_filler, of_known}
use Rattle.rc_cacheread.specs.Spots.{stand}
use Rattle.rc_cacheread.specs.calls.Spots.{GivesDue}
use Rattle.rc_cacheread.proofs.Chains.{chain-none}
use Rattle.rc_cacheread.proofs.Idle.{idle-stand}
use Rattle.rc_cacheread.proofs.Orders.{reach-itself}
use Rattle.rc_cacheread.proofs.Stepping.{end-reaches, ends-on, reader_of}
use Rattle.rc_cacheread.proofs.Turning.{first-left, nothing-left, ready-alike, ready-closed, sees-alike, sees-at, sees-closed, stays-alike, stays-closed, still-known}
use Rattle.rc_cacheread.specs.Passing.{IsKnownOver}
use Rattle.rc_cacheread.proofs.Filled.{filled-still}
use Rattle.rc_cacheread.specs.laws.Passing.{over-nothing}
use Rattle.rc_cacheread.proofs.Passed.{known-here, whole-ends}
use Rattle.rc_cacheread.proofs.Lists.{untrue}
use Rattle.rc_cacheread.proofs.Unanswered.{of-answer, same-itself, unanswered-part}
use Rattle.rc_cacheread.proofs.readers.round.Goals as goal

pub returns-in-Ok-Given-clause-says : goal.returns-in-Ok-Given-clause-says
returns-in-Ok-Given-clause-says g c = λ s d.
    let kn = (of_known g.K.Known.ready g.K.Known.place g.K.Known.knows g.K.Known.heads g.K.Known.did) in
    let be = (of_below g.F.Frags.ready g.F.Frags.seen g.F.Frags.ahead g.F.Frags.moves g.F.Frags.did) in
    let fi = (of_filler g.P.Filler.ready g.P.Filler.fits g.P.Filler.may g.P.Filler.lost g.P.Filler.stands g.P.Filler.knows g.P.Filler.knows_statics g.P.Filler.fills) in
    let r = c.args.reader.now in
    let h = c.args.home.now in
    let w = c.args.store.now in
    let e : GivesDue r.to c.args.upto.now r.spot c.give.new.self (turn.Given c.in-Ok-Given.frag) = subst (GivesDue r.to c.args.upto.now r.spot c.give.new.self) c.in-Ok-Given.field-0-is c.in-Ok-Given.ensures.ok in
    let l = first-left c.args.upto.now c.in-Ok-Given.frag s.left d.says.rest (d.says.left) e.0 e.1 in
    (sees-at kn be fi r c.give.new.self h w e.3 e.4 s (took (Some c.in-Ok-Given.frag) s) d refl (ap (λ t. tomb_after t c.in-Ok-Given.frag) d.says.tomb ∙ sym e.2) l.1, l.0)

pub returns-in-Ok-Nothing-clause-says : goal.returns-in-Ok-Nothing-clause-says
returns-in-Ok-Nothing-clause-says g c = λ s d.
    let kn = (of_known g.K.Known.ready g.K.Known.place g.K.Known.knows g.K.Known.heads g.K.Known.did) in
    let be = (of_below g.F.Frags.ready g.F.Frags.seen g.F.Frags.ahead g.F.Frags.moves g.F.Frags.did) in
    let fi = (of_filler g.P.Filler.ready g.P.Filler.fits g.P.Filler.may g.P.Filler.lost g.P.Filler.stands g.P.Filler.knows g.P.Filler.knows_statics g.P.Filler.fills) in
    let r = c.args.reader.now in
    let h = c.args.home.now in
    let w = c.args.store.now in
    let e : GivesDue r.to c.args.upto.now r.spot c.give.new.self turn.Nothing = subst (GivesDue r.to c.args.upto.now r.spot c.give.new.self) c.in-Ok-Nothing.field-0-is c.in-Ok-Nothing.ensures.ok in
    let n = sees-alike kn be fi r c.give.new.self h w s e.0 d in
    (n, nothing-left kn be fi (reader_of r.known r.below r.filler r.to c.give.new.self r.stage r.lags) h w c.args.upto.now s e.1 n)

pub returns-in-Ok-Nothing-clause-ready : goal.returns-in-Ok-Nothing-clause-ready
returns-in-Ok-Nothing-clause-ready g c =
    let kn = (of_known g.K.Known.ready g.K.Known.place g.K.Known.knows g.K.Known.heads g.K.Known.did) in
    let be = (of_below g.F.Frags.ready g.F.Frags.seen g.F.Frags.ahead g.F.Frags.moves g.F.Frags.did) in
    let fi = (of_filler g.P.Filler.ready g.P.Filler.fits g.P.Filler.may g.P.Filler.lost g.P.Filler.stands g.P.Filler.knows g.P.Filler.knows_statics g.P.Filler.fills) in
    let r = c.args.reader.now in
    let h = c.args.home.now in
    let w = c.args.store.now in
    let e : GivesDue r.to c.args.upto.now r.spot c.give.new.self turn.Nothing = subst (GivesDue r.to c.args.upto.now r.spot c.give.new.self) c.in-Ok-Nothing.field-0-is c.in-Ok-Nothing.ensures.ok in
    ready-alike kn be fi r c.give.new.self h w e.0.from e.0.tomb c.requires.ready

pub returns-in-Ok-Closed-clause-says : goal.returns-in-Ok-Closed-clause-says
returns-in-Ok-Closed-clause-says g c = λ s d.
    let kn = (of_known g.K.Known.ready g.K.Known.place g.K.Known.knows g.K.Known.heads g.K.Known.did) in
    let be = (of_below g.F.Frags.ready g.F.Frags.seen g.F.Frags.ahead g.F.Frags.moves g.F.Frags.did) in
    let fi = (of_filler g.P.Filler.ready g.P.Filler.fits g.P.Filler.may g.P.Filler.lost g.P.Filler.stands g.P.Filler.knows g.P.Filler.knows_statics g.P.Filler.fills) in
    let r = c.args.reader.now in
    let h = c.args.home.now in
    let w = c.args.store.now in
    let e : GivesDue r.to c.args.upto.now r.spot c.give.new.self turn.Closed = subst (GivesDue r.to c.args.upto.now r.spot c.give.new.self) c.in-Ok-Closed.field-0-is c.in-Ok-Closed.ensures.ok in
    sees-closed kn be fi r c.give.new.self h w e s d

pub returns-in-Ok-Closed-clause-ready : goal.returns-in-Ok-Closed-clause-ready
returns-in-Ok-Closed-clause-ready g c =
    let kn = (of_known g.K.Known.ready g.K.Known.place g.K.Known.knows g.K.Known.heads g.K.Known.did) in
    let be = (of_below g.F.Frags.ready g.F.Frags.seen g.F.Frags.ahead g.F.Frags.moves g.F.Frags.did) in
    let fi = (of_filler g.P.Filler.ready g.P.Filler.fits g.P.Filler.may g.P.Filler.lost g.P.Filler.stands g.P.Filler.knows g.P.Filler.knows_statics g.P.Filler.fills) in
    let r = c.args.reader.now in
    let h = c.args.home.now in
    let w = c.args.store.now in
    let e : GivesDue r.to c.args.upto.now r.spot c.give.new.self turn.Closed = subst (GivesDue r.to c.args.upto.now r.spot c.give.new.self) c.in-Ok-Closed.field-0-is c.in-Ok-Closed.ensures.ok in
    ready-closed kn be fi r c.give.new.self h w e c.requires.ready

pub read_part-requires-clause-ready : goal.read_part-requires-clause-ready
read_part-requires-clause-ready g c =
    let kn = (of_known g.K.Known.ready g.K.Known.place g.K.Known.knows g.K.Known.heads g.K.Known.did) in
    let be = (of_below g.F.Frags.ready g.F.Frags.seen g.F.Frags.ahead g.F.Frags.moves g.F.Frags.did) in
    let fi = (of_filler g.P.Filler.ready g.P.Filler.fits g.P.Filler.may g.P.Filler.lost g.P.Filler.stands g.P.Filler.knows g.P.Filler.knows_statics g.P.Filler.fills) in
    let r = c.args.reader.now in
    let h = c.args.home.now in
    let w = c.args.store.now in
    let e : GivesDue r.to c.args.upto.now r.spot c.give.new.self turn.Unread = subst (GivesDue r.to c.args.upto.now r.spot c.give.new.self) c.in-Ok-Unread.field-0-is c.in-Ok-Unread.ensures.ok in
    ready-alike kn be fi r c.give.new.self h w e.0.from e.0.tomb c.requires.ready

pub returns-in-Ok-Unread-clause-says : goal.returns-in-Ok-Unread-clause-says
returns-in-Ok-Unread-clause-says g c = λ s d.
    let kn = (of_known g.K.Known.ready g.K.Known.place g.K.Known.knows g.K.Known.heads g.K.Known.did) in
    let be = (of_below g.F.Frags.ready g.F.Frags.seen g.F.Frags.ahead g.F.Frags.moves g.F.Frags.did) in
    let fi = (of_filler g.P.Filler.ready g.P.Filler.fits g.P.Filler.may g.P.Filler.lost g.P.Filler.stands g.P.Filler.knows g.P.Filler.knows_statics g.P.Filler.fills) in
    let r = c.args.reader.now in
    let h = c.args.home.now in
    let w = c.args.store.now in
    let e : GivesDue r.to c.args.upto.now r.spot c.give.new.self turn.Unread = subst (GivesDue r.to c.args.upto.now r.spot c.give.new.self) c.in-Ok-Unread.field-0-is c.in-Ok-Unread.ensures.ok in
    c.read_part.ensures.says s (sees-alike kn be fi r c.give.new.self h w s e.0 d)

pub returns-in-Ok-Given-clause-did : goal.returns-in-Ok-Given-clause-did
returns-in-Ok-Given-clause-did g c = λ y covers.
    let kn = (of_known g.K.Known.ready g.K.Known.place g.K.Known.knows g.K.Known.heads g.K.Known.did) in
    let be = (of_below g.F.Frags.ready g.F.Frags.seen g.F.Frags.ahead g.F.Frags.moves g.F.Frags.did) in
    let fi = (of_filler g.P.Filler.ready g.P.Filler.fits g.P.Filler.may g.P.Filler.lost g.P.Filler.stands g.P.Filler.knows g.P.Filler.knows_statics g.P.Filler.fills) in
    let r = c.args.reader.now in
    let h = c.args.home.now in
    let w = c.args.store.now in
    let e : GivesDue r.to c.args.upto.now r.spot c.give.new.self (turn.Given c.in-Ok-Given.frag) = subst (GivesDue r.to c.args.upto.now r.spot c.give.new.self) c.in-Ok-Given.field-0-is c.in-Ok-Given.ensures.ok in
    record {
      calls = chain-none (ReaderCall kn be fi (OfNext y)) true (r.known, r.below, r.filler, h, w);
      on = subst (Reaches (stand r.spot)) (sym e.3) (reach-itself (stand r.spot));
      gone = tt;
      to = refl;
      quiet = λ q. ((chain-none (KnownStep kn.did) true (r.known, h), refl, refl, refl), subst (λ x. IsKnownFor (OfNext y) (kn.knows r.known h) (kn.heads r.known h) x r.to) (sym e.3) q);
      filled = filled-still kn fi r.known r.filler h (IsKnownOver (kn.knows r.known h) (stand r.spot) (stand c.give.new.self)) (over-nothing (kn.knows r.known h) (stand r.spot) (stand c.give.new.self) e.3);
      unanswered = λ ok mute. record { below = refl; store = refl; same = same-itself (kn.knows r.known h); now = over-nothing (kn.knows r.known h) (stand r.spot) (stand c.give.new.self) e.3 };
      stays = stays-alike kn be fi r c.give.new.self h w e.3 e.4;
    }

pub returns-in-Ok-Nothing-clause-did : goal.returns-in-Ok-Nothing-clause-did
returns-in-Ok-Nothing-clause-did g c = λ y covers.
    let kn = (of_known g.K.Known.ready g.K.Known.place g.K.Known.knows g.K.Known.heads g.K.Known.did) in
    let be = (of_below g.F.Frags.ready g.F.Frags.seen g.F.Frags.ahead g.F.Frags.moves g.F.Frags.did) in
    let fi = (of_filler g.P.Filler.ready g.P.Filler.fits g.P.Filler.may g.P.Filler.lost g.P.Filler.stands g.P.Filler.knows g.P.Filler.knows_statics g.P.Filler.fills) in
    let r = c.args.reader.now in
    let h = c.args.home.now in
    let w = c.args.store.now in
    let e : GivesDue r.to c.args.upto.now r.spot c.give.new.self turn.Nothing = subst (GivesDue r.to c.args.upto.now r.spot c.give.new.self) c.in-Ok-Nothing.field-0-is c.in-Ok-Nothing.ensures.ok in
    record {
      calls = chain-none (ReaderCall kn be fi (OfNext y)) true (r.known, r.below, r.filler, h, w);
      on = subst (Reaches (stand r.spot)) (sym e.0.from) (reach-itself (stand r.spot));
      gone = tt;
      to = refl;
      quiet = λ q. ((chain-none (KnownStep kn.did) true (r.known, h), refl, refl, refl), subst (λ x. IsKnownFor (OfNext y) (kn.knows r.known h) (kn.heads r.known h) x r.to) (sym e.0.from) q);
      filled = filled-still kn fi r.known r.filler h (IsKnownOver (kn.knows r.known h) (stand r.spot) (stand c.give.new.self)) (over-nothing (kn.knows r.known h) (stand r.spot) (stand c.give.new.self) e.0.from);
      unanswered = λ ok mute. record { below = refl; store = refl; same = same-itself (kn.knows r.known h); now = over-nothing (kn.knows r.known h) (stand r.spot) (stand c.give.new.self) e.0.from };
      stays = stays-alike kn be fi r c.give.new.self h w e.0.from e.0.tomb;
    }

pub returns-in-Ok-Closed-clause-did : goal.returns-in-Ok-Closed-clause-did
returns-in-Ok-Closed-clause-did g c = λ y covers.
    let kn = (of_known g.K.Known.ready g.K.Known.place g.K.Known.knows g.K.Known.heads g.K.Known.did) in
    let be = (of_below g.F.Frags.ready g.F.Frags.seen g.F.Frags.ahead g.F.Frags.moves g.F.Frags.did) in
    let fi = (of_filler g.P.Filler.ready g.P.Filler.fits g.P.Filler.may g.P.Filler.lost g.P.Filler.stands g.P.Filler.knows g.P.Filler.knows_statics g.P.Filler.fills) in
    let r = c.args.reader.now in
    let h = c.args.home.now in
    let w = c.args.store.now in
    let e : GivesDue r.to c.args.upto.now r.spot c.give.new.self turn.Closed = subst (GivesDue r.to c.args.upto.now r.spot c.give.new.self) c.in-Ok-Closed.field-0-is c.in-Ok-Closed.ensures.ok in
    record {
      calls = chain-none (ReaderCall kn be fi (OfNext y)) true (r.known, r.below, r.filler, h, w);
      on = subst (Reaches (stand r.spot)) (sym e.2) (reach-itself (stand r.spot));
      gone = tt;
      to = refl;
      quiet = λ q. ((chain-none (KnownStep kn.did) true (r.known, h), refl, refl, refl), subst (λ x. IsKnownFor (OfNext y) (kn.knows r.known h) (kn.heads r.known h) x r.to) (sym e.2) q);
      filled = filled-still kn fi r.known r.filler h (IsKnownOver (kn.knows r.known h) (stand r.spot) (stand c.give.new.self)) (over-nothing (kn.knows r.known h) (stand r.spot) (stand c.give.new.self) e.2);
      unanswered = λ ok mute. record { below = refl; store = refl; same = same-itself (kn.knows r.known h); now = over-nothing (kn.knows r.known h) (stand r.spot) (stand c.give.new.self) e.2 };
      stays = stays-closed kn be fi r c.give.new.self h w e;
    }

pub returns-in-Ok-Unread-clause-did : goal.returns-in-Ok-Unread-clause-did
returns-in-Ok-Unread-clause-did g c = λ y covers.
    let kn = (of_known g.K.Known.ready g.K.Known.place g.K.Known.knows g.K.Known.heads g.K.Known.did) in
    let be = (of_below g.F.Frags.ready g.F.Frags.seen g.F.Frags.ahead g.F.Frags.moves g.F.Frags.did) in
    let fi = (of_filler g.P.Filler.ready g.P.Filler.fits g.P.Filler.may g.P.Filler.lost g.P.Filler.stands g.P.Filler.knows g.P.Filler.knows_statics g.P.Filler.fills) in
    let r = c.args.reader.now in
    let h = c.args.home.now in
    let w = c.args.store.now in
    let e : GivesDue r.to c.args.upto.now r.spot c.give.new.self turn.Unread = subst (GivesDue r.to c.args.upto.now r.spot c.give.new.self) c.in-Ok-Unread.field-0-is c.in-Ok-Unread.ensures.ok in
    let n = reader_of r.known r.below r.filler r.to c.give.new.self r.stage r.lags in
    let now = ends-on kn be fi r n h h w w c.args.upto.now y (λ s d. sees-alike kn be fi r c.give.new.self h w s e.0 d) covers in
    let place = n.spot.place in
    let k = sym (idle-stand n.spot e.1) ∙ e.0.from in
    let on = subst (λ x. Reaches x (stand c.read_part.new.reader.spot)) e.0.from c.read_part.ensures.on in
    record {
      calls = c.read_part.ensures.did y now;
      on = on;
      gone = tt;
      to = c.read_part.ensures.to;
      quiet = λ q.
          let v = known-here (kn.knows r.known h) (stand r.spot) place k (q place (subst (λ z. Reaches (stand r.spot) z) (sym k) (reach-itself (stand r.spot))) (end-reaches kn be fi n h w c.args.upto.now y e.1 e.2 now) e.3) in
          (c.read_part.ensures.quiet v.0 v.1, still-known (kn.knows r.known h) (kn.knows c.read_part.new.reader.known c.read_part.new.home) (c.read_part.ensures.keeps v.0 v.1) (stand r.spot) (stand c.read_part.new.reader.spot) (whole-ends (kn.knows r.known h) (stand n.spot) (stand r.spot) (stand c.read_part.new.reader.spot) (stand c.read_part.new.reader.spot) (sym e.0.from) refl (c.read_part.ensures.whole v.0 v.1)) y (kn.heads r.known h) (kn.heads c.read_part.new.reader.known c.read_part.new.home) r.to c.read_part.new.reader.to on (sym c.read_part.ensures.to) q);
      filled = subst (λ x. ReaderFilled kn fi r.known r.filler h c.read_part.new.reader.known c.read_part.new.reader.filler c.read_part.new.home (IsKnownOver (kn.knows c.read_part.new.reader.known c.read_part.new.home) x (stand c.read_part.new.reader.spot))) e.0.from c.read_part.ensures.filled;
      unanswered = λ ok mute.
          let m = c.read_part.new.reader in
          let g = c.read_part.new.home in
          unanswered-part kn be r n m h g w c.read_part.new.store place (IsKnownOver (kn.knows m.known g) (stand r.spot) (stand m.spot)) refl refl mute
          (of-answer c.read_part.result (AnswersBelow be r.below w ⊎ ((v : There) × kn.knows r.known h place v)) ok c.read_part.ensures.answered)
          (λ v k. subst (λ o. CallsSnapshotAlone kn o (reader_state n h w) (reader_state m g c.read_part.new.store)) ok (c.read_part.ensures.quiet v k))
          c.read_part.ensures.keeps
          (λ v k. subst (λ x. IsKnownOver (kn.knows m.known g) x (stand m.spot)) e.0.from (c.read_part.ensures.passed v k));
      stays = λ writes d. c.read_part.ensures.stays writes (stays-alike kn be fi r c.give.new.self h w e.0.from e.0.tomb writes d);
    }

pub returns-in-Err-clause-did : goal.returns-in-Err-clause-did
returns-in-Err-clause-did g c = λ y covers.
    let kn = (of_known g.K.Known.ready g.K.Known.place g.K.Known.knows g.K.Known.heads g.K.Known.did) in
    let be = (of_below g.F.Frags.ready g.F.Frags.seen g.F.Frags.ahead g.F.Frags.moves g.F.Frags.did) in
    let fi = (of_filler g.P.Filler.ready g.P.Filler.fits g.P.Filler.may g.P.Filler.lost g.P.Filler.stands g.P.Filler.knows g.P.Filler.knows_statics g.P.Filler.fills) in
    let r = c.args.reader.now in
    let h = c.args.home.now in
    let w = c.args.store.now in
    let same : c.give.new.self ≡ r.spot = c.in-Err.ensures.err in
    record {
      calls = chain-none (ReaderCall kn be fi (OfNext y)) false (r.known, r.below, r.filler, h, w);
      on = subst (λ s. Reaches (stand r.spot) (stand s)) (sym same) (reach-itself (stand r.spot));
      gone = tt;
      to = refl;
      quiet = λ q. ((chain-none (KnownStep kn.did) false (r.known, h), refl, refl, refl), subst (λ s. IsKnownFor (OfNext y) (kn.knows r.known h) (kn.heads r.known h) (stand s) r.to) (sym same) q);
      filled = filled-still kn fi r.known r.filler h (IsKnownOver (kn.knows r.known h) (stand r.spot) (stand c.give.new.self)) (over-nothing (kn.knows r.known h) (stand r.spot) (stand c.give.new.self) (ap stand same));
      unanswered = λ ok mute. untrue (sym ok);
      stays = stays-alike kn be fi r c.give.new.self h w (ap stand same) (ap (λ (x : Spot). x.tomb) same);
    }
