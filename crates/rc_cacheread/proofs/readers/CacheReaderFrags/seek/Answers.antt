-- A seek passes over what is due, or begins anew.
use Rattle.std.proofs.Common.{true, false, refl, sym, ap, subst, inl, inr}
use Rattle.rc_stream.specs.Stream.{onward}
use Rattle.rc_stream.specs.Did.{OfHead, OfSeek}
use Rattle.rc_stream.specs.Places.{Reaches}
use Rattle.rc_cacheread.specs.Did.{KnownStep, ReaderCall}
use Rattle.rc_cacheread.specs.Sharing.{of_below, of_filler, of_known}
use Rattle.rc_cacheread.specs.Spots.{stand}
use Rattle.rc_cacheread.specs.calls.Spots.{GoesOn}
use Rattle.rc_cacheread.proofs.Chains.{chain-none}
use Rattle.rc_cacheread.specs.laws.Orders.{never-before}
use Rattle.rc_cacheread.proofs.Orders.{reach-itself}
use Rattle.rc_cacheread.proofs.Sought.{at-begun, on-begun, ready-begun, sees-begun, sees-sought, stays-begun}
use Rattle.rc_cacheread.proofs.Turning.{ready-alike, sees-alike, stays-alike}
use Rattle.std.specs.Prelude.{⊤}
use Rattle.rc_cacheread.proofs.Filled.{filled-still}
use Rattle.rc_cacheread.proofs.Lists.{untrue}
use Rattle.rc_cacheread.proofs.Unanswered.{same-itself}
use Rattle.rc_cacheread.proofs.readers.CacheReaderFrags.seek.Goals as goal

pub returns-in-Ok-false-clause-seen : goal.returns-in-Ok-false-clause-seen
returns-in-Ok-false-clause-seen g c = λ s d.
    let kn = (of_known g.K.Known.ready g.K.Known.place g.K.Known.knows g.K.Known.heads g.K.Known.did) in
    let be = (of_below g.F.Frags.ready g.F.Frags.seen g.F.Frags.ahead g.F.Frags.moves g.F.Frags.did) in
    let fi = (of_filler g.P.Filler.ready g.P.Filler.fits g.P.Filler.may g.P.Filler.lost g.P.Filler.stands g.P.Filler.knows g.P.Filler.knows_statics g.P.Filler.fills) in
    let r = c.args.self.now in
    let h = c.args._home.now in
    let w = c.args._store.now in
    sees-sought kn be fi r c.seek.new.self c.args.to.now h w (subst (GoesOn c.args.to.now c.args.self.now.spot c.seek.new.self) c.in-Ok-false.field-0-test c.in-Ok-false.ensures.ok) s d

pub returns-in-Ok-false-clause-ready : goal.returns-in-Ok-false-clause-ready
returns-in-Ok-false-clause-ready g c =
    let kn = (of_known g.K.Known.ready g.K.Known.place g.K.Known.knows g.K.Known.heads g.K.Known.did) in
    let be = (of_below g.F.Frags.ready g.F.Frags.seen g.F.Frags.ahead g.F.Frags.moves g.F.Frags.did) in
    let fi = (of_filler g.P.Filler.ready g.P.Filler.fits g.P.Filler.may g.P.Filler.lost g.P.Filler.stands g.P.Filler.knows g.P.Filler.knows_statics g.P.Filler.fills) in
    let r = c.args.self.now in
    let h = c.args._home.now in
    let w = c.args._store.now in
    ready-alike kn be fi r c.seek.new.self h w (subst (GoesOn c.args.to.now c.args.self.now.spot c.seek.new.self) c.in-Ok-false.field-0-test c.in-Ok-false.ensures.ok).from (subst (GoesOn c.args.to.now c.args.self.now.spot c.seek.new.self) c.in-Ok-false.field-0-test c.in-Ok-false.ensures.ok).tomb c.requires.ready

pub returns-in-Ok-false-clause-did : goal.returns-in-Ok-false-clause-did
returns-in-Ok-false-clause-did g c =
    let kn = (of_known g.K.Known.ready g.K.Known.place g.K.Known.knows g.K.Known.heads g.K.Known.did) in
    let be = (of_below g.F.Frags.ready g.F.Frags.seen g.F.Frags.ahead g.F.Frags.moves g.F.Frags.did) in
    let fi = (of_filler g.P.Filler.ready g.P.Filler.fits g.P.Filler.may g.P.Filler.lost g.P.Filler.stands g.P.Filler.knows g.P.Filler.knows_statics g.P.Filler.fills) in
    let r = c.args.self.now in
    let h = c.args._home.now in
    let w = c.args._store.now in
    record {
      calls = chain-none (ReaderCall kn be fi (OfSeek c.args.to.now)) true (r.known, r.below, r.filler, h, w);
      on = subst (Reaches (stand r.spot)) (sym (subst (GoesOn c.args.to.now c.args.self.now.spot c.seek.new.self) c.in-Ok-false.field-0-test c.in-Ok-false.ensures.ok).from) (reach-itself (stand r.spot));
      gone = record { stands = inl (subst (GoesOn c.args.to.now c.args.self.now.spot c.seek.new.self) c.in-Ok-false.field-0-test c.in-Ok-false.ensures.ok).from; idle = λ none reaches. absurd (never-before c.args.to.now (stand r.spot) reaches ((subst (GoesOn c.args.to.now c.args.self.now.spot c.seek.new.self) c.in-Ok-false.field-0-test c.in-Ok-false.ensures.ok).before (ap (onward c.args.to.now) none))) };
      to = refl;
      quiet = λ q. ((chain-none (KnownStep kn.did) true (r.known, h), refl, refl, refl), tt);
      filled = filled-still kn fi r.known r.filler h ⊤ tt;
      unanswered = λ e mute. record { below = refl; store = refl; same = same-itself (kn.knows r.known h); now = tt };
      stays = stays-alike kn be fi r c.seek.new.self h w (subst (GoesOn c.args.to.now c.args.self.now.spot c.seek.new.self) c.in-Ok-false.field-0-test c.in-Ok-false.ensures.ok).from (subst (GoesOn c.args.to.now c.args.self.now.spot c.seek.new.self) c.in-Ok-false.field-0-test c.in-Ok-false.ensures.ok).tomb;
    }

pub returns-in-Ok-false-clause-moves : goal.returns-in-Ok-false-clause-moves
returns-in-Ok-false-clause-moves g c =
    let kn = (of_known g.K.Known.ready g.K.Known.place g.K.Known.knows g.K.Known.heads g.K.Known.did) in
    let be = (of_below g.F.Frags.ready g.F.Frags.seen g.F.Frags.ahead g.F.Frags.moves g.F.Frags.did) in
    let fi = (of_filler g.P.Filler.ready g.P.Filler.fits g.P.Filler.may g.P.Filler.lost g.P.Filler.stands g.P.Filler.knows g.P.Filler.knows_statics g.P.Filler.fills) in
    let r = c.args.self.now in
    let h = c.args._home.now in
    let w = c.args._store.now in
    record { s = (r.known, r.below, r.filler); t = (r.known, r.below, r.filler); c = OfHead; ok = true; calls = chain-none (ReaderCall kn be fi OfHead) true (r.known, r.below, r.filler, h, w) }

pub returns-in-Ok-false-clause-damage : goal.returns-in-Ok-false-clause-damage
returns-in-Ok-false-clause-damage g c = record { named = tt; less = λ file offset d. d }

pub returns-in-Ok-true-clause-seen : goal.returns-in-Ok-true-clause-seen
returns-in-Ok-true-clause-seen g c = λ s d.
    let kn = (of_known g.K.Known.ready g.K.Known.place g.K.Known.knows g.K.Known.heads g.K.Known.did) in
    let be = (of_below g.F.Frags.ready g.F.Frags.seen g.F.Frags.ahead g.F.Frags.moves g.F.Frags.did) in
    let fi = (of_filler g.P.Filler.ready g.P.Filler.fits g.P.Filler.may g.P.Filler.lost g.P.Filler.stands g.P.Filler.knows g.P.Filler.knows_statics g.P.Filler.fills) in
    let r = c.args.self.now in
    let h = c.args._home.now in
    let w = c.args._store.now in
    sees-begun kn be fi r c.seek.new.self c.args.to.now h w (subst (GoesOn c.args.to.now c.args.self.now.spot c.seek.new.self) c.in-Ok-true.field-0-test c.in-Ok-true.ensures.ok) s d

pub returns-in-Ok-true-clause-ready : goal.returns-in-Ok-true-clause-ready
returns-in-Ok-true-clause-ready g c =
    let kn = (of_known g.K.Known.ready g.K.Known.place g.K.Known.knows g.K.Known.heads g.K.Known.did) in
    let be = (of_below g.F.Frags.ready g.F.Frags.seen g.F.Frags.ahead g.F.Frags.moves g.F.Frags.did) in
    let fi = (of_filler g.P.Filler.ready g.P.Filler.fits g.P.Filler.may g.P.Filler.lost g.P.Filler.stands g.P.Filler.knows g.P.Filler.knows_statics g.P.Filler.fills) in
    let r = c.args.self.now in
    let h = c.args._home.now in
    let w = c.args._store.now in
    ready-begun kn be fi r c.seek.new.self c.args.to.now h w (subst (GoesOn c.args.to.now c.args.self.now.spot c.seek.new.self) c.in-Ok-true.field-0-test c.in-Ok-true.ensures.ok) c.requires.ready

pub returns-in-Ok-true-clause-did : goal.returns-in-Ok-true-clause-did
returns-in-Ok-true-clause-did g c =
    let kn = (of_known g.K.Known.ready g.K.Known.place g.K.Known.knows g.K.Known.heads g.K.Known.did) in
    let be = (of_below g.F.Frags.ready g.F.Frags.seen g.F.Frags.ahead g.F.Frags.moves g.F.Frags.did) in
    let fi = (of_filler g.P.Filler.ready g.P.Filler.fits g.P.Filler.may g.P.Filler.lost g.P.Filler.stands g.P.Filler.knows g.P.Filler.knows_statics g.P.Filler.fills) in
    let r = c.args.self.now in
    let h = c.args._home.now in
    let w = c.args._store.now in
    record {
      calls = chain-none (ReaderCall kn be fi (OfSeek c.args.to.now)) true (r.known, r.below, r.filler, h, w);
      on = on-begun kn be fi r c.seek.new.self c.args.to.now h w (subst (GoesOn c.args.to.now c.args.self.now.spot c.seek.new.self) c.in-Ok-true.field-0-test c.in-Ok-true.ensures.ok);
      gone = record { stands = inr ((subst (GoesOn c.args.to.now c.args.self.now.spot c.seek.new.self) c.in-Ok-true.field-0-test c.in-Ok-true.ensures.ok).on, at-begun kn be fi r c.seek.new.self c.args.to.now h w (subst (GoesOn c.args.to.now c.args.self.now.spot c.seek.new.self) c.in-Ok-true.field-0-test c.in-Ok-true.ensures.ok)); idle = λ none reaches. at-begun kn be fi r c.seek.new.self c.args.to.now h w (subst (GoesOn c.args.to.now c.args.self.now.spot c.seek.new.self) c.in-Ok-true.field-0-test c.in-Ok-true.ensures.ok) };
      to = refl;
      quiet = λ q. ((chain-none (KnownStep kn.did) true (r.known, h), refl, refl, refl), tt);
      filled = filled-still kn fi r.known r.filler h ⊤ tt;
      unanswered = λ e mute. record { below = refl; store = refl; same = same-itself (kn.knows r.known h); now = tt };
      stays = stays-begun kn be fi r c.seek.new.self c.args.to.now h w (subst (GoesOn c.args.to.now c.args.self.now.spot c.seek.new.self) c.in-Ok-true.field-0-test c.in-Ok-true.ensures.ok);
    }

pub returns-in-Ok-true-clause-moves : goal.returns-in-Ok-true-clause-moves
returns-in-Ok-true-clause-moves g c =
    let kn = (of_known g.K.Known.ready g.K.Known.place g.K.Known.knows g.K.Known.heads g.K.Known.did) in
    let be = (of_below g.F.Frags.ready g.F.Frags.seen g.F.Frags.ahead g.F.Frags.moves g.F.Frags.did) in
    let fi = (of_filler g.P.Filler.ready g.P.Filler.fits g.P.Filler.may g.P.Filler.lost g.P.Filler.stands g.P.Filler.knows g.P.Filler.knows_statics g.P.Filler.fills) in
    let r = c.args.self.now in
    let h = c.args._home.now in
    let w = c.args._store.now in
    record { s = (r.known, r.below, r.filler); t = (r.known, r.below, r.filler); c = OfHead; ok = true; calls = chain-none (ReaderCall kn be fi OfHead) true (r.known, r.below, r.filler, h, w) }

pub returns-in-Ok-true-clause-damage : goal.returns-in-Ok-true-clause-damage
returns-in-Ok-true-clause-damage g c = record { named = tt; less = λ file offset d. d }

pub returns-in-Err-clause-seen : goal.returns-in-Err-clause-seen
returns-in-Err-clause-seen g c = λ s d.
    let kn = (of_known g.K.Known.ready g.K.Known.place g.K.Known.knows g.K.Known.heads g.K.Known.did) in
    let be = (of_below g.F.Frags.ready g.F.Frags.seen g.F.Frags.ahead g.F.Frags.moves g.F.Frags.did) in
    let fi = (of_filler g.P.Filler.ready g.P.Filler.fits g.P.Filler.may g.P.Filler.lost g.P.Filler.stands g.P.Filler.knows g.P.Filler.knows_statics g.P.Filler.fills) in
    let r = c.args.self.now in
    let h = c.args._home.now in
    let w = c.args._store.now in
    sees-alike kn be fi r c.seek.new.self h w s c.in-Err.ensures.err d

pub returns-in-Err-clause-ready : goal.returns-in-Err-clause-ready
returns-in-Err-clause-ready g c =
    let kn = (of_known g.K.Known.ready g.K.Known.place g.K.Known.knows g.K.Known.heads g.K.Known.did) in
    let be = (of_below g.F.Frags.ready g.F.Frags.seen g.F.Frags.ahead g.F.Frags.moves g.F.Frags.did) in
    let fi = (of_filler g.P.Filler.ready g.P.Filler.fits g.P.Filler.may g.P.Filler.lost g.P.Filler.stands g.P.Filler.knows g.P.Filler.knows_statics g.P.Filler.fills) in
    let r = c.args.self.now in
    let h = c.args._home.now in
    let w = c.args._store.now in
    ready-alike kn be fi r c.seek.new.self h w c.in-Err.ensures.err.from c.in-Err.ensures.err.tomb c.requires.ready

pub returns-in-Err-clause-did : goal.returns-in-Err-clause-did
returns-in-Err-clause-did g c =
    let kn = (of_known g.K.Known.ready g.K.Known.place g.K.Known.knows g.K.Known.heads g.K.Known.did) in
    let be = (of_below g.F.Frags.ready g.F.Frags.seen g.F.Frags.ahead g.F.Frags.moves g.F.Frags.did) in
    let fi = (of_filler g.P.Filler.ready g.P.Filler.fits g.P.Filler.may g.P.Filler.lost g.P.Filler.stands g.P.Filler.knows g.P.Filler.knows_statics g.P.Filler.fills) in
    let r = c.args.self.now in
    let h = c.args._home.now in
    let w = c.args._store.now in
    record {
      calls = chain-none (ReaderCall kn be fi (OfSeek c.args.to.now)) false (r.known, r.below, r.filler, h, w);
      on = subst (Reaches (stand r.spot)) (sym c.in-Err.ensures.err.from) (reach-itself (stand r.spot));
      gone = c.in-Err.ensures.err.from;
      to = refl;
      quiet = λ q. ((chain-none (KnownStep kn.did) false (r.known, h), refl, refl, refl), tt);
      filled = filled-still kn fi r.known r.filler h ⊤ tt;
      unanswered = λ e mute. untrue (sym e);
      stays = stays-alike kn be fi r c.seek.new.self h w c.in-Err.ensures.err.from c.in-Err.ensures.err.tomb;
    }

pub returns-in-Err-clause-moves : goal.returns-in-Err-clause-moves
returns-in-Err-clause-moves g c =
    let kn = (of_known g.K.Known.ready g.K.Known.place g.K.Known.knows g.K.Known.heads g.K.Known.did) in
    let be = (of_below g.F.Frags.ready g.F.Frags.seen g.F.Frags.ahead g.F.Frags.moves g.F.Frags.did) in
    let fi = (of_filler g.P.Filler.ready g.P.Filler.fits g.P.Filler.may g.P.Filler.lost g.P.Filler.stands g.P.Filler.knows g.P.Filler.knows_statics g.P.Filler.fills) in
    let r = c.args.self.now in
    let h = c.args._home.now in
    let w = c.args._store.now in
    record { s = (r.known, r.below, r.filler); t = (r.known, r.below, r.filler); c = OfHead; ok = false; calls = chain-none (ReaderCall kn be fi OfHead) false (r.known, r.below, r.filler, h, w) }

pub returns-in-Err-clause-damage : goal.returns-in-Err-clause-damage
returns-in-Err-clause-damage g c = record { named = tt; less = λ file offset d. d }
