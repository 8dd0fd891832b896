-- The head of the snapshot, or that with the static row below.
use Rattle.std.specs.Prelude.{⊤, IsTrue}
use Rattle.std.proofs.Common.{true, false, refl, sym, ◌∙◌, subst}
use Rattle.rc_stream.specs.Did.{OfHead, has_answer}
use Rattle.rc_stream.specs.Places.{Reaches}
use Rattle.rc_cacheread.specs.Did.{AnswersBelow, KnownStep, ReaderCall, reader_state, IsFilledFor}
use Rattle.rc_cacheread.specs.Sharing.{IsPlaceAt, of_below, of_filler, of_known, IsStaticRowKnown}
use Rattle.rc_cacheread.specs.Spots.{stand}
use Rattle.rc_cacheread.proofs.Chains.{chain-after, chain-one}
use Rattle.rc_cacheread.proofs.Leaving.{known-left}
use Rattle.rc_cacheread.proofs.Lists.{untrue}
use Rattle.rc_cacheread.proofs.Orders.{reach-itself}
use Rattle.rc_cacheread.proofs.Outcomes.{carries-same}
use Rattle.rc_cacheread.proofs.Parting.{ready-known, sees-known-still, stays-known}
use Rattle.rc_cacheread.proofs.Stepping.{known-calls}
use Rattle.rc_mutation.specs.declared.fragments.HeadAt.{HeadAt}
use Rattle.rc_cacheread.proofs.Filled.{filled-known, filled-then}
use Rattle.rc_cacheread.proofs.Unanswered.{of-answer}
use Rattle.rc_cacheread.proofs.readers.whole_head.Goals as goal

pub returns-then-at-clause-head : goal.returns-then-at-clause-head
returns-then-at-clause-head g c = λ s d.
    let a = c.in-Ok.at in
    let pt = d.says.pt a c.in-Ok.ensures.head in
    let row = sym (c.requires.ready.fit.sound_statics d.writes d.reads.stands a c.in-Ok.ensures.head c.if-at.true) ∙ d.says.static_row in
    λ i. record { pt = pt i; statics = row i }

pub returns-then-at-clause-seen : goal.returns-then-at-clause-seen
returns-then-at-clause-seen g c = λ s d.
    let kn = (of_known g.K.Known.ready g.K.Known.place g.K.Known.knows g.K.Known.heads g.K.Known.did) in
    let be = (of_below g.F.Frags.ready g.F.Frags.seen g.F.Frags.ahead g.F.Frags.moves g.F.Frags.did) in
    let fi = (of_filler g.P.Filler.ready g.P.Filler.fits g.P.Filler.may g.P.Filler.lost g.P.Filler.stands g.P.Filler.knows g.P.Filler.knows_statics g.P.Filler.fills) in
    let r = c.args.reader.now in
    let h = c.args.home.now in
    let w = c.args.store.now in
    let one = (chain-one (KnownStep kn.did) true (r.known, h) (c.head_known.new.self, c.head_known.new.home) (OfHead, c.in-Ok.ensures.did)) in
    let left = known-left kn be fi c.requires.ready.shares r.below r.filler w true (r.known, h) (c.head_known.new.self, c.head_known.new.home) one c.requires.ready.fit in
    sees-known-still kn be fi r c.head_known.new.self r.spot r.stage r.lags h c.head_known.new.home w left c.head_known.ensures.knows (reach-itself (stand r.spot)) (carries-same (be.seen r.below h w) (be.seen r.below c.head_known.new.home w) r.stage (stand r.spot) r.spot.tomb left.seen) refl s d

pub returns-then-at-clause-did : goal.returns-then-at-clause-did
returns-then-at-clause-did g c =
    let kn = (of_known g.K.Known.ready g.K.Known.place g.K.Known.knows g.K.Known.heads g.K.Known.did) in
    let be = (of_below g.F.Frags.ready g.F.Frags.seen g.F.Frags.ahead g.F.Frags.moves g.F.Frags.did) in
    let fi = (of_filler g.P.Filler.ready g.P.Filler.fits g.P.Filler.may g.P.Filler.lost g.P.Filler.stands g.P.Filler.knows g.P.Filler.knows_statics g.P.Filler.fills) in
    let r = c.args.reader.now in
    let h = c.args.home.now in
    let w = c.args.store.now in
    let one = (chain-one (KnownStep kn.did) true (r.known, h) (c.head_known.new.self, c.head_known.new.home) (OfHead, c.in-Ok.ensures.did)) in
    let left = known-left kn be fi c.requires.ready.shares r.below r.filler w true (r.known, h) (c.head_known.new.self, c.head_known.new.home) one c.requires.ready.fit in
    record {
      calls = known-calls kn be fi OfHead r.below r.filler w true r.known c.head_known.new.self h c.head_known.new.home one;
      on = reach-itself (stand r.spot);
      gone = refl;
      to = refl;
      quiet = λ q. ((one, refl, refl, refl), λ a k. q a (left.heads a k));
      filled = filled-known kn be fi r.below r.filler w r.known c.head_known.new.self h c.head_known.new.home (IsStaticRowKnown (kn.heads c.head_known.new.self c.head_known.new.home)) left c.head_known.ensures.knows (λ a k. subst (λ (z : HeadAt). IsTrue z.known) (c.requires.ready.shares.one_head r.known h c.in-Ok.at a c.in-Ok.ensures.head (left.heads a k)) c.if-at.true);
      unanswered = λ e mute. record { below = refl; store = refl; same = c.head_known.ensures.knows; now = (λ a k. subst (λ (z : HeadAt). IsTrue z.known) (c.requires.ready.shares.one_head r.known h c.in-Ok.at a c.in-Ok.ensures.head (left.heads a k)) c.if-at.true) };
      stays = stays-known kn be fi r c.head_known.new.self r.spot r.stage r.lags h c.head_known.new.home w left c.head_known.ensures.knows (reach-itself (stand r.spot)) (carries-same (be.seen r.below h w) (be.seen r.below c.head_known.new.home w) r.stage (stand r.spot) r.spot.tomb left.seen);
    }

pub returns-then-at-clause-ready : goal.returns-then-at-clause-ready
returns-then-at-clause-ready g c =
    let kn = (of_known g.K.Known.ready g.K.Known.place g.K.Known.knows g.K.Known.heads g.K.Known.did) in
    let be = (of_below g.F.Frags.ready g.F.Frags.seen g.F.Frags.ahead g.F.Frags.moves g.F.Frags.did) in
    let fi = (of_filler g.P.Filler.ready g.P.Filler.fits g.P.Filler.may g.P.Filler.lost g.P.Filler.stands g.P.Filler.knows g.P.Filler.knows_statics g.P.Filler.fills) in
    let r = c.args.reader.now in
    let h = c.args.home.now in
    let w = c.args.store.now in
    let one = (chain-one (KnownStep kn.did) true (r.known, h) (c.head_known.new.self, c.head_known.new.home) (OfHead, c.in-Ok.ensures.did)) in
    let left = known-left kn be fi c.requires.ready.shares r.below r.filler w true (r.known, h) (c.head_known.new.self, c.head_known.new.home) one c.requires.ready.fit in
    ready-known kn be fi r c.head_known.new.self r.spot r.stage r.lags h c.head_known.new.home w left c.head_known.ensures.knows (reach-itself (stand r.spot)) (carries-same (be.seen r.below h w) (be.seen r.below c.head_known.new.home w) r.stage (stand r.spot) r.spot.tomb left.seen) c.requires.ready (subst (λ p. IsPlaceAt r.lags p (stand r.spot)) (sym c.head_known.ensures.place) c.requires.ready.place)

pub returns-then-at-clause-damage : goal.returns-then-at-clause-damage
returns-then-at-clause-damage g c = record { named = tt; less = λ file offset d. d }

pub head_below-requires-clause-ready : goal.head_below-requires-clause-ready
head_below-requires-clause-ready g c =
    let kn = (of_known g.K.Known.ready g.K.Known.place g.K.Known.knows g.K.Known.heads g.K.Known.did) in
    let be = (of_below g.F.Frags.ready g.F.Frags.seen g.F.Frags.ahead g.F.Frags.moves g.F.Frags.did) in
    let fi = (of_filler g.P.Filler.ready g.P.Filler.fits g.P.Filler.may g.P.Filler.lost g.P.Filler.stands g.P.Filler.knows g.P.Filler.knows_statics g.P.Filler.fills) in
    let r = c.args.reader.now in
    let h = c.args.home.now in
    let w = c.args.store.now in
    let one = (chain-one (KnownStep kn.did) true (r.known, h) (c.head_known.new.self, c.head_known.new.home) (OfHead, c.in-Ok.ensures.did)) in
    let left = known-left kn be fi c.requires.ready.shares r.below r.filler w true (r.known, h) (c.head_known.new.self, c.head_known.new.home) one c.requires.ready.fit in
    ready-known kn be fi r c.head_known.new.self r.spot r.stage r.lags h c.head_known.new.home w left c.head_known.ensures.knows (reach-itself (stand r.spot)) (carries-same (be.seen r.below h w) (be.seen r.below c.head_known.new.home w) r.stage (stand r.spot) r.spot.tomb left.seen) c.requires.ready (subst (λ p. IsPlaceAt r.lags p (stand r.spot)) (sym c.head_known.ensures.place) c.requires.ready.place)

pub head_below-requires-clause-head : goal.head_below-requires-clause-head
head_below-requires-clause-head g c = c.head_known.ensures.heads c.in-Ok.at c.in-Ok.ensures.head

pub head_below-requires-clause-unknown : goal.head_below-requires-clause-unknown
head_below-requires-clause-unknown g c = c.if-at.false

pub returns-clause-head : goal.returns-clause-head
returns-clause-head g c = λ s d.
    let kn = (of_known g.K.Known.ready g.K.Known.place g.K.Known.knows g.K.Known.heads g.K.Known.did) in
    let be = (of_below g.F.Frags.ready g.F.Frags.seen g.F.Frags.ahead g.F.Frags.moves g.F.Frags.did) in
    let fi = (of_filler g.P.Filler.ready g.P.Filler.fits g.P.Filler.may g.P.Filler.lost g.P.Filler.stands g.P.Filler.knows g.P.Filler.knows_statics g.P.Filler.fills) in
    let r = c.args.reader.now in
    let h = c.args.home.now in
    let w = c.args.store.now in
    let one = (chain-one (KnownStep kn.did) true (r.known, h) (c.head_known.new.self, c.head_known.new.home) (OfHead, c.in-Ok.ensures.did)) in
    let left = known-left kn be fi c.requires.ready.shares r.below r.filler w true (r.known, h) (c.head_known.new.self, c.head_known.new.home) one c.requires.ready.fit in
    c.head_below.ensures.head s (sees-known-still kn be fi r c.head_known.new.self r.spot r.stage r.lags h c.head_known.new.home w left c.head_known.ensures.knows (reach-itself (stand r.spot)) (carries-same (be.seen r.below h w) (be.seen r.below c.head_known.new.home w) r.stage (stand r.spot) r.spot.tomb left.seen) refl s d)

pub returns-clause-seen : goal.returns-clause-seen
returns-clause-seen g c = λ s d.
    let kn = (of_known g.K.Known.ready g.K.Known.place g.K.Known.knows g.K.Known.heads g.K.Known.did) in
    let be = (of_below g.F.Frags.ready g.F.Frags.seen g.F.Frags.ahead g.F.Frags.moves g.F.Frags.did) in
    let fi = (of_filler g.P.Filler.ready g.P.Filler.fits g.P.Filler.may g.P.Filler.lost g.P.Filler.stands g.P.Filler.knows g.P.Filler.knows_statics g.P.Filler.fills) in
    let r = c.args.reader.now in
    let h = c.args.home.now in
    let w = c.args.store.now in
    let one = (chain-one (KnownStep kn.did) true (r.known, h) (c.head_known.new.self, c.head_known.new.home) (OfHead, c.in-Ok.ensures.did)) in
    let left = known-left kn be fi c.requires.ready.shares r.below r.filler w true (r.known, h) (c.head_known.new.self, c.head_known.new.home) one c.requires.ready.fit in
    c.head_below.ensures.seen s (sees-known-still kn be fi r c.head_known.new.self r.spot r.stage r.lags h c.head_known.new.home w left c.head_known.ensures.knows (reach-itself (stand r.spot)) (carries-same (be.seen r.below h w) (be.seen r.below c.head_known.new.home w) r.stage (stand r.spot) r.spot.tomb left.seen) refl s d)

pub returns-clause-did : goal.returns-clause-did
returns-clause-did g c =
    let kn = (of_known g.K.Known.ready g.K.Known.place g.K.Known.knows g.K.Known.heads g.K.Known.did) in
    let be = (of_below g.F.Frags.ready g.F.Frags.seen g.F.Frags.ahead g.F.Frags.moves g.F.Frags.did) in
    let fi = (of_filler g.P.Filler.ready g.P.Filler.fits g.P.Filler.may g.P.Filler.lost g.P.Filler.stands g.P.Filler.knows g.P.Filler.knows_statics g.P.Filler.fills) in
    let r = c.args.reader.now in
    let h = c.args.home.now in
    let w = c.args.store.now in
    let one = (chain-one (KnownStep kn.did) true (r.known, h) (c.head_known.new.self, c.head_known.new.home) (OfHead, c.in-Ok.ensures.did)) in
    let left = known-left kn be fi c.requires.ready.shares r.below r.filler w true (r.known, h) (c.head_known.new.self, c.head_known.new.home) one c.requires.ready.fit in
    record {
      calls = chain-after (ReaderCall kn be fi OfHead) (has_answer c.head_below.result) (reader_state r h w) (c.head_known.new.self, r.below, r.filler, c.head_known.new.home, w) (reader_state c.head_below.new.reader c.head_below.new.home c.head_below.new.store) (known-calls kn be fi OfHead r.below r.filler w true r.known c.head_known.new.self h c.head_known.new.home one) c.head_below.ensures.calls;
      on = subst (λ s. Reaches (stand r.spot) (stand s)) (sym c.head_below.ensures.spot) (reach-itself (stand r.spot));
      gone = c.head_below.ensures.spot;
      to = c.head_below.ensures.to;
      quiet = λ q. untrue (sym (q c.in-Ok.at c.in-Ok.ensures.head) ∙ c.if-at.false);
      filled = filled-then kn fi r.known c.head_known.new.self c.head_below.new.reader.known r.filler r.filler c.head_below.new.reader.filler h c.head_known.new.home c.head_below.new.home ⊤ (IsFilledFor OfHead (has_answer c.head_below.result) (kn.knows c.head_below.new.reader.known c.head_below.new.home) (kn.heads c.head_below.new.reader.known c.head_below.new.home) (stand r.spot) (stand c.head_below.new.reader.spot)) (filled-known kn be fi r.below r.filler w r.known c.head_known.new.self h c.head_known.new.home ⊤ left c.head_known.ensures.knows tt) c.head_below.ensures.filled;
      unanswered = λ e mute. absurd (mute (of-answer c.head_below.result (AnswersBelow be r.below w) e c.head_below.ensures.answered));
      stays = λ writes d. c.head_below.ensures.stays writes (stays-known kn be fi r c.head_known.new.self r.spot r.stage r.lags h c.head_known.new.home w left c.head_known.ensures.knows (reach-itself (stand r.spot)) (carries-same (be.seen r.below h w) (be.seen r.below c.head_known.new.home w) r.stage (stand r.spot) r.spot.tomb left.seen) writes d);
    }

pub returns-clause-damage : goal.returns-clause-damage
returns-clause-damage g c = c.head_below.ensures.damage

pub returns-in-Err-clause-seen : goal.returns-in-Err-clause-seen
returns-in-Err-clause-seen g c = λ s d.
    let kn = (of_known g.K.Known.ready g.K.Known.place g.K.Known.knows g.K.Known.heads g.K.Known.did) in
    let be = (of_below g.F.Frags.ready g.F.Frags.seen g.F.Frags.ahead g.F.Frags.moves g.F.Frags.did) in
    let fi = (of_filler g.P.Filler.ready g.P.Filler.fits g.P.Filler.may g.P.Filler.lost g.P.Filler.stands g.P.Filler.knows g.P.Filler.knows_statics g.P.Filler.fills) in
    let r = c.args.reader.now in
    let h = c.args.home.now in
    let w = c.args.store.now in
    let one = (chain-one (KnownStep kn.did) false (r.known, h) (c.head_known.new.self, c.head_known.new.home) (OfHead, c.in-Err.ensures.did)) in
    let left = known-left kn be fi c.requires.ready.shares r.below r.filler w false (r.known, h) (c.head_known.new.self, c.head_known.new.home) one c.requires.ready.fit in
    sees-known-still kn be fi r c.head_known.new.self r.spot r.stage r.lags h c.head_known.new.home w left c.head_known.ensures.knows (reach-itself (stand r.spot)) (carries-same (be.seen r.below h w) (be.seen r.below c.head_known.new.home w) r.stage (stand r.spot) r.spot.tomb left.seen) refl s d

pub returns-in-Err-clause-did : goal.returns-in-Err-clause-did
returns-in-Err-clause-did g c =
    let kn = (of_known g.K.Known.ready g.K.Known.place g.K.Known.knows g.K.Known.heads g.K.Known.did) in
    let be = (of_below g.F.Frags.ready g.F.Frags.seen g.F.Frags.ahead g.F.Frags.moves g.F.Frags.did) in
    let fi = (of_filler g.P.Filler.ready g.P.Filler.fits g.P.Filler.may g.P.Filler.lost g.P.Filler.stands g.P.Filler.knows g.P.Filler.knows_statics g.P.Filler.fills) in
    let r = c.args.reader.now in
    let h = c.args.home.now in
    let w = c.args.store.now in
    let one = (chain-one (KnownStep kn.did) false (r.known, h) (c.head_known.new.self, c.head_known.new.home) (OfHead, c.in-Err.ensures.did)) in
    let left = known-left kn be fi c.requires.ready.shares r.below r.filler w false (r.known, h) (c.head_known.new.self, c.head_known.new.home) one c.requires.ready.fit in
    record {
      calls = known-calls kn be fi OfHead r.below r.filler w false r.known c.head_known.new.self h c.head_known.new.home one;
      on = reach-itself (stand r.spot);
      gone = refl;
      to = refl;
      quiet = λ q. ((one, refl, refl, refl), λ a k. q a (left.heads a k));
      filled = filled-known kn be fi r.below r.filler w r.known c.head_known.new.self h c.head_known.new.home ⊤ left c.head_known.ensures.knows tt;
      unanswered = λ e mute. untrue (sym e);
      stays = stays-known kn be fi r c.head_known.new.self r.spot r.stage r.lags h c.head_known.new.home w left c.head_known.ensures.knows (reach-itself (stand r.spot)) (carries-same (be.seen r.below h w) (be.seen r.below c.head_known.new.home w) r.stage (stand r.spot) r.spot.tomb left.seen);
    }

pub returns-in-Err-clause-ready : goal.returns-in-Err-clause-ready
returns-in-Err-clause-ready g c =
    let kn = (of_known g.K.Known.ready g.K.Known.place g.K.Known.knows g.K.Known.heads g.K.Known.did) in
    let be = (of_below g.F.Frags.ready g.F.Frags.seen g.F.Frags.ahead g.F.Frags.moves g.F.Frags.did) in
    let fi = (of_filler g.P.Filler.ready g.P.Filler.fits g.P.Filler.may g.P.Filler.lost g.P.Filler.stands g.P.Filler.knows g.P.Filler.knows_statics g.P.Filler.fills) in
    let r = c.args.reader.now in
    let h = c.args.home.now in
    let w = c.args.store.now in
    let one = (chain-one (KnownStep kn.did) false (r.known, h) (c.head_known.new.self, c.head_known.new.home) (OfHead, c.in-Err.ensures.did)) in
    let left = known-left kn be fi c.requires.ready.shares r.below r.filler w false (r.known, h) (c.head_known.new.self, c.head_known.new.home) one c.requires.ready.fit in
    ready-known kn be fi r c.head_known.new.self r.spot r.stage r.lags h c.head_known.new.home w left c.head_known.ensures.knows (reach-itself (stand r.spot)) (carries-same (be.seen r.below h w) (be.seen r.below c.head_known.new.home w) r.stage (stand r.spot) r.spot.tomb left.seen) c.requires.ready (subst (λ p. IsPlaceAt r.lags p (stand r.spot)) (sym c.head_known.ensures.place) c.requires.ready.place)

pub returns-in-Err-clause-damage : goal.returns-in-Err-clause-damage
returns-in-Err-clause-damage g c = record { named = tt; less = λ file offset d. d }
