-- The stream below was sought, and is then looked at or read on.
use Rattle.std.proofs.Common.{true, sym, subst, ap}
use Rattle.rc_stream.specs.Did.{OfNext, has_answer}
use Rattle.rc_stream.specs.Places.{Reaches}
use Rattle.rc_cacheread.proofs.Orders.{reach-itself}
use Rattle.rc_cacheread.specs.calls.Below.{IsNotAway}
use Rattle.rc_cacheread.specs.Did.{AnswersBelow, ReaderCall, reader_state, ReaderFilled}
use Rattle.rc_cacheread.specs.Sharing.{of_below, of_filler, of_known}
use Rattle.rc_cacheread.specs.Spots.{stand}
use Rattle.rc_cacheread.proofs.Chains.{chain-after}
use Rattle.rc_cacheread.proofs.Going.{at-lags}
use Rattle.rc_cacheread.proofs.Stepping.{end-reaches, ends-on, sees-lags, stays-lags}
use Rattle.std.specs.Prelude.{⊤}
use Rattle.rc_cacheread.specs.Passing.{IsKnownOver}
use Rattle.rc_cacheread.proofs.Filled.{filled-on, filled-then}
use Rattle.rc_cacheread.specs.laws.Passing.{over-nothing}
use Rattle.rc_cacheread.proofs.Unanswered.{answers-before, on-answer}
use Rattle.rc_cacheread.proofs.below.read_below.Goals as goal

pub settle-requires-clause-ready : goal.settle-requires-clause-ready
settle-requires-clause-ready g c =
    let kn = (of_known g.K.Known.ready g.K.Known.place g.K.Known.knows g.K.Known.heads g.K.Known.did) in
    let be = (of_below g.F.Frags.ready g.F.Frags.seen g.F.Frags.ahead g.F.Frags.moves g.F.Frags.did) in
    let fi = (of_filler g.P.Filler.ready g.P.Filler.fits g.P.Filler.may g.P.Filler.lost g.P.Filler.stands g.P.Filler.knows g.P.Filler.knows_statics g.P.Filler.fills) in
    let r = c.args.reader.now in
    let h = c.args.home.now in
    let w = c.args.store.now in
    let d = c.requires.ready in
    record { fit = d.fit; shares = d.shares; writes = d.writes; reads = stays-lags kn be fi r h w true d.writes d.reads; ahead = d.ahead; place = at-lags r.lags (kn.place r.known) (stand r.spot) d.place }

pub returns-in-Sought-clause-stays : goal.returns-in-Sought-clause-stays
returns-in-Sought-clause-stays g c = λ writes d.
    let kn = (of_known g.K.Known.ready g.K.Known.place g.K.Known.knows g.K.Known.heads g.K.Known.did) in
    let be = (of_below g.F.Frags.ready g.F.Frags.seen g.F.Frags.ahead g.F.Frags.moves g.F.Frags.did) in
    let fi = (of_filler g.P.Filler.ready g.P.Filler.fits g.P.Filler.may g.P.Filler.lost g.P.Filler.stands g.P.Filler.knows g.P.Filler.knows_statics g.P.Filler.fills) in
    let r = c.args.reader.now in
    let h = c.args.home.now in
    let w = c.args.store.now in
    c.look_here.ensures.stays writes (c.in-Ok.ensures.stays writes (stays-lags kn be fi r h w true writes d))

pub returns-in-Sought-clause-says : goal.returns-in-Sought-clause-says
returns-in-Sought-clause-says g c = λ s d.
    let kn = (of_known g.K.Known.ready g.K.Known.place g.K.Known.knows g.K.Known.heads g.K.Known.did) in
    let be = (of_below g.F.Frags.ready g.F.Frags.seen g.F.Frags.ahead g.F.Frags.moves g.F.Frags.did) in
    let fi = (of_filler g.P.Filler.ready g.P.Filler.fits g.P.Filler.may g.P.Filler.lost g.P.Filler.stands g.P.Filler.knows g.P.Filler.knows_statics g.P.Filler.fills) in
    let r = c.args.reader.now in
    let h = c.args.home.now in
    let w = c.args.store.now in
    c.look_here.ensures.says s (c.in-Ok.ensures.says s (sees-lags kn be fi r h w true s d))

pub returns-in-Sought-clause-did : goal.returns-in-Sought-clause-did
returns-in-Sought-clause-did g c = λ y covers.
    let kn = (of_known g.K.Known.ready g.K.Known.place g.K.Known.knows g.K.Known.heads g.K.Known.did) in
    let be = (of_below g.F.Frags.ready g.F.Frags.seen g.F.Frags.ahead g.F.Frags.moves g.F.Frags.did) in
    let fi = (of_filler g.P.Filler.ready g.P.Filler.fits g.P.Filler.may g.P.Filler.lost g.P.Filler.stands g.P.Filler.knows g.P.Filler.knows_statics g.P.Filler.fills) in
    let r = c.args.reader.now in
    let h = c.args.home.now in
    let w = c.args.store.now in
    let on = end-reaches kn be fi r h w c.args.upto.now y c.requires.idle c.requires.near covers in
    chain-after (ReaderCall kn be fi (OfNext y)) (has_answer c.look_here.result) (reader_state r h w) (reader_state c.settle.new.reader c.settle.new.home c.settle.new.store) (reader_state c.look_here.new.reader c.look_here.new.home c.look_here.new.store) (c.in-Ok.ensures.did y on) (c.look_here.ensures.did y (ends-on kn be fi r c.settle.new.reader h c.settle.new.home w c.settle.new.store c.args.upto.now y (λ s d. c.in-Ok.ensures.says s (sees-lags kn be fi r h w true s d)) covers))

pub returns-in-Within-clause-stays : goal.returns-in-Within-clause-stays
returns-in-Within-clause-stays g c = λ writes d.
    let kn = (of_known g.K.Known.ready g.K.Known.place g.K.Known.knows g.K.Known.heads g.K.Known.did) in
    let be = (of_below g.F.Frags.ready g.F.Frags.seen g.F.Frags.ahead g.F.Frags.moves g.F.Frags.did) in
    let fi = (of_filler g.P.Filler.ready g.P.Filler.fits g.P.Filler.may g.P.Filler.lost g.P.Filler.stands g.P.Filler.knows g.P.Filler.knows_statics g.P.Filler.fills) in
    let r = c.args.reader.now in
    let h = c.args.home.now in
    let w = c.args.store.now in
    c.go_below.ensures.stays writes (c.in-Ok.ensures.stays writes (stays-lags kn be fi r h w true writes d))

pub returns-in-Within-clause-says : goal.returns-in-Within-clause-says
returns-in-Within-clause-says g c = λ s d.
    let kn = (of_known g.K.Known.ready g.K.Known.place g.K.Known.knows g.K.Known.heads g.K.Known.did) in
    let be = (of_below g.F.Frags.ready g.F.Frags.seen g.F.Frags.ahead g.F.Frags.moves g.F.Frags.did) in
    let fi = (of_filler g.P.Filler.ready g.P.Filler.fits g.P.Filler.may g.P.Filler.lost g.P.Filler.stands g.P.Filler.knows g.P.Filler.knows_statics g.P.Filler.fills) in
    let r = c.args.reader.now in
    let h = c.args.home.now in
    let w = c.args.store.now in
    c.go_below.ensures.says s (c.in-Ok.ensures.says s (sees-lags kn be fi r h w true s d))

pub returns-in-Within-clause-did : goal.returns-in-Within-clause-did
returns-in-Within-clause-did g c = λ y covers.
    let kn = (of_known g.K.Known.ready g.K.Known.place g.K.Known.knows g.K.Known.heads g.K.Known.did) in
    let be = (of_below g.F.Frags.ready g.F.Frags.seen g.F.Frags.ahead g.F.Frags.moves g.F.Frags.did) in
    let fi = (of_filler g.P.Filler.ready g.P.Filler.fits g.P.Filler.may g.P.Filler.lost g.P.Filler.stands g.P.Filler.knows g.P.Filler.knows_statics g.P.Filler.fills) in
    let r = c.args.reader.now in
    let h = c.args.home.now in
    let w = c.args.store.now in
    let on = end-reaches kn be fi r h w c.args.upto.now y c.requires.idle c.requires.near covers in
    chain-after (ReaderCall kn be fi (OfNext y)) (has_answer c.go_below.result) (reader_state r h w) (reader_state c.settle.new.reader c.settle.new.home c.settle.new.store) (reader_state c.go_below.new.reader c.go_below.new.home c.go_below.new.store) (c.in-Ok.ensures.did y on) (c.go_below.ensures.did y (ends-on kn be fi r c.settle.new.reader h c.settle.new.home w c.settle.new.store c.args.upto.now y (λ s d. c.in-Ok.ensures.says s (sees-lags kn be fi r h w true s d)) covers))

pub returns-in-Away : goal.returns-in-Away
returns-in-Away g c = absurd (subst IsNotAway c.in-Away.is c.in-Ok.ensures.stage)

pub returns-in-Err-clause-stays : goal.returns-in-Err-clause-stays
returns-in-Err-clause-stays g c = λ writes d.
    let kn = (of_known g.K.Known.ready g.K.Known.place g.K.Known.knows g.K.Known.heads g.K.Known.did) in
    let be = (of_below g.F.Frags.ready g.F.Frags.seen g.F.Frags.ahead g.F.Frags.moves g.F.Frags.did) in
    let fi = (of_filler g.P.Filler.ready g.P.Filler.fits g.P.Filler.may g.P.Filler.lost g.P.Filler.stands g.P.Filler.knows g.P.Filler.knows_statics g.P.Filler.fills) in
    let r = c.args.reader.now in
    let h = c.args.home.now in
    let w = c.args.store.now in
    c.in-Err.ensures.stays writes (stays-lags kn be fi r h w true writes d)

pub returns-in-Err-clause-says : goal.returns-in-Err-clause-says
returns-in-Err-clause-says g c = λ s d.
    let kn = (of_known g.K.Known.ready g.K.Known.place g.K.Known.knows g.K.Known.heads g.K.Known.did) in
    let be = (of_below g.F.Frags.ready g.F.Frags.seen g.F.Frags.ahead g.F.Frags.moves g.F.Frags.did) in
    let fi = (of_filler g.P.Filler.ready g.P.Filler.fits g.P.Filler.may g.P.Filler.lost g.P.Filler.stands g.P.Filler.knows g.P.Filler.knows_statics g.P.Filler.fills) in
    let r = c.args.reader.now in
    let h = c.args.home.now in
    let w = c.args.store.now in
    c.in-Err.ensures.says s (sees-lags kn be fi r h w true s d)

pub returns-in-Err-clause-did : goal.returns-in-Err-clause-did
returns-in-Err-clause-did g c = λ y covers.
    let kn = (of_known g.K.Known.ready g.K.Known.place g.K.Known.knows g.K.Known.heads g.K.Known.did) in
    let be = (of_below g.F.Frags.ready g.F.Frags.seen g.F.Frags.ahead g.F.Frags.moves g.F.Frags.did) in
    let fi = (of_filler g.P.Filler.ready g.P.Filler.fits g.P.Filler.may g.P.Filler.lost g.P.Filler.stands g.P.Filler.knows g.P.Filler.knows_statics g.P.Filler.fills) in
    let r = c.args.reader.now in
    let h = c.args.home.now in
    let w = c.args.store.now in
    c.in-Err.ensures.did y (end-reaches kn be fi r h w c.args.upto.now y c.requires.idle c.requires.near covers)

pub returns-in-Sought-clause-on : goal.returns-in-Sought-clause-on
returns-in-Sought-clause-on g c = subst (λ s. Reaches (stand s) (stand c.look_here.new.reader.spot)) c.in-Ok.ensures.spot c.look_here.ensures.on

pub returns-in-Within-clause-on : goal.returns-in-Within-clause-on
returns-in-Within-clause-on g c = subst (λ s. Reaches (stand s) (stand c.go_below.new.reader.spot)) c.in-Ok.ensures.spot c.go_below.ensures.on

pub returns-in-Err-clause-on : goal.returns-in-Err-clause-on
returns-in-Err-clause-on g c = subst (λ s. Reaches (stand c.args.reader.now.spot) (stand s)) (sym c.in-Err.ensures.spot) (reach-itself (stand c.args.reader.now.spot))

pub returns-in-Sought-clause-filled : goal.returns-in-Sought-clause-filled
returns-in-Sought-clause-filled g c =
    let kn = (of_known g.K.Known.ready g.K.Known.place g.K.Known.knows g.K.Known.heads g.K.Known.did) in
    let be = (of_below g.F.Frags.ready g.F.Frags.seen g.F.Frags.ahead g.F.Frags.moves g.F.Frags.did) in
    let fi = (of_filler g.P.Filler.ready g.P.Filler.fits g.P.Filler.may g.P.Filler.lost g.P.Filler.stands g.P.Filler.knows g.P.Filler.knows_statics g.P.Filler.fills) in
    let r = c.args.reader.now in
    let h = c.args.home.now in
    let w = c.args.store.now in
    let s = c.settle.new.reader in
    let n = c.look_here.new.reader in
    let k = c.settle.new.home in
    let i = c.look_here.new.home in
    subst (λ z. ReaderFilled kn fi r.known r.filler h n.known n.filler i (IsKnownOver (kn.knows n.known i) (stand z) (stand n.spot))) c.in-Ok.ensures.spot
    (filled-then kn fi r.known s.known n.known r.filler s.filler n.filler h k i ⊤ (IsKnownOver (kn.knows n.known i) (stand s.spot) (stand n.spot)) c.in-Ok.ensures.filled c.look_here.ensures.filled)

pub returns-in-Within-clause-filled : goal.returns-in-Within-clause-filled
returns-in-Within-clause-filled g c =
    let kn = (of_known g.K.Known.ready g.K.Known.place g.K.Known.knows g.K.Known.heads g.K.Known.did) in
    let be = (of_below g.F.Frags.ready g.F.Frags.seen g.F.Frags.ahead g.F.Frags.moves g.F.Frags.did) in
    let fi = (of_filler g.P.Filler.ready g.P.Filler.fits g.P.Filler.may g.P.Filler.lost g.P.Filler.stands g.P.Filler.knows g.P.Filler.knows_statics g.P.Filler.fills) in
    let r = c.args.reader.now in
    let h = c.args.home.now in
    let w = c.args.store.now in
    let s = c.settle.new.reader in
    let n = c.go_below.new.reader in
    let k = c.settle.new.home in
    let i = c.go_below.new.home in
    subst (λ z. ReaderFilled kn fi r.known r.filler h n.known n.filler i (IsKnownOver (kn.knows n.known i) (stand z) (stand n.spot))) c.in-Ok.ensures.spot
    (filled-then kn fi r.known s.known n.known r.filler s.filler n.filler h k i ⊤ (IsKnownOver (kn.knows n.known i) (stand s.spot) (stand n.spot)) c.in-Ok.ensures.filled c.go_below.ensures.filled)

pub returns-in-Err-clause-filled : goal.returns-in-Err-clause-filled
returns-in-Err-clause-filled g c =
    let kn = (of_known g.K.Known.ready g.K.Known.place g.K.Known.knows g.K.Known.heads g.K.Known.did) in
    let be = (of_below g.F.Frags.ready g.F.Frags.seen g.F.Frags.ahead g.F.Frags.moves g.F.Frags.did) in
    let fi = (of_filler g.P.Filler.ready g.P.Filler.fits g.P.Filler.may g.P.Filler.lost g.P.Filler.stands g.P.Filler.knows g.P.Filler.knows_statics g.P.Filler.fills) in
    let r = c.args.reader.now in
    let h = c.args.home.now in
    let w = c.args.store.now in
    let s = c.settle.new.reader in
    let k = c.settle.new.home in
    filled-on kn fi r.known s.known r.filler s.filler h k ⊤ (IsKnownOver (kn.knows s.known k) (stand r.spot) (stand s.spot)) (λ e. over-nothing (kn.knows s.known k) (stand r.spot) (stand s.spot) (ap stand c.in-Err.ensures.spot)) c.in-Err.ensures.filled

pub returns-in-Sought-clause-answered : goal.returns-in-Sought-clause-answered
returns-in-Sought-clause-answered g c =
    let be = (of_below g.F.Frags.ready g.F.Frags.seen g.F.Frags.ahead g.F.Frags.moves g.F.Frags.did) in
    let r = c.args.reader.now in
    let s = c.settle.new.reader in
    on-answer c.look_here.result (AnswersBelow be s.below c.settle.new.store) (AnswersBelow be r.below c.args.store.now) (answers-before be r.below s.below c.args.store.now c.settle.new.store c.in-Ok.ensures.answered) c.look_here.ensures.answered

pub returns-in-Within-clause-answered : goal.returns-in-Within-clause-answered
returns-in-Within-clause-answered g c =
    let be = (of_below g.F.Frags.ready g.F.Frags.seen g.F.Frags.ahead g.F.Frags.moves g.F.Frags.did) in
    let r = c.args.reader.now in
    let s = c.settle.new.reader in
    on-answer c.go_below.result (AnswersBelow be s.below c.settle.new.store) (AnswersBelow be r.below c.args.store.now) (answers-before be r.below s.below c.args.store.now c.settle.new.store c.in-Ok.ensures.answered) c.go_below.ensures.answered
