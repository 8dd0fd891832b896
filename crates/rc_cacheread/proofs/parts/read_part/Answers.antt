-- What each part leaves to be read.
use Rattle.std.specs.Prelude.{◌≡◌, ◌⊎◌, ◌++◌, [], ◌∷◌, ⊤}
use Rattle.std.proofs.Common.{Ok, true, false, refl, sym, ap, ◌∙◌, subst, inl, inr}
use Rattle.rc_position.specs.declared.positions.Pos.{Pos}
use Rattle.rc_position.specs.Position.{IsBefore, row_pos}
use Rattle.rc_core.specs.declared.parts.Part.TheVariants as part
use Rattle.rc_mutation.specs.declared.fragments.Frag.TheVariants as frag
use Rattle.rc_stream.specs.Did.{OfNext, has_answer}
use Rattle.rc_stream.specs.Places.{Reaches}
use Rattle.rc_stream.specs.Snapshot.{IsPartFrom, SayThere, There, place_behind}
use Rattle.rc_cacheread.specs.declared.readers.Stage.TheVariants.{Away}
use Rattle.rc_cacheread.specs.Did.{AnswersBelow, ReaderCall, reader_state}
use Rattle.rc_cacheread.specs.Reading.{behind_row}
use Rattle.rc_cacheread.specs.Sharing.{IsPlaceAt, of_below, of_filler, of_known}
use Rattle.rc_cacheread.specs.Spots.{past_row, front, row_due, stand}
use Rattle.rc_cacheread.proofs.Chains.{chain-after}
use Rattle.rc_cacheread.proofs.Going.{front-changed, told-elsewhere}
use Rattle.rc_cacheread.proofs.Idle.{idle-front, idle-stand}
use Rattle.rc_cacheread.proofs.Leaving.{known-left}
use Rattle.rc_cacheread.proofs.Lists.{behind-its-row, change_if}
use Rattle.rc_cacheread.specs.laws.Orders.{never-before}
use Rattle.rc_cacheread.proofs.Orders.{before-reach, reach-itself}
use Rattle.rc_cacheread.proofs.Outcomes.{carries-same}
use Rattle.rc_cacheread.proofs.Parting.{advance-at, advance-gap, advance-row, advance-same, carries-away, front-over, ready-known, sees-known, stays-known}
use Rattle.rc_cacheread.proofs.Stepping.{ends-on, known-calls, reader_of}
use Rattle.rc_cacheread.specs.Passing.{IsKnownOver}
use Rattle.rc_cacheread.proofs.Filled.{filled-known, filled-then}
use Rattle.rc_cacheread.specs.laws.Passing.{over-nothing}
use Rattle.rc_cacheread.proofs.Passed.{over-ends, over-gap, over-row, whole-ends, whole-gap, whole-nothing, whole-row}
use Rattle.rc_cacheread.proofs.Unanswered.{on-answer}
use Rattle.rc_cacheread.proofs.parts.read_part.Goals as goal

pub returns-in-Ok-Row-clause-stays : goal.returns-in-Ok-Row-clause-stays
returns-in-Ok-Row-clause-stays g c =
    let kn = (of_known g.K.Known.ready g.K.Known.place g.K.Known.knows g.K.Known.heads g.K.Known.did) in
    let be = (of_below g.F.Frags.ready g.F.Frags.seen g.F.Frags.ahead g.F.Frags.moves g.F.Frags.did) in
    let fi = (of_filler g.P.Filler.ready g.P.Filler.fits g.P.Filler.may g.P.Filler.lost g.P.Filler.stands g.P.Filler.knows g.P.Filler.knows_statics g.P.Filler.fills) in
    let r = c.args.reader.now in
    let h = c.args.home.now in
    let w = c.args.store.now in
    let s = c.read_row.new.self in
    let q = c.read_row.ensures in
    let d : IsPartFrom (kn.knows r.known h) r.spot.place r.to (part.Row c.in-Ok-Row.key c.in-Ok-Row.row c.in-Ok-Row.tomb) = subst (IsPartFrom (kn.knows r.known h) r.spot.place r.to) c.in-Ok-Row.field-0-is c.in-Ok-Row.ensures.part in
    let at : s.place ≡ row_pos c.in-Ok-Row.key = q.place ∙ d.1 in
    let stands : stand s ≡ behind_row c.in-Ok-Row.key = λ i. past_row (q.row i) (at i) in
    let on : Reaches (stand r.spot) (stand s) = subst (λ (z : Pos × Pos). Reaches z.0 z.1) (λ i. (sym (idle-stand r.spot c.requires.idle ∙ d.1) i, sym stands i)) (before-reach (row_pos c.in-Ok-Row.key) (behind_row c.in-Ok-Row.key) (behind-its-row c.in-Ok-Row.key)) in
    let left = known-left kn be fi c.requires.ready.shares r.below r.filler w true (r.known, h) (c.next_part.new.known, c.next_part.new.home) c.in-Ok-Row.ensures.did c.requires.ready.fit in
    let carries = carries-away (be.seen r.below h w) (be.seen r.below c.next_part.new.home w) r.stage (stand r.spot) (stand s) r.spot.tomb s.tomb left.seen in
    stays-known kn be fi r c.next_part.new.known s Away c.next_part.new.lags h c.next_part.new.home w left c.next_part.ensures.knows on carries

pub returns-in-Ok-Row-clause-says : goal.returns-in-Ok-Row-clause-says
returns-in-Ok-Row-clause-says g c = λ z v.
    let kn = (of_known g.K.Known.ready g.K.Known.place g.K.Known.knows g.K.Known.heads g.K.Known.did) in
    let be = (of_below g.F.Frags.ready g.F.Frags.seen g.F.Frags.ahead g.F.Frags.moves g.F.Frags.did) in
    let fi = (of_filler g.P.Filler.ready g.P.Filler.fits g.P.Filler.may g.P.Filler.lost g.P.Filler.stands g.P.Filler.knows g.P.Filler.knows_statics g.P.Filler.fills) in
    let r = c.args.reader.now in
    let h = c.args.home.now in
    let w = c.args.store.now in
    let s = c.read_row.new.self in
    let q = c.read_row.ensures in
    let d : IsPartFrom (kn.knows r.known h) r.spot.place r.to (part.Row c.in-Ok-Row.key c.in-Ok-Row.row c.in-Ok-Row.tomb) = subst (IsPartFrom (kn.knows r.known h) r.spot.place r.to) c.in-Ok-Row.field-0-is c.in-Ok-Row.ensures.part in
    let at : s.place ≡ row_pos c.in-Ok-Row.key = q.place ∙ d.1 in
    let stands : stand s ≡ behind_row c.in-Ok-Row.key = λ i. past_row (q.row i) (at i) in
    let on : Reaches (stand r.spot) (stand s) = subst (λ (z : Pos × Pos). Reaches z.0 z.1) (λ i. (sym (idle-stand r.spot c.requires.idle ∙ d.1) i, sym stands i)) (before-reach (row_pos c.in-Ok-Row.key) (behind_row c.in-Ok-Row.key) (behind-its-row c.in-Ok-Row.key)) in
    let left = known-left kn be fi c.requires.ready.shares r.below r.filler w true (r.known, h) (c.next_part.new.known, c.next_part.new.home) c.in-Ok-Row.ensures.did c.requires.ready.fit in
    let carries = carries-away (be.seen r.below h w) (be.seen r.below c.next_part.new.home w) r.stage (stand r.spot) (stand s) r.spot.tomb s.tomb left.seen in
    let due : front s ≡ change_if r.spot.place r.spot.tomb c.in-Ok-Row.tomb ++ (frag.Row c.in-Ok-Row.key c.in-Ok-Row.row ∷ []) = front-changed r.spot s c.in-Ok-Row.tomb c.requires.idle q.told q.again q.tomb q.since ∙ (λ i. change_if (q.place i) r.spot.tomb c.in-Ok-Row.tomb ++ row_due (q.row i) (at i).prefix) in
    let k = idle-stand r.spot c.requires.idle in
    let adv = advance-row (SayThere v.writes) (stand r.spot) r.to c.in-Ok-Row.key c.in-Ok-Row.row r.spot.tomb c.in-Ok-Row.tomb v.says.rest v.says.reads (subst (λ x. IsBefore x r.to) (sym k) c.requires.within) (k ∙ d.1) (subst (λ x. SayThere v.writes x (c.in-Ok-Row.row, c.in-Ok-Row.tomb)) (sym k) (c.requires.ready.fit.sound v.writes v.reads.stands r.spot.place (c.in-Ok-Row.row, c.in-Ok-Row.tomb) d.2)) d.3 in
    sees-known kn be fi r c.next_part.new.known s Away c.next_part.new.lags h c.next_part.new.home w left c.next_part.ensures.knows on carries z v (idle-front r.spot c.requires.idle) (told-elsewhere r.spot s q.told q.again)
    (advance-at (SayThere v.writes) r.to r.spot.tomb v.says.rest (behind_row c.in-Ok-Row.key) (stand s) c.in-Ok-Row.tomb s.tomb (change_if (stand r.spot) r.spot.tomb c.in-Ok-Row.tomb ++ (frag.Row c.in-Ok-Row.key c.in-Ok-Row.row ∷ [])) (front s) stands q.tomb (due ∙ ap (λ x. change_if x r.spot.tomb c.in-Ok-Row.tomb ++ (frag.Row c.in-Ok-Row.key c.in-Ok-Row.row ∷ [])) (sym k)) adv)

pub returns-in-Ok-Row-clause-did : goal.returns-in-Ok-Row-clause-did
returns-in-Ok-Row-clause-did g c = λ y covers.
    let kn = (of_known g.K.Known.ready g.K.Known.place g.K.Known.knows g.K.Known.heads g.K.Known.did) in
    let be = (of_below g.F.Frags.ready g.F.Frags.seen g.F.Frags.ahead g.F.Frags.moves g.F.Frags.did) in
    let fi = (of_filler g.P.Filler.ready g.P.Filler.fits g.P.Filler.may g.P.Filler.lost g.P.Filler.stands g.P.Filler.knows g.P.Filler.knows_statics g.P.Filler.fills) in
    let r = c.args.reader.now in
    let h = c.args.home.now in
    let w = c.args.store.now in
    known-calls kn be fi (OfNext y) r.below r.filler w true r.known c.next_part.new.known h c.next_part.new.home c.in-Ok-Row.ensures.did

pub returns-in-Ok-Row-clause-ready : goal.returns-in-Ok-Row-clause-ready
returns-in-Ok-Row-clause-ready g c =
    let kn = (of_known g.K.Known.ready g.K.Known.place g.K.Known.knows g.K.Known.heads g.K.Known.did) in
    let be = (of_below g.F.Frags.ready g.F.Frags.seen g.F.Frags.ahead g.F.Frags.moves g.F.Frags.did) in
    let fi = (of_filler g.P.Filler.ready g.P.Filler.fits g.P.Filler.may g.P.Filler.lost g.P.Filler.stands g.P.Filler.knows g.P.Filler.knows_statics g.P.Filler.fills) in
    let r = c.args.reader.now in
    let h = c.args.home.now in
    let w = c.args.store.now in
    let s = c.read_row.new.self in
    let q = c.read_row.ensures in
    let d : IsPartFrom (kn.knows r.known h) r.spot.place r.to (part.Row c.in-Ok-Row.key c.in-Ok-Row.row c.in-Ok-Row.tomb) = subst (IsPartFrom (kn.knows r.known h) r.spot.place r.to) c.in-Ok-Row.field-0-is c.in-Ok-Row.ensures.part in
    let at : s.place ≡ row_pos c.in-Ok-Row.key = q.place ∙ d.1 in
    let stands : stand s ≡ behind_row c.in-Ok-Row.key = λ i. past_row (q.row i) (at i) in
    let on : Reaches (stand r.spot) (stand s) = subst (λ (z : Pos × Pos). Reaches z.0 z.1) (λ i. (sym (idle-stand r.spot c.requires.idle ∙ d.1) i, sym stands i)) (before-reach (row_pos c.in-Ok-Row.key) (behind_row c.in-Ok-Row.key) (behind-its-row c.in-Ok-Row.key)) in
    let left = known-left kn be fi c.requires.ready.shares r.below r.filler w true (r.known, h) (c.next_part.new.known, c.next_part.new.home) c.in-Ok-Row.ensures.did c.requires.ready.fit in
    let carries = carries-away (be.seen r.below h w) (be.seen r.below c.next_part.new.home w) r.stage (stand r.spot) (stand s) r.spot.tomb s.tomb left.seen in
    ready-known kn be fi r c.next_part.new.known s Away c.next_part.new.lags h c.next_part.new.home w left c.next_part.ensures.knows on carries c.requires.ready (subst (IsPlaceAt c.next_part.new.lags (kn.place c.next_part.new.known)) (sym stands) (subst (λ p. IsPlaceAt c.next_part.new.lags (kn.place c.next_part.new.known) (place_behind (Ok p) r.spot.place)) c.in-Ok-Row.field-0-is c.in-Ok-Row.ensures.at))

pub returns-in-Ok-Row-clause-on : goal.returns-in-Ok-Row-clause-on
returns-in-Ok-Row-clause-on g c =
    let kn = (of_known g.K.Known.ready g.K.Known.place g.K.Known.knows g.K.Known.heads g.K.Known.did) in
    let be = (of_below g.F.Frags.ready g.F.Frags.seen g.F.Frags.ahead g.F.Frags.moves g.F.Frags.did) in
    let fi = (of_filler g.P.Filler.ready g.P.Filler.fits g.P.Filler.may g.P.Filler.lost g.P.Filler.stands g.P.Filler.knows g.P.Filler.knows_statics g.P.Filler.fills) in
    let r = c.args.reader.now in
    let h = c.args.home.now in
    let w = c.args.store.now in
    let s = c.read_row.new.self in
    let q = c.read_row.ensures in
    let d : IsPartFrom (kn.knows r.known h) r.spot.place r.to (part.Row c.in-Ok-Row.key c.in-Ok-Row.row c.in-Ok-Row.tomb) = subst (IsPartFrom (kn.knows r.known h) r.spot.place r.to) c.in-Ok-Row.field-0-is c.in-Ok-Row.ensures.part in
    let at : s.place ≡ row_pos c.in-Ok-Row.key = q.place ∙ d.1 in
    let stands : stand s ≡ behind_row c.in-Ok-Row.key = λ i. past_row (q.row i) (at i) in
    let on : Reaches (stand r.spot) (stand s) = subst (λ (z : Pos × Pos). Reaches z.0 z.1) (λ i. (sym (idle-stand r.spot c.requires.idle ∙ d.1) i, sym stands i)) (before-reach (row_pos c.in-Ok-Row.key) (behind_row c.in-Ok-Row.key) (behind-its-row c.in-Ok-Row.key)) in
    on

pub returns-in-Ok-Gap-clause-stays : goal.returns-in-Ok-Gap-clause-stays
returns-in-Ok-Gap-clause-stays g c =
    let kn = (of_known g.K.Known.ready g.K.Known.place g.K.Known.knows g.K.Known.heads g.K.Known.did) in
    let be = (of_below g.F.Frags.ready g.F.Frags.seen g.F.Frags.ahead g.F.Frags.moves g.F.Frags.did) in
    let fi = (of_filler g.P.Filler.ready g.P.Filler.fits g.P.Filler.may g.P.Filler.lost g.P.Filler.stands g.P.Filler.knows g.P.Filler.knows_statics g.P.Filler.fills) in
    let r = c.args.reader.now in
    let h = c.args.home.now in
    let w = c.args.store.now in
    let s = c.go_over.new.self in
    let q = c.go_over.ensures in
    let d : IsPartFrom (kn.knows r.known h) r.spot.place r.to (part.Gap c.in-Ok-Gap.to c.in-Ok-Gap.tomb) = subst (IsPartFrom (kn.knows r.known h) r.spot.place r.to) c.in-Ok-Gap.field-0-is c.in-Ok-Gap.ensures.part in
    let stands : stand s ≡ c.in-Ok-Gap.to = ap (λ z. past_row z s.place) (q.row ∙ c.requires.idle.row) ∙ q.place in
    let on : Reaches (stand r.spot) (stand s) = subst (λ (z : Pos × Pos). Reaches z.0 z.1) (λ i. (sym (idle-stand r.spot c.requires.idle) i, sym stands i)) (before-reach r.spot.place c.in-Ok-Gap.to d.0.0) in
    let left = known-left kn be fi c.requires.ready.shares r.below r.filler w true (r.known, h) (c.next_part.new.known, c.next_part.new.home) c.in-Ok-Gap.ensures.did c.requires.ready.fit in
    let carries = carries-away (be.seen r.below h w) (be.seen r.below c.next_part.new.home w) r.stage (stand r.spot) (stand s) r.spot.tomb s.tomb left.seen in
    stays-known kn be fi r c.next_part.new.known s Away c.next_part.new.lags h c.next_part.new.home w left c.next_part.ensures.knows on carries

pub returns-in-Ok-Gap-clause-says : goal.returns-in-Ok-Gap-clause-says
returns-in-Ok-Gap-clause-says g c = λ z v.
    let kn = (of_known g.K.Known.ready g.K.Known.place g.K.Known.knows g.K.Known.heads g.K.Known.did) in
    let be = (of_below g.F.Frags.ready g.F.Frags.seen g.F.Frags.ahead g.F.Frags.moves g.F.Frags.did) in
    let fi = (of_filler g.P.Filler.ready g.P.Filler.fits g.P.Filler.may g.P.Filler.lost g.P.Filler.stands g.P.Filler.knows g.P.Filler.knows_statics g.P.Filler.fills) in
    let r = c.args.reader.now in
    let h = c.args.home.now in
    let w = c.args.store.now in
    let s = c.go_over.new.self in
    let q = c.go_over.ensures in
    let d : IsPartFrom (kn.knows r.known h) r.spot.place r.to (part.Gap c.in-Ok-Gap.to c.in-Ok-Gap.tomb) = subst (IsPartFrom (kn.knows r.known h) r.spot.place r.to) c.in-Ok-Gap.field-0-is c.in-Ok-Gap.ensures.part in
    let stands : stand s ≡ c.in-Ok-Gap.to = ap (λ z. past_row z s.place) (q.row ∙ c.requires.idle.row) ∙ q.place in
    let on : Reaches (stand r.spot) (stand s) = subst (λ (z : Pos × Pos). Reaches z.0 z.1) (λ i. (sym (idle-stand r.spot c.requires.idle) i, sym stands i)) (before-reach r.spot.place c.in-Ok-Gap.to d.0.0) in
    let left = known-left kn be fi c.requires.ready.shares r.below r.filler w true (r.known, h) (c.next_part.new.known, c.next_part.new.home) c.in-Ok-Gap.ensures.did c.requires.ready.fit in
    let carries = carries-away (be.seen r.below h w) (be.seen r.below c.next_part.new.home w) r.stage (stand r.spot) (stand s) r.spot.tomb s.tomb left.seen in
    let k = idle-stand r.spot c.requires.idle in
    let adv = advance-gap (SayThere v.writes) (stand r.spot) r.to c.in-Ok-Gap.to r.spot.tomb c.in-Ok-Gap.tomb v.says.rest v.says.reads (subst (λ x. IsBefore x c.in-Ok-Gap.to) (sym k) d.0.0) d.0.1 (λ x m b. c.requires.ready.fit.sound v.writes v.reads.stands x (_, c.in-Ok-Gap.tomb) (d.1 x (subst (λ y. Reaches y x) k m) b)) in
    sees-known kn be fi r c.next_part.new.known s Away c.next_part.new.lags h c.next_part.new.home w left c.next_part.ensures.knows on carries z v (idle-front r.spot c.requires.idle) (told-elsewhere r.spot s q.told q.again)
    (advance-at (SayThere v.writes) r.to r.spot.tomb v.says.rest c.in-Ok-Gap.to (stand s) c.in-Ok-Gap.tomb s.tomb (change_if (stand r.spot) r.spot.tomb c.in-Ok-Gap.tomb) (front s) stands q.tomb (front-over r.spot s c.in-Ok-Gap.tomb c.requires.idle q.row q.told q.again q.tomb q.since ∙ ap (λ x. change_if x r.spot.tomb c.in-Ok-Gap.tomb) (sym k)) adv)

pub returns-in-Ok-Gap-clause-did : goal.returns-in-Ok-Gap-clause-did
returns-in-Ok-Gap-clause-did g c = λ y covers.
    let kn = (of_known g.K.Known.ready g.K.Known.place g.K.Known.knows g.K.Known.heads g.K.Known.did) in
    let be = (of_below g.F.Frags.ready g.F.Frags.seen g.F.Frags.ahead g.F.Frags.moves g.F.Frags.did) in
    let fi = (of_filler g.P.Filler.ready g.P.Filler.fits g.P.Filler.may g.P.Filler.lost g.P.Filler.stands g.P.Filler.knows g.P.Filler.knows_statics g.P.Filler.fills) in
    let r = c.args.reader.now in
    let h = c.args.home.now in
    let w = c.args.store.now in
    known-calls kn be fi (OfNext y) r.below r.filler w true r.known c.next_part.new.known h c.next_part.new.home c.in-Ok-Gap.ensures.did

pub returns-in-Ok-Gap-clause-ready : goal.returns-in-Ok-Gap-clause-ready
returns-in-Ok-Gap-clause-ready g c =
    let kn = (of_known g.K.Known.ready g.K.Known.place g.K.Known.knows g.K.Known.heads g.K.Known.did) in
    let be = (of_below g.F.Frags.ready g.F.Frags.seen g.F.Frags.ahead g.F.Frags.moves g.F.Frags.did) in
    let fi = (of_filler g.P.Filler.ready g.P.Filler.fits g.P.Filler.may g.P.Filler.lost g.P.Filler.stands g.P.Filler.knows g.P.Filler.knows_statics g.P.Filler.fills) in
    let r = c.args.reader.now in
    let h = c.args.home.now in
    let w = c.args.store.now in
    let s = c.go_over.new.self in
    let q = c.go_over.ensures in
    let d : IsPartFrom (kn.knows r.known h) r.spot.place r.to (part.Gap c.in-Ok-Gap.to c.in-Ok-Gap.tomb) = subst (IsPartFrom (kn.knows r.known h) r.spot.place r.to) c.in-Ok-Gap.field-0-is c.in-Ok-Gap.ensures.part in
    let stands : stand s ≡ c.in-Ok-Gap.to = ap (λ z. past_row z s.place) (q.row ∙ c.requires.idle.row) ∙ q.place in
    let on : Reaches (stand r.spot) (stand s) = subst (λ (z : Pos × Pos). Reaches z.0 z.1) (λ i. (sym (idle-stand r.spot c.requires.idle) i, sym stands i)) (before-reach r.spot.place c.in-Ok-Gap.to d.0.0) in
    let left = known-left kn be fi c.requires.ready.shares r.below r.filler w true (r.known, h) (c.next_part.new.known, c.next_part.new.home) c.in-Ok-Gap.ensures.did c.requires.ready.fit in
    let carries = carries-away (be.seen r.below h w) (be.seen r.below c.next_part.new.home w) r.stage (stand r.spot) (stand s) r.spot.tomb s.tomb left.seen in
    ready-known kn be fi r c.next_part.new.known s Away c.next_part.new.lags h c.next_part.new.home w left c.next_part.ensures.knows on carries c.requires.ready (subst (IsPlaceAt c.next_part.new.lags (kn.place c.next_part.new.known)) (sym stands) (subst (λ p. IsPlaceAt c.next_part.new.lags (kn.place c.next_part.new.known) (place_behind (Ok p) r.spot.place)) c.in-Ok-Gap.field-0-is c.in-Ok-Gap.ensures.at))

pub returns-in-Ok-Gap-clause-on : goal.returns-in-Ok-Gap-clause-on
returns-in-Ok-Gap-clause-on g c =
    let kn = (of_known g.K.Known.ready g.K.Known.place g.K.Known.knows g.K.Known.heads g.K.Known.did) in
    let be = (of_below g.F.Frags.ready g.F.Frags.seen g.F.Frags.ahead g.F.Frags.moves g.F.Frags.did) in
    let fi = (of_filler g.P.Filler.ready g.P.Filler.fits g.P.Filler.may g.P.Filler.lost g.P.Filler.stands g.P.Filler.knows g.P.Filler.knows_statics g.P.Filler.fills) in
    let r = c.args.reader.now in
    let h = c.args.home.now in
    let w = c.args.store.now in
    let s = c.go_over.new.self in
    let q = c.go_over.ensures in
    let d : IsPartFrom (kn.knows r.known h) r.spot.place r.to (part.Gap c.in-Ok-Gap.to c.in-Ok-Gap.tomb) = subst (IsPartFrom (kn.knows r.known h) r.spot.place r.to) c.in-Ok-Gap.field-0-is c.in-Ok-Gap.ensures.part in
    let stands : stand s ≡ c.in-Ok-Gap.to = ap (λ z. past_row z s.place) (q.row ∙ c.requires.idle.row) ∙ q.place in
    let on : Reaches (stand r.spot) (stand s) = subst (λ (z : Pos × Pos). Reaches z.0 z.1) (λ i. (sym (idle-stand r.spot c.requires.idle) i, sym stands i)) (before-reach r.spot.place c.in-Ok-Gap.to d.0.0) in
    on

pub read_below-requires-clause-ready : goal.read_below-requires-clause-ready
read_below-requires-clause-ready g c =
    let kn = (of_known g.K.Known.ready g.K.Known.place g.K.Known.knows g.K.Known.heads g.K.Known.did) in
    let be = (of_below g.F.Frags.ready g.F.Frags.seen g.F.Frags.ahead g.F.Frags.moves g.F.Frags.did) in
    let fi = (of_filler g.P.Filler.ready g.P.Filler.fits g.P.Filler.may g.P.Filler.lost g.P.Filler.stands g.P.Filler.knows g.P.Filler.knows_statics g.P.Filler.fills) in
    let r = c.args.reader.now in
    let h = c.args.home.now in
    let w = c.args.store.now in
    let left = known-left kn be fi c.requires.ready.shares r.below r.filler w true (r.known, h) (c.next_part.new.known, c.next_part.new.home) c.in-Ok-Missing.ensures.did c.requires.ready.fit in
    let carries = carries-same (be.seen r.below h w) (be.seen r.below c.next_part.new.home w) r.stage (stand r.spot) r.spot.tomb left.seen in
    ready-known kn be fi r c.next_part.new.known r.spot r.stage c.next_part.new.lags h c.next_part.new.home w left c.next_part.ensures.knows (reach-itself (stand r.spot)) carries c.requires.ready (subst (IsPlaceAt c.next_part.new.lags (kn.place c.next_part.new.known)) (sym (idle-stand r.spot c.requires.idle)) (subst (λ p. IsPlaceAt c.next_part.new.lags (kn.place c.next_part.new.known) (place_behind (Ok p) r.spot.place)) c.in-Ok-Missing.field-0-is c.in-Ok-Missing.ensures.at))

pub returns-in-Ok-Missing-clause-stays : goal.returns-in-Ok-Missing-clause-stays
returns-in-Ok-Missing-clause-stays g c = λ writes d.
    let kn = (of_known g.K.Known.ready g.K.Known.place g.K.Known.knows g.K.Known.heads g.K.Known.did) in
    let be = (of_below g.F.Frags.ready g.F.Frags.seen g.F.Frags.ahead g.F.Frags.moves g.F.Frags.did) in
    let fi = (of_filler g.P.Filler.ready g.P.Filler.fits g.P.Filler.may g.P.Filler.lost g.P.Filler.stands g.P.Filler.knows g.P.Filler.knows_statics g.P.Filler.fills) in
    let r = c.args.reader.now in
    let h = c.args.home.now in
    let w = c.args.store.now in
    let left = known-left kn be fi c.requires.ready.shares r.below r.filler w true (r.known, h) (c.next_part.new.known, c.next_part.new.home) c.in-Ok-Missing.ensures.did c.requires.ready.fit in
    let carries = carries-same (be.seen r.below h w) (be.seen r.below c.next_part.new.home w) r.stage (stand r.spot) r.spot.tomb left.seen in
    c.read_below.ensures.stays writes (stays-known kn be fi r c.next_part.new.known r.spot r.stage c.next_part.new.lags h c.next_part.new.home w left c.next_part.ensures.knows (reach-itself (stand r.spot)) carries writes d)

pub returns-in-Ok-Missing-clause-says : goal.returns-in-Ok-Missing-clause-says
returns-in-Ok-Missing-clause-says g c = λ z v.
    let kn = (of_known g.K.Known.ready g.K.Known.place g.K.Known.knows g.K.Known.heads g.K.Known.did) in
    let be = (of_below g.F.Frags.ready g.F.Frags.seen g.F.Frags.ahead g.F.Frags.moves g.F.Frags.did) in
    let fi = (of_filler g.P.Filler.ready g.P.Filler.fits g.P.Filler.may g.P.Filler.lost g.P.Filler.stands g.P.Filler.knows g.P.Filler.knows_statics g.P.Filler.fills) in
    let r = c.args.reader.now in
    let h = c.args.home.now in
    let w = c.args.store.now in
    let left = known-left kn be fi c.requires.ready.shares r.below r.filler w true (r.known, h) (c.next_part.new.known, c.next_part.new.home) c.in-Ok-Missing.ensures.did c.requires.ready.fit in
    let carries = carries-same (be.seen r.below h w) (be.seen r.below c.next_part.new.home w) r.stage (stand r.spot) r.spot.tomb left.seen in
    c.read_below.ensures.says z (sees-known kn be fi r c.next_part.new.known r.spot r.stage c.next_part.new.lags h c.next_part.new.home w left c.next_part.ensures.knows (reach-itself (stand r.spot)) carries z v (idle-front r.spot c.requires.idle) refl (advance-same (SayThere v.writes) r.to r.spot v.says.rest c.requires.idle v.says.reads))

pub returns-in-Ok-Missing-clause-did : goal.returns-in-Ok-Missing-clause-did
returns-in-Ok-Missing-clause-did g c = λ y covers.
    let kn = (of_known g.K.Known.ready g.K.Known.place g.K.Known.knows g.K.Known.heads g.K.Known.did) in
    let be = (of_below g.F.Frags.ready g.F.Frags.seen g.F.Frags.ahead g.F.Frags.moves g.F.Frags.did) in
    let fi = (of_filler g.P.Filler.ready g.P.Filler.fits g.P.Filler.may g.P.Filler.lost g.P.Filler.stands g.P.Filler.knows g.P.Filler.knows_statics g.P.Filler.fills) in
    let r = c.args.reader.now in
    let h = c.args.home.now in
    let w = c.args.store.now in
    let left = known-left kn be fi c.requires.ready.shares r.below r.filler w true (r.known, h) (c.next_part.new.known, c.next_part.new.home) c.in-Ok-Missing.ensures.did c.requires.ready.fit in
    let carries = carries-same (be.seen r.below h w) (be.seen r.below c.next_part.new.home w) r.stage (stand r.spot) r.spot.tomb left.seen in
    let n = reader_of c.next_part.new.known r.below r.filler r.to r.spot r.stage c.next_part.new.lags in
    chain-after (ReaderCall kn be fi (OfNext y)) (has_answer c.read_below.result) (reader_state r h w) (reader_state n c.next_part.new.home w) (reader_state c.read_below.new.reader c.read_below.new.home c.read_below.new.store)
    (known-calls kn be fi (OfNext y) r.below r.filler w true r.known c.next_part.new.known h c.next_part.new.home c.in-Ok-Missing.ensures.did)
    (c.read_below.ensures.did y (ends-on kn be fi r n h c.next_part.new.home w w c.args.upto.now y (λ z v. sees-known kn be fi r c.next_part.new.known r.spot r.stage c.next_part.new.lags h c.next_part.new.home w left c.next_part.ensures.knows (reach-itself (stand r.spot)) carries z v (idle-front r.spot c.requires.idle) refl (advance-same (SayThere v.writes) r.to r.spot v.says.rest c.requires.idle v.says.reads)) covers))

pub returns-in-Ok-Missing-clause-quiet : goal.returns-in-Ok-Missing-clause-quiet
returns-in-Ok-Missing-clause-quiet g c = λ v k. absurd ((subst (IsPartFrom (g.K.Known.knows c.args.reader.now.known c.args.home.now) c.args.reader.now.spot.place c.args.reader.now.to) c.in-Ok-Missing.field-0-is c.in-Ok-Missing.ensures.part).1 v k)

never : {x y : Pos} → IsBefore x y → x ≡ y → ⊥
never {x} {y} b e = never-before x y (subst (λ z. Reaches z x) e (reach-itself x)) b

pub returns-in-Ok-End-clause-says : goal.returns-in-Ok-End-clause-says
returns-in-Ok-End-clause-says g c = absurd (never c.requires.within (subst (IsPartFrom (g.K.Known.knows c.args.reader.now.known c.args.home.now) c.args.reader.now.spot.place c.args.reader.now.to) c.in-Ok-End.field-0-is c.in-Ok-End.ensures.part))

pub returns-in-Ok-End-clause-stays : goal.returns-in-Ok-End-clause-stays
returns-in-Ok-End-clause-stays g c = absurd (never c.requires.within (subst (IsPartFrom (g.K.Known.knows c.args.reader.now.known c.args.home.now) c.args.reader.now.spot.place c.args.reader.now.to) c.in-Ok-End.field-0-is c.in-Ok-End.ensures.part))

pub returns-in-Ok-End-clause-did : goal.returns-in-Ok-End-clause-did
returns-in-Ok-End-clause-did g c = absurd (never c.requires.within (subst (IsPartFrom (g.K.Known.knows c.args.reader.now.known c.args.home.now) c.args.reader.now.spot.place c.args.reader.now.to) c.in-Ok-End.field-0-is c.in-Ok-End.ensures.part))

pub returns-in-Ok-End-clause-ready : goal.returns-in-Ok-End-clause-ready
returns-in-Ok-End-clause-ready g c = absurd (never c.requires.within (subst (IsPartFrom (g.K.Known.knows c.args.reader.now.known c.args.home.now) c.args.reader.now.spot.place c.args.reader.now.to) c.in-Ok-End.field-0-is c.in-Ok-End.ensures.part))

pub returns-in-Err-clause-stays : goal.returns-in-Err-clause-stays
returns-in-Err-clause-stays g c =
    let kn = (of_known g.K.Known.ready g.K.Known.place g.K.Known.knows g.K.Known.heads g.K.Known.did) in
    let be = (of_below g.F.Frags.ready g.F.Frags.seen g.F.Frags.ahead g.F.Frags.moves g.F.Frags.did) in
    let fi = (of_filler g.P.Filler.ready g.P.Filler.fits g.P.Filler.may g.P.Filler.lost g.P.Filler.stands g.P.Filler.knows g.P.Filler.knows_statics g.P.Filler.fills) in
    let r = c.args.reader.now in
    let h = c.args.home.now in
    let w = c.args.store.now in
    let left = known-left kn be fi c.requires.ready.shares r.below r.filler w false (r.known, h) (c.next_part.new.known, c.next_part.new.home) c.in-Err.ensures.did c.requires.ready.fit in
    let carries = carries-same (be.seen r.below h w) (be.seen r.below c.next_part.new.home w) r.stage (stand r.spot) r.spot.tomb left.seen in
    stays-known kn be fi r c.next_part.new.known r.spot r.stage c.next_part.new.lags h c.next_part.new.home w left c.next_part.ensures.knows (reach-itself (stand r.spot)) carries

pub returns-in-Err-clause-says : goal.returns-in-Err-clause-says
returns-in-Err-clause-says g c = λ z v.
    let kn = (of_known g.K.Known.ready g.K.Known.place g.K.Known.knows g.K.Known.heads g.K.Known.did) in
    let be = (of_below g.F.Frags.ready g.F.Frags.seen g.F.Frags.ahead g.F.Frags.moves g.F.Frags.did) in
    let fi = (of_filler g.P.Filler.ready g.P.Filler.fits g.P.Filler.may g.P.Filler.lost g.P.Filler.stands g.P.Filler.knows g.P.Filler.knows_statics g.P.Filler.fills) in
    let r = c.args.reader.now in
    let h = c.args.home.now in
    let w = c.args.store.now in
    let left = known-left kn be fi c.requires.ready.shares r.below r.filler w false (r.known, h) (c.next_part.new.known, c.next_part.new.home) c.in-Err.ensures.did c.requires.ready.fit in
    let carries = carries-same (be.seen r.below h w) (be.seen r.below c.next_part.new.home w) r.stage (stand r.spot) r.spot.tomb left.seen in
    sees-known kn be fi r c.next_part.new.known r.spot r.stage c.next_part.new.lags h c.next_part.new.home w left c.next_part.ensures.knows (reach-itself (stand r.spot)) carries z v (idle-front r.spot c.requires.idle) refl (advance-same (SayThere v.writes) r.to r.spot v.says.rest c.requires.idle v.says.reads)

pub returns-in-Err-clause-did : goal.returns-in-Err-clause-did
returns-in-Err-clause-did g c = λ y covers.
    let kn = (of_known g.K.Known.ready g.K.Known.place g.K.Known.knows g.K.Known.heads g.K.Known.did) in
    let be = (of_below g.F.Frags.ready g.F.Frags.seen g.F.Frags.ahead g.F.Frags.moves g.F.Frags.did) in
    let fi = (of_filler g.P.Filler.ready g.P.Filler.fits g.P.Filler.may g.P.Filler.lost g.P.Filler.stands g.P.Filler.knows g.P.Filler.knows_statics g.P.Filler.fills) in
    let r = c.args.reader.now in
    let h = c.args.home.now in
    let w = c.args.store.now in
    known-calls kn be fi (OfNext y) r.below r.filler w false r.known c.next_part.new.known h c.next_part.new.home c.in-Err.ensures.did

pub returns-in-Err-clause-ready : goal.returns-in-Err-clause-ready
returns-in-Err-clause-ready g c =
    let kn = (of_known g.K.Known.ready g.K.Known.place g.K.Known.knows g.K.Known.heads g.K.Known.did) in
    let be = (of_below g.F.Frags.ready g.F.Frags.seen g.F.Frags.ahead g.F.Frags.moves g.F.Frags.did) in
    let fi = (of_filler g.P.Filler.ready g.P.Filler.fits g.P.Filler.may g.P.Filler.lost g.P.Filler.stands g.P.Filler.knows g.P.Filler.knows_statics g.P.Filler.fills) in
    let r = c.args.reader.now in
    let h = c.args.home.now in
    let w = c.args.store.now in
    let left = known-left kn be fi c.requires.ready.shares r.below r.filler w false (r.known, h) (c.next_part.new.known, c.next_part.new.home) c.in-Err.ensures.did c.requires.ready.fit in
    let carries = carries-same (be.seen r.below h w) (be.seen r.below c.next_part.new.home w) r.stage (stand r.spot) r.spot.tomb left.seen in
    ready-known kn be fi r c.next_part.new.known r.spot r.stage c.next_part.new.lags h c.next_part.new.home w left c.next_part.ensures.knows (reach-itself (stand r.spot)) carries c.requires.ready (subst (IsPlaceAt c.next_part.new.lags (kn.place c.next_part.new.known)) (sym (idle-stand r.spot c.requires.idle)) c.in-Err.ensures.at)

pub returns-in-Ok-Missing-clause-on : goal.returns-in-Ok-Missing-clause-on
returns-in-Ok-Missing-clause-on g c = c.read_below.ensures.on

pub returns-in-Ok-Missing-clause-keeps : goal.returns-in-Ok-Missing-clause-keeps
returns-in-Ok-Missing-clause-keeps g c = λ v k. absurd ((subst (IsPartFrom (g.K.Known.knows c.args.reader.now.known c.args.home.now) c.args.reader.now.spot.place c.args.reader.now.to) c.in-Ok-Missing.field-0-is c.in-Ok-Missing.ensures.part).1 v k)

pub returns-in-Ok-End-clause-on : goal.returns-in-Ok-End-clause-on
returns-in-Ok-End-clause-on g c = reach-itself (stand c.args.reader.now.spot)

pub returns-in-Err-clause-on : goal.returns-in-Err-clause-on
returns-in-Err-clause-on g c = reach-itself (stand c.args.reader.now.spot)

pub returns-in-Ok-Row-clause-keeps : goal.returns-in-Ok-Row-clause-keeps
returns-in-Ok-Row-clause-keeps g c = λ v k. c.next_part.ensures.knows

pub returns-in-Ok-Gap-clause-keeps : goal.returns-in-Ok-Gap-clause-keeps
returns-in-Ok-Gap-clause-keeps g c = λ v k. c.next_part.ensures.knows

pub returns-in-Ok-End-clause-keeps : goal.returns-in-Ok-End-clause-keeps
returns-in-Ok-End-clause-keeps g c = λ v k. c.next_part.ensures.knows

pub returns-in-Err-clause-keeps : goal.returns-in-Err-clause-keeps
returns-in-Err-clause-keeps g c = λ v k. c.next_part.ensures.knows

pub returns-in-Ok-Row-clause-filled : goal.returns-in-Ok-Row-clause-filled
returns-in-Ok-Row-clause-filled g c =
    let kn = (of_known g.K.Known.ready g.K.Known.place g.K.Known.knows g.K.Known.heads g.K.Known.did) in
    let be = (of_below g.F.Frags.ready g.F.Frags.seen g.F.Frags.ahead g.F.Frags.moves g.F.Frags.did) in
    let fi = (of_filler g.P.Filler.ready g.P.Filler.fits g.P.Filler.may g.P.Filler.lost g.P.Filler.stands g.P.Filler.knows g.P.Filler.knows_statics g.P.Filler.fills) in
    let r = c.args.reader.now in
    let h = c.args.home.now in
    let w = c.args.store.now in
    let l = c.next_part.new.known in
    let k = c.next_part.new.home in
    let left = known-left kn be fi c.requires.ready.shares r.below r.filler w true (r.known, h) (c.next_part.new.known, c.next_part.new.home) c.in-Ok-Row.ensures.did c.requires.ready.fit in
    let s = c.read_row.new.self in
    let q = c.read_row.ensures in
    let key = c.in-Ok-Row.key in
    let v : There = (c.in-Ok-Row.row, c.in-Ok-Row.tomb) in
    let d : IsPartFrom (kn.knows r.known h) r.spot.place r.to (part.Row key c.in-Ok-Row.row c.in-Ok-Row.tomb) = subst (IsPartFrom (kn.knows r.known h) r.spot.place r.to) c.in-Ok-Row.field-0-is c.in-Ok-Row.ensures.part in
    let at : s.place ≡ row_pos key = q.place ∙ d.1 in
    let stands : stand s ≡ behind_row key = λ i. past_row (q.row i) (at i) in
    let there : kn.knows l k (row_pos key) v = subst (λ x. kn.knows l k x v) d.1 ((c.next_part.ensures.knows r.spot.place v).0 d.2) in
    filled-known kn be fi r.below r.filler w r.known l h k (IsKnownOver (kn.knows l k) (stand r.spot) (stand s)) left c.next_part.ensures.knows
    (over-ends (kn.knows l k) (row_pos key) (stand r.spot) (behind_row key) (stand s) (idle-stand r.spot c.requires.idle ∙ d.1) stands (over-row (kn.knows l k) (row_pos key) key c.in-Ok-Row.row c.in-Ok-Row.tomb (reach-itself (row_pos key)) (over-nothing (kn.knows l k) (row_pos key) (row_pos key) refl) there d.3))

pub returns-in-Ok-Gap-clause-filled : goal.returns-in-Ok-Gap-clause-filled
returns-in-Ok-Gap-clause-filled g c =
    let kn = (of_known g.K.Known.ready g.K.Known.place g.K.Known.knows g.K.Known.heads g.K.Known.did) in
    let be = (of_below g.F.Frags.ready g.F.Frags.seen g.F.Frags.ahead g.F.Frags.moves g.F.Frags.did) in
    let fi = (of_filler g.P.Filler.ready g.P.Filler.fits g.P.Filler.may g.P.Filler.lost g.P.Filler.stands g.P.Filler.knows g.P.Filler.knows_statics g.P.Filler.fills) in
    let r = c.args.reader.now in
    let h = c.args.home.now in
    let w = c.args.store.now in
    let l = c.next_part.new.known in
    let k = c.next_part.new.home in
    let left = known-left kn be fi c.requires.ready.shares r.below r.filler w true (r.known, h) (c.next_part.new.known, c.next_part.new.home) c.in-Ok-Gap.ensures.did c.requires.ready.fit in
    let s = c.go_over.new.self in
    let q = c.go_over.ensures in
    let d : IsPartFrom (kn.knows r.known h) r.spot.place r.to (part.Gap c.in-Ok-Gap.to c.in-Ok-Gap.tomb) = subst (IsPartFrom (kn.knows r.known h) r.spot.place r.to) c.in-Ok-Gap.field-0-is c.in-Ok-Gap.ensures.part in
    let stands : stand s ≡ c.in-Ok-Gap.to = ap (λ z. past_row z s.place) (q.row ∙ c.requires.idle.row) ∙ q.place in
    filled-known kn be fi r.below r.filler w r.known l h k (IsKnownOver (kn.knows l k) (stand r.spot) (stand s)) left c.next_part.ensures.knows
    (over-ends (kn.knows l k) r.spot.place (stand r.spot) c.in-Ok-Gap.to (stand s) (idle-stand r.spot c.requires.idle) stands (over-gap (kn.knows l k) r.spot.place c.in-Ok-Gap.to c.in-Ok-Gap.tomb (λ z m b. (c.next_part.ensures.knows z (_, c.in-Ok-Gap.tomb)).0 (d.1 z m b))))

pub returns-in-Ok-Missing-clause-filled : goal.returns-in-Ok-Missing-clause-filled
returns-in-Ok-Missing-clause-filled g c =
    let kn = (of_known g.K.Known.ready g.K.Known.place g.K.Known.knows g.K.Known.heads g.K.Known.did) in
    let be = (of_below g.F.Frags.ready g.F.Frags.seen g.F.Frags.ahead g.F.Frags.moves g.F.Frags.did) in
    let fi = (of_filler g.P.Filler.ready g.P.Filler.fits g.P.Filler.may g.P.Filler.lost g.P.Filler.stands g.P.Filler.knows g.P.Filler.knows_statics g.P.Filler.fills) in
    let r = c.args.reader.now in
    let h = c.args.home.now in
    let w = c.args.store.now in
    let l = c.next_part.new.known in
    let k = c.next_part.new.home in
    let left = known-left kn be fi c.requires.ready.shares r.below r.filler w true (r.known, h) (c.next_part.new.known, c.next_part.new.home) c.in-Ok-Missing.ensures.did c.requires.ready.fit in
    let n = c.read_below.new.reader in
    filled-then kn fi r.known l n.known r.filler r.filler n.filler h k c.read_below.new.home ⊤ (IsKnownOver (kn.knows n.known c.read_below.new.home) (stand r.spot) (stand n.spot)) (filled-known kn be fi r.below r.filler w r.known l h k (⊤) left c.next_part.ensures.knows tt) c.read_below.ensures.filled

pub returns-in-Ok-End-clause-filled : goal.returns-in-Ok-End-clause-filled
returns-in-Ok-End-clause-filled g c =
    absurd (never c.requires.within (subst (IsPartFrom (g.K.Known.knows c.args.reader.now.known c.args.home.now) c.args.reader.now.spot.place c.args.reader.now.to) c.in-Ok-End.field-0-is c.in-Ok-End.ensures.part))

pub returns-in-Err-clause-filled : goal.returns-in-Err-clause-filled
returns-in-Err-clause-filled g c =
    let kn = (of_known g.K.Known.ready g.K.Known.place g.K.Known.knows g.K.Known.heads g.K.Known.did) in
    let be = (of_below g.F.Frags.ready g.F.Frags.seen g.F.Frags.ahead g.F.Frags.moves g.F.Frags.did) in
    let fi = (of_filler g.P.Filler.ready g.P.Filler.fits g.P.Filler.may g.P.Filler.lost g.P.Filler.stands g.P.Filler.knows g.P.Filler.knows_statics g.P.Filler.fills) in
    let r = c.args.reader.now in
    let h = c.args.home.now in
    let w = c.args.store.now in
    let l = c.next_part.new.known in
    let k = c.next_part.new.home in
    let left = known-left kn be fi c.requires.ready.shares r.below r.filler w false (r.known, h) (c.next_part.new.known, c.next_part.new.home) c.in-Err.ensures.did c.requires.ready.fit in
    filled-known kn be fi r.below r.filler w r.known l h k (IsKnownOver (kn.knows l k) (stand r.spot) (stand r.spot)) left c.next_part.ensures.knows (over-nothing (kn.knows l k) (stand r.spot) (stand r.spot) refl)

pub returns-in-Ok-Row-clause-whole : goal.returns-in-Ok-Row-clause-whole
returns-in-Ok-Row-clause-whole g c = λ v k.
    let knows = g.K.Known.knows c.args.reader.now.known c.args.home.now in
    let r = c.args.reader.now in
    let key = c.in-Ok-Row.key in
    let s = c.read_row.new.self in
    let d : IsPartFrom knows r.spot.place r.to (part.Row key c.in-Ok-Row.row c.in-Ok-Row.tomb) = subst (IsPartFrom knows r.spot.place r.to) c.in-Ok-Row.field-0-is c.in-Ok-Row.ensures.part in
    let at : s.place ≡ row_pos key = c.read_row.ensures.place ∙ d.1 in
    whole-ends knows (row_pos key) (stand r.spot) (behind_row key) (stand s) (idle-stand r.spot c.requires.idle ∙ d.1) (λ i. past_row (c.read_row.ensures.row i) (at i)) (whole-row knows key)

pub returns-in-Ok-Gap-clause-whole : goal.returns-in-Ok-Gap-clause-whole
returns-in-Ok-Gap-clause-whole g c = λ v k.
    let knows = g.K.Known.knows c.args.reader.now.known c.args.home.now in
    let r = c.args.reader.now in
    let s = c.go_over.new.self in
    let q = c.go_over.ensures in
    let d : IsPartFrom knows r.spot.place r.to (part.Gap c.in-Ok-Gap.to c.in-Ok-Gap.tomb) = subst (IsPartFrom knows r.spot.place r.to) c.in-Ok-Gap.field-0-is c.in-Ok-Gap.ensures.part in
    whole-ends knows r.spot.place (stand r.spot) c.in-Ok-Gap.to (stand s) (idle-stand r.spot c.requires.idle) (ap (λ z. past_row z s.place) (q.row ∙ c.requires.idle.row) ∙ q.place) (whole-gap knows r.spot.place c.in-Ok-Gap.to c.in-Ok-Gap.tomb (c.requires.ready.shares.one_there r.known c.args.home.now) d.1)

pub returns-in-Ok-Missing-clause-whole : goal.returns-in-Ok-Missing-clause-whole
returns-in-Ok-Missing-clause-whole g c = λ v k. absurd ((subst (IsPartFrom (g.K.Known.knows c.args.reader.now.known c.args.home.now) c.args.reader.now.spot.place c.args.reader.now.to) c.in-Ok-Missing.field-0-is c.in-Ok-Missing.ensures.part).1 v k)

pub returns-in-Ok-End-clause-whole : goal.returns-in-Ok-End-clause-whole
returns-in-Ok-End-clause-whole g c = λ v k. whole-nothing (g.K.Known.knows c.args.reader.now.known c.args.home.now) (stand c.args.reader.now.spot) (stand c.args.reader.now.spot) refl

pub returns-in-Err-clause-whole : goal.returns-in-Err-clause-whole
returns-in-Err-clause-whole g c = λ v k. whole-nothing (g.K.Known.knows c.args.reader.now.known c.args.home.now) (stand c.args.reader.now.spot) (stand c.args.reader.now.spot) refl

pub returns-in-Ok-Row-clause-passed : goal.returns-in-Ok-Row-clause-passed
returns-in-Ok-Row-clause-passed g c = λ v known.
    let knows = g.K.Known.knows c.args.reader.now.known c.args.home.now in
    let now = g.K.Known.knows c.next_part.new.known c.next_part.new.home in
    let r = c.args.reader.now in
    let s = c.read_row.new.self in
    let key = c.in-Ok-Row.key in
    let there : There = (c.in-Ok-Row.row, c.in-Ok-Row.tomb) in
    let d : IsPartFrom knows r.spot.place r.to (part.Row key c.in-Ok-Row.row c.in-Ok-Row.tomb) = subst (IsPartFrom knows r.spot.place r.to) c.in-Ok-Row.field-0-is c.in-Ok-Row.ensures.part in
    let at : s.place ≡ row_pos key = c.read_row.ensures.place ∙ d.1 in
    over-ends now (row_pos key) (stand r.spot) (behind_row key) (stand s) (idle-stand r.spot c.requires.idle ∙ d.1) (λ i. past_row (c.read_row.ensures.row i) (at i))
    (over-row now (row_pos key) key c.in-Ok-Row.row c.in-Ok-Row.tomb (reach-itself (row_pos key)) (over-nothing now (row_pos key) (row_pos key) refl) (subst (λ x. now x there) d.1 ((c.next_part.ensures.knows r.spot.place there).0 d.2)) d.3)

pub returns-in-Ok-Gap-clause-passed : goal.returns-in-Ok-Gap-clause-passed
returns-in-Ok-Gap-clause-passed g c = λ v known.
    let knows = g.K.Known.knows c.args.reader.now.known c.args.home.now in
    let now = g.K.Known.knows c.next_part.new.known c.next_part.new.home in
    let r = c.args.reader.now in
    let s = c.go_over.new.self in
    let q = c.go_over.ensures in
    let d : IsPartFrom knows r.spot.place r.to (part.Gap c.in-Ok-Gap.to c.in-Ok-Gap.tomb) = subst (IsPartFrom knows r.spot.place r.to) c.in-Ok-Gap.field-0-is c.in-Ok-Gap.ensures.part in
    over-ends now r.spot.place (stand r.spot) c.in-Ok-Gap.to (stand s) (idle-stand r.spot c.requires.idle) (ap (λ z. past_row z s.place) (q.row ∙ c.requires.idle.row) ∙ q.place) (over-gap now r.spot.place c.in-Ok-Gap.to c.in-Ok-Gap.tomb (λ z m b. (c.next_part.ensures.knows z (_, c.in-Ok-Gap.tomb)).0 (d.1 z m b)))

pub returns-in-Ok-Missing-clause-passed : goal.returns-in-Ok-Missing-clause-passed
returns-in-Ok-Missing-clause-passed g c = λ v k. absurd ((subst (IsPartFrom (g.K.Known.knows c.args.reader.now.known c.args.home.now) c.args.reader.now.spot.place c.args.reader.now.to) c.in-Ok-Missing.field-0-is c.in-Ok-Missing.ensures.part).1 v k)

pub returns-in-Ok-End-clause-passed : goal.returns-in-Ok-End-clause-passed
returns-in-Ok-End-clause-passed g c = λ v k. over-nothing (g.K.Known.knows c.next_part.new.known c.next_part.new.home) (stand c.args.reader.now.spot) (stand c.args.reader.now.spot) refl

pub returns-in-Err-clause-passed : goal.returns-in-Err-clause-passed
returns-in-Err-clause-passed g c = λ v k. over-nothing (g.K.Known.knows c.next_part.new.known c.next_part.new.home) (stand c.args.reader.now.spot) (stand c.args.reader.now.spot) refl

pub returns-in-Ok-Row-clause-answered : goal.returns-in-Ok-Row-clause-answered
returns-in-Ok-Row-clause-answered g c = inr ((c.in-Ok-Row.row, c.in-Ok-Row.tomb), (subst (IsPartFrom (g.K.Known.knows c.args.reader.now.known c.args.home.now) c.args.reader.now.spot.place c.args.reader.now.to) c.in-Ok-Row.field-0-is c.in-Ok-Row.ensures.part).2)

pub returns-in-Ok-Gap-clause-answered : goal.returns-in-Ok-Gap-clause-answered
returns-in-Ok-Gap-clause-answered g c =
    let r = c.args.reader.now in
    let d : IsPartFrom (g.K.Known.knows r.known c.args.home.now) r.spot.place r.to (part.Gap c.in-Ok-Gap.to c.in-Ok-Gap.tomb) = subst (IsPartFrom (g.K.Known.knows r.known c.args.home.now) r.spot.place r.to) c.in-Ok-Gap.field-0-is c.in-Ok-Gap.ensures.part in
    inr ((_, c.in-Ok-Gap.tomb), d.1 r.spot.place (reach-itself r.spot.place) d.0.0)

pub returns-in-Ok-Missing-clause-answered : goal.returns-in-Ok-Missing-clause-answered
returns-in-Ok-Missing-clause-answered g c =
    let be = (of_below g.F.Frags.ready g.F.Frags.seen g.F.Frags.ahead g.F.Frags.moves g.F.Frags.did) in
    let r = c.args.reader.now in
    on-answer c.read_below.result (AnswersBelow be r.below c.args.store.now) (AnswersBelow be r.below c.args.store.now ⊎ ((v : There) × g.K.Known.knows r.known c.args.home.now r.spot.place v)) inl c.read_below.ensures.answered

pub returns-in-Ok-End-clause-answered : goal.returns-in-Ok-End-clause-answered
returns-in-Ok-End-clause-answered g c = absurd (never c.requires.within (subst (IsPartFrom (g.K.Known.knows c.args.reader.now.known c.args.home.now) c.args.reader.now.spot.place c.args.reader.now.to) c.in-Ok-End.field-0-is c.in-Ok-End.ensures.part))
