-- A round goes on from where the rounds before it came to.
use Rattle.std.proofs.Common.{Ok, true, false, refl, sym, ap, ◌∙◌, subst, arith}
use Rattle.rc_stream.specs.Did.{OfNext, has_answer}
use Rattle.std.specs.Prelude.{IfOk}
use Rattle.rc_cacheread.specs.Did.{ReaderDid}
use Rattle.rc_cacheread.specs.calls.Did.{IsReaderStepUpto, ReaderStepSays}
use Rattle.rc_cacheread.specs.Sharing.{Sees, of_below, of_filler, of_known}
use Rattle.rc_cacheread.proofs.Rounds.{did-after, did-nothing, did-stopped, named-on}
use Rattle.rc_cacheread.proofs.Stepping.{ends-on}
use Rattle.rc_cacheread.proofs.readers.next_fragment.Goals as goal

pub loop-rounds-init : goal.loop-rounds-init
loop-rounds-init g c =
    let kn = (of_known g.K.Known.ready g.K.Known.place g.K.Known.knows g.K.Known.heads g.K.Known.did) in
    let be = (of_below g.F.Frags.ready g.F.Frags.seen g.F.Frags.ahead g.F.Frags.moves g.F.Frags.did) in
    let fi = (of_filler g.P.Filler.ready g.P.Filler.fits g.P.Filler.may g.P.Filler.lost g.P.Filler.stands g.P.Filler.knows g.P.Filler.knows_statics g.P.Filler.fills) in
    let r = c.args.reader.now in
    let h = c.args.home.now in
    let w = c.args.store.now in
    record {
      ready = c.requires.ready;
      says = λ s d. d;
      did = λ y k. did-nothing kn be fi r h w y;
      to = refl;
      damage = λ file offset d. d;
      faults = omega arith;
      files = refl;
      building = refl;
    }

pub loop-rounds-preserved : goal.loop-rounds-preserved
loop-rounds-preserved g c =
    let kn = (of_known g.K.Known.ready g.K.Known.place g.K.Known.knows g.K.Known.heads g.K.Known.did) in
    let be = (of_below g.F.Frags.ready g.F.Frags.seen g.F.Frags.ahead g.F.Frags.moves g.F.Frags.did) in
    let fi = (of_filler g.P.Filler.ready g.P.Filler.fits g.P.Filler.may g.P.Filler.lost g.P.Filler.stands g.P.Filler.knows g.P.Filler.knows_statics g.P.Filler.fills) in
    let r = c.args.reader.now in
    let h = c.args.home.now in
    let w = c.args.store.now in
    let l = c.loop-rounds in
    let passed = c.in-Ok-Passed.is ∙ ap Ok c.in-Ok-Passed.field-0-is in
    record {
      ready = c.round.ensures.ready;
      says = λ s d. subst (λ x. ReaderStepSays x c.args.upto.now s (Sees kn be fi c.round.new.reader c.round.new.home c.round.new.store)) passed (c.round.ensures.says s (l.invariant.says s d));
      did = λ y covers. did-after kn be fi r l.reader c.round.new.reader h l.home c.round.new.home w l.store c.round.new.store y true (l.invariant.did y covers)
          (subst (λ x. ReaderDid kn be fi l.reader l.home l.store (OfNext y) (has_answer x) c.round.new.reader c.round.new.home c.round.new.store) passed (c.round.ensures.did y (ends-on kn be fi r l.reader h l.home w l.store c.args.upto.now y l.invariant.says covers)));
      to = c.round.ensures.to ∙ l.invariant.to;
      damage = λ file offset d. l.invariant.damage file offset (c.round.ensures.damage.less file offset d);
      faults = omega (arith, l.invariant.faults, c.in-Ok-Passed.ensures.cause);
      files = c.round.ensures.store.0 ∙ l.invariant.files;
      building = c.round.ensures.store.1 ∙ l.invariant.building;
    }

pub returns-in-Ok-Given-clause-gives : goal.returns-in-Ok-Given-clause-gives
returns-in-Ok-Given-clause-gives g c = λ s d.
    let kn = (of_known g.K.Known.ready g.K.Known.place g.K.Known.knows g.K.Known.heads g.K.Known.did) in
    let be = (of_below g.F.Frags.ready g.F.Frags.seen g.F.Frags.ahead g.F.Frags.moves g.F.Frags.did) in
    let fi = (of_filler g.P.Filler.ready g.P.Filler.fits g.P.Filler.may g.P.Filler.lost g.P.Filler.stands g.P.Filler.knows g.P.Filler.knows_statics g.P.Filler.fills) in
    let r = c.args.reader.now in
    let h = c.args.home.now in
    let w = c.args.store.now in
    let x = subst (λ x. ReaderStepSays x c.args.upto.now s (Sees kn be fi c.round.new.reader c.round.new.home c.round.new.store)) (c.in-Ok-Given.is ∙ ap Ok c.in-Ok-Given.field-0-is) (c.round.ensures.says s (c.loop-rounds.invariant.says s d)) in
    sym x.1

pub returns-in-Ok-Given-clause-left : goal.returns-in-Ok-Given-clause-left
returns-in-Ok-Given-clause-left g c = λ s d.
    let kn = (of_known g.K.Known.ready g.K.Known.place g.K.Known.knows g.K.Known.heads g.K.Known.did) in
    let be = (of_below g.F.Frags.ready g.F.Frags.seen g.F.Frags.ahead g.F.Frags.moves g.F.Frags.did) in
    let fi = (of_filler g.P.Filler.ready g.P.Filler.fits g.P.Filler.may g.P.Filler.lost g.P.Filler.stands g.P.Filler.knows g.P.Filler.knows_statics g.P.Filler.fills) in
    let r = c.args.reader.now in
    let h = c.args.home.now in
    let w = c.args.store.now in
    let x = subst (λ x. ReaderStepSays x c.args.upto.now s (Sees kn be fi c.round.new.reader c.round.new.home c.round.new.store)) (c.in-Ok-Given.is ∙ ap Ok c.in-Ok-Given.field-0-is) (c.round.ensures.says s (c.loop-rounds.invariant.says s d)) in
    x.0

pub returns-in-Ok-Nothing-clause-gives : goal.returns-in-Ok-Nothing-clause-gives
returns-in-Ok-Nothing-clause-gives g c = λ s d.
    let kn = (of_known g.K.Known.ready g.K.Known.place g.K.Known.knows g.K.Known.heads g.K.Known.did) in
    let be = (of_below g.F.Frags.ready g.F.Frags.seen g.F.Frags.ahead g.F.Frags.moves g.F.Frags.did) in
    let fi = (of_filler g.P.Filler.ready g.P.Filler.fits g.P.Filler.may g.P.Filler.lost g.P.Filler.stands g.P.Filler.knows g.P.Filler.knows_statics g.P.Filler.fills) in
    let r = c.args.reader.now in
    let h = c.args.home.now in
    let w = c.args.store.now in
    let x = subst (λ x. ReaderStepSays x c.args.upto.now s (Sees kn be fi c.round.new.reader c.round.new.home c.round.new.store)) (c.in-Ok-Nothing.is ∙ ap Ok c.in-Ok-Nothing.field-0-is) (c.round.ensures.says s (c.loop-rounds.invariant.says s d)) in
    sym x.1

pub returns-in-Ok-Nothing-clause-left : goal.returns-in-Ok-Nothing-clause-left
returns-in-Ok-Nothing-clause-left g c = λ s d.
    let kn = (of_known g.K.Known.ready g.K.Known.place g.K.Known.knows g.K.Known.heads g.K.Known.did) in
    let be = (of_below g.F.Frags.ready g.F.Frags.seen g.F.Frags.ahead g.F.Frags.moves g.F.Frags.did) in
    let fi = (of_filler g.P.Filler.ready g.P.Filler.fits g.P.Filler.may g.P.Filler.lost g.P.Filler.stands g.P.Filler.knows g.P.Filler.knows_statics g.P.Filler.fills) in
    let r = c.args.reader.now in
    let h = c.args.home.now in
    let w = c.args.store.now in
    let x = subst (λ x. ReaderStepSays x c.args.upto.now s (Sees kn be fi c.round.new.reader c.round.new.home c.round.new.store)) (c.in-Ok-Nothing.is ∙ ap Ok c.in-Ok-Nothing.field-0-is) (c.round.ensures.says s (c.loop-rounds.invariant.says s d)) in
    x.0

pub returns-in-Ok-Given-clause-did : goal.returns-in-Ok-Given-clause-did
returns-in-Ok-Given-clause-did g c = λ y covers.
    let kn = (of_known g.K.Known.ready g.K.Known.place g.K.Known.knows g.K.Known.heads g.K.Known.did) in
    let be = (of_below g.F.Frags.ready g.F.Frags.seen g.F.Frags.ahead g.F.Frags.moves g.F.Frags.did) in
    let fi = (of_filler g.P.Filler.ready g.P.Filler.fits g.P.Filler.may g.P.Filler.lost g.P.Filler.stands g.P.Filler.knows g.P.Filler.knows_statics g.P.Filler.fills) in
    let r = c.args.reader.now in
    let h = c.args.home.now in
    let w = c.args.store.now in
    let l = c.loop-rounds in
    did-after kn be fi r l.reader c.round.new.reader h l.home c.round.new.home w l.store c.round.new.store y true (l.invariant.did y covers) (c.in-Ok-Given.ensures.did y (ends-on kn be fi r l.reader h l.home w l.store c.args.upto.now y l.invariant.says covers))

pub returns-in-Ok-Nothing-clause-did : goal.returns-in-Ok-Nothing-clause-did
returns-in-Ok-Nothing-clause-did g c = λ y covers.
    let kn = (of_known g.K.Known.ready g.K.Known.place g.K.Known.knows g.K.Known.heads g.K.Known.did) in
    let be = (of_below g.F.Frags.ready g.F.Frags.seen g.F.Frags.ahead g.F.Frags.moves g.F.Frags.did) in
    let fi = (of_filler g.P.Filler.ready g.P.Filler.fits g.P.Filler.may g.P.Filler.lost g.P.Filler.stands g.P.Filler.knows g.P.Filler.knows_statics g.P.Filler.fills) in
    let r = c.args.reader.now in
    let h = c.args.home.now in
    let w = c.args.store.now in
    let l = c.loop-rounds in
    did-after kn be fi r l.reader c.round.new.reader h l.home c.round.new.home w l.store c.round.new.store y true (l.invariant.did y covers) (c.in-Ok-Nothing.ensures.did y (ends-on kn be fi r l.reader h l.home w l.store c.args.upto.now y l.invariant.says covers))

pub returns-in-Err-clause-did : goal.returns-in-Err-clause-did
returns-in-Err-clause-did g c = λ y covers.
    let kn = (of_known g.K.Known.ready g.K.Known.place g.K.Known.knows g.K.Known.heads g.K.Known.did) in
    let be = (of_below g.F.Frags.ready g.F.Frags.seen g.F.Frags.ahead g.F.Frags.moves g.F.Frags.did) in
    let fi = (of_filler g.P.Filler.ready g.P.Filler.fits g.P.Filler.may g.P.Filler.lost g.P.Filler.stands g.P.Filler.knows g.P.Filler.knows_statics g.P.Filler.fills) in
    let r = c.args.reader.now in
    let h = c.args.home.now in
    let w = c.args.store.now in
    let l = c.loop-rounds in
    did-after kn be fi r l.reader c.round.new.reader h l.home c.round.new.home w l.store c.round.new.store y false (l.invariant.did y covers) (c.in-Err.ensures.did y (ends-on kn be fi r l.reader h l.home w l.store c.args.upto.now y l.invariant.says covers))

pub returns-clause-did : goal.returns-clause-did
returns-clause-did g c = λ y covers.
    let kn = (of_known g.K.Known.ready g.K.Known.place g.K.Known.knows g.K.Known.heads g.K.Known.did) in
    let be = (of_below g.F.Frags.ready g.F.Frags.seen g.F.Frags.ahead g.F.Frags.moves g.F.Frags.did) in
    let fi = (of_filler g.P.Filler.ready g.P.Filler.fits g.P.Filler.may g.P.Filler.lost g.P.Filler.stands g.P.Filler.knows g.P.Filler.knows_statics g.P.Filler.fills) in
    let r = c.args.reader.now in
    let h = c.args.home.now in
    let w = c.args.store.now in
    did-stopped kn be fi r c.loop-rounds.reader h c.loop-rounds.home w c.loop-rounds.store y (c.loop-rounds.invariant.did y covers)

pub returns-in-Ok-Given-clause-damage : goal.returns-in-Ok-Given-clause-damage
returns-in-Ok-Given-clause-damage g c = record { named = tt; less = λ file offset d. c.loop-rounds.invariant.damage file offset (c.round.ensures.damage.less file offset d) }

pub returns-in-Ok-Nothing-clause-damage : goal.returns-in-Ok-Nothing-clause-damage
returns-in-Ok-Nothing-clause-damage g c = record { named = tt; less = λ file offset d. c.loop-rounds.invariant.damage file offset (c.round.ensures.damage.less file offset d) }

pub returns-in-Err-clause-damage : goal.returns-in-Err-clause-damage
returns-in-Err-clause-damage g c = record { named = named-on (g.F.Frags.damage c.args.reader.now.below) (g.F.Frags.damage c.loop-rounds.reader.below) c.in-Err.error c.loop-rounds.invariant.damage c.in-Err.ensures.damage.named; less = λ file offset d. c.loop-rounds.invariant.damage file offset (c.in-Err.ensures.damage.less file offset d) }

pub returns-clause-damage : goal.returns-clause-damage
returns-clause-damage g c = record { named = tt; less = c.loop-rounds.invariant.damage }

pub returns-in-Ok-Given-clause-upto : goal.returns-in-Ok-Given-clause-upto
returns-in-Ok-Given-clause-upto g c = subst (λ r. IfOk r (IsReaderStepUpto c.args.upto.now)) (c.in-Ok-Given.is ∙ ap Ok c.in-Ok-Given.field-0-is) c.round.ensures.upto

pub returns-in-Err-clause-left : goal.returns-in-Err-clause-left
returns-in-Err-clause-left g c = λ s d. c.in-Err.ensures.says s (c.loop-rounds.invariant.says s d)

pub returns-clause-left : goal.returns-clause-left
returns-clause-left g c = c.loop-rounds.invariant.says

pub returns-in-Ok-Given-clause-ready : goal.returns-in-Ok-Given-clause-ready
returns-in-Ok-Given-clause-ready g c = c.round.ensures.ready

pub returns-in-Ok-Nothing-clause-ready : goal.returns-in-Ok-Nothing-clause-ready
returns-in-Ok-Nothing-clause-ready g c = c.round.ensures.ready

pub returns-in-Err-clause-ready : goal.returns-in-Err-clause-ready
returns-in-Err-clause-ready g c = c.round.ensures.ready

pub returns-clause-ready : goal.returns-clause-ready
returns-clause-ready g c = c.loop-rounds.invariant.ready

pub round-requires : goal.round-requires
round-requires g c = record { ready = c.loop-rounds.invariant.ready }
