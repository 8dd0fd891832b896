use Rattle.std.proofs.Common.{◌≡◌, ◌<◌, ◌+◌, List, suc, take, length, refl, sym, ap, ◌∙◌, subst, arith}
use Rattle.std.proofs.lemmas.Result.{IfOk-weaker}
use Rattle.rc_position.specs.declared.comps.Comp.{Comp}
use Rattle.rc_position.specs.declared.positions.Weight.TheVariants.{After}
use Rattle.rc_memory.specs.laws.At.{number-there}
use Rattle.rc_agreement.specs.declared.gaps.GapBehind.{GapBehind}
use Rattle.rc_agreement.specs.calls.Gaps.{IsGapSeen}
use Rattle.rc_agreement.proofs.Laid.{gap-more, gap-none, has-version, pinned-low, versions-below, versions-upto}
use Rattle.rc_agreement.proofs.gaps.gap_behind.Goals as goal

pub loop-number-init : goal.loop-number-init
loop-number-init g c = λ k j there pinned. gap-none c.args.x.now _ c.requires.inside refl refl (ap (λ (q : List Comp). record { prefix = q; weight = After }) c.empty.ensures)

pub with_version-requires : goal.with_version-requires
with_version-requires g c =
    let m = c.args.chains.now in
    let s = c.args.snap.now in
    let w = c.a_snapshot_sees_up_to_its_version.ensures.there m s c.requires.pin in
    let low : c.pinned_at-last.result < length w.0.chain.versions = pinned-low m s.chain s.pin w.0 c.pinned_at-last.result c.known.ensures.sound w.2 (c.pinned_at-last.ensures w.0 w.2) in
    (omega arith, has-version m s.chain w.0 c.loop-number.number w.2 (omega (arith, low, c.loop-number-test.true)))

pub loop-number-preserved : goal.loop-number-preserved
loop-number-preserved g c = λ k j there pinned.
    let m = c.args.chains.now in
    let s = c.args.snap.now in
    let number = c.loop-number.number in
    let low : c.pinned_at-last.result < length k.chain.versions = pinned-low m s.chain s.pin k c.pinned_at-last.result c.known.ensures.sound there (c.pinned_at-last.ensures k there) in
    let v = number-there k.chain.versions number (omega (arith, low, c.loop-number-test.true)) in
    subst (λ vs. IsGapSeen vs c.args.x.now c.in_ok-gap.gap) (sym (versions-upto k.chain.versions number (number + 1) v.0 v.1 refl))
    (gap-more v.1.older v.0 c.args.x.now c.loop-number.gap c.in_ok-gap.gap
    (subst (λ vs. IsGapSeen vs c.args.x.now c.loop-number.gap) (versions-below k.chain.versions number v.0 v.1) (c.loop-number.invariant k j there pinned))
    (c.in_ok-gap.ensures k v.0 there v.1))

pub with_version-requires-2 : goal.with_version-requires-2
with_version-requires-2 g c =
    let m = c.args.chains.now in
    let s = c.args.snap.now in
    let w = c.a_snapshot_sees_up_to_its_version.ensures.there m s c.requires.pin in
    (omega arith, has-version m s.chain w.0 c.pinned_at-last.result w.2 (pinned-low m s.chain s.pin w.0 c.pinned_at-last.result c.known.ensures.sound w.2 (c.pinned_at-last.ensures w.0 w.2)))

pub returns : goal.returns
returns g c =
    let m = c.args.chains.now in
    let s = c.args.snap.now in
    let laws = c.a_snapshot_sees_up_to_its_version.ensures in
    let w = laws.there m s c.requires.pin in
    let k = w.0 in
    let last = c.pinned_at-last.result in
    let pinned = c.pinned_at-last.ensures k w.2 in
    let v = number-there k.chain.versions last (pinned-low m s.chain s.pin k last c.known.ensures.sound w.2 pinned) in
    let at : c.loop-number.number ≡ last = omega (arith, c.loop-number-test.false, c.loop-number.auto.number-end) in
    let below : IsGapSeen v.1.older c.args.x.now c.loop-number.gap = subst (λ vs. IsGapSeen vs c.args.x.now c.loop-number.gap) (ap (λ i. take i k.chain.versions) at ∙ versions-below k.chain.versions last v.0 v.1) (c.loop-number.invariant k last w.2 pinned) in
    IfOk-weaker c.with_version-2.result _ _
    (λ (now : GapBehind) o. subst (λ vs. IsGapSeen vs c.args.x.now now) (sym (laws.versions m s k last w.2 pinned ∙ versions-upto k.chain.versions last (suc last) v.0 v.1 (omega arith))) (gap-more v.1.older v.0 c.args.x.now c.loop-number.gap now below o))
    (c.with_version-2.ensures k v.0 w.2 v.1)
