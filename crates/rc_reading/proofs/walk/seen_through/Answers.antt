use Rattle.std.proofs.Common.{arith, sym, subst}
use Rattle.std.proofs.lemmas.Result.{IfOk-weaker}
use Rattle.rc_core.specs.declared.slow.Seen.{Seen}
use Rattle.rc_core.specs.Merge.{Alike}
use Rattle.rc_core.specs.Slow.{seen_state}
use Rattle.rc_core.specs.SpotState.{through}
use Rattle.rc_partition.specs.Versions.{IsVersionOf}
use Rattle.rc_reading.specs.calls.Reading.{states_read}
use Rattle.rc_reading.proofs.Laying.{last-below, last-held, one-over, placed}
use Rattle.rc_reading.proofs.walk.seen_through.Goals as goal

pub loop-i-init : goal.loop-i-init
loop-i-init g c = λ read u. c.nothing_seen-seen.ensures

pub version-requires : goal.version-requires
version-requires g c = let p = placed c.args.region.now c.args.root c.args.number c.loop-i.i c.requires.0 c.requires.1 c.loop-i-test.true in (omega arith, (p.slots, p.front, p.older, p.here, p.newer, p.back, p.listed, p.stands, p.long))

pub over_version-requires : goal.over_version-requires
over_version-requires g c = let p = placed c.args.region.now c.args.root c.args.number c.loop-i.i c.requires.0 c.requires.1 c.loop-i-test.true in
    (omega arith, (p.here.entries, p.here.version, subst (λ n. IsVersionOf c.args.region.now n p.here.entries p.here.version) (sym (c.version.ensures p.slots p.front p.older p.here p.newer p.back p.listed p.stands p.long)) p.version))

pub loop-i-preserved : goal.loop-i-preserved
loop-i-preserved g c = λ read u.
    let p = placed c.args.region.now c.args.root c.args.number c.loop-i.i read u c.loop-i-test.true in
    let held = subst (λ n. IsVersionOf c.args.region.now n p.here.entries p.here.version) (sym (c.version.ensures p.slots p.front p.older p.here p.newer p.back p.listed p.stands p.long)) p.version in
    subst (λ l. Alike (seen_state c.in_ok-seen.seen) (through (states_read c.args.asked l))) (sym p.upto)
    (one-over c.args.asked p.older p.here (seen_state c.loop-i.seen) (seen_state c.in_ok-seen.seen)
    (subst (λ l. Alike (seen_state c.loop-i.seen) (through (states_read c.args.asked l))) p.below (c.loop-i.invariant read u)) (c.in_ok-seen.ensures p.here.entries p.here.version held))

pub version-requires-2 : goal.version-requires-2
version-requires-2 g c = let u = c.requires.1 in (omega arith, (u.slots, u.front, u.older, u.last, u.newer, u.back, u.listed, u.stands, u.below))

pub over_version-requires-2 : goal.over_version-requires-2
over_version-requires-2 g c = let u = c.requires.1 in
    (omega arith, (u.last.entries, u.last.version, subst (λ n. IsVersionOf c.args.region.now n u.last.entries u.last.version) (sym (c.version-2.ensures u.slots u.front u.older u.last u.newer u.back u.listed u.stands u.below)) (last-held c.args.region.now c.args.root c.args.number c.requires.0 u)))

pub returns : goal.returns
returns g c = λ read u.
    let held = subst (λ n. IsVersionOf c.args.region.now n u.last.entries u.last.version) (sym (c.version-2.ensures u.slots u.front u.older u.last u.newer u.back u.listed u.stands u.below)) (last-held c.args.region.now c.args.root c.args.number read u) in
    IfOk-weaker c.over_version-2.result _ _
    (λ (s : Seen) k. subst (λ l. Alike (seen_state s) (through (states_read c.args.asked l))) (sym u.are) (one-over c.args.asked u.older u.last (seen_state c.loop-i.seen) (seen_state s)
    (subst (λ l. Alike (seen_state c.loop-i.seen) (through (states_read c.args.asked l))) (last-below c.args.region.now c.args.root c.args.number read u c.loop-i.i (omega (arith, c.loop-i-test.false, c.loop-i.auto.i-end))) (c.loop-i.invariant read u)) k))
    (c.over_version-2.ensures u.last.entries u.last.version held)
