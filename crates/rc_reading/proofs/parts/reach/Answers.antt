use Rattle.std.proofs.Common.{refl, arith, sym, subst}
use Rattle.rc_core.specs.Parts.{IsReach}
use Rattle.rc_partition.specs.Versions.{IsVersionOf}
use Rattle.rc_reading.specs.Reading.{read_versions}
use Rattle.rc_reading.proofs.Laying.{last-below, last-held, placed}
use Rattle.rc_reading.proofs.Nearest.{further, none-reach}
use Rattle.rc_reading.proofs.parts.reach.Goals as goal

pub loop-i-init : goal.loop-i-init
loop-i-init g c = λ read u. (c.args.upto.now, refl, none-reach c.args.x.now c.args.upto.now c.requires.ahead)

pub version-requires : goal.version-requires
version-requires g c = let q = c.requires.versions in let p = placed c.args.region.now c.args.root c.args.number c.loop-i.i q.0 q.1 c.loop-i-test.true in (omega arith, (p.slots, p.front, p.older, p.here, p.newer, p.back, p.listed, p.stands, p.long))

pub nearer-end-requires : goal.nearer-end-requires
nearer-end-requires g c =
    let q = c.requires.versions in let p = placed c.args.region.now c.args.root c.args.number c.loop-i.i q.0 q.1 c.loop-i-test.true in let h = c.loop-i.invariant q.0 q.1 in
    (omega arith, ((p.here.entries, p.here.version, subst (λ n. IsVersionOf c.args.region.now n p.here.entries p.here.version) (sym (c.version.ensures p.slots p.front p.older p.here p.newer p.back p.listed p.stands p.long)) p.version), (h.0, h.1)))

pub loop-i-preserved : goal.loop-i-preserved
loop-i-preserved g c = λ read u.
    let p = placed c.args.region.now c.args.root c.args.number c.loop-i.i read u c.loop-i-test.true in let h = c.loop-i.invariant read u in
    let held = subst (λ n. IsVersionOf c.args.region.now n p.here.entries p.here.version) (sym (c.version.ensures p.slots p.front p.older p.here p.newer p.back p.listed p.stands p.long)) p.version in
    let n = c.nearer-end.ensures p.here.entries p.here.version h.0 held h.1 h.2.ahead in
    (n.0, n.1, subst (λ l. IsReach (read_versions l) c.args.x.now c.args.upto.now n.0) (sym p.upto) (further c.args.x.now c.args.upto.now h.0 n.0 p.older p.here (subst (λ l. IsReach (read_versions l) c.args.x.now c.args.upto.now h.0) p.below h.2) n.2))

pub version-requires-2 : goal.version-requires-2
version-requires-2 g c = let u = c.requires.versions.1 in (omega arith, (u.slots, u.front, u.older, u.last, u.newer, u.back, u.listed, u.stands, u.below))

pub nearer-requires : goal.nearer-requires
nearer-requires g c =
    let q = c.requires.versions in let u = q.1 in let h = c.loop-i.invariant q.0 u in
    (omega arith, ((u.last.entries, u.last.version, subst (λ n. IsVersionOf c.args.region.now n u.last.entries u.last.version) (sym (c.version-2.ensures u.slots u.front u.older u.last u.newer u.back u.listed u.stands u.below)) (last-held c.args.region.now c.args.root c.args.number q.0 u)), (h.0, h.1)))

pub returns : goal.returns
returns g c = λ read u.
    let h = c.loop-i.invariant read u in
    let held = subst (λ n. IsVersionOf c.args.region.now n u.last.entries u.last.version) (sym (c.version-2.ensures u.slots u.front u.older u.last u.newer u.back u.listed u.stands u.below)) (last-held c.args.region.now c.args.root c.args.number read u) in
    let n = c.nearer.ensures u.last.entries u.last.version h.0 held h.1 h.2.ahead in (
      n.0,
      n.1,
      subst (λ l. IsReach (read_versions l) c.args.x.now c.args.upto.now n.0) (sym u.are)
          (further c.args.x.now c.args.upto.now h.0 n.0 u.older u.last
          (subst (λ l. IsReach (read_versions l) c.args.x.now c.args.upto.now h.0) (last-below c.args.region.now c.args.root c.args.number read u c.loop-i.i (omega (arith, c.loop-i-test.false, c.loop-i.auto.i-end))) h.2) n.2),
    )
