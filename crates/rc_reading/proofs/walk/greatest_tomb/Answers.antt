use Rattle.std.proofs.Common.{◌≡◌, None, arith, sym, ap, ◌∙◌, subst}
use Rattle.rc_cell.specs.Greatest.{greater}
use Rattle.rc_cell.specs.Orders.{tomb_cmp}
use Rattle.rc_cell.specs.Winner.{greatest}
use Rattle.rc_core.specs.Continuity.{version_tombs}
use Rattle.rc_core.specs.laws.Losing.{tomb-alone}
use Rattle.rc_object.specs.declared.heads.Head.{Head}
use Rattle.rc_object.specs.Objects.{HoldsHead}
use Rattle.rc_partition.specs.Versions.{version_head}
use Rattle.rc_reading.specs.Reading.{read_versions}
use Rattle.rc_reading.proofs.Laying.{last-below, last-held, one-greater, placed}
use Rattle.rc_reading.proofs.walk.greatest_tomb.Goals as goal

pub loop-i-init : goal.loop-i-init
loop-i-init g c = λ read u. sym (tomb-alone None)

pub version-requires : goal.version-requires
version-requires g c = let p = placed c.args.region.now c.args.root c.args.number c.loop-i.i c.requires.0 c.requires.1 c.loop-i-test.true in (omega arith, (p.slots, p.front, p.older, p.here, p.newer, p.back, p.listed, p.stands, p.long))

pub head_of-older-requires : goal.head_of-older-requires
head_of-older-requires g c = let p = placed c.args.region.now c.args.root c.args.number c.loop-i.i c.requires.0 c.requires.1 c.loop-i-test.true in
    (omega arith, (version_head p.here.version, subst (λ n. HoldsHead c.args.region.now n (version_head p.here.version)) (sym (c.version.ensures p.slots p.front p.older p.here p.newer p.back p.listed p.stands p.long)) p.version.head))

pub loop-i-preserved : goal.loop-i-preserved
loop-i-preserved g c = λ read u.
    let p = placed c.args.region.now c.args.root c.args.number c.loop-i.i read u c.loop-i-test.true in
    let head = c.head_of-older.ensures (version_head p.here.version) (subst (λ n. HoldsHead c.args.region.now n (version_head p.here.version)) (sym (c.version.ensures p.slots p.front p.older p.here p.newer p.back p.listed p.stands p.long)) p.version.head) in
    subst (λ l. c.greater_tomb-pt.result ≡ greatest tomb_cmp (version_tombs (read_versions l))) (sym p.upto)
    (one-greater p.older p.here c.loop-i.pt c.greater_tomb-pt.result (subst (λ l. c.loop-i.pt ≡ greatest tomb_cmp (version_tombs (read_versions l))) p.below (c.loop-i.invariant read u))
    (c.greater_tomb-pt.ensures ∙ ap (λ (h : Head). greater tomb_cmp c.loop-i.pt h.partition_tombstone) head))

pub version-requires-2 : goal.version-requires-2
version-requires-2 g c = let u = c.requires.1 in (omega arith, (u.slots, u.front, u.older, u.last, u.newer, u.back, u.listed, u.stands, u.below))

pub head_of-last-requires : goal.head_of-last-requires
head_of-last-requires g c = let u = c.requires.1 in
    (omega arith, (version_head u.last.version, subst (λ n. HoldsHead c.args.region.now n (version_head u.last.version)) (sym (c.version-2.ensures u.slots u.front u.older u.last u.newer u.back u.listed u.stands u.below)) (last-held c.args.region.now c.args.root c.args.number c.requires.0 u).head))

pub returns : goal.returns
returns g c = λ read u.
    let head = c.head_of-last.ensures (version_head u.last.version) (subst (λ n. HoldsHead c.args.region.now n (version_head u.last.version)) (sym (c.version-2.ensures u.slots u.front u.older u.last u.newer u.back u.listed u.stands u.below)) (last-held c.args.region.now c.args.root c.args.number read u).head) in
    subst (λ l. c.greater_tomb.result ≡ greatest tomb_cmp (version_tombs (read_versions l))) (sym u.are)
    (one-greater u.older u.last c.loop-i.pt c.greater_tomb.result (subst (λ l. c.loop-i.pt ≡ greatest tomb_cmp (version_tombs (read_versions l))) (last-below c.args.region.now c.args.root c.args.number read u c.loop-i.i (omega (arith, c.loop-i-test.false, c.loop-i.auto.i-end))) (c.loop-i.invariant read u))
    (c.greater_tomb.ensures ∙ ap (λ (h : Head). greater tomb_cmp c.loop-i.pt h.partition_tombstone) head))
