use Rattle.std.proofs.Common.{arith, refl, subst}
use Rattle.rc_core.specs.Steps.{with_phase}
use Rattle.rc_object.specs.declared.heads.Head.{Head}
use Rattle.rc_object.specs.Objects.{HoldsHead}
use Rattle.rc_version.specs.Versions.{version_head}
use Rattle.rc_version.proofs.Written.{head-version, head-kept}
use Rattle.rc_version.proofs.versions.set_phase.Goals as goal

pub head_of-head-requires : goal.head_of-head-requires
head_of-head-requires g c = (omega arith, (version_head c.requires.1, c.requires.2.head))

pub set_head-requires : goal.set_head-requires
set_head-requires g c = (omega arith, (version_head c.requires.1, c.requires.2.head))

pub returns-clause-set : goal.returns-clause-set
returns-clause-set g c = λ refs v h. let k = c.set_head.ensures in
    head-version c.args.region.now c.set_head.new.region c.args.v k.rewritten refs v h (with_phase c.args.phase v) refl refl
    (subst (λ (was : Head). HoldsHead c.set_head.new.region c.args.v (record { partition_tombstone = was.partition_tombstone; static_flag = was.static_flag; phase = c.args.phase })) (c.head_of-head.ensures (version_head v) h.head) k.holds)
    (record { ascend = h.version.ascend; ends = h.version.ends })

pub returns-clause-kept : goal.returns-clause-kept
returns-clause-kept g c = head-kept c.args.region.now c.set_head.new.region c.args.v c.set_head.ensures.rewritten c.requires.0 c.requires.1 c.requires.2
