use Rattle.std.proofs.Common.{arith, refl, ap, ◌∙◌, subst, Some}
use Rattle.rc_cell.specs.Greatest.{greater}
use Rattle.rc_cell.specs.Orders.{tomb_cmp}
use Rattle.rc_core.specs.Steps.{join_pt}
use Rattle.rc_object.specs.declared.heads.Head.{Head}
use Rattle.rc_object.specs.Objects.{HoldsHead}
use Rattle.rc_version.specs.Versions.{version_head}
use Rattle.rc_version.proofs.Written.{head-version, head-kept}
use Rattle.rc_version.proofs.versions.join_pt.Goals as goal

pub head_of-head-requires : goal.head_of-head-requires
head_of-head-requires g c = (omega arith, (version_head c.requires.1, c.requires.2.head))

pub set_head-requires : goal.set_head-requires
set_head-requires g c = (omega arith, (version_head c.requires.1, c.requires.2.head))

pub returns-clause-joined : goal.returns-clause-joined
returns-clause-joined g c = λ refs v h. let k = c.set_head.ensures in let head = c.head_of-head.ensures (version_head v) h.head in
    head-version c.args.region.now c.set_head.new.region c.args.v k.rewritten refs v h (join_pt c.args.tomb v) refl refl
    (subst (λ (now : Head). HoldsHead c.set_head.new.region c.args.v now)
    (λ i. record { partition_tombstone = (c.greater_tomb.ensures ∙ ap (λ (was : Head). greater tomb_cmp was.partition_tombstone (Some c.args.tomb)) head) i; static_flag = (head i).static_flag; phase = (head i).phase }) k.holds)
    (record { ascend = h.version.ascend; ends = h.version.ends })

pub returns-clause-kept : goal.returns-clause-kept
returns-clause-kept g c = head-kept c.args.region.now c.set_head.new.region c.args.v c.set_head.ensures.rewritten c.requires.0 c.requires.1 c.requires.2
