use Rattle.std.proofs.Common.{arith, ap, ◌∙◌, subst}
use Rattle.rc_object.specs.Objects.{HoldsEntry, entry_of}
use Rattle.rc_version.specs.Versions.{mark_after}
use Rattle.rc_version.proofs.Pairs.{pair-kept, pair-next, pair-marked, pair-usages}
use Rattle.rc_version.proofs.Written.{rewritten-link}
use Rattle.rc_version.proofs.stretch.mark_pair.Goals as goal

pub marks-requires : goal.marks-requires
marks-requires g c = (omega arith, (c.requires.4, c.requires.7.holds))

pub set_marks-requires : goal.set_marks-requires
set_marks-requires g c = (omega arith, (c.requires.4, c.requires.7.holds))

pub marks-requires-2 : goal.marks-requires-2
marks-requires-2 g c = (omega arith, (c.requires.5, pair-next c.args.region.now c.set_marks.new.region c.args._v c.args.e c.args.next (mark_after c.args.marking) c.requires.0 c.requires.1 c.requires.2 c.requires.3 c.requires.4 c.requires.5 c.requires.6 c.requires.7 c.set_marks.ensures.rewritten c.set_marks.ensures.alike (subst (HoldsEntry c.set_marks.new.region c.args.e) (λ i. entry_of c.requires.4.position c.requires.4.row ((c.marked.ensures ∙ ap (mark_after c.args.marking) (c.marks.ensures c.requires.4 c.requires.7.holds).0) i) ((c.marks.ensures c.requires.4 c.requires.7.holds).1 i)) (c.set_marks.ensures.holds c.requires.4 c.requires.7.holds))))

pub set_marks-requires-2 : goal.set_marks-requires-2
set_marks-requires-2 g c = (omega arith, (c.requires.5, pair-next c.args.region.now c.set_marks.new.region c.args._v c.args.e c.args.next (mark_after c.args.marking) c.requires.0 c.requires.1 c.requires.2 c.requires.3 c.requires.4 c.requires.5 c.requires.6 c.requires.7 c.set_marks.ensures.rewritten c.set_marks.ensures.alike (subst (HoldsEntry c.set_marks.new.region c.args.e) (λ i. entry_of c.requires.4.position c.requires.4.row ((c.marked.ensures ∙ ap (mark_after c.args.marking) (c.marks.ensures c.requires.4 c.requires.7.holds).0) i) ((c.marks.ensures c.requires.4 c.requires.7.holds).1 i)) (c.set_marks.ensures.holds c.requires.4 c.requires.7.holds))))

pub returns-clause-marked : goal.returns-clause-marked
returns-clause-marked g c = λ front back v before x y behind h.
    let held = pair-next c.args.region.now c.set_marks.new.region c.args._v c.args.e c.args.next (mark_after c.args.marking) front back v before x y behind h c.set_marks.ensures.rewritten c.set_marks.ensures.alike (subst (HoldsEntry c.set_marks.new.region c.args.e) (λ i. entry_of x.position x.row ((c.marked.ensures ∙ ap (mark_after c.args.marking) (c.marks.ensures x h.holds).0) i) ((c.marks.ensures x h.holds).1 i)) (c.set_marks.ensures.holds x h.holds)) in let m = c.marks-2.ensures y held in
    pair-marked c.args.region.now c.set_marks.new.region c.set_marks-2.new.region c.args._v c.args.e c.args.next (mark_after c.args.marking) front back v before x y behind h c.set_marks.ensures.rewritten c.set_marks.ensures.alike (subst (HoldsEntry c.set_marks.new.region c.args.e) (λ i. entry_of x.position x.row ((c.marked.ensures ∙ ap (mark_after c.args.marking) (c.marks.ensures x h.holds).0) i) ((c.marks.ensures x h.holds).1 i)) (c.set_marks.ensures.holds x h.holds)) c.set_marks-2.ensures.rewritten c.set_marks-2.ensures.alike
    (subst (HoldsEntry c.set_marks-2.new.region c.args.next) (λ i. entry_of y.position y.row (m.0 i) ((c.marked-2.ensures ∙ ap (mark_after c.args.marking) m.1) i)) (c.set_marks-2.ensures.holds y held))

pub returns-clause-kept : goal.returns-clause-kept
returns-clause-kept g c = λ front back v before x y behind h. pair-kept c.args.region.now c.set_marks.new.region c.set_marks-2.new.region c.args._v c.args.e c.args.next (mark_after c.args.marking) front back v before x y behind h c.set_marks.ensures.rewritten c.set_marks.ensures.alike (subst (HoldsEntry c.set_marks.new.region c.args.e) (λ i. entry_of x.position x.row ((c.marked.ensures ∙ ap (mark_after c.args.marking) (c.marks.ensures x h.holds).0) i) ((c.marks.ensures x h.holds).1 i)) (c.set_marks.ensures.holds x h.holds)) c.set_marks-2.ensures.rewritten c.set_marks-2.ensures.alike c.known.ensures.well c.set_marks.ensures.well

pub returns-clause-usages : goal.returns-clause-usages
returns-clause-usages g c = pair-usages c.args.region.now c.set_marks.new.region c.set_marks-2.new.region c.args._v c.args.e c.args.next (mark_after c.args.marking) c.requires.0 c.requires.1 c.requires.2 c.requires.3 c.requires.4 c.requires.5 c.requires.6 c.requires.7 c.set_marks.ensures.rewritten c.set_marks.ensures.alike (subst (HoldsEntry c.set_marks.new.region c.args.e) (λ i. entry_of c.requires.4.position c.requires.4.row ((c.marked.ensures ∙ ap (mark_after c.args.marking) (c.marks.ensures c.requires.4 c.requires.7.holds).0) i) ((c.marks.ensures c.requires.4 c.requires.7.holds).1 i)) (c.set_marks.ensures.holds c.requires.4 c.requires.7.holds)) c.set_marks-2.ensures.rewritten c.set_marks-2.ensures.alike

pub returns-clause-links : goal.returns-clause-links
returns-clause-links g c = λ e. rewritten-link c.set_marks.new.region c.set_marks-2.new.region c.args.next c.set_marks-2.ensures.rewritten e ∙ rewritten-link c.args.region.now c.set_marks.new.region c.args.e c.set_marks.ensures.rewritten e
