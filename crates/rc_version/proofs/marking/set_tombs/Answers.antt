use Rattle.std.proofs.Common.{arith, refl, sym, subst}
use Rattle.lsa_path.specs.laws.Members.{member-split}
use Rattle.rc_core.specs.Change.{mark}
use Rattle.rc_core.specs.Continuity.{with_entries}
use Rattle.rc_core.specs.Steps.{with_tombs}
use Rattle.rc_object.specs.Objects.{HoldsEntry, entry_of}
use Rattle.rc_version.specs.Versions.{IsVersionOf}
use Rattle.rc_version.proofs.Gaps.{entry-of, entry-in, changed-at}
use Rattle.rc_version.proofs.Written.{marked-kept, marked-version}
use Rattle.rc_version.proofs.marking.set_tombs.Goals as goal

pub marks-requires : goal.marks-requires
marks-requires g c = (omega arith, entry-in c.args.region.now c.requires.0 c.requires.1 c.requires.2 c.requires.3 c.args.e c.requires.4)

pub set_marks-requires : goal.set_marks-requires
set_marks-requires g c = (omega arith, entry-in c.args.region.now c.requires.0 c.requires.1 c.requires.2 c.requires.3 c.args.e c.requires.4)

pub returns-clause-set : goal.returns-clause-set
returns-clause-set g c = λ n refs v x h k stands.
    let old = c.args.region.now in let new = c.set_marks.new.region in let s = member-split refs c.args.e k in
    let w = entry-of old n refs v h s.0 c.args.e s.1 s.2 in let m = c.marks.ensures w.here w.holds in
    let held : HoldsEntry new c.args.e (with_tombs c.args.at c.args.gap w.here) =
    subst (HoldsEntry new c.args.e) (λ i. entry_of w.here.position w.here.row (mark (m.0 i).flag c.args.at) (mark (m.1 i).flag c.args.gap)) (c.set_marks.ensures.holds w.here w.holds) in
    subst (λ es. IsVersionOf new n refs (with_entries es v)) (sym (changed-at old n refs v h s.0 c.args.e s.1 s.2 x (with_tombs c.args.at c.args.gap) stands))
    (marked-version old new c.args.e c.set_marks.ensures.rewritten c.set_marks.ensures.alike n refs v h s.0 s.1 s.2 w.before w.here (with_tombs c.args.at c.args.gap w.here) w.behind w.is w.held_before w.held_behind refl refl held)

pub returns-clause-kept : goal.returns-clause-kept
returns-clause-kept g c = λ n refs v h k. marked-kept c.args.region.now c.set_marks.new.region c.args.e c.set_marks.ensures.rewritten c.set_marks.ensures.alike n refs v h c.known.ensures.well k
