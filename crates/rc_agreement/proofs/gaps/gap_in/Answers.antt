use Rattle.std.proofs.Common.{arith, Some, sym, ap, ◌∙◌, subst}
use Rattle.rc_core.specs.Version.{finding_of}
use Rattle.std.specs.Prelude.{None}
use Rattle.rc_agreement.specs.calls.Gaps.{IsNextAt, IsNextEntry}
use Rattle.rc_agreement.proofs.Nexts.{next-first, none-clear, seen-first, seen-none}
use Rattle.rc_agreement.proofs.gaps.gap_in.Goals as goal

pub returns-in_default : goal.returns-in_default
returns-in_default g c = λ refs d h.
    let none = subst (IsNextEntry c.args.region.now c.args.x.now d.entries) c.in_default.is (c.next_entry.ensures refs d h) in
    (seen-none c.args.x.now d.entries none, λ to. none-clear c.args.x.now to d.entries none)

pub position_of-requires : goal.position_of-requires
position_of-requires g c = let w = subst (IsNextEntry c.args.region.now c.args.x.now c.requires.1.entries) c.in-Some.is (c.next_entry.ensures c.requires.0 c.requires.1 c.requires.2) in (omega arith, (w.0, w.1))

pub marks-requires : goal.marks-requires
marks-requires g c = let w = subst (IsNextEntry c.args.region.now c.args.x.now c.requires.1.entries) c.in-Some.is (c.next_entry.ensures c.requires.0 c.requires.1 c.requires.2) in (omega arith, (w.0, w.1))

pub returns : goal.returns
returns g c = λ refs d h.
    let w = subst (IsNextEntry c.args.region.now c.args.x.now d.entries) c.in-Some.is (c.next_entry.ensures refs d h) in (
      seen-first c.args.x.now d.entries w.0 w.2 ∙ ap (λ mark. finding_of mark None) (sym (c.marks.ensures w.0 w.1).1),
      subst (λ y. IsNextAt c.args.x.now d.entries (Some y)) (sym (c.in_ok-to.ensures w.0 w.1)) (next-first c.args.x.now d.entries w.0 w.2),
    )
