use Rattle.std.proofs.Common.{None, arith, refl, sym, ◌∙◌, subst}
use Rattle.rc_core.specs.Plain.{no_mark}
use Rattle.rc_reading.specs.calls.Reading.{IsFindingRead}
use Rattle.rc_reading.proofs.Findings.{found-end, found-next, next-held}
use Rattle.rc_reading.proofs.said.behind_entry.Goals as goal

pub before_entry-requires : goal.before_entry-requires
before_entry-requires g c = (omega arith, next-held c.args.region.now c.args.v c.args.e c.in-Some.next c.requires.0 c.requires.1 c.requires.2 c.requires.3 (sym (c.next.ensures c.requires.0 c.requires.1 c.requires.3.tree) ∙ c.in-Some.is))

pub returns-in-Some : goal.returns-in-Some
returns-in-Some g c = λ front back d x h stands.
    let w = found-next c.args.region.now c.args.v c.args.e c.in-Some.next front back d x h stands (sym (c.next.ensures front back h.tree) ∙ c.in-Some.is) in
    subst (IsFindingRead c.args.region.now c.before_entry.result) (sym w.2) (c.before_entry.ensures w.0 w.1)

pub returns-in-None : goal.returns-in-None
returns-in-None g c = λ front back d x h stands.
    subst (IsFindingRead c.args.region.now (no_mark, None)) (sym (found-end c.args.region.now c.args.v c.args.e front back d x h stands (sym (c.next.ensures front back h.tree) ∙ c.in-None.is))) (refl, refl)
