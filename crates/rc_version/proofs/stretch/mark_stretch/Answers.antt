use Rattle.std.proofs.Common.{◌∷◌, ◌++◌, arith, sym, ◌∙◌}
use Rattle.std.specs.Prelude.{Contains}
use Rattle.rc_version.specs.Versions.{mark_after}
use Rattle.rc_version.specs.laws.Staying.{kept-then}
use Rattle.rc_version.proofs.Pairs.{next-there, pair-keeps, marking-ends, marking-few, marking-pair, marking-step, marking-at}
use Rattle.rc_version.proofs.stretch.mark_stretch.Goals as goal

pub next-requires : goal.next-requires
next-requires g c = let w = c.loop-steps.invariant.marking c.requires.0 c.requires.1 c.requires.2 c.requires.3 in
    (omega arith, (w.front, w.between ++ (c.args.last ∷ w.back), marking-at c.loop-steps.region c.args.v c.loop-steps.passed c.args.last (mark_after c.args.marking) c.requires.0 c.requires.1 c.requires.2 c.loop-steps.steps w))

pub mark_pair-requires : goal.mark_pair-requires
mark_pair-requires g c = (omega arith, marking-pair c.loop-steps.region c.args.v c.loop-steps.passed c.args.last c.in-Some.next (mark_after c.args.marking) c.requires.0 c.requires.1 c.requires.2 c.loop-steps.steps (c.loop-steps.invariant.marking c.requires.0 c.requires.1 c.requires.2 c.requires.3) (sym (c.next.ensures (c.loop-steps.invariant.marking c.requires.0 c.requires.1 c.requires.2 c.requires.3).front ((c.loop-steps.invariant.marking c.requires.0 c.requires.1 c.requires.2 c.requires.3).between ++ (c.args.last ∷ (c.loop-steps.invariant.marking c.requires.0 c.requires.1 c.requires.2 c.requires.3).back)) (marking-at c.loop-steps.region c.args.v c.loop-steps.passed c.args.last (mark_after c.args.marking) c.requires.0 c.requires.1 c.requires.2 c.loop-steps.steps (c.loop-steps.invariant.marking c.requires.0 c.requires.1 c.requires.2 c.requires.3))) ∙ c.in-Some.is))

pub returns-in-None-clause-marked : goal.returns-in-None-clause-marked
returns-in-None-clause-marked g c = λ all d target h. absurd (next-there (c.loop-steps.invariant.marking all d target h).between c.args.last (c.loop-steps.invariant.marking all d target h).back (sym (c.next.ensures (c.loop-steps.invariant.marking all d target h).front ((c.loop-steps.invariant.marking all d target h).between ++ (c.args.last ∷ (c.loop-steps.invariant.marking all d target h).back)) (marking-at c.loop-steps.region c.args.v c.loop-steps.passed c.args.last (mark_after c.args.marking) all d target c.loop-steps.steps (c.loop-steps.invariant.marking all d target h))) ∙ c.in-None.is))

pub returns-then-is_same-clause-marked : goal.returns-then-is_same-clause-marked
returns-then-is_same-clause-marked g c = λ all d target h. (marking-step c.loop-steps.region c.mark_pair.new.region c.args.v c.loop-steps.passed c.args.last c.in-Some.next (mark_after c.args.marking) all d target c.loop-steps.steps (c.loop-steps.invariant.marking all d target h) (sym (c.next.ensures (c.loop-steps.invariant.marking all d target h).front ((c.loop-steps.invariant.marking all d target h).between ++ (c.args.last ∷ (c.loop-steps.invariant.marking all d target h).back)) (marking-at c.loop-steps.region c.args.v c.loop-steps.passed c.args.last (mark_after c.args.marking) all d target c.loop-steps.steps (c.loop-steps.invariant.marking all d target h))) ∙ c.in-Some.is) c.mark_pair.ensures.marked).0 (c.is_same.ensures.0 c.if-is_same.true)

pub returns-then-is_same-clause-kept : goal.returns-then-is_same-clause-kept
returns-then-is_same-clause-kept g c = λ all d target h. kept-then (Contains all) c.args.v c.args.region.now c.loop-steps.region c.mark_pair.new.region (c.loop-steps.invariant.kept all d target h)
    (pair-keeps c.loop-steps.region c.mark_pair.new.region c.args.v c.loop-steps.passed c.args.last c.in-Some.next (mark_after c.args.marking) all d target c.loop-steps.steps (c.loop-steps.invariant.marking all d target h) (sym (c.next.ensures (c.loop-steps.invariant.marking all d target h).front ((c.loop-steps.invariant.marking all d target h).between ++ (c.args.last ∷ (c.loop-steps.invariant.marking all d target h).back)) (marking-at c.loop-steps.region c.args.v c.loop-steps.passed c.args.last (mark_after c.args.marking) all d target c.loop-steps.steps (c.loop-steps.invariant.marking all d target h))) ∙ c.in-Some.is) c.mark_pair.ensures.kept)

pub returns-then-is_same-clause-links : goal.returns-then-is_same-clause-links
returns-then-is_same-clause-links g c = λ e. c.mark_pair.ensures.links e ∙ c.loop-steps.invariant.links e

pub loop-steps-preserved : goal.loop-steps-preserved
loop-steps-preserved g c = record {
  marking = λ all d target h. (marking-step c.loop-steps.region c.mark_pair.new.region c.args.v c.loop-steps.passed c.args.last c.in-Some.next (mark_after c.args.marking) all d target c.loop-steps.steps (c.loop-steps.invariant.marking all d target h) (sym (c.next.ensures (c.loop-steps.invariant.marking all d target h).front ((c.loop-steps.invariant.marking all d target h).between ++ (c.args.last ∷ (c.loop-steps.invariant.marking all d target h).back)) (marking-at c.loop-steps.region c.args.v c.loop-steps.passed c.args.last (mark_after c.args.marking) all d target c.loop-steps.steps (c.loop-steps.invariant.marking all d target h))) ∙ c.in-Some.is) c.mark_pair.ensures.marked).1 (λ e. let both = sym c.if-is_same.false ∙ c.is_same.ensures.1 e in cc);
  kept = λ all d target h. kept-then (Contains all) c.args.v c.args.region.now c.loop-steps.region c.mark_pair.new.region (c.loop-steps.invariant.kept all d target h)
      (pair-keeps c.loop-steps.region c.mark_pair.new.region c.args.v c.loop-steps.passed c.args.last c.in-Some.next (mark_after c.args.marking) all d target c.loop-steps.steps (c.loop-steps.invariant.marking all d target h) (sym (c.next.ensures (c.loop-steps.invariant.marking all d target h).front ((c.loop-steps.invariant.marking all d target h).between ++ (c.args.last ∷ (c.loop-steps.invariant.marking all d target h).back)) (marking-at c.loop-steps.region c.args.v c.loop-steps.passed c.args.last (mark_after c.args.marking) all d target c.loop-steps.steps (c.loop-steps.invariant.marking all d target h))) ∙ c.in-Some.is) c.mark_pair.ensures.kept);
  usages = c.mark_pair.ensures.usages ∙ c.loop-steps.invariant.usages;
  links = λ e. c.mark_pair.ensures.links e ∙ c.loop-steps.invariant.links e;
  well = c.mark_pair.ensures.well;
}

pub returns-clause-marked : goal.returns-clause-marked
returns-clause-marked g c = λ all d target h.
    let far = marking-ends c.loop-steps.region c.args.v c.loop-steps.passed c.args.last (mark_after c.args.marking) all d target c.loop-steps.steps (c.loop-steps.invariant.marking all d target h) in
    let few = marking-few c.args.region.now c.args.v c.args.first c.args.last (mark_after c.args.marking) all d target 0 c.known.ensures.well c.known.ensures.summed h in absurd (omega (arith, far, few, c.loop-steps-test.false, c.objects-steps-end.ensures))
