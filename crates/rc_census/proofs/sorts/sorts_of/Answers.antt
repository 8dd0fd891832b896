use Rattle.std.proofs.Common.{List, refl, subst, arith}
use Rattle.lsa_store.specs.declared.place.Ref.{Ref}
use Rattle.lsa_tree.specs.Tree.{IsTree}
use Rattle.rc_version.specs.Versions.{tree_of}
use Rattle.rc_census.proofs.Walked.{IsWalked, entries-few, few-dummies, few-rows, next-there, walk-begun, walk-ended, walk-more, walk-passed}
use Rattle.rc_census.proofs.sorts.sorts_of.Goals as goal

pub loop-steps-init : goal.loop-steps-init
loop-steps-init g c = λ refs d is. walk-begun c.args.region.now refs d.entries c.first-next.result _ is.entries (c.first-next.ensures refs is.tree) refl refl

pub both-sorts-requires-clause-rows : goal.both-sorts-requires-clause-rows
both-sorts-requires-clause-rows g c =
    let view = c.args.region.now in let refs = c.requires.0 in let d = c.requires.1 in let is = c.requires.2 in
    let n = next-there view refs d.entries c.in-Some.e c.loop-steps.next c.loop-steps.sorts c.loop-steps.steps (c.loop-steps.invariant refs d is) c.in-Some.is in
    omega (
      arith,
      c.sort_of.ensures.rows n.entry n.here,
      few-rows view refs d.entries c.in-Some.e c.loop-steps.sorts c.loop-steps.steps n,
      (entries-few view c.args.v refs d c.known.ensures.well c.known.ensures.summed is).1,
      c.objects-steps-end.ensures,
      c.objects-steps-end.type_inv,
    )

pub both-sorts-requires-clause-dummies : goal.both-sorts-requires-clause-dummies
both-sorts-requires-clause-dummies g c =
    let view = c.args.region.now in let refs = c.requires.0 in let d = c.requires.1 in let is = c.requires.2 in
    let n = next-there view refs d.entries c.in-Some.e c.loop-steps.next c.loop-steps.sorts c.loop-steps.steps (c.loop-steps.invariant refs d is) c.in-Some.is in
    omega (
      arith,
      c.sort_of.ensures.dummies n.entry n.here,
      few-dummies view refs d.entries c.in-Some.e c.loop-steps.sorts c.loop-steps.steps n,
      (entries-few view c.args.v refs d c.known.ensures.well c.known.ensures.summed is).1,
      c.objects-steps-end.ensures,
      c.objects-steps-end.type_inv,
    )

pub loop-steps-preserved : goal.loop-steps-preserved
loop-steps-preserved g c = λ refs d is.
    let view = c.args.region.now in
    let n = next-there view refs d.entries c.in-Some.e c.loop-steps.next c.loop-steps.sorts c.loop-steps.steps (c.loop-steps.invariant refs d is) c.in-Some.is in
    walk-more view refs d.entries c.in-Some.e c.loop-steps.sorts c.both-sorts.result c.loop-steps.steps n c.next-next.result
    (c.next-next.ensures n.passed n.back (subst (λ (all : List Ref). IsTree (tree_of c.args.v) view all) n.split is.tree))
    (omega (arith, c.both-sorts.ensures.rows, c.sort_of.ensures.rows n.entry n.here))
    (omega (arith, c.both-sorts.ensures.dummies, c.sort_of.ensures.dummies n.entry n.here))

pub returns-in-None-clause-rows : goal.returns-in-None-clause-rows
returns-in-None-clause-rows g c = λ refs d is.
    (walk-ended c.args.region.now refs d.entries c.loop-steps.sorts c.loop-steps.steps (subst (λ o. IsWalked c.args.region.now refs d.entries o c.loop-steps.sorts c.loop-steps.steps) c.in-None.is (c.loop-steps.invariant refs d is))).0

pub returns-in-None-clause-dummies : goal.returns-in-None-clause-dummies
returns-in-None-clause-dummies g c = λ refs d is.
    (walk-ended c.args.region.now refs d.entries c.loop-steps.sorts c.loop-steps.steps (subst (λ o. IsWalked c.args.region.now refs d.entries o c.loop-steps.sorts c.loop-steps.steps) c.in-None.is (c.loop-steps.invariant refs d is))).1

pub returns-clause-rows : goal.returns-clause-rows
returns-clause-rows g c = λ refs d is.
    let few = (entries-few c.args.region.now c.args.v refs d c.known.ensures.well c.known.ensures.summed is).0 in
    (walk-passed c.args.region.now refs d.entries c.loop-steps.next c.loop-steps.sorts c.loop-steps.steps (omega (arith, few, c.objects-steps-end.ensures, c.loop-steps-test.false)) (c.loop-steps.invariant refs d is)).0

pub returns-clause-dummies : goal.returns-clause-dummies
returns-clause-dummies g c = λ refs d is.
    let few = (entries-few c.args.region.now c.args.v refs d c.known.ensures.well c.known.ensures.summed is).0 in
    (walk-passed c.args.region.now refs d.entries c.loop-steps.next c.loop-steps.sorts c.loop-steps.steps (omega (arith, few, c.objects-steps-end.ensures, c.loop-steps-test.false)) (c.loop-steps.invariant refs d is)).1
