use Rattle.std.proofs.Common.{[], sym, ◌∙◌, subst}
use Rattle.rc_position.specs.declared.positions.Weight.TheVariants.{Before}
use Rattle.rc_position.specs.Position.{IsBefore}
use Rattle.rc_cache_tests.proofs.Written.{nothing-said, nothing-static, stands-named, whole-ahead}
use Rattle.rc_cache_tests.proofs.filler.fill_nothing.Goals as goal

pub hand_statics-statics-requires-clause-source : goal.hand_statics-statics-requires-clause-source
hand_statics-statics-requires-clause-source c = (
  [],
  stands-named c.args.chains.now c.args.snap.now.chain c.args.snap.now.pin c.of-filler.result.chain c.of-filler.result.pin [] c.of-filler.ensures.chain c.of-filler.ensures.pin c.requires,
  nothing-static ∙ sym c.empty-row.ensures,
)

pub hand_gap-gap-requires-clause-order : goal.hand_gap-gap-requires-clause-order
hand_gap-gap-requires-clause-order c = subst (λ x. IsBefore x c.bare-to.result) (sym c.bare-from.ensures) (subst (λ y. IsBefore (record { prefix = []; weight = Before }) y) (sym c.bare-to.ensures) whole-ahead)

pub hand_gap-gap-requires-clause-source : goal.hand_gap-gap-requires-clause-source
hand_gap-gap-requires-clause-source c = (
  [],
  c.hand_statics-statics.ensures.stands []
      (stands-named c.args.chains.now c.args.snap.now.chain c.args.snap.now.pin c.of-filler.result.chain c.of-filler.result.pin [] c.of-filler.ensures.chain c.of-filler.ensures.pin c.requires)
      (nothing-static ∙ sym c.empty-row.ensures),
  λ x on before. nothing-said x,
)
