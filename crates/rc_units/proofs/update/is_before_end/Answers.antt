use Rattle.std.specs.Prelude.{◌≡◌, ◌==◌, length, not}
use Rattle.std.proofs.Common.{⊎_elim, ap, sym, ◌∙◌}
use Rattle.rc_position.specs.declared.positions.Weight.TheVariants.{Before, At, After}
use Rattle.rc_units.proofs.Writing.{before-end, after-end}
use Rattle.rc_units.proofs.update.is_before_end.Goals as goal

pub returns-in-Before : goal.returns-in-Before
returns-in-Before c = before-end c.args.x.now (λ h. ⊎_elim (λ e. let u : Before ≡ After = sym e ∙ h in cc) (λ e. let u : At ≡ After = sym e ∙ h in cc) c.in-Before.is)

pub returns-in-After : goal.returns-in-After
returns-in-After c = ap not (c.is_empty.ensures ∙ ap (λ xs. length xs == 0) c.as_slice.ensures) ∙ after-end c.args.x.now c.in-After.is
