-- The place is behind the position.
use Rattle.std.proofs.Common.{sym, ap, ◌∙◌, subst}
use Rattle.std.specs.Ordering.{is_gt}
use Rattle.rc_position.specs.Position.{IsBefore}
use Rattle.rc_cacheread.specs.calls.Spots.{told_at}
use Rattle.rc_cacheread.proofs.Orders.{is-gt}
use Rattle.rc_cacheread.proofs.spots.Spot.go_to.Goals as goal

pub returns-then-is_gt : goal.returns-then-is_gt
returns-then-is_gt c = (
  subst (λ z. IsBefore c.args.to z) c.step_over.ensures.place (is-gt c.step_over.new.self.place c.args.to (ap is_gt (sym c.cmp.ensures) ∙ sym c.is_gt.ensures ∙ c.if-is_gt.true)),
  c.tell_again.ensures.place ∙ c.step_over.ensures.place,
  c.tell_again.ensures.row ∙ c.step_over.ensures.row,
  c.tell_again.ensures.told ∙ c.step_over.ensures.told,
  c.tell_again.ensures.again ∙ ap (λ t. told_at t c.args.to) c.step_over.ensures.told,
  c.tell_again.ensures.tomb ∙ c.step_over.ensures.tomb,
)
