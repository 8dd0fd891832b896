use Rattle.std.proofs.Common.{refl, sym, ap, ◌∙◌, ◌∷◌}
use Rattle.std.specs.Option.{option_to_list}
use Rattle.rc_cell.specs.Orders.{tomb_cmp}
use Rattle.rc_cell.specs.Winner.{greatest, joined_row}
use Rattle.rc_core.proofs.Slowly.{joined_with}
use Rattle.rc_core.proofs.slow.with_row.Goals as goal

pub returns-in_ok-join-in-Some : goal.returns-in_ok-join-in-Some
returns-in_ok-join-in-Some c = (
  refl,
  λ i. (
    (joined_with c.args.seen.row c.in-Some.row c.join.new.self c.in_ok-join-in-Some.ensures.ok ∙ ap (λ o. joined_row (c.args.seen.row ∷ option_to_list o)) (sym c.in-Some.is)) i,
    greatest tomb_cmp (option_to_list c.args.seen.tomb),
  ),
)
