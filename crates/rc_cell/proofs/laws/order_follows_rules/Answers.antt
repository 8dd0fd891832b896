use Rattle.rc_cell.specs.laws.Beats.{beats-is_gt}
use Rattle.rc_cell.proofs.laws.order_follows_rules.Goals as goal

pub returns : goal.returns
returns c = beats-is_gt
