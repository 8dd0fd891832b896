use Rattle.std.proofs.Common.{map}
use Rattle.rc_core.specs.Chain.{states_at}
use Rattle.rc_core.specs.Slow.{plain, spot_at}
use Rattle.rc_core.proofs.Slowly.{is_flagged}
use Rattle.rc_core.proofs.slow.is_flagged_at.Goals as goal

pub returns : goal.returns
returns c = is_flagged c.args.kind (states_at (spot_at c.args.side c.args.x.now) (map plain c.args.versions.now)) c.in_ok-seen_at.field-0.flag c.is_known_in.result c.is_known_in.ensures c.in_ok-seen_at.ensures.flag
