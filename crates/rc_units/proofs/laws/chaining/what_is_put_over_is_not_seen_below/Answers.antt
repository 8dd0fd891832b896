use Rattle.std.proofs.Common.{ap}
use Rattle.rc_core.specs.laws.Standing.{Stand, stand-older}
use Rattle.rc_units.proofs.laws.chaining.what_is_put_over_is_not_seen_below.Goals as goal

pub returns : goal.returns
returns c versions over j l = ap (λ (s : Stand). s.1) (stand-older j versions over l)
