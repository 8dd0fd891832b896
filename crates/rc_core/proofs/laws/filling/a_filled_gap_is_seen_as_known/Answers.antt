use Rattle.std.specs.Prelude.{[]}
use Rattle.rc_core.specs.laws.Filling.{gap-known, gap-elsewhere}
use Rattle.rc_core.proofs.laws.filling.a_filled_gap_is_seen_as_known.Goals as goal

pub returns : goal.returns
returns c = record { inside = λ older v from to tomb i x h. gap-known [] older v i from to tomb x h; outside = λ older v from to tomb i s b h. gap-elsewhere [] older v i from to tomb s b h }
