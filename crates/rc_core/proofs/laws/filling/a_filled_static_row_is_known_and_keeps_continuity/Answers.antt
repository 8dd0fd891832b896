use Rattle.std.specs.Prelude.{[]}
use Rattle.rc_core.specs.laws.Filling.{statics-known, statics-continuous}
use Rattle.rc_core.proofs.laws.filling.a_filled_static_row_is_known_and_keeps_continuity.Goals as goal

pub returns : goal.returns
returns c = record { known = λ older v given. statics-known [] older v given; kept = statics-continuous }
