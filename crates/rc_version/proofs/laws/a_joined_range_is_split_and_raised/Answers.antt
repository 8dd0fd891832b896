use Rattle.std.proofs.Common.{refl}
use Rattle.rc_version.proofs.laws.a_joined_range_is_split_and_raised.Goals as goal

pub returns : goal.returns
returns c = λ from to tomb d. refl
