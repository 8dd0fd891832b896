use Rattle.rc_rowcode.specs.laws.JoinedSizes.{joined_code_short}
use Rattle.rc_rowcode.proofs.laws.joined_code_is_no_longer.Goals as goal

pub returns : goal.returns
returns c = joined_code_short
