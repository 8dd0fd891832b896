use Rattle.rc_unstored.proofs.Together.{key-sees}
use Rattle.rc_unstored.proofs.laws.what_a_snapshot_of_a_key_sees.Goals as goal

pub returns : goal.returns
returns c = key-sees
