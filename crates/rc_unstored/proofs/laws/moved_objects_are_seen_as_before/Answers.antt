use Rattle.rc_unstored.proofs.Chains.{chain-same}
use Rattle.rc_unstored.proofs.Pins.{chains-same}
use Rattle.rc_unstored.proofs.laws.moved_objects_are_seen_as_before.Goals as goal

pub returns : goal.returns
returns c old new h = chains-same old new (chain-same old new h.chains)
