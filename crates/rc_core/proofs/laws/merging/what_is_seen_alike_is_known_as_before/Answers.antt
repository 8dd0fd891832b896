use Rattle.rc_core.specs.laws.Merging.{alike-known, alike-seen}
use Rattle.rc_core.proofs.laws.merging.what_is_seen_alike_is_known_as_before.Goals as goal

pub returns : goal.returns
returns c = record { known = alike-known; content = alike-seen }
