use Rattle.rc_position.specs.laws.Bounds.{key_cmp-components}
use Rattle.rc_position.proofs.laws.keys_are_ordered_by_components.Goals as goal

pub returns : goal.returns
returns c = key_cmp-components
