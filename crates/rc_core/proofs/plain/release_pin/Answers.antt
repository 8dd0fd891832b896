use Rattle.rc_core.proofs.Putting.{released_is}
use Rattle.rc_core.proofs.plain.release_pin.Goals as goal

pub returns : goal.returns
returns c = released_is c.args.pins.now.items c.args.number c.requires
