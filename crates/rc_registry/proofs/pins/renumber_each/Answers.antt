use Rattle.std.proofs.Common.{◌∙◌, None}
use Rattle.std.specs.Prelude.{option_map}
use Rattle.rc_core.specs.Steps.{number_after_removal}
use Rattle.rc_registry.proofs.PinLists.{step-set, whole-set}
use Rattle.rc_registry.proofs.pins.renumber_each.Goals as goal

pub loop-pin-preserved : goal.loop-pin-preserved
loop-pin-preserved c =
    step-set (option_map (number_after_removal c.args.version)) c.args.pins.now c.loop-pin.pins c.loop-pin.pin-index None c.renumbered.result c.loop-pin-test.true c.loop-pin.invariant c.renumbered.ensures

pub returns : goal.returns
returns c = c.loop-pin.invariant ∙ whole-set (option_map (number_after_removal c.args.version)) c.args.pins.now c.loop-pin.pin-index c.loop-pin-test.false
