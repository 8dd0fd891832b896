use Rattle.std.proofs.Common.{◌∙◌, ap, map, arith}
use Rattle.std.specs.Prelude.{option_map}
use Rattle.rc_core.specs.Steps.{number_after_removal}
use Rattle.rc_registry.proofs.PinLists.{written-back}
use Rattle.rc_registry.proofs.pins.Pins.renumber.Goals as goal

pub returns : goal.returns
returns c =
    let ps = c.self.inside.versions in
    let made = c.renumber_each.ensures ∙ ap (map (option_map (number_after_removal c.args.version))) (c.deref_mut.ensures.value ∙ c.self.view_is) in
    written-back c.renumber_each.new.pins ps.items ps.len ps.ok.0 (omega (arith, c.renumber_each.auto.pins, c.deref_mut.ensures.len, ps.ok.0)) ∙ made
