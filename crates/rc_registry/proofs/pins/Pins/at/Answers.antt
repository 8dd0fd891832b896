use Rattle.std.proofs.Common.{◌<◌, ◌≤◌, length, ap, ◌∙◌, arith}
use Rattle.rc_core.specs.Steps.{pin_at}
use Rattle.rc_registry.proofs.PinLists.{pin_at-read, pin_at-behind}
use Rattle.rc_registry.proofs.pins.Pins.at.Goals as goal

pub returns-then-number-len : goal.returns-then-number-len
returns-then-number-len c =
    let lt : c.args.pin < length c.self.inside.versions.items = omega (arith, c.if-number-len.true, c.len.ensures, c.self.inside.versions.ok.0) in
    pin_at-read c.self.inside.versions.items c.args.pin c.index.result.now lt c.index.ensures ∙ ap (λ ps. pin_at ps c.args.pin) c.self.view_is

pub returns-else-number-len : goal.returns-else-number-len
returns-else-number-len c =
    let le : length c.self.inside.versions.items ≤ c.args.pin = omega (arith, c.if-number-len.false, c.len.ensures, c.self.inside.versions.ok.0) in
    pin_at-behind c.self.inside.versions.items c.args.pin le ∙ ap (λ ps. pin_at ps c.args.pin) c.self.view_is
