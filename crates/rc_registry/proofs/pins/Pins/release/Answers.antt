use Rattle.std.proofs.Common.{ap, ◌∙◌, IsSome, arith, subst, sym}
use Rattle.rc_core.specs.Steps.{pin_at, pins_without}
use Rattle.rc_registry.proofs.PinLists.{pin_at-there, released-is}
use Rattle.rc_registry.proofs.pins.Pins.release.Goals as goal

pub index_mut-requires : goal.index_mut-requires
index_mut-requires c =
    let lt = pin_at-there c.self.inside.versions.items c.args.pin (subst (λ ps. IsSome (pin_at ps c.args.pin)) (sym c.self.view_is) c.requires) in
    omega (arith, lt, c.self.inside.versions.ok.0)

pub returns : goal.returns
returns c = released-is c.self.inside.versions.items c.args.pin ∙ ap (pins_without c.args.pin) c.self.view_is
