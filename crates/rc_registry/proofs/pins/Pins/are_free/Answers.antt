use Rattle.std.proofs.Common.{◌≡◌, ap, ◌∙◌, subst, sym, IsTrue, ◌↔◌}
use Rattle.std.specs.Prelude.{is_none}
use Rattle.std.specs.List.{list_all}
use Rattle.rc_registry.specs.Registry.{AreFree}
use Rattle.rc_registry.proofs.PinLists.{free-is}
use Rattle.rc_registry.proofs.pins.Pins.are_free.Goals as goal

pub returns : goal.returns
returns c =
    let e : c.hold_nothing.result ≡ list_all is_none c.args.self.now = c.hold_nothing.ensures ∙ ap (list_all is_none) (c.deref.ensures.value ∙ c.self.view_is) in
    subst (λ b. IsTrue b ↔ AreFree c.args.self.now) (sym e) (free-is c.args.self.now)
