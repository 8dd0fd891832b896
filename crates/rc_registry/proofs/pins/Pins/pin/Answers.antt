use Rattle.std.proofs.Common.{◌≡◌, ◌<◌, ◌≤◌, Some, ap, ◌∙◌, arith, length, sym}
use Rattle.std.proofs.Math.ListN.{set}
use Rattle.rc_core.specs.Steps.{free_number, pins_with}
use Rattle.rc_registry.proofs.PinLists.{pinned-behind, pinned-within}
use Rattle.rc_registry.proofs.pins.Pins.pin.Goals as goal

pub returns-then-number-len-clause-pinned : goal.returns-then-number-len-clause-pinned
returns-then-number-len-clause-pinned c =
    let ps = c.self.inside.versions.items in
    let e : c.free_number-number.result ≡ free_number ps = c.free_number-number.ensures ∙ ap free_number (sym c.self.view_is) in
    let lt : free_number ps < length ps = omega (arith, e, c.if-number-len.true, c.len.ensures, c.self.inside.versions.ok.0) in
    ap (λ n. set ps n (Some c.args.version)) e ∙ pinned-within c.args.version ps lt ∙ ap (pins_with c.args.version) c.self.view_is

pub returns-in_ok-push-clause-pinned : goal.returns-in_ok-push-clause-pinned
returns-in_ok-push-clause-pinned c =
    let ps = c.self.inside.versions.items in
    let e : c.free_number-number.result ≡ free_number ps = c.free_number-number.ensures ∙ ap free_number (sym c.self.view_is) in
    let le : length ps ≤ free_number ps = omega (arith, e, c.if-number-len.false, c.len.ensures, c.self.inside.versions.ok.0) in
    c.in_ok-push.ensures.items ∙ pinned-behind c.args.version ps le ∙ ap (pins_with c.args.version) c.self.view_is
