use Rattle.std.proofs.Common.{◌≡◌, ◌∙◌, Some, ap, sym, arith}
use Rattle.rc_registry.proofs.PinLists.{renumbered-newer, renumbered-older}
use Rattle.rc_registry.proofs.pins.renumbered.Goals as goal

pub returns-in-Some : goal.returns-in-Some
returns-in-Some c = rw c.in-Some.is (ap Some (renumbered-newer c.args.version c.in-Some.pinned c.if-pinned-version.true))

pub returns-in-Some-2 : goal.returns-in-Some-2
returns-in-Some-2 c =
    let e = sym c.in-Some.is ∙ c.in-Some-2.is in let same : c.in-Some.pinned ≡ c.in-Some-2.pinned = cc in
    rw c.in-Some-2.is (ap Some (renumbered-older c.args.version c.in-Some-2.pinned (omega (arith, same, c.if-pinned-version.false))))
