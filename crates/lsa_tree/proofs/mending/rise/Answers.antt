use Rattle.std.proofs.Common.{refl, sym, ◌∙◌, subst, arith}
use Rattle.lsa_tree.specs.calls.Placing.{IsMended}
use Rattle.lsa_tree.proofs.Steps.{stepped-top, owner-body, owner-door, rise-level, rise-light, rise-child, rise-steep, rise-mended, rise-raised}
use Rattle.lsa_tree.proofs.mending.rise.Goals as goal

pub returns-in-None-clause-stepped : goal.returns-in-None-clause-stepped
returns-in-None-clause-stepped g c = λ p moved. stepped-top c.args.region.now c.known.ensures.well c.args.at p (sym c.owner.ensures ∙ c.in-None.is)

pub door-above-requires : goal.door-above-requires
door-above-requires g c =
    let v = c.args.region.now in let well = c.known.ensures.well in let at = c.args.at in let side = c.in-Some.side in let q = c.in-Some.p in let some = sym c.owner.ensures ∙ c.in-Some.is in
    let p = c.requires.0 in let moved = c.requires.1 in
    (omega arith, owner-door v well at p side q some)

pub balance-leans-requires : goal.balance-leans-requires
balance-leans-requires g c =
    let v = c.args.region.now in let well = c.known.ensures.well in let at = c.args.at in let side = c.in-Some.side in let q = c.in-Some.p in let some = sym c.owner.ensures ∙ c.in-Some.is in
    let p = c.requires.0 in let moved = c.requires.1 in
    (omega arith, owner-body v well at p side q some)

pub set_balance-requires : goal.set_balance-requires
set_balance-requires g c =
    let v = c.args.region.now in let well = c.known.ensures.well in let at = c.args.at in let side = c.in-Some.side in let q = c.in-Some.p in let some = sym c.owner.ensures ∙ c.in-Some.is in
    let p = c.requires.0 in let moved = c.requires.1 in
    (omega arith, (owner-body v well at p side q some, omega (arith, c.from.ensures, c.heavy.type_inv)))

pub returns-then-leans-eq0-clause-stepped : goal.returns-then-leans-eq0-clause-stepped
returns-then-leans-eq0-clause-stepped g c = λ p moved.
    let v = c.args.region.now in let well = c.known.ensures.well in let at = c.args.at in let side = c.in-Some.side in let q = c.in-Some.p in let some = sym c.owner.ensures ∙ c.in-Some.is in
    let end = c.door-above.result in let door = c.door-above.ensures in
    rise-level v well at p side q some end door c.set_balance.new.region c.from.result c.set_balance.ensures.written moved (sym c.balance-leans.ensures ∙ c.if-leans-eq0.true) (c.from.ensures ∙ c.heavy.ensures)

pub set_balance-requires-then-leans-from : goal.set_balance-requires-then-leans-from
set_balance-requires-then-leans-from g c =
    let v = c.args.region.now in let well = c.known.ensures.well in let at = c.args.at in let side = c.in-Some.side in let q = c.in-Some.p in let some = sym c.owner.ensures ∙ c.in-Some.is in
    let p = c.requires.0 in let moved = c.requires.1 in
    (omega arith, (owner-body v well at p side q some, omega arith))

pub returns-then-leans-from-clause-stepped : goal.returns-then-leans-from-clause-stepped
returns-then-leans-from-clause-stepped g c = λ p moved.
    let v = c.args.region.now in let well = c.known.ensures.well in let at = c.args.at in let side = c.in-Some.side in let q = c.in-Some.p in let some = sym c.owner.ensures ∙ c.in-Some.is in
    let end = c.door-above.result in let door = c.door-above.ensures in
    rise-light v well at p side q some end door c.set_balance-then-leans-from.new.region 0 c.set_balance-then-leans-from.ensures.written moved (sym c.balance-leans.ensures ∙ c.if-leans-from.true ∙ c.from-in-Some.ensures ∙ c.light.ensures) (λ e. c.if-leans-eq0.false (c.balance-leans.ensures ∙ e)) refl

pub child-x-requires : goal.child-x-requires
child-x-requires g c =
    let v = c.args.region.now in let well = c.known.ensures.well in let at = c.args.at in let side = c.in-Some.side in let q = c.in-Some.p in let some = sym c.owner.ensures ∙ c.in-Some.is in
    let p = c.requires.0 in let moved = c.requires.1 in
    let end = c.door-above.result in let door = c.door-above.ensures in
    (omega arith, rise-child v well at p side q some end door moved (λ e. c.if-leans-eq0.false (c.balance-leans.ensures ∙ e)) (λ e. c.if-leans-from.false (c.balance-leans.ensures ∙ e ∙ sym (c.from-in-Some.ensures ∙ c.light.ensures))))

pub mend-requires : goal.mend-requires
mend-requires g c =
    let v = c.args.region.now in let well = c.known.ensures.well in let at = c.args.at in let side = c.in-Some.side in let q = c.in-Some.p in let some = sym c.owner.ensures ∙ c.in-Some.is in
    let p = c.requires.0 in let moved = c.requires.1 in
    let end = c.door-above.result in let door = c.door-above.ensures in
    (omega arith, rise-steep v well at p side q some end door moved (λ e. c.if-leans-eq0.false (c.balance-leans.ensures ∙ e)) (λ e. c.if-leans-from.false (c.balance-leans.ensures ∙ e ∙ sym (c.from-in-Some.ensures ∙ c.light.ensures))) c.child-x.result c.child-x.ensures)

pub returns-then-mend-clause-stepped : goal.returns-then-mend-clause-stepped
returns-then-mend-clause-stepped g c = λ p moved.
    let v = c.args.region.now in let well = c.known.ensures.well in let at = c.args.at in let side = c.in-Some.side in let q = c.in-Some.p in let some = sym c.owner.ensures ∙ c.in-Some.is in
    let end = c.door-above.result in let door = c.door-above.ensures in
    let steep = rise-steep v well at p side q some end door moved (λ e. c.if-leans-eq0.false (c.balance-leans.ensures ∙ e)) (λ e. c.if-leans-from.false (c.balance-leans.ensures ∙ e ∙ sym (c.from-in-Some.ensures ∙ c.light.ensures))) c.child-x.result c.child-x.ensures in
    rise-raised v well at p side q some end door moved (λ e. c.if-leans-eq0.false (c.balance-leans.ensures ∙ e)) (λ e. c.if-leans-from.false (c.balance-leans.ensures ∙ e ∙ sym (c.from-in-Some.ensures ∙ c.light.ensures))) c.child-x.result c.child-x.ensures c.mend.new.region (subst (IsMended v c.mend.new.region side end q c.child-x.result steep) c.if-mend.true (c.mend.ensures.mended steep))

pub returns-else-mend-clause-stepped : goal.returns-else-mend-clause-stepped
returns-else-mend-clause-stepped g c = λ p moved.
    let v = c.args.region.now in let well = c.known.ensures.well in let at = c.args.at in let side = c.in-Some.side in let q = c.in-Some.p in let some = sym c.owner.ensures ∙ c.in-Some.is in
    let end = c.door-above.result in let door = c.door-above.ensures in
    let steep = rise-steep v well at p side q some end door moved (λ e. c.if-leans-eq0.false (c.balance-leans.ensures ∙ e)) (λ e. c.if-leans-from.false (c.balance-leans.ensures ∙ e ∙ sym (c.from-in-Some.ensures ∙ c.light.ensures))) c.child-x.result c.child-x.ensures in
    rise-mended v well at p side q some end door moved (λ e. c.if-leans-eq0.false (c.balance-leans.ensures ∙ e)) (λ e. c.if-leans-from.false (c.balance-leans.ensures ∙ e ∙ sym (c.from-in-Some.ensures ∙ c.light.ensures))) c.child-x.result c.child-x.ensures c.mend.new.region (subst (IsMended v c.mend.new.region side end q c.child-x.result steep) c.if-mend.false (c.mend.ensures.mended steep))
