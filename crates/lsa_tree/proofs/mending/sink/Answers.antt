use Rattle.std.proofs.Common.{◌≡◌, Some, IsSome, refl, sym, ◌∙◌, subst, arith}
use Rattle.lsa_region.specs.declared.end.End.TheVariants.{Obj}
use Rattle.lsa_region.specs.Region.{link_of, IsEnd}
use Rattle.lsa_shape.specs.Path.{entered_object}
use Rattle.lsa_tree.specs.calls.Placing.{IsMended}
use Rattle.lsa_tree.proofs.Steps.{stepped-top, owner-body, owner-door, sink-heavy, sink-level, sink-child, sink-steep, sink-mended, sink-lowered}
use Rattle.lsa_tree.proofs.mending.sink.Goals as goal

pub returns-in-None-clause-stepped : goal.returns-in-None-clause-stepped
returns-in-None-clause-stepped g c = λ p moved. stepped-top c.args.region.now c.known.ensures.well c.args.at p (sym c.owner.ensures ∙ c.in-None.is)

pub door-above-requires : goal.door-above-requires
door-above-requires g c =
    let v = c.args.region.now in let well = c.known.ensures.well in let at = c.args.at in let side = c.in-Some.side in let q = c.in-Some.p in let some = sym c.owner.ensures ∙ c.in-Some.is in
    let p = c.requires.0 in let moved = c.requires.1 in
    (omega arith, owner-door v well at p side q some)

pub balance-leans-requires : goal.balance-leans-requires
balance-leans-requires g c =
    let v = c.args.region.now in let well = c.known.ensures.well in let at = c.args.at in let side = c.in-Some.side in let q = c.in-Some.p in let some = sym c.owner.ensures ∙ c.in-Some.is in
    let p = c.requires.0 in let moved = c.requires.1 in
    (omega arith, owner-body v well at p side q some)

pub set_balance-requires : goal.set_balance-requires
set_balance-requires g c =
    let v = c.args.region.now in let well = c.known.ensures.well in let at = c.args.at in let side = c.in-Some.side in let q = c.in-Some.p in let some = sym c.owner.ensures ∙ c.in-Some.is in
    let p = c.requires.0 in let moved = c.requires.1 in
    (omega arith, (owner-body v well at p side q some, omega arith))

pub returns-then-leans-from-clause-stepped : goal.returns-then-leans-from-clause-stepped
returns-then-leans-from-clause-stepped g c = λ p moved.
    let v = c.args.region.now in let well = c.known.ensures.well in let at = c.args.at in let side = c.in-Some.side in let q = c.in-Some.p in let some = sym c.owner.ensures ∙ c.in-Some.is in
    let end = c.door-above.result in let door = c.door-above.ensures in
    sink-heavy v well at p side q some end door c.set_balance.new.region 0 c.set_balance.ensures.written moved (sym c.balance-leans.ensures ∙ c.if-leans-from.true ∙ c.from.ensures ∙ c.heavy.ensures) refl

pub set_balance-requires-then-leans-eq0 : goal.set_balance-requires-then-leans-eq0
set_balance-requires-then-leans-eq0 g c =
    let v = c.args.region.now in let well = c.known.ensures.well in let at = c.args.at in let side = c.in-Some.side in let q = c.in-Some.p in let some = sym c.owner.ensures ∙ c.in-Some.is in
    let p = c.requires.0 in let moved = c.requires.1 in
    (omega arith, (owner-body v well at p side q some, omega (arith, c.from-then-leans-eq0.ensures, c.light.type_inv)))

pub returns-then-leans-eq0-clause-stepped : goal.returns-then-leans-eq0-clause-stepped
returns-then-leans-eq0-clause-stepped g c = λ p moved.
    let v = c.args.region.now in let well = c.known.ensures.well in let at = c.args.at in let side = c.in-Some.side in let q = c.in-Some.p in let some = sym c.owner.ensures ∙ c.in-Some.is in
    let end = c.door-above.result in let door = c.door-above.ensures in
    sink-level v well at p side q some end door c.set_balance-then-leans-eq0.new.region c.from-then-leans-eq0.result c.set_balance-then-leans-eq0.ensures.written moved (sym c.balance-leans.ensures ∙ c.if-leans-eq0.true) (c.from-then-leans-eq0.ensures ∙ c.light.ensures)

pub child-x-requires : goal.child-x-requires
child-x-requires g c =
    let v = c.args.region.now in let well = c.known.ensures.well in let at = c.args.at in let side = c.in-Some.side in let q = c.in-Some.p in let some = sym c.owner.ensures ∙ c.in-Some.is in
    let p = c.requires.0 in let moved = c.requires.1 in
    let end = c.door-above.result in let door = c.door-above.ensures in
    (omega arith, subst (λ f. IsEnd v (Obj q f) × IsSome (entered_object 2 (link_of v (Obj q f)))) (sym c.far.ensures) (sink-child v well at p side q some end door moved (λ e. c.if-leans-eq0.false (c.balance-leans.ensures ∙ e)) (λ e. c.if-leans-from.false (c.balance-leans.ensures ∙ e ∙ sym (c.from.ensures ∙ c.heavy.ensures))) _ refl))

pub mend-requires : goal.mend-requires
mend-requires g c =
    let v = c.args.region.now in let well = c.known.ensures.well in let at = c.args.at in let side = c.in-Some.side in let q = c.in-Some.p in let some = sym c.owner.ensures ∙ c.in-Some.is in
    let p = c.requires.0 in let moved = c.requires.1 in
    let end = c.door-above.result in let door = c.door-above.ensures in
    let x = c.child-x.result in let child = subst (λ f. entered_object 2 (link_of v (Obj q f)) ≡ Some x) c.far.ensures c.child-x.ensures in
    (omega arith, sink-steep v well at p side q some end door moved (λ e. c.if-leans-eq0.false (c.balance-leans.ensures ∙ e)) (λ e. c.if-leans-from.false (c.balance-leans.ensures ∙ e ∙ sym (c.from.ensures ∙ c.heavy.ensures))) c.other.result c.other.ensures x child)

pub returns-then-mend-clause-stepped : goal.returns-then-mend-clause-stepped
returns-then-mend-clause-stepped g c = λ p moved.
    let v = c.args.region.now in let well = c.known.ensures.well in let at = c.args.at in let side = c.in-Some.side in let q = c.in-Some.p in let some = sym c.owner.ensures ∙ c.in-Some.is in
    let end = c.door-above.result in let door = c.door-above.ensures in
    let x = c.child-x.result in let child = subst (λ f. entered_object 2 (link_of v (Obj q f)) ≡ Some x) c.far.ensures c.child-x.ensures in
    let steep = sink-steep v well at p side q some end door moved (λ e. c.if-leans-eq0.false (c.balance-leans.ensures ∙ e)) (λ e. c.if-leans-from.false (c.balance-leans.ensures ∙ e ∙ sym (c.from.ensures ∙ c.heavy.ensures))) c.other.result c.other.ensures x child in
    sink-mended v well at p side q some end door moved (λ e. c.if-leans-eq0.false (c.balance-leans.ensures ∙ e)) (λ e. c.if-leans-from.false (c.balance-leans.ensures ∙ e ∙ sym (c.from.ensures ∙ c.heavy.ensures))) c.other.result c.other.ensures x child c.mend.new.region (subst (IsMended v c.mend.new.region c.other.result end q x steep) c.if-mend.true (c.mend.ensures.mended steep))

pub returns-else-mend-clause-stepped : goal.returns-else-mend-clause-stepped
returns-else-mend-clause-stepped g c = λ p moved.
    let v = c.args.region.now in let well = c.known.ensures.well in let at = c.args.at in let side = c.in-Some.side in let q = c.in-Some.p in let some = sym c.owner.ensures ∙ c.in-Some.is in
    let end = c.door-above.result in let door = c.door-above.ensures in
    let x = c.child-x.result in let child = subst (λ f. entered_object 2 (link_of v (Obj q f)) ≡ Some x) c.far.ensures c.child-x.ensures in
    let steep = sink-steep v well at p side q some end door moved (λ e. c.if-leans-eq0.false (c.balance-leans.ensures ∙ e)) (λ e. c.if-leans-from.false (c.balance-leans.ensures ∙ e ∙ sym (c.from.ensures ∙ c.heavy.ensures))) c.other.result c.other.ensures x child in
    sink-lowered v well at p side q some end door moved (λ e. c.if-leans-eq0.false (c.balance-leans.ensures ∙ e)) (λ e. c.if-leans-from.false (c.balance-leans.ensures ∙ e ∙ sym (c.from.ensures ∙ c.heavy.ensures))) c.other.result c.other.ensures x child c.mend.new.region (subst (IsMended v c.mend.new.region c.other.result end q x steep) c.if-mend.false (c.mend.ensures.mended steep))
