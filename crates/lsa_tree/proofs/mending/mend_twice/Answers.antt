use Rattle.std.proofs.Common.{◌≡◌, ℕ, Some, IsSome, sym, ◌∙◌, subst, arith}
use Rattle.lsa_region.specs.declared.end.End.TheVariants.{Obj}
use Rattle.lsa_region.specs.Region.{link_of, IsEnd}
use Rattle.lsa_shape.specs.Path.{entered_object}
use Rattle.lsa_shape.specs.declared.flank.Flank.{Flank}
use Rattle.lsa_tree.specs.calls.Placing.{IsRotated}
use Rattle.lsa_tree.proofs.Changed.{same-body, rebalanced-body}
use Rattle.lsa_tree.proofs.Mended.{steep-x, steep-p}
use Rattle.lsa_tree.proofs.Turned.{Asks}
use Rattle.lsa_tree.proofs.Twice.{twice-there, twice-z, twice-first, twice-second, twice-mended}
use Rattle.lsa_tree.proofs.mending.mend_twice.Goals as goal

pub child-z-requires : goal.child-z-requires
child-z-requires g c =
    let v = c.args.region.now in
    (omega arith, subst (λ f. IsEnd v (Obj c.args.x f) × IsSome (entered_object 2 (link_of v (Obj c.args.x f)))) (sym c.far.ensures) (twice-there v c.known.ensures.well c.args.side c.args.at c.args.p c.args.x c.requires.steep c.requires.leans))

pub balance-leans-requires : goal.balance-leans-requires
balance-leans-requires g c =
    let v = c.args.region.now in let z = c.child-z.result in let is = subst (λ f. entered_object 2 (link_of v (Obj c.args.x f)) ≡ Some z) c.far.ensures c.child-z.ensures in
    (omega arith, twice-z v c.known.ensures.well c.args.side c.args.at c.args.p c.args.x c.requires.steep c.requires.leans z is)

pub turn-requires : goal.turn-requires
turn-requires g c =
    let v = c.args.region.now in let z = c.child-z.result in let is = subst (λ f. entered_object 2 (link_of v (Obj c.args.x f)) ≡ Some z) c.far.ensures c.child-z.ensures in
    (omega arith, subst (λ (q : Flank × ℕ). Asks v q.0 (Obj c.args.p q.1) c.args.x z) (sym (λ i. (c.other.ensures i, c.near.ensures i))) (twice-first v c.known.ensures.well c.args.side c.args.at c.args.p c.args.x c.requires.steep c.requires.leans z is))

pub turn-requires-2 : goal.turn-requires-2
turn-requires-2 g c =
    let v = c.args.region.now in let t = c.turn.new.region in let z = c.child-z.result in let is = subst (λ f. entered_object 2 (link_of v (Obj c.args.x f)) ≡ Some z) c.far.ensures c.child-z.ensures in
    let turned = subst (λ (q : Flank × ℕ). IsRotated (link_of v) (link_of t) q.0 (Obj c.args.p q.1) c.args.x z) (λ i. (c.other.ensures i, c.near.ensures i)) c.turn.ensures.turned in
    (omega arith, twice-second v c.known.ensures.well c.args.side c.args.at c.args.p c.args.x c.requires.steep c.requires.leans z is t turned c.turn.ensures.objects c.turn.ensures.well)

pub set_balance-requires : goal.set_balance-requires
set_balance-requires g c =
    let v = c.args.region.now in let x = c.args.x in (
      omega arith,
      (same-body c.turn.new.region c.turn-2.new.region c.turn-2.ensures.objects x (same-body v c.turn.new.region c.turn.ensures.objects x (steep-x v c.known.ensures.well c.args.side c.args.at c.args.p x c.requires.steep)), c.given.ensures.small),
    )

pub set_balance-requires-2 : goal.set_balance-requires-2
set_balance-requires-2 g c =
    let v = c.args.region.now in let p = c.args.p in (
      omega arith,
      (
        rebalanced-body c.turn-2.new.region c.set_balance.new.region c.args.x c.given.result c.set_balance.ensures.written p
            (same-body c.turn.new.region c.turn-2.new.region c.turn-2.ensures.objects p (same-body v c.turn.new.region c.turn.ensures.objects p (steep-p v c.known.ensures.well c.args.side c.args.at p c.args.x c.requires.steep))),
        c.given-2.ensures.small,
      ),
    )

pub set_balance-requires-3 : goal.set_balance-requires-3
set_balance-requires-3 g c =
    let v = c.args.region.now in let z = c.child-z.result in let is = subst (λ f. entered_object 2 (link_of v (Obj c.args.x f)) ≡ Some z) c.far.ensures c.child-z.ensures in (
      omega arith,
      (
        rebalanced-body c.set_balance.new.region c.set_balance-2.new.region c.args.p c.given-2.result c.set_balance-2.ensures.written z (rebalanced-body c.turn-2.new.region c.set_balance.new.region c.args.x c.given.result c.set_balance.ensures.written z
            (same-body c.turn.new.region c.turn-2.new.region c.turn-2.ensures.objects z (same-body v c.turn.new.region c.turn.ensures.objects z (twice-z v c.known.ensures.well c.args.side c.args.at c.args.p c.args.x c.requires.steep c.requires.leans z is)))),
        omega arith,
      ),
    )

pub returns-clause-mended : goal.returns-clause-mended
returns-clause-mended g c = λ s.
    let v = c.args.region.now in let t = c.turn.new.region in let z = c.child-z.result in let is = subst (λ f. entered_object 2 (link_of v (Obj c.args.x f)) ≡ Some z) c.far.ensures c.child-z.ensures in
    let turned = subst (λ (q : Flank × ℕ). IsRotated (link_of v) (link_of t) q.0 (Obj c.args.p q.1) c.args.x z) (λ i. (c.other.ensures i, c.near.ensures i)) c.turn.ensures.turned in
    twice-mended v c.known.ensures.well c.args.side c.args.at c.args.p c.args.x s c.requires.leans z is t turned c.turn.ensures.objects c.turn.ensures.well c.turn-2.new.region c.turn-2.ensures.turned c.turn-2.ensures.objects
    c.set_balance.new.region c.set_balance-2.new.region c.set_balance-3.new.region c.given.result c.given-2.result c.set_balance.ensures.written c.set_balance-2.ensures.written c.set_balance-3.ensures.written
    (λ e. c.given.ensures.when (c.balance-leans.ensures ∙ e ∙ sym c.light.ensures) ∙ c.heavy.ensures) (λ ne. c.given.ensures.else_none (λ e. ne (sym c.balance-leans.ensures ∙ e ∙ c.light.ensures)))
    (λ e. c.given-2.ensures.when (c.balance-leans.ensures ∙ e ∙ sym c.heavy-2.ensures) ∙ c.light-2.ensures) (λ ne. c.given-2.ensures.else_none (λ e. ne (sym c.balance-leans.ensures ∙ e ∙ c.heavy-2.ensures)))
