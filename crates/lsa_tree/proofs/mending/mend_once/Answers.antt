use Rattle.std.proofs.Common.{refl, sym, ◌∙◌, arith}
use Rattle.lsa_tree.proofs.Changed.{same-body, rebalanced-body}
use Rattle.lsa_tree.proofs.Mended.{steep-asks, steep-x, steep-p, once-level, once-heavy}
use Rattle.lsa_tree.proofs.mending.mend_once.Goals as goal

pub balance-leans-requires : goal.balance-leans-requires
balance-leans-requires g c = (omega arith, steep-x c.args.region.now c.known.ensures.well c.args.side c.args.at c.args.p c.args.x c.requires.steep)

pub turn-requires : goal.turn-requires
turn-requires g c = (omega arith, steep-asks c.args.region.now c.known.ensures.well c.args.side c.args.at c.args.p c.args.x c.requires.steep)

pub set_balance-requires : goal.set_balance-requires
set_balance-requires g c =
    let v = c.args.region.now in (
      omega arith,
      (same-body v c.turn.new.region c.turn.ensures.objects c.args.x (steep-x v c.known.ensures.well c.args.side c.args.at c.args.p c.args.x c.requires.steep), omega (arith, c.from.ensures, c.light.type_inv)),
    )

pub set_balance-requires-then-leans-eq0 : goal.set_balance-requires-then-leans-eq0
set_balance-requires-then-leans-eq0 g c =
    let v = c.args.region.now in (
      omega arith,
      (
        rebalanced-body c.turn.new.region c.set_balance.new.region c.args.x c.from.result c.set_balance.ensures.written c.args.p (same-body v c.turn.new.region c.turn.ensures.objects c.args.p (steep-p v c.known.ensures.well c.args.side c.args.at c.args.p c.args.x c.requires.steep)),
        omega (arith, c.from-then-leans-eq0.ensures, c.heavy.type_inv),
      ),
    )

pub returns-then-leans-eq0-clause-mended : goal.returns-then-leans-eq0-clause-mended
returns-then-leans-eq0-clause-mended g c = λ s.
    once-level c.args.region.now c.known.ensures.well c.args.side c.args.at c.args.p c.args.x s c.turn.new.region c.set_balance.new.region c.set_balance-then-leans-eq0.new.region c.turn.ensures.turned c.turn.ensures.objects
    c.from.result c.from-then-leans-eq0.result c.set_balance.ensures.written c.set_balance-then-leans-eq0.ensures.written (sym c.balance-leans.ensures ∙ c.if-leans-eq0.true) (c.from.ensures ∙ c.light.ensures) (c.from-then-leans-eq0.ensures ∙ c.heavy.ensures)

pub set_balance-requires-2 : goal.set_balance-requires-2
set_balance-requires-2 g c =
    let v = c.args.region.now in
    (omega arith, (same-body v c.turn.new.region c.turn.ensures.objects c.args.x (steep-x v c.known.ensures.well c.args.side c.args.at c.args.p c.args.x c.requires.steep), omega arith))

pub set_balance-requires-3 : goal.set_balance-requires-3
set_balance-requires-3 g c =
    let v = c.args.region.now in (
      omega arith,
      (
        rebalanced-body c.turn.new.region c.set_balance-2.new.region c.args.x 0 c.set_balance-2.ensures.written c.args.p (same-body v c.turn.new.region c.turn.ensures.objects c.args.p (steep-p v c.known.ensures.well c.args.side c.args.at c.args.p c.args.x c.requires.steep)),
        omega arith,
      ),
    )

pub returns-clause-mended : goal.returns-clause-mended
returns-clause-mended g c = λ s.
    once-heavy c.args.region.now c.known.ensures.well c.args.side c.args.at c.args.p c.args.x s c.turn.new.region c.set_balance-2.new.region c.set_balance-3.new.region c.turn.ensures.turned c.turn.ensures.objects
    0 0 c.set_balance-2.ensures.written c.set_balance-3.ensures.written (λ zero_x. c.if-leans-eq0.false (c.balance-leans.ensures ∙ zero_x)) c.requires.leans refl refl
