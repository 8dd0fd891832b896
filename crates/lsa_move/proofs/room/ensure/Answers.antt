use Rattle.std.proofs.Common.{sym, subst, ◌∙◌, ◌<◌, arith}
use Rattle.lsa_pool.specs.Room.{spare_of}
use Rattle.lsa_region.specs.Stock.{sparse_of}
use Rattle.lsa_region.specs.Region.{View}
use Rattle.lsa_move.specs.Room.{Tight}
use Rattle.lsa_move.proofs.Rounds.{IsMakingRoom, making-init, making-more, made-renamed, made-well, made-compacted, made-moved}
use Rattle.lsa_move.proofs.room.ensure.Goals as goal

pub returns-then-not-compact_one-clause-tight : goal.returns-then-not-compact_one-clause-tight
returns-then-not-compact_one-clause-tight g c = λ _. subst (λ (v : View). Tight g.row.S v.usages) (sym (c.compact_one.ensures.same c.if-not-compact_one.true)) (c.compact_one.ensures.tight c.if-not-compact_one.true)

pub returns-then-not-compact_one-clause-rounds : goal.returns-then-not-compact_one-clause-rounds
returns-then-not-compact_one-clause-rounds g c =
    let m = subst (λ v. IsMakingRoom g.row.S c.args.need c.args.region.now v) (sym (c.compact_one.ensures.same c.if-not-compact_one.true)) c.loop-region.invariant in
    (m.rounds, m.done, m.bounded)

pub returns-then-not-compact_one-clause-compacted : goal.returns-then-not-compact_one-clause-compacted
returns-then-not-compact_one-clause-compacted g c =
    made-compacted g.row.S c.args.need c.args.region.now c.compact_one.new.region
    (subst (λ v. IsMakingRoom g.row.S c.args.need c.args.region.now v) (sym (c.compact_one.ensures.same c.if-not-compact_one.true)) c.loop-region.invariant)

pub returns-then-not-compact_one-clause-renamed : goal.returns-then-not-compact_one-clause-renamed
returns-then-not-compact_one-clause-renamed g c =
    made-renamed g.row.S c.args.need c.args.region.now c.compact_one.new.region c.known.ensures.well c.known.ensures.layout
    (subst (λ v. IsMakingRoom g.row.S c.args.need c.args.region.now v) (sym (c.compact_one.ensures.same c.if-not-compact_one.true)) c.loop-region.invariant)

pub returns-then-not-compact_one-clause-well : goal.returns-then-not-compact_one-clause-well
returns-then-not-compact_one-clause-well g c =
    made-well g.row.S c.args.need c.args.region.now c.compact_one.new.region c.known.ensures.well
    (subst (λ v. IsMakingRoom g.row.S c.args.need c.args.region.now v) (sym (c.compact_one.ensures.same c.if-not-compact_one.true)) c.loop-region.invariant)

pub loop-region-init : goal.loop-region-init
loop-region-init g c = making-init g.row.S c.args.need c.args.region.now

pub loop-region-preserved : goal.loop-region-preserved
loop-region-preserved g c =
    making-more g.row.S c.args.need c.args.region.now c.loop-region.region c.compact_one.new.region c.requires.few c.known.ensures.even (omega (arith, c.loop-region-test.true, c.spare.ensures)) c.loop-region.invariant
    (sparse_of g.row.S c.loop-region.region.usages) (sym c.if-not-compact_one.false ∙ c.compact_one.ensures.tells) c.compact_one.ensures.compacted

pub returns-clause-rounds : goal.returns-clause-rounds
returns-clause-rounds g c = let m = c.loop-region.invariant in (m.rounds, m.done, m.bounded)

pub returns-clause-compacted : goal.returns-clause-compacted
returns-clause-compacted g c = made-compacted g.row.S c.args.need c.args.region.now c.loop-region.region c.loop-region.invariant

pub returns-clause-renamed : goal.returns-clause-renamed
returns-clause-renamed g c = made-renamed g.row.S c.args.need c.args.region.now c.loop-region.region c.known.ensures.well c.known.ensures.layout c.loop-region.invariant

pub returns-clause-well : goal.returns-clause-well
returns-clause-well g c = made-well g.row.S c.args.need c.args.region.now c.loop-region.region c.known.ensures.well c.loop-region.invariant

pub returns-then-not-compact_one-clause-moved : goal.returns-then-not-compact_one-clause-moved
returns-then-not-compact_one-clause-moved g c =
    made-moved g.row.S c.args.need c.args.region.now c.compact_one.new.region (omega (arith, c.moved.ensures, c.moved.type_inv))
    (subst (λ v. IsMakingRoom g.row.S c.args.need c.args.region.now v) (sym (c.compact_one.ensures.same c.if-not-compact_one.true)) c.loop-region.invariant)

pub returns-clause-moved : goal.returns-clause-moved
returns-clause-moved g c = made-moved g.row.S c.args.need c.args.region.now c.loop-region.region (omega (arith, c.moved.ensures, c.moved.type_inv)) c.loop-region.invariant

pub returns-then-not-compact_one-clause-ready : goal.returns-then-not-compact_one-clause-ready
returns-then-not-compact_one-clause-ready g c = λ e. cc

pub returns-then-not-compact_one-clause-full : goal.returns-then-not-compact_one-clause-full
returns-then-not-compact_one-clause-full g c = λ _.
    subst (λ (v : View). spare_of g.row.S v.usages < c.args.need) (sym (c.compact_one.ensures.same c.if-not-compact_one.true)) (omega (arith, c.loop-region-test.true, c.spare.ensures))

pub returns-then-not-compact_one-clause-idle : goal.returns-then-not-compact_one-clause-idle
returns-then-not-compact_one-clause-idle g c = (subst (λ v. IsMakingRoom g.row.S c.args.need c.args.region.now v) (sym (c.compact_one.ensures.same c.if-not-compact_one.true)) c.loop-region.invariant).idle

pub returns-clause-ready : goal.returns-clause-ready
returns-clause-ready g c = λ _. omega (arith, c.loop-region-test.false, c.spare.ensures)

pub returns-clause-full : goal.returns-clause-full
returns-clause-full g c = λ e. cc

pub returns-clause-tight : goal.returns-clause-tight
returns-clause-tight g c = λ e. cc

pub returns-clause-idle : goal.returns-clause-idle
returns-clause-idle g c = c.loop-region.invariant.idle
