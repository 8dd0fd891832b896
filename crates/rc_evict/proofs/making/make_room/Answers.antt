use Rattle.std.proofs.Common.{◌≡◌, ◌<◌, [], sym, subst}
use Rattle.lsa_move.specs.Room.{Tight}
use Rattle.lsa_pool.specs.Room.{spare_of}
use Rattle.rc_memory.specs.Memory.{Memory}
use Rattle.rc_evict.specs.Crowding.{IsNearlyFull}
use Rattle.rc_evict.proofs.Rounds.{IsRound, room-evicted, room-moved, room-short, room-start}
use Rattle.rc_evict.proofs.making.make_room.Goals as goal

pub loop-chains-init : goal.loop-chains-init
loop-chains-init g c = room-start g.row.S c.args.need c.args.chains.now

pub returns-then-not-evict_where_full-clause-made : goal.returns-then-not-evict_where_full-clause-made
returns-then-not-evict_where_full-clause-made g c =
    let n = c.ensure.ensures.renamed in
    let h = room-moved g.row.S c.args.need c.args.chains.now c.loop-chains.chains c.ensure.new.self c.loop-chains.invariant c.ensure.ensures.untouched n.0 n.1 c.ensure.ensures.moved c.ensure.ensures.idle in
    let same = (c.evict_where_full.ensures.none c.if-not-evict_where_full.true).1 in
    (subst (IsRound g.row.S c.args.need c.args.chains.now) (sym same) h).room

pub returns-then-not-evict_where_full-clause-evicted : goal.returns-then-not-evict_where_full-clause-evicted
returns-then-not-evict_where_full-clause-evicted g c = let m = returns-then-not-evict_where_full-clause-made g c in (m.went, m.gone, m.evicted, m.crowded)

pub loop-chains-preserved : goal.loop-chains-preserved
loop-chains-preserved g c =
    let n = c.ensure.ensures.renamed in
    let h = room-moved g.row.S c.args.need c.args.chains.now c.loop-chains.chains c.ensure.new.self c.loop-chains.invariant c.ensure.ensures.untouched n.0 n.1 c.ensure.ensures.moved c.ensure.ensures.idle in
    let e = c.evict_where_full.ensures.one c.if-not-evict_where_full.false in
    room-evicted g.row.S c.args.need c.args.chains.now c.ensure.new.self c.evict_where_full.new.chains h e.0 e.1 e.2 c.evict_where_full.ensures.crowded
    (record {
      budget = c.evict_where_full.ensures.budget;
      live = c.evict_where_full.ensures.less;
      moved = c.evict_where_full.ensures.moved;
      counted = c.evict_where_full.ensures.counted;
      versions = c.evict_where_full.ensures.versions;
      shrunk = c.evict_where_full.ensures.shrunk;
    })
    (room-short g.row.S c.args.need c.args.chains.now c.loop-chains.chains c.ensure.new.self c.loop-chains.invariant c.ensure.ensures.untouched n.0 n.1 c.ensure.ensures.moved c.ensure.ensures.idle (c.ensure.ensures.full c.in-Full.is))

pub returns-then-not-evict_where_full-clause-none : goal.returns-then-not-evict_where_full-clause-none
returns-then-not-evict_where_full-clause-none g c = λ _.
    let none = c.evict_where_full.ensures.none c.if-not-evict_where_full.true in
    let old = c.ensure.new.self in
    let full = c.ensure.ensures.full c.in-Full.is in
    let tight = c.ensure.ensures.tight c.in-Full.is in
    subst (λ (m : Memory). (m.recency ≡ []) × Tight g.row.S m.region.usages × (spare_of g.row.S m.region.usages < c.args.need) × IsNearlyFull g.row.S m) (sym none.1) (none.0, tight, full, c.evict_where_full.ensures.nearly)

pub returns-clause-made : goal.returns-clause-made
returns-clause-made g c =
    let n = c.ensure.ensures.renamed in
    (room-moved g.row.S c.args.need c.args.chains.now c.loop-chains.chains c.ensure.new.self c.loop-chains.invariant c.ensure.ensures.untouched n.0 n.1 c.ensure.ensures.moved c.ensure.ensures.idle).room

pub returns-clause-evicted : goal.returns-clause-evicted
returns-clause-evicted g c = let m = returns-clause-made g c in (m.went, m.gone, m.evicted, m.crowded)
