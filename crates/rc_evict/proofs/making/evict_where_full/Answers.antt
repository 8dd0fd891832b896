use Rattle.std.proofs.Common.{sym, ◌∙◌}
use Rattle.rc_evict.specs.Evictions.{IsOneEvicted}
use Rattle.rc_evict.proofs.Rounds.{eviction-budget, eviction-crowds, eviction-moved, eviction-nearly, if-some}
use Rattle.rc_evict.proofs.Together.{one-evicted}
use Rattle.rc_evict.proofs.making.evict_where_full.Goals as goal

pub returns-clause-one : goal.returns-clause-one
returns-clause-one g c = λ done.
    let old = c.args.chains.now in let new = c.evict_one.new.chains in
    let e = if-some (λ sort. IsOneEvicted sort old new) c.evict_one.result (sym c.is_some.ensures ∙ done) c.evict_one.ensures.some in
    let went = one-evicted e.0 old new e.1 in (e.1.place, went.0, went.1)

pub returns-clause-nearly : goal.returns-clause-nearly
returns-clause-nearly g c = eviction-nearly g.row.S c.args.chains.now c.region.result.now c.region.ensures c.a_tight_region_is_nearly_full.ensures.live

pub returns-clause-crowded : goal.returns-clause-crowded
returns-clause-crowded g c =
    let old = c.args.chains.now in let new = c.evict_one.new.chains in
    eviction-crowds g.row.S old new (returns-clause-nearly g c) (eviction-budget c.evict_one.result old new c.evict_one.ensures.some c.evict_one.ensures.none) c.evict_one.ensures.live c.evict_one.ensures.shrunk

pub returns-clause-budget : goal.returns-clause-budget
returns-clause-budget g c = eviction-budget c.evict_one.result c.args.chains.now c.evict_one.new.chains c.evict_one.ensures.some c.evict_one.ensures.none

pub returns-clause-moved : goal.returns-clause-moved
returns-clause-moved g c = eviction-moved c.evict_one.result c.args.chains.now c.evict_one.new.chains c.evict_one.ensures.some c.evict_one.ensures.none
