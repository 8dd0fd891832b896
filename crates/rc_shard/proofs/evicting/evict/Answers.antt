-- One more went; or none is left.
use Rattle.std.proofs.Common.{[], ◌∷◌, sym, ap, ◌∙◌, subst, arith}
use Rattle.rc_lookup.specs.Unstored.{Unstored}
use Rattle.rc_shard.proofs.Evicted.{IsUnderway, all-went, none-left, nothing-moved, one-further}
use Rattle.rc_shard.specs.calls.Storing.{KeepsUnstored}
use Rattle.rc_shard.proofs.Standing.{kept-itself, kept-then}
use Rattle.rc_shard.proofs.evicting.evict.Goals as goal

pub loop-left-init : goal.loop-left-init
loop-left-init c = (λ schema. kept-itself schema c.args.unstored.now, ([], [], c.evictions_follow_one_another.ensures.none c.args.unstored.now.chains c.args.unstored.now.chains (nothing-moved c.args.unstored.now.chains), omega arith))

pub loop-left-preserved : goal.loop-left-preserved
loop-left-preserved c =
    let one = c.evict_one.ensures.one c.if-not-evict_one.false in
    let old = c.loop-left.unstored in
    let new = c.evict_one.new.self in (
      λ schema. kept-then schema c.args.unstored.now old new (c.loop-left.invariant.0 schema)
          (record {
            stands = λ writes later h. c.evict_one.ensures.stands schema writes later h;
            seen = c.evict_one.ensures.seen;
            room = c.evict_one.ensures.room;
            cache = c.what_calls_leave_of_the_cache.ensures.evicted (one.0 ∷ []) one.1 old.chains new.chains c.known.ensures.told c.evict_one.ensures.room.counts one.2;
          }),
      one-further c.evictions_follow_one_another.ensures.both c.args.count c.loop-left.left c.args.unstored.now.chains old.chains new.chains (omega arith) c.loop-left.invariant.1 one,
    )

pub returns-then-not-evict_one-clause-kept : goal.returns-then-not-evict_one-clause-kept
returns-then-not-evict_one-clause-kept c = λ schema. subst (KeepsUnstored schema c.args.unstored.now) (sym (c.evict_one.ensures.none c.if-not-evict_one.true).1) (c.loop-left.invariant.0 schema)

pub returns-then-not-evict_one-clause-evicted : goal.returns-then-not-evict_one-clause-evicted
returns-then-not-evict_one-clause-evicted c =
    let none = c.evict_one.ensures.none c.if-not-evict_one.true in
    none-left c.args.count c.loop-left.left c.args.unstored.now.chains c.evict_one.new.self.chains (ap (λ (u : Unstored 131072). u.chains.recency) none.1 ∙ none.0)
    (subst (λ (u : Unstored 131072). IsUnderway c.args.count c.loop-left.left c.args.unstored.now.chains u.chains) (sym none.1) c.loop-left.invariant.1)

pub returns-clause-evicted : goal.returns-clause-evicted
returns-clause-evicted c = all-went c.args.count c.loop-left.left c.args.unstored.now.chains c.loop-left.unstored.chains (omega arith) c.loop-left.invariant.1
